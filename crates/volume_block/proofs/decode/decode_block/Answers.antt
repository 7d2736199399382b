use Rattle.std.proofs.Common.{◌≡◌, ℕ, ◌<◌, ◌^◌, List, length, drop, Ok, ap, subst, arith, rules}
use Rattle.std.proofs.lemmas.List.{length-take}
use Rattle.volume_block.specs.Why.{kind_in, units_in, used_in, payload_in, IsPayload, SaysBlock}
use Rattle.volume_block.specs.declared.block.Block.{Block}
use Rattle.volume_block.specs.declared.block.Reason.TheVariants as reasons
use Rattle.volume_block.proofs.Blocks.{parts_of, right_part, says_here, same_block, valid_block}
use Rattle.volume_block.proofs.Forms.{units_of_data}
use Rattle.volume_block.proofs.decode.decode_block.Goals as goal

-- what a block says of the units and the payload that are read
read_says : (kind units told volid : ℕ) (payload text : List ℕ) (block : Block) → told ≡ units → text ≡ payload
    → SaysBlock kind told volid text block → SaysBlock kind units volid payload block
read_says kind units told volid payload text block same texts says =
    subst (λ (t : List ℕ). SaysBlock kind units volid t block) texts
    (subst (λ (u : ℕ). SaysBlock kind u volid text block) same says)

pub returns-in-Some-clause-only : goal.returns-in-Some-clause-only
returns-in-Some-clause-only c = λ block valid.
    absurd (c.in-Some.ensures.wrong (right_part c.in-Some.why c.args.bytes.now c.args.volid.0 c.args.number block (parts_of c.args.bytes.now c.args.volid.0 c.args.number block valid)))

pub payload_of-requires : goal.payload_of-requires
payload_of-requires c = (c.in_default.ensures reasons.Length (omega arith)).1.0

pub block_in-requires-clause-units : goal.block_in-requires-clause-units
block_in-requires-clause-units c = rw c.units_in.ensures ((c.in_default.ensures reasons.Form (omega arith)).0)

pub block_in-requires-clause-volume : goal.block_in-requires-clause-volume
block_in-requires-clause-volume c = (c.in_default.ensures reasons.Volid (omega arith)).1

pub block_in-requires-clause-fits : goal.block_in-requires-clause-fits
block_in-requires-clause-fits c = λ chunks.
    let bytes = c.args.bytes.now in
    let whole = c.in_default.ensures reasons.Length (omega arith) in
    omega (
      arith,
      ap length c.payload_of.ensures,
      length-take (used_in bytes) (drop 56 bytes),
      whole.1.0,
      units_of_data (kind_in bytes) (units_in bytes) (length bytes) whole.0 chunks,
      c.units_in.ensures,
    )

pub returns-in-Some-block_in-clause-decoded : goal.returns-in-Some-block_in-clause-decoded
returns-in-Some-block_in-clause-decoded c =
    let bytes = c.args.bytes.now in
    let volid-fits : c.args.volid.0 < 2 ^ 64 = search rules in
    let number-fits : c.args.number < 2 ^ 64 = search rules in
    let block = c.in-Some-block_in.block in
    valid_block bytes c.args.volid.0 c.args.number block (λ i. omega (arith, c.type_inv.bytes i)) volid-fits number-fits
    c.in_default.ensures
    (read_says (kind_in bytes) (units_in bytes) _ c.args.volid.0 (payload_in bytes) _ block c.units_in.ensures c.payload_of.ensures c.in-Some-block_in.ensures)

pub returns-in-Some-block_in-clause-only : goal.returns-in-Some-block_in-clause-only
returns-in-Some-block_in-clause-only c = λ block valid.
    let bytes = c.args.bytes.now in
    let volid = c.args.volid.0 in
    let found = c.in-Some-block_in.block in
    let one = read_says (kind_in bytes) (units_in bytes) _ volid (payload_in bytes) _ found c.units_in.ensures c.payload_of.ensures c.in-Some-block_in.ensures in
    let other = says_here bytes volid c.args.number block (parts_of bytes volid c.args.number block valid) in
    ap Ok (same_block (kind_in bytes) (units_in bytes) volid (payload_in bytes) found block one other)

no_payload : (kind units told volid : ℕ) (payload text : List ℕ) → told ≡ units → text ≡ payload
    → (¬ IsPayload kind told volid text) → ¬ IsPayload kind units volid payload
no_payload kind units told volid payload text same texts none =
    subst (λ (t : List ℕ). ¬ IsPayload kind units volid t) texts
    (subst (λ (u : ℕ). ¬ IsPayload kind u volid text) same none)

pub returns-in-None-clause-decoded : goal.returns-in-None-clause-decoded
returns-in-None-clause-decoded c =
    let bytes = c.args.bytes.now in
    record {
      wrong = no_payload (kind_in bytes) (units_in bytes) _ c.args.volid.0 (payload_in bytes) _ c.units_in.ensures c.payload_of.ensures c.in-None.ensures;
      first = c.in_default.ensures;
    }

pub returns-in-None-clause-only : goal.returns-in-None-clause-only
returns-in-None-clause-only c = λ block valid.
    let bytes = c.args.bytes.now in
    let right = right_part reasons.Payload bytes c.args.volid.0 c.args.number block (parts_of bytes c.args.volid.0 c.args.number block valid) in
    absurd (no_payload (kind_in bytes) (units_in bytes) _ c.args.volid.0 (payload_in bytes) _ c.units_in.ensures c.payload_of.ensures c.in-None.ensures right)
