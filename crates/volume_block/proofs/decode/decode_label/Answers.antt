use Rattle.std.proofs.Common.{◌≡◌, ℕ, ◌<◌, ◌^◌, List, Ok, sym, ap, subst, ◌∙◌, arith, rules}
use Rattle.std.proofs.lemmas.List.{take_rest}
use Rattle.byteorder.specs.Endian.{big_number}
use Rattle.volume_block.specs.Why.{kind_in, units_in, volid_in, payload_in, IsLabelIn, Why}
use Rattle.volume_block.specs.declared.label.Label.{Label}
use Rattle.volume_block.specs.declared.block.Block.TheVariants as kinds
use Rattle.volume_block.specs.declared.block.Reason.TheVariants as reasons
use Rattle.volume_block.proofs.Blocks.{right_part, says_here, same_label, no_label, label_parts, valid_label}
use Rattle.volume_block.proofs.decode.decode_label.Goals as goal

-- a label in the units and the payload that are read
read_label_in : (units told volid : ℕ) (payload text : List ℕ) (label : Label) → told ≡ units → text ≡ payload
    → IsLabelIn told volid text label → IsLabelIn units volid payload label
read_label_in units told volid payload text label same texts is =
    subst (λ (t : List ℕ). IsLabelIn units volid t label) texts (subst (λ (u : ℕ). IsLabelIn u volid text label) same is)

no_label_in : (units told volid : ℕ) (payload text : List ℕ) → told ≡ units → text ≡ payload
    → ((label : Label) → ¬ IsLabelIn told volid text label) → (label : Label) → ¬ IsLabelIn units volid payload label
no_label_in units told volid payload text same texts none label is =
    none label (read_label_in told units volid text payload label (sym same) (sym texts) is)

-- the volid that is read
abbrev volid_read : (bytes : List ℕ) (volid : ℕ) → Type 0
volid_read bytes volid = volid ≡ volid_in bytes

pub returns-in-Some-clause-only : goal.returns-in-Some-clause-only
returns-in-Some-clause-only c = λ label valid.
    let bytes = c.args.bytes.now in
    let read : volid_read bytes c.read_u64.result = c.read_u64.ensures ∙ ap (big_number 8) (take_rest bytes 8) in
    absurd (c.in-Some.ensures.wrong (right_part c.in-Some.why bytes c.read_u64.result 0 (kinds.Label label) (label_parts bytes c.read_u64.result label read valid)))

pub payload_of-requires : goal.payload_of-requires
payload_of-requires c = (c.in_default.ensures reasons.Length (omega arith)).1.0

pub label_in-requires-clause-units : goal.label_in-requires-clause-units
label_in-requires-clause-units c = rw c.units_in.ensures ((c.in_default.ensures reasons.Form (omega arith)).0)

pub label_in-requires-clause-volume : goal.label_in-requires-clause-volume
label_in-requires-clause-volume c = (c.in_default.ensures reasons.Volid (omega arith)).1

pub returns-in-Some-label_in-clause-decoded : goal.returns-in-Some-label_in-clause-decoded
returns-in-Some-label_in-clause-decoded c =
    let bytes = c.args.bytes.now in
    let volid-fits : c.read_u64.result < 2 ^ 64 = search rules in
    let label = c.in-Some-label_in.label in
    valid_label bytes c.read_u64.result label (λ i. omega (arith, c.type_inv.bytes i)) volid-fits c.in_default.ensures
    (read_label_in (units_in bytes) _ c.read_u64.result (payload_in bytes) _ label c.units_in.ensures c.payload_of.ensures c.in-Some-label_in.ensures)

pub returns-in-Some-label_in-clause-only : goal.returns-in-Some-label_in-clause-only
returns-in-Some-label_in-clause-only c = λ label valid.
    let bytes = c.args.bytes.now in
    let read : volid_read bytes c.read_u64.result = c.read_u64.ensures ∙ ap (big_number 8) (take_rest bytes 8) in
    let found = c.in-Some-label_in.label in
    let one = read_label_in (units_in bytes) _ c.read_u64.result (payload_in bytes) _ found c.units_in.ensures c.payload_of.ensures c.in-Some-label_in.ensures in
    let other = says_here bytes c.read_u64.result 0 (kinds.Label label) (label_parts bytes c.read_u64.result label read valid) in
    ap Ok (same_label (units_in bytes) c.read_u64.result (payload_in bytes) found label one other.1)

pub returns-in-None-clause-decoded : goal.returns-in-None-clause-decoded
returns-in-None-clause-decoded c =
    let bytes = c.args.bytes.now in
    let read : volid_read bytes c.read_u64.result = c.read_u64.ensures ∙ ap (big_number 8) (take_rest bytes 8) in
    let none = no_label_in (units_in bytes) _ c.read_u64.result (payload_in bytes) _ c.units_in.ensures c.payload_of.ensures c.in-None.ensures in
    let At : ℕ → Type 0 = λ (v : ℕ). Why bytes v 0 reasons.Payload in
    subst At read (record {
      wrong = no_label (kind_in bytes) (units_in bytes) c.read_u64.result (payload_in bytes) (c.in_default.ensures reasons.Kind (omega arith)) none;
      first = c.in_default.ensures;
    })

pub returns-in-None-clause-only : goal.returns-in-None-clause-only
returns-in-None-clause-only c = λ label valid.
    let bytes = c.args.bytes.now in
    let read : volid_read bytes c.read_u64.result = c.read_u64.ensures ∙ ap (big_number 8) (take_rest bytes 8) in
    let says = says_here bytes c.read_u64.result 0 (kinds.Label label) (label_parts bytes c.read_u64.result label read valid) in
    absurd (no_label_in (units_in bytes) _ c.read_u64.result (payload_in bytes) _ c.units_in.ensures c.payload_of.ensures c.in-None.ensures label says.1)
