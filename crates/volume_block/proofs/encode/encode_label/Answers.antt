use Rattle.std.proofs.Common.{◌≡◌, ◌-◌, ◌≤◌, ℕ, List, length, take, drop, refl, ap, ◌∙◌, arith, rules}
use Rattle.volume_block.specs.Layout.{block_text}
use Rattle.volume_block.specs.Valid.{label_payload}
use Rattle.volume_block.proofs.Whole.{written, length-put}
use Rattle.volume_block.proofs.encode.encode_label.Goals as goal
use borrow.Rule.Slice.PartMut.{put_mid}

pub returns-clause-text : goal.returns-clause-text
returns-clause-text c =
    let label = c.args.label.now in
    let old = c.args.into.now in
    let new = c.write_label_payload.new.payload in
    let pool : length (take label.pool_length label.pool) ≡ label.pool_length = search rules in
    let long : 56 ≤ length old = omega (arith, c.requires.whole) in
    let count : length new ≡ length old - 56 = search rules in
    let size : length (put_mid 56 (length old - 56) old new) ≡ 4096 = length-put 56 old new long count ∙ c.requires.whole in
    c.finish_block.ensures
    ∙ ap (λ (n : ℕ). block_text 76 label.units n label.volid.0 0 (take c.from.result (drop 56 (put_mid 56 (length old - 56) old new)))) size
    ∙ ap (λ (payload : List ℕ). block_text 76 label.units 4096 label.volid.0 0 payload)
    (written 56 c.from.result old new (label_payload label) _ long (omega (arith, pool, c.from.ensures)) c.write_label_payload.ensures)

pub returns-clause-valid : goal.returns-clause-valid
returns-clause-valid c = (c.requires.allowed, refl, refl, returns-clause-text c)
