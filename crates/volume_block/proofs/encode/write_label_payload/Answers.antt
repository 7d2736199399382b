use Rattle.std.proofs.Common.{◌≡◌, ◌+◌, ◌-◌, List, ℕ, ◌++◌, length, drop, take, refl, ap, ◌∙◌, rules}
use Rattle.volume_block.specs.Valid.{label_fields}
use Rattle.volume_block.proofs.Whole.{placed}
use Rattle.volume_block.proofs.encode.write_label_payload.Goals as goal
use borrow.Rule.Slice.PartMut.{put_mid}

pub returns : goal.returns
returns c =
    let label = c.args.label.now in
    let pool = take label.pool_length label.pool in
    let fields = label_fields label in
    let count : length pool ≡ label.pool_length = search rules in
    ap (λ (text : List ℕ). put_mid 17 (17 + length pool - 17) c.write_label_fields.new.payload text) c.copy_from_slice.ensures.after
    ∙ placed 17 (length pool) c.args.payload.now fields pool c.write_label_fields.new.payload refl refl c.write_label_fields.ensures
    ∙ ap (λ (n : ℕ). (fields ++ pool) ++ drop (17 + n) c.args.payload.now) count
