use Rattle.std.proofs.Common.{◌≡◌, ◌++◌, [], List, ℕ, Err, ap, append-nil, sym}
use Rattle.std.proofs.lemmas.Result.{err_from_is_err_and}
use Rattle.room_base.specs.Refusals.{field_text, named_value}
use Rattle.room_base.proofs.Writing.{text_then, text_stopped, text_same}
use Rattle.room_base.proofs.refusal_text.write_fields.Goals as goal

-- two texts as the texts of a list of two
as_list : (one other : List ℕ) → one ++ other ≡ one ++ (other ++ [])
as_list one other = ap (λ (text : List ℕ). one ++ text) (sym (append-nil other))

pub returns-in_err-write_field-in-Two : goal.returns-in_err-write_field-in-Two
returns-in_err-write_field-in-Two g c =
    let p = err_from_is_err_and c.from_residual.result c.from_residual.ensures.1 in
    let first = field_text (named_value c.in-Two.first) in
    let second = field_text (named_value c.in-Two.second) in
    rw (p.1, c.in-Two.is) (text_same _ _ _ _ (Err p.0) (as_list first second)
    (text_stopped first second _ _ c.in_err-write_field-in-Two.field-0.0 p.0 c.in_err-write_field-in-Two.ensures))

pub returns-in_ok-write_field-in-Two : goal.returns-in_ok-write_field-in-Two
returns-in_ok-write_field-in-Two g c =
    let first = field_text (named_value c.in-Two.first) in
    let second = field_text (named_value c.in-Two.second) in
    rw c.in-Two.is (text_same _ _ _ _ _ (as_list first second)
    (text_then first second _ _ _ tt _ c.in_ok-write_field-in-Two.ensures c.write_field-in-Two-2.ensures))
