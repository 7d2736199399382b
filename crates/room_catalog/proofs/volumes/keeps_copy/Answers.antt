use Rattle.std.proofs.Common.{◌≡◌, ◌∙◌, List, [], ◌∷◌, Bool, true, false, cond, not, refl, sym, ap}
use Rattle.std.specs.Prelude.{◌&&◌, ◌||◌, filter}
use Rattle.std.specs.List.{list_any}
use Rattle.std.proofs.lemmas.Bool.{true≢false}
use Rattle.media_db.specs.declared.copies.SetCopy.{SetCopy}
use Rattle.media_db.specs.Edits.{copies_off, has_done, is_complete, is_done, is_done_on}
use Rattle.room_catalog.proofs.volumes.keeps_copy.Goals as goal

-- one that passes among those that are kept is kept and passes
any_kept_by : {X : Type 0} (keep test : X → Bool) (x : X) (xs : List X) (kept : Bool) → keep x ≡ kept → list_any (λ y. keep y && test y) xs ≡ list_any test (filter keep xs)
    → (kept && test x) || list_any (λ y. keep y && test y) xs ≡ list_any test (cond kept (x ∷ filter keep xs) (filter keep xs))
any_kept_by keep test x xs true is more = ap (λ (rest : Bool). test x || rest) more
any_kept_by keep test x xs false is more = more

any_kept : {X : Type 0} (keep test : X → Bool) (xs : List X) → list_any (λ x. keep x && test x) xs ≡ list_any test (filter keep xs)
any_kept keep test [] = refl
any_kept keep test (x ∷ xs) = any_kept_by keep test x xs (keep x) refl (any_kept keep test xs)

or_by : (complete some : Bool) → true ≡ complete → some ≡ not complete || some
or_by true some is = refl
or_by false some is = absurd (true≢false is)

pub returns-else-not-is_complete : goal.returns-else-not-is_complete
returns-else-not-is_complete c =
    let row = c.args.row.now in
    let kept = any_kept (λ (copy : SetCopy). not (is_done_on c.args.gone.0 copy)) (λ (copy : SetCopy). is_done copy.state) row.copies in
    let any = rw c.as_slice.ensures at c.has_done_off.ensures in
    any ∙ kept ∙ or_by (is_complete row.state) (has_done (copies_off c.args.gone.0 row.copies)) (sym c.if-not-is_complete.false ∙ c.is_complete.ensures)
