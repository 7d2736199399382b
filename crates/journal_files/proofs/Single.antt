-- Bytes are the snapshot of one catalogue, and the text of one change.
use Rattle.std.proofs.Common.{◌≡◌, ℕ, true, List, [], ◌++◌, sym, ap, ◌∙◌}
use Rattle.catalog_change.specs.declared.change.Change.{Change}
use Rattle.catalog_change.specs.Catalogues.{Catalogue}
use Rattle.catalog_spelling.specs.Changes.{Stamped}
use Rattle.catalog_spelling.specs.Decoding.{ChangeText}
use Rattle.catalog_spelling.specs.SpelledSnapshots.{IsText}
use Rattle.catalog_spelling.proofs.ChangeTexts.{one-change}
use Rattle.snapshot_laws.proofs.SnapshotLaws.{one-catalogue}

-- bytes are the snapshot of one catalogue
pub one_text : (bytes : List ℕ) (one other : Catalogue) → IsText true bytes one → IsText true bytes other → one ≡ other
one_text bytes one other text also = one-catalogue true bytes one other text also

-- bytes are the text of one change
pub one_change : (payload : List ℕ) (moment other : ℕ) (change changed : Change) → ChangeText payload moment change → ChangeText payload other changed → (moment ≡ other) × (change ≡ changed)
one_change payload moment other change changed text also =
    let same = one-change moment other change changed [] [] text.is also.is (ap (λ (t : List ℕ). t ++ []) (sym text.text ∙ also.text)) in
    (same.0, same.1)

abbrev stamp : ℕ → Change → Stamped
stamp moment change = record { moment = moment; change = change }

-- an entry tells one change at one moment
pub one_stamped : (payload : List ℕ) (one other : Stamped) → ChangeText payload one.moment one.change → ChangeText payload other.moment other.change → one ≡ other
one_stamped payload one other text also =
    let same = one_change payload one.moment other.moment one.change other.change text also in
    ap (λ (n : ℕ). stamp n one.change) same.0 ∙ ap (stamp other.moment) same.1
