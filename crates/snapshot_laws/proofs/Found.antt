-- What holds of what was read.
use Rattle.std.proofs.Common.{◌≡◌, ℕ, Bool, List, Ok, subst}
use Rattle.save_stream.specs.Spelling.{IsHead}
use Rattle.save_stream.specs.Standing.{AreBytes}
use Rattle.save_stream.specs.declared.head.SetHead.{SetHead}
use Rattle.catalog_spelling.specs.Reading.{Part}
use Rattle.catalog_spelling.specs.Spelled.{Took, Judged, Reads}
use Rattle.catalog_spelling.specs.SnapshotHeads.{head_if_at}
use Rattle.snapshot_laws.proofs.HeadLaws.{head_if-reads}

pub taken : {X : Type 0} (at : List ℕ → Part X) (text : X → List ℕ) (Is : X → Type 0) (reads : Reads at text Is) (bytes : List ℕ) (x : X) (rest : List ℕ) → AreBytes bytes → at bytes ≡ Ok (x, rest)
    → Took bytes (text x) rest × Is x
taken {X = X} at text Is reads bytes x rest fits is = subst (λ (part : Part X). Judged at bytes part (λ x rest. Took bytes (text x) rest × Is x)) is (reads.found bytes fits)

pub is-head : (allows : ℕ → Bool) (bytes : List ℕ) (head : SetHead) (rest : List ℕ) → AreBytes bytes → head_if_at allows bytes ≡ Ok (head, rest) → IsHead head
is-head allows bytes head rest fits is = (taken (head_if_at allows) _ _ (head_if-reads allows) bytes head rest fits is).1.0
