-- A folder in memory: what it knows of its files stays true over a write of one of them.
use Rattle.std.proofs.Common.{◌≡◌, ◌≢◌, ℕ, Bool, true, false, List, [], ◌∷◌, zero, suc, refl, IsTrue, slice_index_or, inl, inr, ◌∙◌, sym, subst}
use Rattle.std.proofs.lemmas.List.{get_or-set_other}
use Rattle.std.proofs.lemmas.Bool.Decides.{eqb_tells}
use Rattle.std.specs.Prelude.{slice_set}
use Rattle.room_disk.specs.Disk.{DiskView, Others, Settled}
use Rattle.room_disk.specs.Folder.{IsAbsent}
use Rattle.room_disk.proofs.Runs.{settled_others}

set_or_past : (list : List Bool) (place : ℕ) (value : Bool) → slice_index_or (slice_set list place value) place value ≡ value
set_or_past [] place value = refl
set_or_past (one ∷ rest) zero value = refl
set_or_past (one ∷ rest) (suc place) value = set_or_past rest place value

-- a file that isn't there is none that was written
pub absent_stays : (file : ℕ) (there : List Bool) (old new : DiskView)
    → Others file old new
    → ((other : ℕ) → slice_index_or there other true ≡ false → IsAbsent old other)
    → (other : ℕ) → slice_index_or (slice_set there file true) other true ≡ false → IsAbsent new other
absent_stays file there old new others was other is =
    elim (eqb_tells other file) [
      | inl same ↦
          let P : ℕ → Type 0 = λ n. slice_index_or (slice_set there file true) n true ≡ false in
          let not : true ≡ false = sym (set_or_past there file true) ∙ subst P same.1 is in
          absurd (cc)
      | inr apart ↦
          let before = was other (sym (get_or-set_other there file other true true apart.1) ∙ is) in
          record {
            reads = others.reads other apart.1 ∙ before.reads;
            settled = settled_others file other old new apart.1 others before.settled;
          }
    ]

-- nor is one that is synced
pub settled_stays : (file : ℕ) (synced : List Bool) (named : Bool) (old new : DiskView)
    → Others file old new
    → ((other : ℕ) → IsTrue (slice_index_or synced other false) → IsTrue named → Settled old other)
    → (other : ℕ) → IsTrue (slice_index_or (slice_set synced file false) other false) → IsTrue named
    → Settled new other
settled_stays file synced named old new others was other is names =
    elim (eqb_tells other file) [
      | inl same ↦
          let P : ℕ → Type 0 = λ n. slice_index_or (slice_set synced file false) n false ≡ true in
          let not : false ≡ true = sym (set_or_past synced file false) ∙ subst P same.1 is in
          absurd (cc)
      | inr apart ↦
          settled_others file other old new apart.1 others
          (was other (sym (get_or-set_other synced file other false false apart.1) ∙ is) names)
    ]
