-- The files that a crash leaves are kept as those of a store are.
use Rattle.std.proofs.Common.{◌≡◌, ◌≢◌, ℕ, zero, suc, ◌<◌, List, [], ◌∷◌, length, get_or, take, drop, refl, sym, ap, subst, ◌∙◌, arith, inl, inr}
use Rattle.std.proofs.lemmas.List.{nil_from_length, take-append-drop}
use Rattle.std.proofs.lemmas.Bool.Decides.{eqb_tells}
use Rattle.std.proofs.lemmas.Grind.{common_steps}
use Rattle.room_disk.specs.declared.disk_event.DiskEvent.{DiskEvent}
use Rattle.room_disk.specs.declared.disk_event.DiskEvent.TheVariants.{Written, Cut, Synced}
use Rattle.room_disk.specs.declared.part.Part.{Part}
use Rattle.room_disk.specs.declared.part.Part.TheVariants.{Nothing, All, Spoiled, FirstHalf}
use Rattle.room_disk.specs.declared.mem_file.MemFile.{MemFile}
use Rattle.room_disk.specs.Crashed.{partly_written, partly_cut, partly_done, all_partly_done, crashed_file, unsynced, rebuilt}
use Rattle.room_disk.specs.Kept.{blank_file, kept_file, first_bytes, LieWithin, IsFileKept, AreFilesKept, IsDistinct}
use Rattle.room_disk.specs.Laws.{if_other, if_same}
use Rattle.room_disk.specs.Past.{listed}
use Rattle.room_disk.specs.Rebuilding.{CanRebuild, IsRebuilt}
use Rattle.room_disk.proofs.Files.{first_at, listed_first}
use Rattle.room_disk.proofs.Replaying.{fits_append, crashed_is_rebuilt}

no_write : (part : Part) → partly_written part 0 [] [] ≡ []
no_write Nothing = refl
no_write All = refl
no_write Spoiled = refl
no_write FirstHalf = refl

no_cut : (part : Part) (to : ℕ) → partly_cut part to [] ≡ []
no_cut Nothing to = refl
no_cut All to = grind (arith, common_steps)
no_cut Spoiled to = grind (arith, common_steps)
no_cut FirstHalf to = grind (arith, common_steps)

-- what is done to a file without room leaves it empty
nothing_done : (part : Part) (file : ℕ) (events : List DiskEvent) → LieWithin 0 file events → all_partly_done part file [] events ≡ []
nothing_done part file [] fits = refl
nothing_done part file (Written other at bytes ∷ older) fits =
    ap (λ (l : List ℕ). partly_done part file (Written other at bytes) l) (nothing_done part file older fits.1)
    ∙ elim (eqb_tells other file) [
      | inl is ↦
          (let none : bytes ≡ [] = nil_from_length bytes (omega (arith, fits.0 is.1)) in
          let place : at ≡ 0 = omega (arith, fits.0 is.1) in
          if_same other file (partly_written part at bytes []) [] is.1
          ∙ ap (λ (n : ℕ). partly_written part n bytes []) place
          ∙ ap (λ (l : List ℕ). partly_written part 0 l []) none
          ∙ no_write part)
      | inr isnt ↦ if_other other file (partly_written part at bytes []) [] isnt.1
    ]
nothing_done part file (Cut other to ∷ older) fits =
    ap (λ (l : List ℕ). partly_done part file (Cut other to) l) (nothing_done part file older fits)
    ∙ elim (eqb_tells other file) [
      | inl is ↦ if_same other file (partly_cut part to []) [] is.1 ∙ no_cut part to
      | inr isnt ↦ if_other other file (partly_cut part to []) [] isnt.1
    ]
nothing_done part file (Synced other ∷ older) fits = nothing_done part file older fits

nothing_rebuilt : (part : Part) (file : ℕ) (events : List DiskEvent) → LieWithin 0 file events → rebuilt part file [] events ≡ []
nothing_rebuilt part file events fits =
    let count = unsynced file events in
    let parts = fits_append 0 file (take count events) (drop count events) (subst (LieWithin 0 file) (sym (take-append-drop count events)) fits) in
    ap (λ (l : List ℕ). all_partly_done part file l (take count events)) (nothing_done All file (drop count events) parts.1)
    ∙ nothing_done part file (take count events) parts.0

-- each file was rebuilt
abbrev pub AllRebuilt : Part → List DiskEvent → List MemFile → List MemFile → Type 0
AllRebuilt part events old new = (index : ℕ) (other : MemFile) → index < length old → IsRebuilt part events (get_or old index other) (get_or new index other)

rest_rebuilt : (part : Part) (events : List DiskEvent) (one two : MemFile) (old new : List MemFile) → AllRebuilt part events (one ∷ old) (two ∷ new) → AllRebuilt part events old new
rest_rebuilt part events one two old new are index other below = are (suc index) other (omega (arith, below))

still_distinct : (part : Part) (events : List DiskEvent) (old new : List MemFile) → length new ≡ length old → AllRebuilt part events old new → IsDistinct old → IsDistinct new
still_distinct part events [] [] size are distinct = tt
still_distinct part events [] (two ∷ new) size are distinct = absurd (omega (arith, size))
still_distinct part events (one ∷ old) [] size are distinct = absurd (omega (arith, size))
still_distinct part events (one ∷ old) (two ∷ new) size are distinct = (
  (λ index other below is. distinct.0 index other (omega (arith, size, below))
      (sym (are (suc index) other (omega (arith, size, below))).number ∙ is ∙ (are zero one (omega arith)).number)),
  still_distinct part events old new (omega (arith, size)) (rest_rebuilt part events one two old new are) distinct.1,
)

found_rebuilt : (part : Part) (events : List DiskEvent) (file : ℕ) (old new : List MemFile) → length new ≡ length old → AllRebuilt part events old new
    → (kept_file file old ≡ blank_file file → IsRebuilt part events (blank_file file) (blank_file file))
    → IsRebuilt part events (kept_file file old) (kept_file file new)
found_rebuilt part events file [] [] size are blank = blank refl
found_rebuilt part events file [] (two ∷ new) size are blank = absurd (omega (arith, size))
found_rebuilt part events file (one ∷ old) [] size are blank = absurd (omega (arith, size))
found_rebuilt part events file (one ∷ old) (two ∷ new) size are blank =
    let first : IsRebuilt part events one two = are zero one (omega arith) in
    let P : MemFile → Type 0 = λ f. IsRebuilt part events f (kept_file file (two ∷ new)) in
    elim (eqb_tells one.number file) [
      | inl is ↦
          let Q : MemFile → Type 0 = λ f. IsRebuilt part events one f in
          subst P (sym (if_same one.number file one (kept_file file old) is.1))
          (subst Q (sym (if_same two.number file two (kept_file file new) (first.number ∙ is.1))) first)
      | inr isnt ↦
          let Q : MemFile → Type 0 = λ f. IsRebuilt part events (kept_file file old) f in
          let apart : two.number ≢ file = λ same. isnt.1 (sym first.number ∙ same) in
          subst P (sym (if_other one.number file one (kept_file file old) isnt.1))
          (subst Q (sym (if_other two.number file two (kept_file file new) apart))
          (found_rebuilt part events file old new (omega (arith, size)) (rest_rebuilt part events one two old new are)
          (λ none. blank (if_other one.number file one (kept_file file old) isnt.1 ∙ none))))
    ]

blank_rebuilt : (part : Part) (events : List DiskEvent) (file : ℕ) → LieWithin 0 file events → IsRebuilt part events (blank_file file) (blank_file file)
blank_rebuilt part events file fits =
    let none = sym (nothing_rebuilt part file events fits) in
    record { number = refl; first = none; now = none; within = omega arith; room = omega arith }

-- the element at a place, whatever stands for one past the end
get_or_same : (files : List MemFile) (index : ℕ) (other one : MemFile) → index < length files → get_or files index other ≡ get_or files index one
get_or_same [] index other one below = absurd (omega (arith, below))
get_or_same (head ∷ rest) zero other one below = refl
get_or_same (head ∷ rest) (suc index) other one below = get_or_same rest index other one (omega (arith, below))

pub can_rebuild : (events : List DiskEvent) (old : List MemFile) → AreFilesKept (first_bytes old) events old → (index : ℕ) (other : MemFile) → index < length old → CanRebuild events (get_or old index other)
can_rebuild events old kept index other below =
    let one = get_or old index other in
    let found : kept_file one.number old ≡ one = first_at old index one kept.distinct below (get_or_same old index other one below) in
    let P : MemFile → Type 0 = λ f. IsFileKept (listed (first_bytes old)) events one.number f in
    let is = subst P found (kept.each one.number) in
    record { within = is.within; room = is.room; fits = is.fits }

module _ (part : Part) (events : List DiskEvent) (old new : List MemFile) (kept : AreFilesKept (first_bytes old) events old)
    (size : length new ≡ length old) (are : AllRebuilt part events old new) where
  rebuilt_at : (file : ℕ) → IsRebuilt part events (kept_file file old) (kept_file file new)
  rebuilt_at file =
      found_rebuilt part events file old new size are
      (λ none. let P : MemFile → Type 0 = λ f. IsFileKept (listed (first_bytes old)) events file f in
      blank_rebuilt part events file (subst P none (kept.each file)).fits)

  distinct : IsDistinct new
  distinct = still_distinct part events old new size are kept.distinct

  pub leaves_crashed : (file : ℕ) → listed (first_bytes new) file ≡ crashed_file part (listed (first_bytes old)) events file
  leaves_crashed file =
      listed_first new file distinct
      ∙ (rebuilt_at file).first
      ∙ ap (λ (n : ℕ). rebuilt part n (kept_file file old).first.bytes events) (kept.each file).number
      ∙ ap (λ (l : List ℕ). rebuilt part file l events) (kept.each file).first
      ∙ sym (crashed_is_rebuilt part (listed (first_bytes old)) file events)

  pub kept_again : AreFilesKept (first_bytes new) [] new
  kept_again = record {
    each = λ file. record {
      number = (rebuilt_at file).number ∙ (kept.each file).number;
      first = sym (listed_first new file distinct);
      now = (rebuilt_at file).now ∙ sym (rebuilt_at file).first ∙ sym (listed_first new file distinct);
      within = (rebuilt_at file).within;
      room = (rebuilt_at file).room;
      fits = tt;
    };
    distinct = distinct;
  }
