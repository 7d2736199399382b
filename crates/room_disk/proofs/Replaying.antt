-- The events since the last sync of a file, done again in part.
use Rattle.std.proofs.Common.{◌≡◌, ℕ, suc, ◌+◌, ◌-◌, ◌<◌, ◌≤◌, List, [], ◌∷◌, ◌++◌, length, reverse, get_or, take, drop, refl, sym, ap, subst, ◌∙◌, arith, inl, inr}
use Rattle.std.proofs.lemmas.List.{reverse-append, take_more, take_at, drop_at, take-append-drop, length-drop, length-reverse}
use Rattle.std.proofs.lemmas.Bool.Decides.{eqb_tells}
use Rattle.room_disk.specs.declared.disk_event.DiskEvent.{DiskEvent}
use Rattle.room_disk.specs.declared.disk_event.DiskEvent.TheVariants.{Written, Cut, Synced}
use Rattle.room_disk.specs.declared.part.Part.{Part}
use Rattle.room_disk.specs.declared.part.Part.TheVariants.{All}
use Rattle.room_disk.specs.Disk.{Image}
use Rattle.room_disk.specs.Kept.{LieWithin}
use Rattle.room_disk.specs.Laws.{if_other, if_same}
use Rattle.room_disk.specs.Past.{read_after}
use Rattle.room_disk.specs.Crashed.{partly_done, all_partly_done, crashed_file, unsynced, rebuilt}

pub reverse_more : (events : List DiskEvent) (index : ℕ) (event : DiskEvent) → index < length events → event ≡ get_or events index event
    → reverse (take (index + 1) events) ≡ event ∷ reverse (take index events)
reverse_more events index event below is =
    ap (λ (l : List DiskEvent). reverse l) (take_more events index event below)
    ∙ reverse-append (take index events) (get_or events index event ∷ [])
    ∙ ap (λ (d : DiskEvent). d ∷ reverse (take index events)) (sym is)

pub fits_append : (room file : ℕ) (xs ys : List DiskEvent) → LieWithin room file (xs ++ ys) → LieWithin room file xs × LieWithin room file ys
fits_append room file [] ys fits = (tt, fits)
fits_append room file (Written other at bytes ∷ xs) ys fits =
    let rest = fits_append room file xs ys fits.1 in ((fits.0, rest.0), rest.1)
fits_append room file (Cut other to ∷ xs) ys fits = fits_append room file xs ys fits
fits_append room file (Synced other ∷ xs) ys fits = fits_append room file xs ys fits

fits_head : (room file : ℕ) (event : DiskEvent) (older : List DiskEvent) → LieWithin room file (event ∷ older) → LieWithin room file (event ∷ [])
fits_head room file event older fits = (fits_append room file (event ∷ []) older fits).0

pub fits_front : (room file : ℕ) (events : List DiskEvent) (count : ℕ) → LieWithin room file (reverse events)
    → LieWithin room file (reverse (drop count events)) × LieWithin room file (reverse (take count events))
fits_front room file events count fits =
    let parts : reverse events ≡ reverse (drop count events) ++ reverse (take count events) =
    ap (λ (l : List DiskEvent). reverse l) (sym (take-append-drop count events)) ∙ reverse-append (take count events) (drop count events) in
    fits_append room file (reverse (drop count events)) (reverse (take count events)) (subst (LieWithin room file) parts fits)

pub fits_at : (room file : ℕ) (events : List DiskEvent) (index : ℕ) (event : DiskEvent) → LieWithin room file (reverse events) → index < length events
    → event ≡ get_or events index event → LieWithin room file (event ∷ [])
fits_at room file events index event fits below is =
    fits_head room file event (reverse (take index events))
    (subst (LieWithin room file) (reverse_more events index event below is) (fits_front room file events (index + 1) fits).1)

-- the newest events, and those before them
pub split_newest : (events : List DiskEvent) (count : ℕ) → count ≤ length events
    → (reverse (drop (length events - count) events) ≡ take count (reverse events)) × (reverse (take (length events - count) events) ≡ drop count (reverse events))
split_newest events count enough =
    let front = length events - count in
    let parts : reverse events ≡ reverse (drop front events) ++ reverse (take front events) =
    ap (λ (l : List DiskEvent). reverse l) (sym (take-append-drop front events)) ∙ reverse-append (take front events) (drop front events) in
    let size : length (reverse (drop front events)) ≡ count = omega (arith, length-reverse (drop front events), length-drop front events) in (
      sym (ap (λ (l : List DiskEvent). take count l) parts ∙ take_at (reverse (drop front events)) (reverse (take front events)) count size),
      sym (ap (λ (l : List DiskEvent). drop count l) parts ∙ drop_at (reverse (drop front events)) (reverse (take front events)) count size),
    )

pub fits_part : (room more file : ℕ) (events part : List DiskEvent) → more ≡ room → events ≡ part → LieWithin room file part → LieWithin more file events
fits_part room more file events part rooms same fits =
    let P : ℕ → Type 0 = λ r. LieWithin r file events in
    let Q : List DiskEvent → Type 0 = λ l. LieWithin room file l in
    subst P (sym rooms) (subst Q (sym same) fits)

all_done_reads : (first : Image) (file : ℕ) (events : List DiskEvent) → all_partly_done All file (first file) events ≡ read_after first events file
all_done_reads first file [] = refl
all_done_reads first file (Written other at bytes ∷ older) = ap (λ (l : List ℕ). partly_done All file (Written other at bytes) l) (all_done_reads first file older)
all_done_reads first file (Cut other to ∷ older) = ap (λ (l : List ℕ). partly_done All file (Cut other to) l) (all_done_reads first file older)
all_done_reads first file (Synced other ∷ older) = all_done_reads first file older

-- the events but the newest are done, and a part of those
abbrev split_at : Part → ℕ → List ℕ → List DiskEvent → ℕ → List ℕ
split_at part file start events count = all_partly_done part file (all_partly_done All file start (drop count events)) (take count events)

pub crashed_is_rebuilt : (part : Part) (first : Image) (file : ℕ) (events : List DiskEvent) → crashed_file part first events file ≡ rebuilt part file (first file) events
crashed_is_rebuilt part first file [] = refl
crashed_is_rebuilt part first file (Written other at bytes ∷ older) =
    ap (λ (l : List ℕ). partly_done part file (Written other at bytes) l) (crashed_is_rebuilt part first file older)
crashed_is_rebuilt part first file (Cut other to ∷ older) =
    ap (λ (l : List ℕ). partly_done part file (Cut other to) l) (crashed_is_rebuilt part first file older)
crashed_is_rebuilt part first file (Synced other ∷ older) =
    let split : ℕ → List ℕ = split_at part file (first file) (Synced other ∷ older) in
    elim (eqb_tells other file) [
      | inl is ↦
          if_same other file (read_after first older file) (crashed_file part first older file) is.1
          ∙ sym (all_done_reads first file older)
          ∙ sym (ap split (if_same other file 0 (suc (unsynced file older)) is.1))
      | inr isnt ↦
          if_other other file (read_after first older file) (crashed_file part first older file) isnt.1
          ∙ crashed_is_rebuilt part first file older
          ∙ sym (ap split (if_other other file 0 (suc (unsynced file older)) isnt.1))
    ]
