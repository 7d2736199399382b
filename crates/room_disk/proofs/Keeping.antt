-- Each file stays as it is kept.
use Rattle.std.proofs.Common.{◌≡◌, ◌≢◌, ℕ, ◌+◌, ◌≤◌, List, [], ◌∷◌, length, set, get_or, take, refl, sym, ap, subst, ◌∙◌, arith, inl, inr}
use Rattle.std.proofs.lemmas.Bool.Decides.{eqb_tells}
use Rattle.room_disk.specs.declared.mem_file.MemFile.{MemFile}
use Rattle.room_disk.specs.declared.disk_event.DiskEvent.{DiskEvent}
use Rattle.room_disk.specs.declared.disk_event.DiskEvent.TheVariants.{Written, Cut, Synced}
use Rattle.std.proofs.lemmas.Grind.{common_steps}
use Rattle.room_disk.specs.Disk.{Image}
use Rattle.room_disk.specs.Held.{Held, blank}
use Rattle.room_disk.specs.Crash.{overlaid}
use Rattle.room_disk.specs.Laws.{if_other, if_same}
use Rattle.room_disk.specs.Past.{listed, read_after}
use Rattle.room_disk.specs.Kept.{blank_file, kept_file, first_bytes, LieWithin, IsFileKept, AreKept, IsFirst, NoneHas, HasGrown, HasGrownFiles, IsDistinct, AreFilesKept}
use Rattle.room_disk.proofs.Files.{file_at, file_none, file_set, file_set_other, first_set, distinct_set}

fits_more : (room more file : ℕ) (events : List DiskEvent) → room ≤ more → LieWithin room file events → LieWithin more file events
fits_more room more file [] le fits = tt
fits_more room more file (Written other at bytes ∷ older) le fits =
    ((λ same. omega (arith, le, fits.0 same)), fits_more room more file older le fits.1)
fits_more room more file (Cut other to ∷ older) le fits = fits_more room more file older le fits
fits_more room more file (Synced other ∷ older) le fits = fits_more room more file older le fits

pub grown : (base : Image) (events : List DiskEvent) (file : ℕ) (old new : MemFile) → IsFileKept base events file old → HasGrown old new → IsFileKept base events file new
grown base events file old new kept has = record {
  number = has.number ∙ kept.number;
  first = has.first ∙ kept.first;
  now = has.now ∙ kept.now;
  within = (let size : length new.first.bytes ≡ length old.first.bytes = ap length has.first in omega (arith, size, kept.within, has.more));
  room = has.room;
  fits = fits_more old.now.room new.now.room file events has.more kept.fits;
}

pub written_here : (base : Image) (events : List DiskEvent) (file at : ℕ) (piece : List ℕ) (kept : MemFile) (now : Held) → IsFileKept base events file kept
    → at + length piece ≤ kept.now.room → now.bytes ≡ overlaid at piece kept.now.bytes → now.room ≡ kept.now.room
    → IsFileKept base (Written file at piece ∷ events) file (record kept { now = now })
written_here base events file at piece kept now is fits bytes room = record {
  number = is.number;
  first = is.first;
  now = bytes ∙ ap (λ (l : List ℕ). overlaid at piece l) is.now
      ∙ sym (if_same file file (overlaid at piece (read_after base events file)) (read_after base events file) refl);
  within = omega (arith, is.within, room);
  room = omega (arith, is.room, room);
  fits = ((λ same. omega (arith, fits, room)), fits_more kept.now.room now.room file events (omega (arith, room)) is.fits);
}

pub written_elsewhere : (base : Image) (events : List DiskEvent) (file other at : ℕ) (piece : List ℕ) (kept : MemFile) → other ≢ file
    → IsFileKept base events other kept → IsFileKept base (Written file at piece ∷ events) other kept
written_elsewhere base events file other at piece kept apart is = record {
  number = is.number;
  first = is.first;
  now = is.now ∙ sym (if_other file other (overlaid at piece (read_after base events other)) (read_after base events other) (λ same. apart (sym same)));
  within = is.within;
  room = is.room;
  fits = ((λ same. absurd (apart (sym same))), is.fits);
}

pub cut_here : (base : Image) (events : List DiskEvent) (file to : ℕ) (kept : MemFile) (now : Held) → IsFileKept base events file kept
    → now.bytes ≡ take to kept.now.bytes → now.room ≡ kept.now.room → IsFileKept base (Cut file to ∷ events) file (record kept { now = now })
cut_here base events file to kept now is bytes room = record {
  number = is.number;
  first = is.first;
  now = bytes ∙ ap (λ (l : List ℕ). take to l) is.now
      ∙ sym (if_same file file (take to (read_after base events file)) (read_after base events file) refl);
  within = omega (arith, is.within, room);
  room = omega (arith, is.room, room);
  fits = fits_more kept.now.room now.room file events (omega (arith, room)) is.fits;
}

pub cut_elsewhere : (base : Image) (events : List DiskEvent) (file other to : ℕ) (kept : MemFile) → other ≢ file
    → IsFileKept base events other kept → IsFileKept base (Cut file to ∷ events) other kept
cut_elsewhere base events file other to kept apart is = record {
  number = is.number;
  first = is.first;
  now = is.now ∙ sym (if_other file other (take to (read_after base events other)) (read_after base events other) (λ same. apart (sym same)));
  within = is.within;
  room = is.room;
  fits = is.fits;
}

pub synced : (base : List (ℕ × List ℕ)) (events : List DiskEvent) (files : List MemFile) (file : ℕ) → AreKept base events files → AreKept base (Synced file ∷ events) files
synced base events files file are other =
    let is = are other in record { number = is.number; first = is.first; now = is.now; within = is.within; room = is.room; fits = is.fits }

-- one file is put in the place of another with the same number
pub put_in : (base : List (ℕ × List ℕ)) (old new : List DiskEvent) (files : List MemFile) (file index : ℕ) (one : MemFile)
    → AreKept base old files → IsFirst file files index → IsFileKept (listed base) new file one
    → ((other : ℕ) (kept : MemFile) → other ≢ file → IsFileKept (listed base) old other kept → IsFileKept (listed base) new other kept)
    → AreKept base new (set files index one)
put_in base old new files file index one are first this others other =
    elim (eqb_tells other file) [
      | inl is ↦
          let P : ℕ → Type 0 = λ n. IsFileKept (listed base) new n (kept_file n (set files index one)) in
          let Q : MemFile → Type 0 = λ f. IsFileKept (listed base) new file f in
          subst P (sym is.1) (subst Q (sym (file_set file files index one first this.number)) this)
      | inr isnt ↦
          let Q : MemFile → Type 0 = λ f. IsFileKept (listed base) new other f in
          subst Q (sym (file_set_other file other files index one first this.number isnt.1)) (others other (kept_file other files) isnt.1 (are other))
    ]

pub grown_kept : (old new : List MemFile) (events : List DiskEvent) → HasGrownFiles old new → AreKept (first_bytes old) events old → AreKept (first_bytes new) events new
grown_kept old new events has are file =
    let P : List (ℕ × List ℕ) → Type 0 = λ base. IsFileKept (listed base) events file (kept_file file new) in
    subst P (sym has.first) (grown (listed (first_bytes old)) events file (kept_file file old) (kept_file file new) (are file) (has.each file))

-- what the file at an index is kept as
pub kept_at : (base : List (ℕ × List ℕ)) (events : List DiskEvent) (files : List MemFile) (file index : ℕ) (other : MemFile)
    → AreKept base events files → IsFirst file files index → IsFileKept (listed base) events file (get_or files index other)
kept_at base events files file index other are first =
    let Q : MemFile → Type 0 = λ f. IsFileKept (listed base) events file f in subst Q (file_at file files index other first) (are file)

-- The file at an index is put in the place of another: what the files read at first stays, and each is kept.
module _ (old new : List DiskEvent) (files : List MemFile) (file index : ℕ) (before after : MemFile)
    (are : AreKept (first_bytes files) old files) (first : IsFirst file files index) (value : before ≡ get_or files index before)
    (this : IsFileKept (listed (first_bytes files)) old file before → IsFileKept (listed (first_bytes files)) new file after) where
  pub kept_before : IsFileKept (listed (first_bytes files)) old file before
  kept_before =
      let Q : MemFile → Type 0 = λ f. IsFileKept (listed (first_bytes files)) old file f in
      subst Q (sym value) (kept_at (first_bytes files) old files file index before are first)

  pub keeps_first : first_bytes (set files index after) ≡ first_bytes files
  keeps_first =
      first_set files index after (λ other. (this kept_before).number ∙ sym (first.number other))
      (λ other. (this kept_before).first ∙ sym (kept_at (first_bytes files) old files file index other are first).first)

  pub keeps_all : ((other : ℕ) (kept : MemFile) → other ≢ file → IsFileKept (listed (first_bytes files)) old other kept → IsFileKept (listed (first_bytes files)) new other kept)
      → AreKept (first_bytes (set files index after)) new (set files index after)
  keeps_all others =
      let P : List (ℕ × List ℕ) → Type 0 = λ base. AreKept base new (set files index after) in
      subst P (sym keeps_first) (put_in (first_bytes files) old new files file index after are first (this kept_before) others)

  pub keeps_whole : IsDistinct files
      → ((other : ℕ) (kept : MemFile) → other ≢ file → IsFileKept (listed (first_bytes files)) old other kept → IsFileKept (listed (first_bytes files)) new other kept)
      → AreFilesKept (first_bytes (set files index after)) new (set files index after)
  keeps_whole distinct others = record {
    each = keeps_all others;
    distinct = distinct_set files index after (λ other. (this kept_before).number ∙ sym (first.number other)) distinct;
  }

pub cut_blank : (base : List (ℕ × List ℕ)) (events : List DiskEvent) (files : List MemFile) (file to : ℕ) → AreKept base events files
    → NoneHas file files → AreKept base (Cut file to ∷ events) files
cut_blank base events files file to are none other =
    elim (eqb_tells other file) [
      | inl is ↦
          let P : ℕ → Type 0 = λ n. IsFileKept (listed base) (Cut file to ∷ events) n (kept_file n files) in
          let Q : MemFile → Type 0 = λ f. IsFileKept (listed base) events file f in
          let R : MemFile → Type 0 = λ f. IsFileKept (listed base) (Cut file to ∷ events) file f in
          let none_is : kept_file file files ≡ blank_file file = file_none file files none in
          let empty : [] ≡ take to [] = grind (arith, common_steps) in
          subst P (sym is.1) (subst R (sym none_is)
          (cut_here (listed base) events file to (blank_file file) blank (subst Q none_is (are file)) empty refl))
      | inr isnt ↦ cut_elsewhere (listed base) events file other to (kept_file other files) isnt.1 (are other)
    ]

-- a file is written in its room, and the write recorded
pub write_kept : (events : List DiskEvent) (files : List MemFile) (file index at : ℕ) (piece : List ℕ) (before : MemFile) (now : Held)
    → AreFilesKept (first_bytes files) events files → IsFirst file files index → before ≡ get_or files index before
    → at + length piece ≤ before.now.room → now.bytes ≡ overlaid at piece before.now.bytes → now.room ≡ before.now.room
    → let after : List MemFile = set files index (record before { now = now }) in
    (first_bytes after ≡ first_bytes files) × AreFilesKept (first_bytes after) (Written file at piece ∷ events) after
write_kept events files file index at piece before now whole first value enough bytes room =
    let this = λ (is : IsFileKept (listed (first_bytes files)) events file before).
    written_here (listed (first_bytes files)) events file at piece before now is enough bytes room in
    let new = Written file at piece ∷ events in (
      keeps_first events new files file index before (record before { now = now }) whole.each first value this,
      keeps_whole events new files file index before (record before { now = now }) whole.each first value this whole.distinct
          (λ other one apart is. written_elsewhere (listed (first_bytes files)) events file other at piece one apart is),
    )
