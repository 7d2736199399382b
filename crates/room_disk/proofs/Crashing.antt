-- What a choice of crash leaves is one of the images that a crash may leave.
use Rattle.std.proofs.Common.{◌≡◌, ℕ, ◌-◌, ◌/◌, ◌≤◌, List, [], ◌∷◌, ◌++◌, length, get_or, take, replicate, refl, sym, ap, subst, ◌∙◌, arith, inl, inr, length-take}
use Rattle.std.proofs.lemmas.List.{places, length-replicate, get_or-replicate}
use Rattle.std.proofs.lemmas.Bool.Decides.{eqb_tells}
use Rattle.room_disk.specs.declared.disk_event.DiskEvent.{DiskEvent}
use Rattle.room_disk.specs.declared.disk_event.DiskEvent.TheVariants.{Written, Cut, Synced}
use Rattle.room_disk.specs.declared.part.Part.{Part}
use Rattle.room_disk.specs.declared.part.Part.TheVariants.{Nothing, All, Spoiled, FirstHalf}
use Rattle.room_disk.specs.Crash.{overlaid, Torn, CutShort, IsGateLetter}
use Rattle.room_disk.specs.Crashed.{partly_written, partly_cut, crashed_file}
use Rattle.room_disk.specs.Disk.{Image}
use Rattle.room_disk.specs.Laws.{if_same, if_other, whole_write, whole_cut, by_file}
use Rattle.room_disk.specs.Past.{read_after, MayLeave}
use Rattle.room_disk.proofs.Overlay.{length-overlaid, overlaid-before, overlaid-within, overlaid-behind}

not_written : (at : ℕ) (bytes old : List ℕ) → Torn at bytes old old
not_written at bytes old = record {
  before = λ place below inside. refl;
  behind = λ place from inside. refl;
  no_shorter = omega arith;
  no_longer = omega arith;
  gate = λ letter one is. inr refl;
}

no_gate : (byte : ℕ) → byte ≡ 0xFF → IsGateLetter byte → ⊥
no_gate byte spoiled gate = elim gate [
  | inl journal ↦ omega (arith, spoiled, journal)
  | inr rest ↦ elim rest [
    | inl entry ↦ omega (arith, spoiled, entry)
    | inr more ↦ elim more [
      | inl label ↦ omega (arith, spoiled, label)
      | inr mark ↦ omega (arith, spoiled, mark)
    ]
  ]
]

spoiled_write : (at : ℕ) (bytes old : List ℕ) → Torn at bytes old (overlaid at (replicate (length bytes) 0xFF) old)
spoiled_write at bytes old =
    let filled : List ℕ = replicate (length bytes) 0xFF in
    let size : length filled ≡ length bytes = length-replicate (length bytes) 0xFF in
    let new : List ℕ = overlaid at filled old in
    record {
      before = λ place below inside. overlaid-before at filled old place below;
      behind = λ place from inside. overlaid-behind at filled old place (omega (arith, size, from));
      no_shorter = omega (arith, length-overlaid at filled old);
      no_longer = omega (arith, length-overlaid at filled old, size);
      gate = λ letter one is.
          let single : length bytes ≡ 1 = ap (λ (l : List ℕ). length l) one in
          let place : at - at ≡ 0 = omega arith in
          let byte : get_or new at 0 ≡ 0xFF =
          overlaid-within at filled old at (omega arith) (omega (arith, size, single))
          ∙ ap (λ (n : ℕ). get_or filled n 0) place
          ∙ get_or-replicate (length bytes) 0 0xFF 0 (omega (arith, single)) in
          absurd (no_gate (get_or new at 0) byte is);
    }

half_write : (at : ℕ) (bytes old : List ℕ) → Torn at bytes old (overlaid at (take (length bytes / 2) bytes) old)
half_write at bytes old =
    let half : List ℕ = take (length bytes / 2) bytes in
    let size : length half ≤ length bytes = omega (arith, length-take (length bytes / 2) bytes) in
    let new : List ℕ = overlaid at half old in
    record {
      before = λ place below inside. overlaid-before at half old place below;
      behind = λ place from inside. overlaid-behind at half old place (omega (arith, size, from));
      no_shorter = omega (arith, length-overlaid at half old);
      no_longer = omega (arith, length-overlaid at half old, size);
      gate = λ letter one is.
          let single : length bytes ≡ 1 = ap (λ (l : List ℕ). length l) one in
          let none : length half ≡ 0 = omega (arith, length-take (length bytes / 2) bytes, single) in
          inr (overlaid-behind at half old at (omega (arith, none)));
    }

part_torn : (part : Part) (at : ℕ) (bytes old : List ℕ) → Torn at bytes old (partly_written part at bytes old)
part_torn Nothing at bytes old = not_written at bytes old
part_torn All at bytes old = whole_write at bytes old
part_torn Spoiled at bytes old = spoiled_write at bytes old
part_torn FirstHalf at bytes old = half_write at bytes old

spoiled_cut : (to : ℕ) (old : List ℕ) → CutShort to old (take to old ++ replicate (length old - to) 0xFF)
spoiled_cut to old = record {
  before = λ place below inside. grind (arith, places);
  no_shorter = grind (arith, places);
  no_longer = grind (arith, places);
}

part_cut : (part : Part) (to : ℕ) (old : List ℕ) → CutShort to old (partly_cut part to old)
part_cut Nothing to old = record { before = λ place below inside. refl; no_shorter = omega arith; no_longer = omega arith }
part_cut All to old = whole_cut to old
part_cut Spoiled to old = spoiled_cut to old
part_cut FirstHalf to old = whole_cut to old

pub may_leave_crashed : (part : Part) (first : Image) (events : List DiskEvent) (file : ℕ) → MayLeave first events file (crashed_file part first events file)
may_leave_crashed part first [] file = refl
may_leave_crashed part first (Written other at bytes ∷ older) file =
    let before = crashed_file part first older file in
    by_file other file (MayLeave first older file) (Torn at bytes) before (partly_written part at bytes before)
    (may_leave_crashed part first older file) (part_torn part at bytes before)
may_leave_crashed part first (Cut other to ∷ older) file =
    let before = crashed_file part first older file in
    by_file other file (MayLeave first older file) (CutShort to) before (partly_cut part to before)
    (may_leave_crashed part first older file) (part_cut part to before)
may_leave_crashed part first (Synced other ∷ older) file =
    elim (eqb_tells other file) [
      | inl is ↦ inl (is.1, if_same other file (read_after first older file) (crashed_file part first older file) is.1)
      | inr isnt ↦ inr (
        isnt.1,
        subst (MayLeave first older file)
            (sym (if_other other file (read_after first older file) (crashed_file part first older file) isnt.1)) (may_leave_crashed part first older file),
      )
    ]
