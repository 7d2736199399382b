-- A call that is refused keeps the room and the disk.
use Rattle.std.proofs.Common.{◌≡◌, ℕ, ◌==◌, Bool, true, false, List, [], ◌∷◌, if◌then◌else◌, refl, sym, ap, ◌∙◌, subst, inl, inr}
use Rattle.std.proofs.lemmas.Bool.{cond-true, cond-false}
use Rattle.std.proofs.lemmas.Bool.Decides.{eqb_tells}
use Rattle.std.specs.Prelude.{None, Ok, Err, Option, Some}
use Rattle.std.specs.Option.{option_map}
use Rattle.room_base.specs.Outside.{Told}
use Rattle.room_base.specs.declared.refusal.Refusal.{Refusal}
use Rattle.room_base.specs.declared.refusal.Refusal.TheVariants.{DeviceFault, JournalFault}
use Rattle.room_disk.specs.Disk.{DiskView, Image, IsDisk, Quiet}
use Rattle.room_command.specs.declared.reply.Reply.{Reply}
use Rattle.room_command.specs.declared.reply.Reply.TheVariants as replies
use Rattle.volume_store.specs.Writes.{cart_file}
use Rattle.slot_changer.specs.Committing.{cart_file_of}
use Rattle.slot_changer.specs.Drives.{DriveView}
use Rattle.room_effects.specs.View.{RoomView, held_in}
use Rattle.room_effects.specs.Effects.{Broken, Close, Commit, Deed, Done, Effect, Enter, EnterPart, Look, Open, Push, PutIn, Take, TakeOut, TurnOver, WriteLabel, after_all, ended_with, is_at_last}
use Rattle.room_effects.specs.Faults.{fault_of, ssids_of}
use Rattle.room_effects.specs.Files.{Touches}
use Rattle.room_effects.specs.Running.{AreLooks, Crashed, Led, Performed, RanTo, Ready, nothing_known}
use Rattle.room_effects.specs.Plans.{Do, IsTurn, Plan, Refuse}
use Rattle.room_effects.specs.Entering.{moment_of}
use Rattle.room_turns.specs.Orderly.{AreReads, IsNoFault, IsOrderly, IsOrderlyReply}
use Rattle.room_turns.specs.Steps.{Call, IsAnswer}
use Rattle.room_turns.proofs.Founding.{answer_founded}
use Rattle.room_turns.proofs.Plans.{plans_are_orderly}

-- ---- what was done are reads

-- what is answered where an effect fails is a fault
module _ (fault : Refusal) where
  journal_is : ◌≡◌ {A = Option Refusal} (Some JournalFault) (Some fault) → ¬ IsNoFault fault
  journal_is same fine = let is : JournalFault ≡ fault = cc same in let P : Refusal → Type 0 = λ one. IsNoFault one in subst P (sym is) fine

  none_is : ◌≡◌ {A = Option Refusal} None (Some fault) → ¬ IsNoFault fault
  none_is same fine = cc same

  commit_is : (drive : ℕ) (asking : Option ℕ) (room : RoomView) → fault_of (Commit drive asking) room ≡ Some fault → ¬ IsNoFault fault
  commit_is drive asking room is fine = by (held_in room drive) is
    where
      by : (held : Option DriveView) → option_map (λ one. DeviceFault (cart_file_of one) (ssids_of (ended_with (held_in room drive) asking room.sessions))) held ≡ Some fault → ⊥
      by None same = cc same
      by (Some one) same =
          let is : DeviceFault (cart_file_of one) (ssids_of (ended_with (held_in room drive) asking room.sessions)) ≡ fault = cc same in
          let P : Refusal → Type 0 = λ it. IsNoFault it in subst P (sym is) fine

  turn_over_is : (snapshot : List ℕ) (room : RoomView) → fault_of (TurnOver snapshot) room ≡ Some fault → ¬ IsNoFault fault
  turn_over_is snapshot room is fine = by (is_at_last room.journal) is
    where
      by : (last : Bool) → (if last then None else Some JournalFault) ≡ Some fault → ⊥
      by true same = none_is same fine
      by false same = journal_is same fine

  device_is : (file : ℕ) → ◌≡◌ {A = Option Refusal} (Some (DeviceFault file [])) (Some fault) → ¬ IsNoFault fault
  device_is file same fine = let is : DeviceFault file [] ≡ fault = cc same in let P : Refusal → Type 0 = λ one. IsNoFault one in subst P (sym is) fine

  is_fault : (effect : Effect) (room : RoomView) → fault_of effect room ≡ Some fault → ¬ IsNoFault fault
  is_fault (Enter m change) room is = journal_is is
  is_fault (EnterPart m ssid part index) room is = journal_is is
  is_fault (TurnOver snapshot) room is = turn_over_is snapshot room is
  is_fault (Commit drive asking) room is = commit_is drive asking room is
  is_fault (Look cart seen) room is = device_is (cart_file cart) is
  is_fault (WriteLabel label) room is = device_is (cart_file label.cart.0) is
  is_fault (Push drive ssid copy offset bytes) room is = none_is is
  is_fault (PutIn drive volume) room is = none_is is
  is_fault (TakeOut drive) room is = none_is is
  is_fault (Open head) room is = none_is is
  is_fault (Take ssid piece) room is = none_is is
  is_fault (Close ssid) room is = none_is is

  ran_fault : (effects : List Effect) (room : RoomView) (deeds : List Deed) → RanTo {T = Unit {0}} effects room (Err fault) deeds → ¬ IsNoFault fault
  ran_fault effects room [] ran fine = no_deeds effects room ran
    where
      no_deeds : (effects : List Effect) (room : RoomView) → RanTo {T = Unit {0}} effects room (Err fault) [] → ⊥
      no_deeds [] room ran = ran
      no_deeds (effect ∷ effects) room ran = ran
  ran_fault [] room (Done effect ∷ deeds) ran fine = ran
  ran_fault [] room (Broken effect ∷ deeds) ran fine = ran
  ran_fault (one ∷ effects) room (Done effect ∷ deeds) ran fine = ran_fault effects (after_all (Done effect ∷ []) room) deeds ran.1 fine
  ran_fault (one ∷ effects) room (Broken effect ∷ []) ran fine = is_fault one room ran.1 fine
  ran_fault (one ∷ effects) room (Broken effect ∷ (deed ∷ deeds)) ran fine = ran

reads_ran : (effects : List Effect) (room : RoomView) (deeds : List Deed) → AreReads effects → RanTo {T = Unit {0}} effects room (Ok tt) deeds → AreLooks deeds
reads_ran [] room [] are ran = tt
reads_ran [] room (Done effect ∷ deeds) are ran = absurd ran
reads_ran [] room (Broken effect ∷ deeds) are ran = absurd ran
reads_ran (Look cart seen ∷ effects) room [] are ran = absurd ran
reads_ran (Look cart seen ∷ effects) room (Done effect ∷ deeds) are ran =
    let L : Effect → Type 0 = λ one. AreLooks (Done one ∷ deeds) in
    subst L (sym ran.0) (reads_ran effects (after_all (Done effect ∷ []) room) deeds are ran.1)
reads_ran (Look cart seen ∷ effects) room (Broken effect ∷ deeds) are ran = absurd ran
reads_ran (Enter m change ∷ effects) room deeds are ran = absurd are
reads_ran (EnterPart m ssid part index ∷ effects) room deeds are ran = absurd are
reads_ran (TurnOver snapshot ∷ effects) room deeds are ran = absurd are
reads_ran (Commit drive asking ∷ effects) room deeds are ran = absurd are
reads_ran (WriteLabel label ∷ effects) room deeds are ran = absurd are
reads_ran (Push drive ssid copy offset bytes ∷ effects) room deeds are ran = absurd are
reads_ran (PutIn drive volume ∷ effects) room deeds are ran = absurd are
reads_ran (TakeOut drive ∷ effects) room deeds are ran = absurd are
reads_ran (Open head ∷ effects) room deeds are ran = absurd are
reads_ran (Take ssid piece ∷ effects) room deeds are ran = absurd are
reads_ran (Close ssid ∷ effects) room deeds are ran = absurd are

turn_reads : (plan : Plan) (room : RoomView) (reply : Reply) (refusal : Refusal) (deeds : List Deed) → IsOrderly nothing_known plan room → reply ≡ replies.Refused refusal
    → IsNoFault refusal → IsTurn plan room reply deeds → AreLooks deeds
turn_reads (Refuse planned) room reply refusal deeds orderly is fine turn =
    let P : List Deed → Type 0 = λ list. AreLooks list in subst P (sym turn.1) tt
turn_reads (Do effects planned) room reply refusal deeds orderly is fine (inl done) =
    let R : Reply → Type 0 = λ one. IsOrderlyReply effects one in
    reads_ran effects room deeds (subst R (sym done.0 ∙ is) orderly.replied).0 done.1
turn_reads (Do effects planned) room reply refusal deeds orderly is fine (inr (inl broke)) =
    let same : refusal ≡ broke.0 = cc (let e : ◌≡◌ {A = Reply} (replies.Refused refusal) (replies.Refused broke.0) = sym is ∙ broke.1 in e) in
    let F : Refusal → Type 0 = λ one. IsNoFault one in
    absurd (ran_fault broke.0 effects room deeds broke.2 (subst F same fine))
turn_reads (Do effects planned) room reply refusal deeds orderly is fine (inr (inr none)) = none.1

answer_reads : (call : Call) (refusal : Refusal) (room : RoomView) (deeds : List Deed) → call.reply ≡ replies.Refused refusal → IsNoFault refusal → IsAnswer call room deeds
    → AreLooks deeds
answer_reads call refusal room deeds is fine answer =
    turn_reads answer.0 room call.reply refusal deeds (plans_are_orderly (moment_of call.clock room.catalogue) call.command room answer.0 answer.1) is fine answer.2

-- ---- reads keep

looks_keep : (deeds : List Deed) (room : RoomView) → AreLooks deeds → after_all deeds room ≡ room
looks_keep [] room are = refl
looks_keep (Done (Look cart seen) ∷ deeds) room are = looks_keep deeds room are
looks_keep (Done (Enter m change) ∷ deeds) room are = absurd are
looks_keep (Done (EnterPart m ssid part index) ∷ deeds) room are = absurd are
looks_keep (Done (TurnOver snapshot) ∷ deeds) room are = absurd are
looks_keep (Done (Commit drive asking) ∷ deeds) room are = absurd are
looks_keep (Done (WriteLabel label) ∷ deeds) room are = absurd are
looks_keep (Done (Push drive ssid copy offset bytes) ∷ deeds) room are = absurd are
looks_keep (Done (PutIn drive volume) ∷ deeds) room are = absurd are
looks_keep (Done (TakeOut drive) ∷ deeds) room are = absurd are
looks_keep (Done (Open head) ∷ deeds) room are = absurd are
looks_keep (Done (Take ssid piece) ∷ deeds) room are = absurd are
looks_keep (Done (Close ssid) ∷ deeds) room are = absurd are
looks_keep (Broken effect ∷ deeds) room are = absurd are

-- each file is as before
abbrev IsSameImage : Image → Image → Type 0
IsSameImage before image = (file : ℕ) → image file ≡ before file

touched_same : (file : ℕ) (P : List ℕ → List ℕ → Type 0) (before image : Image) → ((old new : List ℕ) → P old new → new ≡ old) → Touches file P before image
    → IsSameImage before image
touched_same file P before image same touched other = elim (eqb_tells other file) [
  | inl is ↦ (let S : ℕ → Type 0 = λ n. image n ≡ before n in subst S (sym is.1) (same (before file) (image file) touched.this))
  | inr apart ↦ touched.others other apart.1
]

led_same : (deeds : List Deed) (room : RoomView) (before image : Image) → AreLooks deeds → Led deeds room before image → IsSameImage before image
led_same [] room before image are led = λ file. ap (λ (files : Image). files file) led
led_same (Done (Look cart seen) ∷ deeds) room before image are led =
    λ file. led_same deeds room led.0 image are led.2 file ∙ touched_same (cart_file cart) _ before led.0 (λ old new sees. sees.0) led.1 file
led_same (Done (Enter m change) ∷ deeds) room before image are led = absurd are
led_same (Done (EnterPart m ssid part index) ∷ deeds) room before image are led = absurd are
led_same (Done (TurnOver snapshot) ∷ deeds) room before image are led = absurd are
led_same (Done (Commit drive asking) ∷ deeds) room before image are led = absurd are
led_same (Done (WriteLabel label) ∷ deeds) room before image are led = absurd are
led_same (Done (Push drive ssid copy offset bytes) ∷ deeds) room before image are led = absurd are
led_same (Done (PutIn drive volume) ∷ deeds) room before image are led = absurd are
led_same (Done (TakeOut drive) ∷ deeds) room before image are led = absurd are
led_same (Done (Open head) ∷ deeds) room before image are led = absurd are
led_same (Done (Take ssid piece) ∷ deeds) room before image are led = absurd are
led_same (Done (Close ssid) ∷ deeds) room before image are led = absurd are
led_same (Broken effect ∷ deeds) room before image are led = absurd are

crashed_same : (deeds : List Deed) (room : RoomView) (before image : Image) → AreLooks deeds → Crashed deeds room before image → IsSameImage before image
crashed_same [] room before image are crashed = λ file. ap (λ (files : Image). files file) crashed
crashed_same (Done (Look cart seen) ∷ deeds) room before image are (inl cut) = touched_same (cart_file cart) _ before image (λ old new same. same) cut
crashed_same (Done (Look cart seen) ∷ deeds) room before image are (inr next) =
    λ file. crashed_same deeds room next.0 image are next.2 file ∙ touched_same (cart_file cart) _ before next.0 (λ old new sees. sees.0) next.1 file
crashed_same (Done (Enter m change) ∷ deeds) room before image are crashed = absurd are
crashed_same (Done (EnterPart m ssid part index) ∷ deeds) room before image are crashed = absurd are
crashed_same (Done (TurnOver snapshot) ∷ deeds) room before image are crashed = absurd are
crashed_same (Done (Commit drive asking) ∷ deeds) room before image are crashed = absurd are
crashed_same (Done (WriteLabel label) ∷ deeds) room before image are crashed = absurd are
crashed_same (Done (Push drive ssid copy offset bytes) ∷ deeds) room before image are crashed = absurd are
crashed_same (Done (PutIn drive volume) ∷ deeds) room before image are crashed = absurd are
crashed_same (Done (TakeOut drive) ∷ deeds) room before image are crashed = absurd are
crashed_same (Done (Open head) ∷ deeds) room before image are crashed = absurd are
crashed_same (Done (Take ssid piece) ∷ deeds) room before image are crashed = absurd are
crashed_same (Done (Close ssid) ∷ deeds) room before image are crashed = absurd are
crashed_same (Broken effect ∷ deeds) room before image are crashed = absurd are

-- ---- a call that only read

module _ (call : Call) (old new : RoomView) (deeds : List Deed) (answered : IsAnswer call old deeds) (are : AreLooks deeds) where
  pub kept_room : (before now : DiskView) → Performed deeds old new before now → new ≡ old
  kept_room before now performed = performed.room ∙ looks_keep deeds old are

  pub kept_disk : (before now : DiskView) → IsDisk before → IsDisk now → Performed deeds old new before now
      → Told before.tells (Ready nothing_known old before → Quiet before now)
  kept_disk before now is_before is_now performed told ready =
      let carried = performed.told told nothing_known (answer_founded call old deeds answered) ready in
      record {
        reads = led_same deeds old before.reads now.reads are carried.reads;
        leaves = λ file bytes held.
            (let image : Image = λ other. if other == file then bytes else now.reads other in
            let here : image file ≡ bytes = cond-true (file == file) bytes (now.reads file) (same_number file) in
            let from = carried.images image (λ other. one_of file bytes held other) in
            let L : List ℕ → Type 0 = λ one. before.leaves file one in
            subst L (sym (led_same deeds old from.0 image are from.2 file) ∙ here) (from.1 file));
        later = carried.moments.later;
        since = λ moment image le left. elim (carried.moments.each moment image le left) [
          | inl was ↦ was
          | inr from ↦ is_before.counts_now moment image le
              (λ file. (let L : List ℕ → Type 0 = λ one. before.leaves file one in
              subst L (sym (crashed_same deeds old from.0 image are from.2 file)) (from.1 file)))
        ];
      }
    where
      same_number : (a : ℕ) → (a == a) ≡ true
      same_number a = elim (eqb_tells a a) [
        | inl is ↦ is.0
        | inr not ↦ absurd (not.1 refl)
      ]

      one_of : (file : ℕ) (bytes : List ℕ) → now.leaves file bytes → (other : ℕ) → now.leaves other (if other == file then bytes else now.reads other)
      one_of file bytes held other = elim (eqb_tells other file) [
        | inl is ↦ (let L : List ℕ → Type 0 = λ one. now.leaves other one in
            let N : ℕ → Type 0 = λ n. now.leaves n bytes in
            subst L (sym (cond-true (other == file) bytes (now.reads other) is.0)) (subst N (sym is.1) held))
        | inr not ↦ (let L : List ℕ → Type 0 = λ one. now.leaves other one in
            subst L (sym (cond-false (other == file) bytes (now.reads other) not.0)) (is_now.reads_one other))
      ]

-- ---- a refused call

module _ (call : Call) (refusal : Refusal) (old new : RoomView) (is : call.reply ≡ replies.Refused refusal) (fine : IsNoFault refusal) (deeds : List Deed)
    (answered : IsAnswer call old deeds) where
  pub refused_room : (before now : DiskView) → Performed deeds old new before now → new ≡ old
  refused_room = kept_room call old new deeds answered (answer_reads call refusal old deeds is fine answered)

  pub refused_disk : (before now : DiskView) → IsDisk before → IsDisk now → Performed deeds old new before now
      → Told before.tells (Ready nothing_known old before → Quiet before now)
  refused_disk = kept_disk call old new deeds answered (answer_reads call refusal old deeds is fine answered)
