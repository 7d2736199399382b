-- The commit of a drive, as an effect.
use Rattle.std.proofs.Common.{◌≡◌, ℕ, ◌==◌, if◌then◌else◌, List, [], ◌∷◌, ◌++◌, refl, sym, ap, ◌∙◌, subst, arith, inl, inr}
use Rattle.std.specs.Option.{option_map}
use Rattle.std.specs.Prelude.{Option, Some, None, IfSome, IsSomeAnd, IsTrue, Result, Ok, Err}
use Rattle.room_base.specs.declared.numbers.Ssid.{Ssid}
use Rattle.room_base.specs.declared.refusal.Refusal.{Refusal}
use Rattle.room_base.specs.declared.refusal.Refusal.TheVariants.{DeviceFault}
use Rattle.room_disk.specs.Disk.{DiskView, IsDisk, Others, Settled}
use Rattle.room_disk.specs.Writing.{WritesFile}
use Rattle.volume_store.specs.Writes.{added_file}
use Rattle.cat_journal.specs.Images.{IsJournal}
use Rattle.cat_journal.specs.Journal.{JournalView}
use Rattle.slot_changer.specs.Committing.{AddsBuffer, MayAddBuffer, cart_file_of}
use Rattle.slot_changer.specs.Drives.{DriveView, IsDrive, after_commit, in_drive, set_drive}
use Rattle.slot_changer.specs.Taking.{CanCommit}
use Rattle.room_effects.specs.View.{RoomView, IsRoom, held_in}
use Rattle.room_effects.specs.Effects.{Commit, after_done, ended_with, without_drive}
use Rattle.room_effects.specs.Faults.{fault_of, ssids_of}
use Rattle.room_effects.specs.Files.{Commits, MayCommit, file_or_none}
use Rattle.room_effects.specs.Needs.{CanDo}
use Rattle.room_effects.specs.Running.{Does, IsCarried, Known, Ready, has_cart}
use Rattle.room_effects.proofs.Does.{does_broken, does_done}
use Rattle.room_effects.proofs.Journals.{journal_other}
use Rattle.room_effects.proofs.Readiness.{are_apart, carried_other, held_is, other_cart, stands_other, still_known, was_set}

-- what is in the drive that is committed
pub record Held (held : Option DriveView) (P : DriveView → Type 0) : Type 0 where
  pub one : DriveView
  pub is : held ≡ Some one
  pub has : P one

pub held_and : (held : Option DriveView) (P : DriveView → Type 0) → IsSomeAnd held P → Held held P
held_and None P has = absurd has
held_and (Some one) P has = record { one = one; is = refl; has = has }

-- ---- ready rooms

-- a room in which the volume of one drive was written, where that drive has another volume now
ready_driven : (known : Known) (drive : ℕ) (one : DriveView) (next : Option DriveView) (room new : RoomView) (before now : DiskView) → IsRoom room → IsDrive drive
    → held_in room drive ≡ Some one → new.drives ≡ set_drive room.drives drive next → new.journal ≡ room.journal → (IsTrue new.is_open → IsTrue room.is_open)
    → Others (cart_file_of one) before now → ((two : DriveView) → next ≡ Some two → IsCarried now two) → Ready known room before
    → Ready (λ cart. if one.volume.cart.0 == cart then None else known cart) new now
ready_driven known drive one next room new before now is is_drive held drives journal opens others carried ready =
    let file = cart_file_of one in
    let cart = (held_is room.drives drive one is.drives held).mounted.cart in
    let J : JournalView → Type 0 = λ j. IsJournal j now in
    record {
      journal = λ open_now. subst J (sym journal) (journal_other room.journal file before now (omega (arith, cart.0)) others (ready.journal (opens open_now)));
      drives = λ other two is_other there. (
          let there_so : in_drive (set_drive room.drives drive next) other ≡ Some two = ap (λ (all : List (Option DriveView)). in_drive all other) (sym drives) ∙ there in
          elim (was_set room.drives drive other next two is.drives.four is_drive is_other there_so) [
            | inl here ↦ carried two here.1
            | inr apart ↦ carried_other before now file two others (other_cart room.drives drive other one two is.drives is_drive is_other held apart.1 apart.0)
                (ready.drives other two is_other apart.1)
          ]);
      seen = λ cart seen is_cart known_so. (let still = still_known (one.volume.cart.0 == cart) (known cart) seen known_so in
          let apart = are_apart one.volume.cart.0 cart still.0 in
          stands_other before now file cart seen others (λ same. apart (omega (arith, same))) (ready.seen cart seen is_cart still.1));
    }

-- the committed volume is carried
committed_is_carried : (one : DriveView) (before now : DiskView) → IsCarried before one → Settled now (cart_file_of one)
    → AddsBuffer one (before.reads (cart_file_of one)) (now.reads (cart_file_of one)) → IsCarried now (after_commit one)
committed_is_carried one before now carried settled adds = record {
  settled = settled;
  files = (carried.files.0 ++ added_file one.volume.mark one.buffer.blocks ∷ [], adds.added carried.files.0 carried.files.1);
}

some_of : (one two : DriveView) → Some one ≡ Some two → one ≡ two
some_of one two same = cc same

-- ---- the effect

-- what the drive's call promises, where there is a volume
commit_as : {T E : Type 0} (answer : Result T E) (held : Option DriveView) (before now : DiskView) → IsSomeAnd held CanCommit
    → IfSome held (λ one. WritesFile (cart_file_of one) (AddsBuffer one) (MayAddBuffer one) before now answer)
    → WritesFile (file_or_none (option_map cart_file_of held)) (Commits held) (MayCommit held) before now answer
commit_as answer None before now some wrote = absurd some
commit_as answer (Some one) before now some wrote = wrote

-- nothing is pending on its cartridge
settled_held : (drive : ℕ) (room : RoomView) (known : Known) (before : DiskView) (one : DriveView) → IsDrive drive → held_in room drive ≡ Some one
    → Ready known room before → Settled before (file_or_none (option_map cart_file_of (held_in room drive)))
settled_held drive room known before one is_drive held ready =
    let S : Option DriveView → Type 0 = λ h. Settled before (file_or_none (option_map cart_file_of h)) in
    subst S (sym held) (ready.drives drive one is_drive held).settled

pub does_commit : {T : Type 0} (U E : Type 0) (drive : ℕ) (asking : Option ℕ) (value : T) (lower : U) (room new : RoomView) (before now : DiskView)
    → IsRoom room → CanDo (Commit drive asking) room → new ≡ after_done (Commit drive asking) room → IsDisk before
    → IfSome (held_in room drive) (λ one. WritesFile {T = U} {E = E} (cart_file_of one) (AddsBuffer one) (MayAddBuffer one) before now (Ok lower))
    → Does {T = T} (Commit drive asking ∷ []) (Ok value) room new before now
does_commit {T} U E drive asking value lower room new before now is can made is_before wrote =
    let W : Option DriveView → Type 0 = λ h. IfSome h (λ one. WritesFile {T = U} {E = E} (cart_file_of one) (AddsBuffer one) (MayAddBuffer one) before now (Ok lower)) in
    let there = held_and (held_in room drive) CanCommit can.needs.1 in
    let one = there.one in
    let wrote_one = subst W there.is wrote in
    does_done {T = T} {U = U} {E = E} (Commit drive asking) value lower room new before now can tt made is_before
    (commit_as {T = U} {E = E} (Ok lower) (held_in room drive) before now can.needs.1 wrote)
    (λ told known founded ready. (
      settled_held drive room known before one can.needs.0 there.is ready,
      (let R : Option DriveView → Type 0 = λ h. Ready (λ cart. if has_cart cart h then None else known cart)
          (record room { drives = set_drive room.drives drive (option_map after_commit h) }) now in
          subst R (sym there.is)
          (ready_driven known drive one (Some (after_commit one)) room (record room { drives = set_drive room.drives drive (Some (after_commit one)) }) before now is can.needs.0 there.is
          refl refl (λ opens. opens) (wrote_one.others told)
          (λ two same. let C : DriveView → Type 0 = λ it. IsCarried now it in
          subst C (some_of (after_commit one) two same)
          (committed_is_carried one before now (ready.drives drive one can.needs.0 there.is) (wrote_one.settled told) (wrote_one.whole told)))
          ready)),
    ))

-- the answer where it failed
pub commit_fault : (drive : ℕ) (asking : Option ℕ) (room : RoomView) (file : ℕ) (closed : List Ssid) → option_map cart_file_of (held_in room drive) ≡ Some file
    → closed ≡ ssids_of (ended_with (held_in room drive) asking room.sessions) → fault_of (Commit drive asking) room ≡ Some (DeviceFault file closed)
commit_fault drive asking room file closed is same = by (held_in room drive) is
  where
    by : (held : Option DriveView) → option_map cart_file_of held ≡ Some file
        → option_map (λ (one : DriveView). DeviceFault (cart_file_of one) (ssids_of (ended_with (held_in room drive) asking room.sessions))) held ≡ Some (DeviceFault file closed)
    by None is = absurd (cc is)
    by (Some one) is = let here : cart_file_of one ≡ file = cc is in ap (λ n. Some (DeviceFault n (ssids_of (ended_with (held_in room drive) asking room.sessions)))) here ∙ ap (λ (all : List Ssid). Some (DeviceFault file all)) (sym same)

pub does_commit_broken : {T : Type 0} (U E : Type 0) (drive : ℕ) (asking : Option ℕ) (fault : Refusal) (error : E) (room new : RoomView) (before now : DiskView)
    → IsRoom room → CanDo (Commit drive asking) room → new ≡ without_drive drive asking room → fault_of (Commit drive asking) room ≡ Some fault → IsDisk now
    → IfSome (held_in room drive) (λ one. WritesFile {T = U} {E = E} (cart_file_of one) (AddsBuffer one) (MayAddBuffer one) before now (Err error))
    → Does {T = T} (Commit drive asking ∷ []) (Err fault) room new before now
does_commit_broken {T} U E drive asking fault error room new before now is can made named is_now wrote =
    let W : Option DriveView → Type 0 = λ h. IfSome h (λ one. WritesFile {T = U} {E = E} (cart_file_of one) (AddsBuffer one) (MayAddBuffer one) before now (Err error)) in
    let there = held_and (held_in room drive) CanCommit can.needs.1 in
    let one = there.one in
    let wrote_one = subst W there.is wrote in
    does_broken {T = T} {U = U} {E = E} (Commit drive asking) fault error room new before now can tt made named is_now
    (commit_as {T = U} {E = E} (Err error) (held_in room drive) before now can.needs.1 wrote)
    (λ told known founded ready. (
      settled_held drive room known before one can.needs.0 there.is ready,
      (let R : Option DriveView → Type 0 = λ h. Ready (λ cart. if has_cart cart h then None else known cart) (without_drive drive asking room) now in
          subst R (sym there.is)
          (ready_driven known drive one None room (without_drive drive asking room) before now is can.needs.0 there.is
          refl refl (λ opens. opens) (wrote_one.others told)
          (λ two same. absurd (let no : ◌≡◌ {A = Option DriveView} None (Some two) = same in cc))
          ready)),
    ))
