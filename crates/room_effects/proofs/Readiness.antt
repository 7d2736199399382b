-- What stays of a room that is ready for its disk: the cartridges in its drives, and what is known
-- of cartridges.
use Rattle.std.proofs.Common.{◌≡◌, ◌≢◌, ◌⊎◌, ℕ, suc, zero, ◌-◌, ◌≤◌, ◌==◌, Bool, true, false, if◌then◌else◌, List, [], ◌∷◌, length, refl, sym, ap, ◌∙◌, subst, arith, inl, inr}
use Rattle.std.proofs.lemmas.Bool.{cases_eq}
use Rattle.std.proofs.lemmas.Bool.Decides.{eqb_tells}
use Rattle.std.specs.List.{AllByRecursion}
use Rattle.std.specs.Prelude.{Option, Some, None, IfSome, IsTrue, slice_index_or}
use Rattle.room_disk.specs.Disk.{DiskView, Others, Quiet, Settled}
use Rattle.room_disk.proofs.Runs.{settled_others, settled_quiet}
use Rattle.volume_store.specs.Committed.{CommittedFile, Closed, Committed, Labelled}
use Rattle.volume_store.specs.Writes.{cart_file}
use Rattle.volume_store.specs.declared.commit.Volume.{Volume}
use Rattle.cat_journal.specs.Images.{IsJournal}
use Rattle.cat_journal.specs.Journal.{JournalView}
use Rattle.slot_changer.specs.Committing.{cart_file_of}
use Rattle.slot_changer.specs.Drives.{DriveView, IsDrive, in_drive, set_drive}
use Rattle.slot_changer.proofs.Changing.{set_other, set_same}
use Rattle.room_effects.specs.View.{RoomView, AreDrives, IsInDrive, held_in}
use Rattle.room_effects.specs.Effects.{Seen}
use Rattle.room_effects.specs.Files.{IsSeen}
use Rattle.room_effects.specs.Running.{IsCarried, Known, Ready, Stands}
use Rattle.room_effects.proofs.Journals.{journal_quiet}

-- ---- what is in a drive

each_at : (P : DriveView → Type 0) (drives : List (Option DriveView)) (place : ℕ) (one : DriveView)
    → AllByRecursion (λ held. IfSome held P) drives → slice_index_or drives place None ≡ Some one → P one
each_at P [] place one each is = absurd (cc is)
each_at P (held ∷ drives) zero one each is = let Q : Option DriveView → Type 0 = λ h. IfSome h P in subst Q is each.0
each_at P (held ∷ drives) (suc place) one each is = each_at P drives place one each.1 is

-- a volume in a drive may be written
pub held_is : (drives : List (Option DriveView)) (drive : ℕ) (one : DriveView) → AreDrives drives → in_drive drives drive ≡ Some one → IsInDrive one
held_is drives drive one are is = each_at IsInDrive drives (drive - 1) one are.each is

-- what is in the drives once one of them was set
pub was_set : (drives : List (Option DriveView)) (drive other : ℕ) (held : Option DriveView) (one : DriveView) → length drives ≡ 4
    → IsDrive drive → IsDrive other → in_drive (set_drive drives drive held) other ≡ Some one
    → ((other ≡ drive) × (held ≡ Some one)) ⊎ ((other ≢ drive) × (in_drive drives other ≡ Some one))
was_set drives drive other held one four is is_other now =
    elim (cases_eq other drive) [
      | inl same ↦ inl (same, sym (set_same drives drive held four is) ∙ ap (in_drive (set_drive drives drive held)) (sym same) ∙ now)
      | inr apart ↦ inr (apart, sym (set_other drives drive other held is is_other apart) ∙ now)
    ]

-- the cartridge of one drive isn't that of another
pub other_cart : (drives : List (Option DriveView)) (drive other : ℕ) (one two : DriveView) → AreDrives drives → IsDrive drive → IsDrive other
    → in_drive drives drive ≡ Some one → in_drive drives other ≡ Some two → other ≢ drive → cart_file_of two ≢ cart_file_of one
other_cart drives drive other one two are is is_other held also apart same =
    apart (are.apart other drive two one is_other is also held (omega (arith, same)))

-- ---- one cartridge

-- a cartridge of which another file was written
pub carried_other : (before now : DiskView) (file : ℕ) (one : DriveView) → Others file before now → cart_file_of one ≢ file
    → IsCarried before one → IsCarried now one
carried_other before now file one others apart carried =
    let P : List ℕ → Type 0 = λ bytes. Committed bytes (Labelled one.volume.label carried.files.0 (Closed one.volume.mark)) in
    record {
      settled = settled_others file (cart_file_of one) before now apart others carried.settled;
      files = (carried.files.0, subst P (sym (others.reads (cart_file_of one) apart)) carried.files.1);
    }

pub carried_quiet : (before now : DiskView) (one : DriveView) → Quiet before now → IsCarried before one → IsCarried now one
carried_quiet before now one quiet carried =
    let P : List ℕ → Type 0 = λ bytes. Committed bytes (Labelled one.volume.label carried.files.0 (Closed one.volume.mark)) in
    record {
      settled = settled_quiet before now (cart_file_of one) quiet carried.settled;
      files = (carried.files.0, subst P (sym (quiet.reads (cart_file_of one))) carried.files.1);
    }

-- a volume with another buffer
pub carried_as : (disk : DiskView) (old one : DriveView) → old.volume ≡ one.volume → IsCarried disk old → IsCarried disk one
carried_as disk old one same carried =
    let S : Volume → Type 0 = λ volume. Settled disk (cart_file volume.cart.0) in
    let F : Volume → Type 0 = λ volume. (files : List CommittedFile) × Committed (disk.reads (cart_file volume.cart.0)) (Labelled volume.label files (Closed volume.mark)) in
    record { settled = subst S same carried.settled; files = subst F same carried.files }

pub stands_other : (before now : DiskView) (file cart : ℕ) (seen : Seen) → Others file before now → cart_file cart ≢ file
    → Stands before cart seen → Stands now cart seen
stands_other before now file cart seen others apart stands =
    let P : List ℕ → Type 0 = λ bytes. IsSeen cart seen bytes in
    record {
      settled = settled_others file (cart_file cart) before now apart others stands.settled;
      is = subst P (sym (others.reads (cart_file cart) apart)) stands.is;
    }

pub stands_quiet : (before now : DiskView) (cart : ℕ) (seen : Seen) → Quiet before now → Stands before cart seen → Stands now cart seen
stands_quiet before now cart seen quiet stands =
    let P : List ℕ → Type 0 = λ bytes. IsSeen cart seen bytes in
    record {
      settled = settled_quiet before now (cart_file cart) quiet stands.settled;
      is = subst P (sym (quiet.reads (cart_file cart))) stands.is;
    }

-- what is still known was known
pub still_known : (gone : Bool) (was : Option Seen) (seen : Seen) → (if gone then None else was) ≡ Some seen → (gone ≡ false) × (was ≡ Some seen)
still_known true was seen is = absurd (cc is)
still_known false was seen is = (refl, is)

-- numbers that a test finds apart
pub are_apart : (one other : ℕ) → (one == other) ≡ false → one ≢ other
are_apart one other differ same = elim (eqb_tells one other) [
  | inl alike ↦ absurd (let no : ◌≡◌ {A = Bool} true false = sym alike.0 ∙ differ in cc)
  | inr unlike ↦ absurd (unlike.1 same)
]

-- ---- rooms

-- a file of the journal was written, or the room is closed
pub ready_journal : (known : Known) (room new : RoomView) (file : ℕ) (before now : DiskView) → file ≤ 1 → AreDrives room.drives
    → ((drive : ℕ) (one : DriveView) → IsDrive drive → held_in new drive ≡ Some one → held_in room drive ≡ Some one)
    → Others file before now → (IsTrue new.is_open → IsJournal new.journal now) → Ready known room before → Ready known new now
ready_journal known room new file before now low are fewer others journal ready = record {
  journal = journal;
  drives = λ drive one is held. (let was = fewer drive one is held in
      let cart = (held_is room.drives drive one are was).mounted.cart.0 in
      carried_other before now file one others (λ same. omega (arith, low, cart, same)) (ready.drives drive one is was));
  seen = λ cart seen is known_so. stands_other before now file cart seen others (λ same. omega (arith, low, is.0, same)) (ready.seen cart seen is known_so);
}

-- nothing changed on the disk
pub ready_quiet : (known : Known) (room : RoomView) (before now : DiskView) → Quiet before now → Ready known room before → Ready known room now
ready_quiet known room before now quiet ready = record {
  journal = λ opens. journal_quiet room.journal before now quiet (ready.journal opens);
  drives = λ drive one is held. carried_quiet before now one quiet (ready.drives drive one is held);
  seen = λ cart seen is known_so. stands_quiet before now cart seen quiet (ready.seen cart seen is known_so);
}

-- the volume of a drive is that of one in the room before
pub record WasIn (room : RoomView) (drive : ℕ) (one : DriveView) : Type 0 where
  pub old : DriveView
  pub held : held_in room drive ≡ Some old
  pub volume : old.volume ≡ one.volume

-- a room with the same journal, and with no volumes but those that were in the same drives
pub ready_as : (known : Known) (room new : RoomView) (disk : DiskView) → (IsTrue new.is_open → IsTrue room.is_open)
    → new.journal ≡ room.journal
    → ((drive : ℕ) (one : DriveView) → IsDrive drive → held_in new drive ≡ Some one → WasIn room drive one)
    → Ready known room disk → Ready known new disk
ready_as known room new disk opens same was ready = record {
  journal = λ open_now. (let P : JournalView → Type 0 = λ journal. IsJournal journal disk in subst P (sym same) (ready.journal (opens open_now)));
  drives = λ drive one is held. (let old = was drive one is held in carried_as disk old.old one old.volume (ready.drives drive old.old is old.held));
  seen = ready.seen;
}
