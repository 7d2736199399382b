-- What a run of effects makes of a room and its disk. A crash image is told from an image that the
-- disk might have had before the run, on which what was done is done again.
use Rattle.std.specs.Prelude.{◌≡◌, ◌⊎◌, ℕ, ◌+◌, ◌-◌, ◌^◌, ◌≤◌, min, ◌==◌, Bool, false, IsTrue}
use Rattle.std.specs.Prelude.{List, [], ◌∷◌, ◌++◌, if◌then◌else◌, Option, Some, None, IsSome}
use Rattle.std.specs.Prelude.{Result, Ok, Err}
use Rattle.room_base.specs.Outside.{Told}
use Rattle.room_base.specs.declared.numbers.Moment.{Moment}
use Rattle.room_base.specs.declared.refusal.Refusal.{Refusal}
use Rattle.room_disk.specs.Disk.{DiskView, Image, Images, Leaves, Settled}
use Rattle.volume_store.specs.Committed.{CommittedFile, Closed, Committed, Labelled}
use Rattle.volume_store.specs.Writes.{IsCart, cart_file}
use Rattle.cat_journal.specs.Images.{IsJournal}
use Rattle.catalog_change.specs.declared.change.Change.{Change}
use Rattle.catalog_change.specs.declared.change.Change.TheVariants.{IndexPart}
use Rattle.catalog_spelling.specs.Changes.{Stamped}
use Rattle.catalog_spelling.specs.Decoding.{IsStamped}
use Rattle.room_catalog.specs.Held.{CatalogueLists}
use Rattle.slot_changer.specs.Committing.{cart_file_of}
use Rattle.slot_changer.specs.Drives.{DriveView, IsDrive}
use Rattle.room_effects.specs.View.{RoomView, held_in}
use Rattle.room_effects.specs.Effects.{
  Effect,
  Enter,
  EnterPart,
  Look,
  Commit,
  PutIn,
  WriteLabel,
  Seen,
  SeenVolume,
  Deed,
  Done,
  Broken,
  after,
  after_all,
  effect_of,
}
use Rattle.room_catalog.specs.Changing.{catalogue_after, with_index}
use Rattle.room_effects.specs.Files.{IsSeen, Touches, Torn, Whole, is_on, target}
use Rattle.room_effects.specs.Faults.{fault_of}
use Rattle.room_effects.specs.Needs.{CanDo}

-- ---- deeds over the files

abbrev pub Goes : Deed → RoomView → Image → Image → Type 0
Goes (Done effect) room = Touches (target effect room) (Whole effect room)
Goes (Broken effect) room = Touches (target effect room) (Torn effect room)

-- the deeds make the one of the other
abbrev pub Led : List Deed → RoomView → Image → Image → Type 0
Led [] room before image = image ≡ before
Led (deed ∷ deeds) room before image =
    (mid : Image) × Goes deed room before mid × Led deeds (after deed room) mid image

-- the effect of a deed is cut short, and leaves the other
abbrev pub IsCut : Deed → RoomView → Image → Image → Type 0
IsCut deed room = Touches (target (effect_of deed) room) (Torn (effect_of deed) room)

-- a crash that comes while the deeds are done leaves the other: some of them are done, and the next
-- is cut short
abbrev pub Crashed : List Deed → RoomView → Image → Image → Type 0
Crashed [] room before image = image ≡ before
Crashed (deed ∷ deeds) room before image = IsCut deed room before image
    ⊎ ((mid : Image) × Goes deed room before mid × Crashed deeds (after deed room) mid image)

-- Each effect is allowed in the room and over the files as they are then, wherever the deeds before
-- it may have led.
abbrev pub AreAllowed : (Effect → RoomView → Image → Type 0) → List Deed → RoomView → Image → Type 0
AreAllowed Allows [] room image = Unit {0}
AreAllowed Allows (deed ∷ deeds) room image = Allows (effect_of deed) room image
    × ((next : Image) → Goes deed room image next → AreAllowed Allows deeds (after deed room) next)

-- ---- who may do what, what failed, and what was entered

-- each deed can be done in the room as it is then, so that nothing follows a broken entry
abbrev pub AllCan : List Deed → RoomView → Type 0
AllCan [] room = Unit {0}
AllCan (deed ∷ deeds) room = CanDo (effect_of deed) room × AllCan deeds (after deed room)

-- What is written of a change, or of a part, can be read again: its numbers are in the ranges of
-- their types, which the call that spells it knows.
abbrev pub IsWritten : Effect → Type 0
IsWritten (Enter m change) = IsStamped m.0 change
IsWritten (EnterPart m ssid part index) = IsStamped m.0 (IndexPart ssid part index)
IsWritten _ = Unit {0}

abbrev pub AreWritten : List Deed → Type 0
AreWritten [] = Unit {0}
AreWritten (deed ∷ deeds) = IsWritten (effect_of deed) × AreWritten deeds

-- each deed is a read that was done: it leaves the room and the files as they are
abbrev pub AreLooks : List Deed → Type 0
AreLooks [] = Unit {0}
AreLooks (Done (Look cart seen) ∷ deeds) = AreLooks deeds
AreLooks _ = ⊥

-- how many of the deeds failed on a file
abbrev pub failure : ℕ → Deed → RoomView → ℕ
failure file (Done effect) room = 0
failure file (Broken effect) room = if is_on file effect room then 1 else 0

abbrev pub failures : ℕ → List Deed → RoomView → ℕ
failures file [] room = 0
failures file (deed ∷ deeds) room =
    failure file deed room + failures file deeds (after deed room)

-- a change at its moment, with the index that the parts before it hold
abbrev pub stamped : Moment → Change → RoomView → Stamped
stamped m change room =
    record { moment = m.0; change = with_index room.catalogue.parts change }

-- the changes that were entered, in order; the last one may not stand where its entry failed
abbrev pub entered : Deed → RoomView → List Stamped
entered (Done (Enter m change)) room = stamped m change room ∷ []
entered (Broken (Enter m change)) room = stamped m change room ∷ []
entered _ room = []

abbrev pub trail : List Deed → RoomView → List Stamped
trail [] room = []
trail (deed ∷ deeds) room = entered deed room ++ trail deeds (after deed room)

-- the catalogue after the changes of a trail
abbrev pub catalogue_behind : List Stamped → CatalogueLists → CatalogueLists
catalogue_behind [] lists = lists
catalogue_behind (one ∷ more) lists =
    catalogue_behind more (catalogue_after (record { 0 = one.moment }) one.change lists)

-- ---- what is known of cartridges

-- what was seen of each cartridge, as far as it still stands
abbrev pub Known : Type 0
Known = ℕ → Option Seen

abbrev pub nothing_known : Known
nothing_known cart = None

-- of this cartridge it is known, of each other what was
abbrev pub known_of : ℕ → Seen → Known → Known
known_of cart seen known other = if other == cart then Some seen else known other

-- whether the cartridge is that of the volume in a drive
abbrev pub has_cart : ℕ → Option DriveView → Bool
has_cart cart None = false
has_cart cart (Some one) = one.volume.cart.0 == cart

abbrev pub writes_on : ℕ → Effect → RoomView → Bool
writes_on cart (Commit drive asking) room = has_cart cart (held_in room drive)
writes_on cart (WriteLabel label) room = label.cart.0 == cart
writes_on cart _ room = false

-- a read that is done makes known what it saw, and a write makes unknown what it wrote on
abbrev pub known_behind : Known → Deed → RoomView → Known
known_behind known (Done (Look cart seen)) room = known_of cart seen known
known_behind known deed room =
    λ cart. if writes_on cart (effect_of deed) room then None else known cart

abbrev pub known_behind_all : Known → List Deed → RoomView → Known
known_behind_all known [] room = known
known_behind_all known (deed ∷ deeds) room =
    known_behind_all (known_behind known deed room) deeds (after deed room)

-- A label is written on a cartridge that was looked at, and the volume is put into a drive that was
-- seen on its cartridge. The room knows all other files that effects write.
abbrev pub IsFounded : Known → Effect → Type 0
IsFounded known (WriteLabel label) = IsSome (known label.cart.0)
IsFounded known (PutIn drive volume) = known volume.cart.0 ≡ Some (SeenVolume (Ok volume))
IsFounded known _ = Unit {0}

abbrev pub AreFounded : Known → List Deed → RoomView → Type 0
AreFounded known [] room = Unit {0}
AreFounded known (deed ∷ deeds) room = IsFounded known (effect_of deed)
    × AreFounded (known_behind known deed room) deeds (after deed room)

-- ---- a room and its disk fit together

-- nothing is pending on the cartridge of a volume in a drive, which has the volume's label, and
-- files that end at its mark place
pub record IsCarried (disk : DiskView) (one : DriveView) : Type 0 where
  pub settled : Settled disk (cart_file_of one)
  pub files : (files : List CommittedFile) × Committed (disk.reads (cart_file_of one))
      (Labelled one.volume.label files (Closed one.volume.mark))

-- what was seen of a cartridge stands on it, and nothing is pending
pub record Stands (disk : DiskView) (cart : ℕ) (seen : Seen) : Type 0 where
  pub settled : Settled disk (cart_file cart)
  pub is : IsSeen cart seen (disk.reads (cart_file cart))

-- The journal's files are those that an open room knows, with nothing pending; the cartridges in
-- its drives are those of their volumes; and what is known of cartridges stands.
pub record Ready (known : Known) (room : RoomView) (disk : DiskView) : Type 0 where
  pub journal : IsTrue room.is_open → IsJournal room.journal disk
  pub drives : (drive : ℕ) (one : DriveView) → IsDrive drive → held_in room drive ≡ Some one
      → IsCarried disk one
  pub seen : (cart : ℕ) (seen : Seen) → IsCart cart → known cart ≡ Some seen
      → Stands disk cart seen

-- ---- the deeds were done

-- P holds of the image and one that the disk might have had
abbrev pub FromOne : DiskView → (Image → Image → Type 0) → Image → Type 0
FromOne disk P image = (first : Image) × Images disk first × P first image

-- what is told of a disk on which the deeds were done, where this was known of its cartridges
pub record Carried (known : Known) (deeds : List Deed) (old new : RoomView)
    (before now : DiskView) : Type 0 where
  pub ready : Ready (known_behind_all known deeds old) new now
  pub reads : Led deeds old before.reads now.reads
  pub images : (image : Image) → Images now image → FromOne before (Led deeds old) image
  pub moments : Leaves before now (FromOne before (Crashed deeds old))

-- a count that rose so often, or stands at its last value
abbrev pub risen_by : ℕ → ℕ → ℕ
risen_by times count = min (count + times) (2 ^ 64 - 1)

-- the room and the disk after these deeds
pub record Performed (deeds : List Deed) (old new : RoomView) (before now : DiskView)
    : Type 0 where
  pub room : new ≡ after_all deeds old
  pub can : AllCan deeds old
  pub written : AreWritten deeds
  pub tells : now.tells ≡ before.tells
  pub faults : (file : ℕ)
      → risen_by (failures file deeds old) (before.faults file) ≤ now.faults file
  pub told : Told before.tells ((known : Known) → AreFounded known deeds old
      → Ready known old before → Carried known deeds old new before now)

-- ---- effects, to their end or to the first that fails

-- the deeds are the effects in order: all of them, or those up to the one that failed, whose fault
-- is answered
abbrev pub RanTo : {T : Type 0} → List Effect → RoomView → Result T Refusal → List Deed → Type 0
RanTo [] room (Ok _) [] = Unit {0}
RanTo (effect ∷ effects) room answer (Done one ∷ deeds) =
    (one ≡ effect) × RanTo effects (after (Done one) room) answer deeds
RanTo (effect ∷ effects) room (Err fault) (Broken one ∷ []) =
    (one ≡ effect) × (fault_of effect room ≡ Some fault)
RanTo effects room answer deeds = ⊥

-- a call does these effects, or stops at the first that fails
pub record Does {T : Type 0} (effects : List Effect) (answer : Result T Refusal)
    (old new : RoomView) (before now : DiskView) : Type 0 where
  pub deeds : List Deed
  pub ran : RanTo effects old answer deeds
  pub performed : Performed deeds old new before now
