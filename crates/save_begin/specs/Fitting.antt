-- What is known of a save that is to begin, and of the room in which it begins.
use Rattle.std.specs.Prelude.{◌≡◌, ℕ, ◌≤◌, ◌<◌, false, length, None, IsTrue}
use Rattle.save_stream.specs.declared.head.SetHead.{SetHead}
use Rattle.save_stream.specs.Spelling.{IsHead, head_text}
use Rattle.catalog_change.specs.Resources.{IsSetName, IsShortName}
use Rattle.catalog_change.specs.declared.change.Change.TheVariants.{Begun}
use Rattle.room_catalog.specs.Fits.{FitsByKind}
use Rattle.room_catalog.specs.Held.{catalogue_of}
use Rattle.slot_changer.specs.Drives.{IsDrive}
use Rattle.slot_changer.specs.Taking.{takes}
use Rattle.save_session.specs.Sessions.{find_session}
use Rattle.room_effects.specs.View.{RoomView, held_in}
use Rattle.room_effects.specs.Entering.{is_at_ceiling}
use Rattle.save_begin.specs.Asking.{IsGroupAsked}
use Rattle.save_begin.specs.declared.asked.Asked.{Asked}
use Rattle.save_begin.specs.declared.choosing.Chosen.{Chosen}

-- each text has at most 255 bytes
pub record HasShortNames (head : SetHead) : Type 0 where
  pub client : length head.client ≤ 255
  pub set : length head.set ≤ 255
  pub group : length head.group ≤ 255
  pub pool : length head.pool ≤ 255

-- what the checks of a save have told
pub record MayBegin (asked : Asked) (room : RoomView) : Type 0 where
  pub client : IsShortName asked.client
  pub set : IsSetName asked.set
  pub group : IsGroupAsked asked.group
  pub few : length room.sessions < 64

-- while a number is left, the head is allowed and its record fits the catalogue
pub record IsNewHead (head : SetHead) (room : RoomView) : Type 0 where
  pub allowed : IsHead head
  pub fits : FitsByKind (catalogue_of room.catalogue) (Begun head)
  pub new : find_session head.ssid.0 room.sessions ≡ None

-- the drive takes the head's bytes
pub record GoesTo (head : SetHead) (room : RoomView) (drive : ℕ) : Type 0 where
  pub is : IsDrive drive
  pub takes : IsTrue (takes (held_in room drive) (length (head_text head)))

pub record IsChoice (room : RoomView) (chosen : Chosen) : Type 0 where
  pub head : is_at_ceiling room.catalogue ≡ false → IsNewHead chosen.head room
  pub drive : GoesTo chosen.head room chosen.drive
