-- What is known of a volume that is to be made.
use Rattle.std.specs.Prelude.{◌≡◌, true}
use Rattle.catalog_change.specs.Resources.{IsShortName}
use Rattle.volume_block.specs.Layout.{IsUnits}
use Rattle.volume_store.specs.Writes.{IsCart}
use Rattle.room_effects.specs.View.{RoomView}
use Rattle.room_effects.specs.Needs.{IsInNoDrive}
use Rattle.room_media.specs.declared.labelling.NewVolume.{NewVolume}
use Rattle.room_media.specs.Labelling.{has_pool, is_capacity}

-- its cartridge is in no drive, its pool is there, and its numbers are in their ranges
pub record IsNewVolume (new : NewVolume) (room : RoomView) : Type 0 where
  pub cart : IsCart new.cart.0
  pub in_no_drive : IsInNoDrive new.cart.0 room
  pub pool : IsShortName new.pool
  pub known : has_pool new.pool room ≡ true
  pub units : IsUnits new.units
  pub capacity : is_capacity new.units new.capacity ≡ true
