-- What fits in a room's memory without taking more, and what effects need of it.
use Rattle.std.specs.Prelude.{ℕ, ◌≤◌, ◌<◌, List, length}
use Rattle.catalog_change.specs.declared.change.Change.TheVariants.{IndexPart}
use Rattle.room_catalog.specs.Held.{CatalogueRoom, HeldCatalogue}
use Rattle.room_catalog.specs.Ready.{IsReady}
use Rattle.save_session.specs.Sessions.{PartRoom, IsOpen, room_for}
use Rattle.room_effects.specs.View.{RoomView, held_in}
use Rattle.room_effects.specs.Effects.{
  Effect,
  Enter,
  EnterPart,
  Commit,
  Push,
  ended_with,
  entry_bytes,
  part_bytes,
}

-- what fits in the catalogue, how many more parts fit in each session, how long an entry of the
-- journal may be, and how many sessions a failed commit may close
pub record RoomMemory : Type 0 where
  pub catalogue : CatalogueRoom
  pub parts : List PartRoom
  pub entry : ℕ
  pub closed : ℕ

-- a room in memory
pub record HeldRoom : Type 0 where
  pub room : RoomView
  pub memory : RoomMemory

abbrev pub catalogue_in : HeldRoom → HeldCatalogue
catalogue_in held = record { lists = held.room.catalogue; room = held.memory.catalogue }

-- The effect can be done without taking memory. A session that begins and a volume that is put into
-- a drive take theirs before anything is done, and all others need none.
abbrev pub HasMemoryFor : Effect → HeldRoom → Type 0
HasMemoryFor (Enter m change) held =
    IsReady (catalogue_in held) change × (length (entry_bytes m change) ≤ held.memory.entry)
HasMemoryFor (EnterPart m ssid part index) held =
    IsReady (catalogue_in held) (IndexPart ssid part index)
    × (length (part_bytes m ssid part index) ≤ held.memory.entry)
HasMemoryFor (Push drive ssid copy offset bytes) held =
    IsOpen ssid held.room.sessions → 0 < room_for ssid held.memory.parts
HasMemoryFor (Commit drive asking) held =
    length (ended_with (held_in held.room drive) asking held.room.sessions)
    ≤ held.memory.closed
HasMemoryFor _ held = Unit {0}
