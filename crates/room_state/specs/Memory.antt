-- What becomes of a room's memory: what is prepared stays, but for what effects take.
use Rattle.std.specs.Prelude.{ℕ, ◌-◌, ◌==◌, ◌≤◌, if◌then◌else◌}
use Rattle.catalog_change.specs.declared.change.Change.TheVariants.{IndexPart}
use Rattle.room_catalog.specs.Held.{CatalogueRoom}
use Rattle.room_catalog.specs.Ready.{KeepsRoom, TakesRoom}
use Rattle.save_session.specs.Sessions.{room_for}
use Rattle.cat_journal.specs.Journal.{JournalView}
use Rattle.room_effects.specs.Effects.{Effect, Close, Enter, EnterPart, Open, Push}
use Rattle.room_effects.specs.Memory.{RoomMemory}

-- the journal of a room, whose memory is told apart
abbrev pub without_spare : JournalView → JournalView
without_spare journal = record journal { spare = 0 }

-- ---- what is kept

-- no memory is less
pub record KeepsMemory (before after : RoomMemory) : Type 0 where
  pub catalogue : KeepsRoom before.catalogue after.catalogue
  pub parts : (ssid : ℕ) → room_for ssid before.parts ≤ room_for ssid after.parts
  pub entry : before.entry ≤ after.entry
  pub closed : before.closed ≤ after.closed

-- what an effect takes of the catalogue's room
abbrev pub TakesCatalogue : Effect → CatalogueRoom → CatalogueRoom → Type 0
TakesCatalogue (Enter m change) = TakesRoom change
TakesCatalogue (EnterPart m ssid part index) = TakesRoom (IndexPart ssid part index)
TakesCatalogue _ = KeepsRoom

-- of the room for parts in a set's session: a push takes one, and it goes with the session
abbrev pub parts_left : Effect → ℕ → ℕ → ℕ
parts_left (Push drive ssid copy offset bytes) other room = if other == ssid then room - 1 else room
parts_left (Open head) other room = if other == head.ssid.0 then 0 else room
parts_left (Close ssid) other room = if other == ssid then 0 else room
parts_left _ other room = room

-- an effect that was done took no more
pub record TakesMemory (effect : Effect) (before after : RoomMemory) : Type 0 where
  pub catalogue : TakesCatalogue effect before.catalogue after.catalogue
  pub parts : (ssid : ℕ)
      → parts_left effect ssid (room_for ssid before.parts) ≤ room_for ssid after.parts
  pub entry : before.entry ≤ after.entry
  pub closed : before.closed ≤ after.closed
