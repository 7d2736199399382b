-- The snapshot behind which a journal goes on is that of the catalogue.
use Rattle.std.proofs.Common.{List, [], ◌∷◌, refl}
use Rattle.room_effects.specs.View.{RoomView}
use Rattle.room_effects.specs.Effects.{Effect, Enter, EnterPart, TurnOver, Commit, Look, WriteLabel, Push, PutIn, TakeOut, Open, Take, Close, Deed, after, effect_of}
use Rattle.room_effects.specs.Needs.{CanDo}
use Rattle.room_effects.specs.Reopening.{HasItsSnapshot, HaveSnapshots}
use Rattle.room_effects.specs.Running.{AllCan}
use Rattle.journal_files.specs.Files.{IsSnapshot}

has_its : (effect : Effect) (room : RoomView) → CanDo effect room → HasItsSnapshot IsSnapshot effect room
has_its (Enter m change) room can = tt
has_its (EnterPart m ssid part index) room can = tt
has_its (TurnOver snapshot) room can = record { text = can.needs.text; parts = refl }
has_its (Commit drive asking) room can = tt
has_its (Look cart seen) room can = tt
has_its (WriteLabel label) room can = tt
has_its (Push drive ssid copy offset bytes) room can = tt
has_its (PutIn drive volume) room can = tt
has_its (TakeOut drive) room can = tt
has_its (Open head) room can = tt
has_its (Take ssid piece) room can = tt
has_its (Close ssid) room can = tt

pub have_snapshots : (deeds : List Deed) (room : RoomView) → AllCan deeds room → HaveSnapshots IsSnapshot deeds room
have_snapshots [] room can = tt
have_snapshots (deed ∷ deeds) room can = (has_its (effect_of deed) room can.0, have_snapshots deeds (after deed room) can.1)
