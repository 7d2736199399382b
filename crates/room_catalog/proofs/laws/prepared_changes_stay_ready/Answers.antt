use Rattle.std.proofs.Common.{◌≡◌, ℕ, refl, arith}
use Rattle.catalog_change.specs.declared.change.Change.{Change}
use Rattle.catalog_change.specs.declared.change.Change.TheVariants.{Finished, FinishedParts, IndexPart, CopyDone}
use Rattle.room_catalog.specs.Held.{HeldCatalogue}
use Rattle.room_catalog.specs.Ready.{IsReady, MayGoBefore, TakesRoom, entries_left}
use Rattle.room_catalog.proofs.laws.prepared_changes_stay_ready.Goals as goal

-- a change that leaves the room for one entry leaves that for all
all_left : (change : Change) (room : ℕ) → entries_left change 1 ≡ 1 → entries_left change room ≡ room
all_left (FinishedParts ssid files bytes digest sections) room one = absurd (omega arith)
all_left _ room one = refl

stay_ready : (first second : Change) (held now : HeldCatalogue) → MayGoBefore first second → IsReady held second → TakesRoom first held.room now.room → IsReady now second
stay_ready first (Finished ssid files bytes digest sections index) held now before ready takes = omega (arith, takes.indexes)
stay_ready first (FinishedParts ssid files bytes digest sections) held now before ready takes = omega (arith, takes.indexes)
stay_ready first (IndexPart ssid part index) held now before ready takes = omega (arith, takes.entries, all_left first held.room.entries before)
stay_ready first (CopyDone ssid copy sections removed) held now before ready takes = tt
stay_ready first _ held now before ready takes = absurd before

pub returns : goal.returns
returns c = stay_ready
