-- Changes that were prepared.
use Rattle.std.proofs.Common.{◌≡◌, ℕ, refl, subst, sym, arith}
use Rattle.catalog_change.specs.declared.change.Change.{Change}
use Rattle.catalog_change.specs.declared.change.Change.TheVariants.{Defined, Dropped, Loaded, Ejected, Labelled, Begun, Finished, Aborted, Amended, Deleted, Purged, CopyBegun, CopyDone, IndexPart, FinishedParts}
use Rattle.room_catalog.specs.Held.{CatalogueLists, CatalogueRoom, HeldCatalogue}
use Rattle.room_catalog.specs.Ready.{IsReady, KeepsRoom, MayGoBefore, TakesRoom, entries_left}

-- a change stays ready where there is no less room
with_more : (change : Change) (lists : CatalogueLists) (before after : CatalogueRoom) → KeepsRoom before after
    → IsReady (record { lists = lists; room = before }) change → IsReady (record { lists = lists; room = after }) change
with_more (Defined new) lists before after keeps ready = (
  record {
    policies = omega (arith, ready.0.policies, keeps.resources.policies);
    pools = omega (arith, ready.0.pools, keeps.resources.pools);
    clients = omega (arith, ready.0.clients, keeps.resources.clients);
    schedules = omega (arith, ready.0.schedules, keeps.resources.schedules);
    groups = omega (arith, ready.0.groups, keeps.resources.groups);
  },
  ready.1,
)
with_more (Loaded slot cart) lists before after keeps ready = omega (arith, ready, keeps.slots)
with_more (Labelled volid cart pool capacity was) lists before after keeps ready = (omega (arith, ready.0, keeps.volumes), ready.1)
with_more (Begun head) lists before after keeps ready = (omega (arith, ready.0, keeps.records), omega (arith, ready.1, keeps.copies), ready.2)
with_more (Finished ssid files bytes digest sections index) lists before after keeps ready = omega (arith, ready, keeps.indexes)
with_more (FinishedParts ssid files bytes digest sections) lists before after keeps ready = omega (arith, ready, keeps.indexes)
with_more (CopyBegun ssid copy) lists before after keeps ready = omega (arith, ready, keeps.copies)
with_more (IndexPart ssid part index) lists before after keeps ready = omega (arith, ready, keeps.entries)
with_more (Dropped kind name) lists before after keeps ready = tt
with_more (Ejected slot) lists before after keeps ready = tt
with_more (Aborted ssid) lists before after keeps ready = tt
with_more (Amended ssid browse retain hold) lists before after keeps ready = tt
with_more (Deleted ssid) lists before after keeps ready = tt
with_more (Purged ssids) lists before after keeps ready = tt
with_more (CopyDone ssid copy sections removed) lists before after keeps ready = tt

pub ready_kept : (change : Change) (held now : HeldCatalogue) → now.lists ≡ held.lists → KeepsRoom held.room now.room → IsReady held change → IsReady now change
ready_kept change held now same keeps ready =
    let P : CatalogueLists → Type 0 = λ lists. IsReady (record { lists = lists; room = now.room }) change in
    subst P (sym same) (with_more change held.lists held.room now.room keeps ready)

-- a change that leaves the room for one entry leaves that for all
all_left : (change : Change) (room : ℕ) → entries_left change 1 ≡ 1 → entries_left change room ≡ room
all_left (FinishedParts ssid files bytes digest sections) room one = absurd (omega arith)
all_left _ room one = refl

pub ready_behind : (first second : Change) (held now : HeldCatalogue) → MayGoBefore first second → IsReady held second → TakesRoom first held.room now.room → IsReady now second
ready_behind first (Finished ssid files bytes digest sections index) held now before ready takes = omega (arith, takes.indexes)
ready_behind first (FinishedParts ssid files bytes digest sections) held now before ready takes = omega (arith, takes.indexes)
ready_behind first (IndexPart ssid part index) held now before ready takes = omega (arith, takes.entries, all_left first held.room.entries before)
ready_behind first (CopyDone ssid copy sections removed) held now before ready takes = tt
ready_behind first _ held now before ready takes = absurd before
