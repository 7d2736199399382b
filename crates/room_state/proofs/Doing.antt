-- What may be done in the room that the fields are.
use Rattle.std.proofs.Common.{◌≡◌, refl, sym, subst}
use Rattle.room_base.specs.declared.numbers.Moment.{Moment}
use Rattle.catalog_change.specs.declared.change.Change.{Change}
use Rattle.catalog_change.specs.declared.change.Change.TheVariants.{Defined, Dropped, Loaded, Ejected, Labelled, Begun, Finished, Aborted, Amended, Deleted, Purged, CopyBegun, CopyDone, IndexPart, FinishedParts}
use Rattle.room_catalog.specs.Changing.{catalogue_after, lists_after}
use Rattle.room_catalog.specs.Held.{CatalogueLists}
use Rattle.room_effects.specs.Effects.{Effect}
use Rattle.room_effects.specs.Memory.{HeldRoom}
use Rattle.room_effects.specs.Needs.{CanDo, IsWholeChange}

-- the room of an opened value can do what that of the value can
pub can_in : (effect : Effect) (inside value : HeldRoom) → inside ≡ value → CanDo effect value.room → CanDo effect inside.room
can_in effect inside value is can = let Can : HeldRoom → Type 0 = λ held. CanDo effect held.room in subst Can (sym is) can

-- a change that is no part is made of the catalogue
pub whole_after : (m : Moment) (change : Change) (lists : CatalogueLists) → IsWholeChange change → lists_after m change lists ≡ catalogue_after m change lists
whole_after m (Defined resources) lists whole = refl
whole_after m (Dropped kind name) lists whole = refl
whole_after m (Loaded slot cart) lists whole = refl
whole_after m (Ejected slot) lists whole = refl
whole_after m (Labelled volid cart pool capacity was) lists whole = refl
whole_after m (Begun head) lists whole = refl
whole_after m (Finished ssid files bytes digest sections index) lists whole = refl
whole_after m (Aborted ssid) lists whole = refl
whole_after m (Amended ssid browse retain hold) lists whole = refl
whole_after m (Deleted ssid) lists whole = refl
whole_after m (Purged ssids) lists whole = refl
whole_after m (CopyBegun ssid copy) lists whole = refl
whole_after m (CopyDone ssid copy sections removed) lists whole = refl
whole_after m (FinishedParts ssid files bytes digest sections) lists whole = refl
whole_after m (IndexPart ssid part index) lists whole = absurd whole
