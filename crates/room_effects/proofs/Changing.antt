-- What changes make of a catalogue, but for the parts that wait.
use Rattle.std.proofs.Common.{◌≡◌, ℕ, suc, zero, ◌+◌, List, [], ◌∷◌, ◌++◌, take, refl, sym, ap, ◌∙◌, subst}
use Rattle.room_base.specs.declared.numbers.Moment.{Moment}
use Rattle.catalog_change.specs.declared.change.Change.{Change}
use Rattle.catalog_change.specs.declared.change.Change.TheVariants.{Defined, Dropped, Loaded, Ejected, Labelled, Begun, Finished, Aborted, Amended, Deleted, Purged, CopyBegun, CopyDone, IndexPart, FinishedParts}
use Rattle.catalog_spelling.specs.Changes.{Stamped}
use Rattle.room_catalog.specs.Changing.{changed, catalogue_after, with_index, without_parts}
use Rattle.room_catalog.specs.Held.{CatalogueLists, Parts, no_parts}
use Rattle.room_effects.specs.View.{RoomView}
use Rattle.room_effects.specs.Effects.{Broken, Close, Commit, Deed, Done, Effect, Enter, EnterPart}
use Rattle.room_effects.specs.Effects.{Look, Open, Push, PutIn, Take, TakeOut, TurnOver, WriteLabel}
use Rattle.room_effects.specs.Effects.{after, effect_of}
use Rattle.room_effects.specs.Running.{catalogue_behind, entered, trail}

-- it doesn't close parts
abbrev pub IsIndexed : Change → Type 0
IsIndexed (FinishedParts ssid files bytes digest sections) = ⊥
IsIndexed _ = Unit {0}

pub with_index_is : (parts : Parts) (change : Change) → IsIndexed (with_index parts change)
with_index_is parts (Defined resources) = tt
with_index_is parts (Dropped kind name) = tt
with_index_is parts (Loaded slot cart) = tt
with_index_is parts (Ejected slot) = tt
with_index_is parts (Labelled volid cart pool capacity was) = tt
with_index_is parts (Begun head) = tt
with_index_is parts (Finished ssid files bytes digest sections index) = tt
with_index_is parts (Aborted ssid) = tt
with_index_is parts (Amended ssid browse retain hold) = tt
with_index_is parts (Deleted ssid) = tt
with_index_is parts (Purged ssids) = tt
with_index_is parts (CopyBegun ssid copy) = tt
with_index_is parts (CopyDone ssid copy sections removed) = tt
with_index_is parts (IndexPart ssid part index) = tt
with_index_is parts (FinishedParts ssid files bytes digest sections) = tt

-- a change with its index is as it is
pub index_again : (parts : Parts) (change : Change) → IsIndexed change → with_index parts change ≡ change
index_again parts (Defined resources) is = refl
index_again parts (Dropped kind name) is = refl
index_again parts (Loaded slot cart) is = refl
index_again parts (Ejected slot) is = refl
index_again parts (Labelled volid cart pool capacity was) is = refl
index_again parts (Begun head) is = refl
index_again parts (Finished ssid files bytes digest sections index) is = refl
index_again parts (Aborted ssid) is = refl
index_again parts (Amended ssid browse retain hold) is = refl
index_again parts (Deleted ssid) is = refl
index_again parts (Purged ssids) is = refl
index_again parts (CopyBegun ssid copy) is = refl
index_again parts (CopyDone ssid copy sections removed) is = refl
index_again parts (IndexPart ssid part index) is = refl
index_again parts (FinishedParts ssid files bytes digest sections) is = absurd is

-- what a change makes of a catalogue is the same whatever parts waited
changed_bare : (number : ℕ) (m : Moment) (change : Change) (lists : CatalogueLists)
    → without_parts (changed number m change lists) ≡ without_parts (changed number m change (without_parts lists))
changed_bare number m (Defined resources) lists = refl
changed_bare number m (Dropped kind name) lists = refl
changed_bare number m (Loaded slot cart) lists = refl
changed_bare number m (Ejected slot) lists = refl
changed_bare number m (Labelled volid cart pool capacity was) lists = refl
changed_bare number m (Begun head) lists = refl
changed_bare number m (Finished ssid files bytes digest sections index) lists = refl
changed_bare number m (Aborted ssid) lists = refl
changed_bare number m (Amended ssid browse retain hold) lists = refl
changed_bare number m (Deleted ssid) lists = refl
changed_bare number m (Purged ssids) lists = refl
changed_bare number m (CopyBegun ssid copy) lists = refl
changed_bare number m (CopyDone ssid copy sections removed) lists = refl
changed_bare number m (IndexPart ssid part index) lists = refl
changed_bare number m (FinishedParts ssid files bytes digest sections) lists = refl

-- a change with its index makes the same whatever parts wait
pub after_bare : (m : Moment) (change : Change) (lists : CatalogueLists) → IsIndexed change
    → catalogue_after m change lists ≡ catalogue_after m change (without_parts lists)
after_bare m change lists is =
    let number = lists.number + 1 in
    ap (λ (c : Change). without_parts (changed number m c lists)) (index_again lists.parts change is)
    ∙ changed_bare number m change lists
    ∙ ap (λ (c : Change). without_parts (changed number m c (without_parts lists))) (sym (index_again no_parts change is))

-- the change with the index that waits makes what the change makes
pub after_indexed : (m : Moment) (change : Change) (lists : CatalogueLists)
    → catalogue_after m (with_index lists.parts change) lists ≡ catalogue_after m change lists
after_indexed m change lists =
    ap (λ (c : Change). without_parts (changed (lists.number + 1) m c lists))
    (index_again lists.parts (with_index lists.parts change) (with_index_is lists.parts change))

-- ---- the changes of a trail

abbrev pub AreIndexed : List Stamped → Type 0
AreIndexed [] = Unit {0}
AreIndexed (one ∷ more) = IsIndexed one.change × AreIndexed more

indexed_append : (first more : List Stamped) → AreIndexed first → AreIndexed more → AreIndexed (first ++ more)
indexed_append [] more are next = next
indexed_append (one ∷ first) more are next = (are.0, indexed_append first more are.1 next)

pub indexed_take : (count : ℕ) (changes : List Stamped) → AreIndexed changes → AreIndexed (take count changes)
indexed_take zero changes are = tt
indexed_take (suc count) [] are = tt
indexed_take (suc count) (one ∷ more) are = (are.0, indexed_take count more are.1)

-- behind changes with their indexes a catalogue is the same, but for parts, whatever parts waited
pub behind_bare : (changes : List Stamped) (one other : CatalogueLists) → AreIndexed changes → without_parts one ≡ without_parts other
    → without_parts (catalogue_behind changes one) ≡ without_parts (catalogue_behind changes other)
behind_bare [] one other are same = same
behind_bare (first ∷ more) one other are same =
    let m : Moment = record { 0 = first.moment } in
    ap (λ (lists : CatalogueLists). without_parts (catalogue_behind more lists))
    (after_bare m first.change one are.0 ∙ ap (λ (lists : CatalogueLists). catalogue_after m first.change lists) same
    ∙ sym (after_bare m first.change other are.0))

-- ---- what is entered

-- a deed enters the change that its effect may enter where it breaks
pub entered_alike : (effect : Effect) (room : RoomView) → entered (Done effect) room ≡ entered (Broken effect) room
entered_alike (Enter m change) room = refl
entered_alike (EnterPart m ssid part index) room = refl
entered_alike (TurnOver snapshot) room = refl
entered_alike (Commit drive asking) room = refl
entered_alike (Look cart seen) room = refl
entered_alike (WriteLabel label) room = refl
entered_alike (Push drive ssid copy offset bytes) room = refl
entered_alike (PutIn drive volume) room = refl
entered_alike (TakeOut drive) room = refl
entered_alike (Open head) room = refl
entered_alike (Take ssid piece) room = refl
entered_alike (Close ssid) room = refl

entered_indexed : (effect : Effect) (room : RoomView) → AreIndexed (entered (Broken effect) room)
entered_indexed (Enter m change) room = (with_index_is room.catalogue.parts change, tt)
entered_indexed (EnterPart m ssid part index) room = tt
entered_indexed (TurnOver snapshot) room = tt
entered_indexed (Commit drive asking) room = tt
entered_indexed (Look cart seen) room = tt
entered_indexed (WriteLabel label) room = tt
entered_indexed (Push drive ssid copy offset bytes) room = tt
entered_indexed (PutIn drive volume) room = tt
entered_indexed (TakeOut drive) room = tt
entered_indexed (Open head) room = tt
entered_indexed (Take ssid piece) room = tt
entered_indexed (Close ssid) room = tt

pub entered_by : (deed : Deed) (room : RoomView) → entered deed room ≡ entered (Broken (effect_of deed)) room
entered_by (Done effect) room = entered_alike effect room
entered_by (Broken effect) room = refl

pub trail_indexed : (deeds : List Deed) (room : RoomView) → AreIndexed (trail deeds room)
trail_indexed [] room = tt
trail_indexed (deed ∷ deeds) room =
    let P : List Stamped → Type 0 = λ changes. AreIndexed changes in
    indexed_append (entered deed room) (trail deeds (after deed room))
    (subst P (sym (entered_by deed room)) (entered_indexed (effect_of deed) room)) (trail_indexed deeds (after deed room))
