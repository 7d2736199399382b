-- What the journal's files reopen as, at each crash of a run and at its end.
use Rattle.std.proofs.Common.{◌≡◌, ℕ, suc, zero, ◌+◌, ◌≤◌, Bool, true, false, List, [], ◌∷◌, ◌++◌, length, take, refl, sym, ap, ◌∙◌, subst, arith, inl, inr}
use Rattle.std.specs.Option.{option_map}
use Rattle.std.specs.Prelude.{Option, Some, IsSomeAnd, IsTrue}
use Rattle.std.proofs.lemmas.Bool.{cond_both}
use Rattle.std.proofs.lemmas.List.{length-append}
use Rattle.room_disk.specs.Disk.{Image}
use Rattle.cat_journal.specs.Journal.{KnowsFiles}
use Rattle.catalog_spelling.specs.Changes.{Stamped}
use Rattle.room_catalog.specs.Held.{CatalogueLists}
use Rattle.slot_changer.specs.Committing.{cart_file_of}
use Rattle.slot_changer.specs.Drives.{DriveView}
use Rattle.slot_changer.specs.Taking.{CanCommit}
use Rattle.room_effects.specs.View.{RoomView, AreDrives, IsRoom, held_in}
use Rattle.room_effects.specs.Effects.{Broken, Close, Commit, Deed, Done, Effect, Enter, EnterPart, Look, Open, Push, PutIn, Take, TakeOut, TurnOver, WriteLabel, after, after_all, after_broken, after_done, effect_of, is_at_last, turned}
use Rattle.room_effects.specs.Files.{Commits, MayCommit, Torn, Touches, Whole, file_or_none, target}
use Rattle.room_effects.specs.Needs.{CanDo}
use Rattle.room_effects.specs.Running.{AllCan, AreWritten, Crashed, IsWritten, Led, catalogue_behind, entered, trail}
use Rattle.room_effects.specs.Reopening.{HasItsSnapshot, HaveSnapshots, Reopens, ReopensAfterSome}
use Rattle.room_catalog.specs.Changing.{without_parts}
use Rattle.room_effects.proofs.Changing.{AreIndexed, after_indexed, behind_bare, entered_by, indexed_take, trail_indexed}
use Rattle.room_effects.proofs.Crashing.{enter_cut, enter_stands, kept_same, part_cut, part_stands, reopens_before, turn_over_cut, turn_over_stands}
use Rattle.room_effects.proofs.Driving.{held_and}
use Rattle.room_effects.proofs.Entering.{turned_room}
use Rattle.room_effects.proofs.Readiness.{held_is}
use Rattle.room_effects.proofs.Running.{catalogue_append}
use Rattle.room_effects.proofs.Standing.{KeepsJournal, StandsAs, reopens_kept, stands_first, stands_kept}
use Rattle.room_effects.proofs.StayingDrives.{are_committed, are_emptied, are_pushed, are_put_in}

-- ---- effects that leave the journal as it is

kept_other : (file : ℕ) (P : List ℕ → List ℕ → Type 0) (before image : Image) → 2 ≤ file → Touches file P before image → KeepsJournal before image
kept_other file P before image other touched = record {
  first = touched.others 0 (λ same. omega (arith, other, same));
  second = touched.others 1 (λ same. omega (arith, other, same));
}

-- what a commit does, or may have done, is done on a cartridge
kept_commit : (Does : Option DriveView → List ℕ → List ℕ → Type 0) (drive : ℕ) (room : RoomView) (before image : Image) → AreDrives room.drives
    → IsSomeAnd (held_in room drive) CanCommit
    → Touches (file_or_none (option_map cart_file_of (held_in room drive))) (Does (held_in room drive)) before image → KeepsJournal before image
kept_commit Does drive room before image are can touched =
    let there = held_and (held_in room drive) CanCommit can in
    let T : Option DriveView → Type 0 = λ h. Touches (file_or_none (option_map cart_file_of h)) (Does h) before image in
    let cart = (held_is room.drives drive there.one are there.is).mounted.cart in
    kept_other (cart_file_of there.one) (Does (Some there.one)) before image (omega (arith, cart.0)) (subst T there.is touched)

-- ---- one deed

-- The files of an effect that was done are those of the room behind it.
pub done_stands : (IsSnapshot : CatalogueLists → List ℕ → Type 0) (effect : Effect) (room : RoomView) (before image : Image) → CanDo effect room → IsWritten effect
    → HasItsSnapshot IsSnapshot effect room → Touches (target effect room) (Whole effect room) before image → StandsAs IsSnapshot room before
    → StandsAs IsSnapshot (after_done effect room) image
done_stands S (Enter m change) room before image can written spelled touched stands = enter_stands S m change room before image can written touched stands
done_stands S (EnterPart m ssid part index) room before image can written spelled touched stands = part_stands S m ssid part index room before image can written touched stands
done_stands S (TurnOver snapshot) room before image can written spelled touched stands = turn_over_stands S snapshot room before image can touched spelled stands
done_stands S (Commit drive asking) room before image can written spelled touched stands =
    stands_kept S room (after_done (Commit drive asking) room) before image (kept_commit Commits drive room before image stands.drives can.needs.1 touched) refl refl
    (are_committed drive asking room stands.drives can) stands
done_stands S (Look cart seen) room before image can written spelled touched stands =
    stands_kept S room room before image (kept_other (cart + 1) _ before image (omega (arith, can.needs.0)) touched) refl refl stands.drives stands
done_stands S (WriteLabel label) room before image can written spelled touched stands =
    stands_kept S room room before image (kept_other (label.cart.0 + 1) _ before image (omega (arith, can.needs.allowed.cart.0)) touched) refl refl stands.drives stands
done_stands S (Push drive ssid copy offset bytes) room before image can written spelled touched stands =
    stands_kept S room (after_done (Push drive ssid copy offset bytes) room) before image (kept_same before image touched) refl refl
    (are_pushed drive ssid copy offset bytes room stands.drives can) stands
done_stands S (PutIn drive volume) room before image can written spelled touched stands =
    stands_kept S room (after_done (PutIn drive volume) room) before image (kept_same before image touched) refl refl
    (are_put_in drive volume room stands.drives can) stands
done_stands S (TakeOut drive) room before image can written spelled touched stands =
    stands_kept S room (after_done (TakeOut drive) room) before image (kept_same before image touched) refl refl
    (are_emptied room.drives drive stands.drives can.needs.0) stands
done_stands S (Open head) room before image can written spelled touched stands =
    stands_kept S room (after_done (Open head) room) before image (kept_same before image touched) refl refl stands.drives stands
done_stands S (Take ssid piece) room before image can written spelled touched stands =
    stands_kept S room (after_done (Take ssid piece) room) before image (kept_same before image touched) refl refl stands.drives stands
done_stands S (Close ssid) room before image can written spelled touched stands =
    stands_kept S room (after_done (Close ssid) room) before image (kept_same before image touched) refl refl stands.drives stands

-- An effect that was cut short leaves the catalogue, or that behind its change.
pub cut_reopens : (IsSnapshot : CatalogueLists → List ℕ → Type 0) (effect : Effect) (room : RoomView) (before image : Image) → CanDo effect room → IsWritten effect
    → HasItsSnapshot IsSnapshot effect room → Touches (target effect room) (Torn effect room) before image → StandsAs IsSnapshot room before
    → ReopensAfterSome IsSnapshot (entered (Broken effect) room) room.catalogue image
cut_reopens S (Enter m change) room before image can written spelled touched stands = enter_cut S m change room before image can written touched stands
cut_reopens S (EnterPart m ssid part index) room before image can written spelled touched stands = part_cut S m ssid part index room before image can written touched stands
cut_reopens S (TurnOver snapshot) room before image can written spelled touched stands = turn_over_cut S snapshot room before image can touched spelled stands
cut_reopens S (Commit drive asking) room before image can written spelled touched stands =
    reopens_before S [] room.catalogue image (reopens_kept S before image room.catalogue
    (kept_commit MayCommit drive room before image stands.drives can.needs.1 touched) stands.reopens)
cut_reopens S (Look cart seen) room before image can written spelled touched stands =
    reopens_before S [] room.catalogue image (reopens_kept S before image room.catalogue
    (kept_other (cart + 1) _ before image (omega (arith, can.needs.0)) touched) stands.reopens)
cut_reopens S (WriteLabel label) room before image can written spelled touched stands =
    reopens_before S [] room.catalogue image (reopens_kept S before image room.catalogue
    (kept_other (label.cart.0 + 1) _ before image (omega (arith, can.needs.allowed.cart.0)) touched) stands.reopens)
cut_reopens S (Push drive ssid copy offset bytes) room before image can written spelled touched stands =
    reopens_before S [] room.catalogue image (reopens_kept S before image room.catalogue (kept_same before image touched) stands.reopens)
cut_reopens S (PutIn drive volume) room before image can written spelled touched stands =
    reopens_before S [] room.catalogue image (reopens_kept S before image room.catalogue (kept_same before image touched) stands.reopens)
cut_reopens S (TakeOut drive) room before image can written spelled touched stands =
    reopens_before S [] room.catalogue image (reopens_kept S before image room.catalogue (kept_same before image touched) stands.reopens)
cut_reopens S (Open head) room before image can written spelled touched stands =
    reopens_before S [] room.catalogue image (reopens_kept S before image room.catalogue (kept_same before image touched) stands.reopens)
cut_reopens S (Take ssid piece) room before image can written spelled touched stands =
    reopens_before S [] room.catalogue image (reopens_kept S before image room.catalogue (kept_same before image touched) stands.reopens)
cut_reopens S (Close ssid) room before image can written spelled touched stands =
    reopens_before S [] room.catalogue image (reopens_kept S before image room.catalogue (kept_same before image touched) stands.reopens)

-- An effect that broke leaves an open room only where it leaves the journal as it is.
broken_stands : (IsSnapshot : CatalogueLists → List ℕ → Type 0) (effect : Effect) (room : RoomView) (before image : Image) → CanDo effect room
    → IsTrue (after_broken effect room).is_open → Touches (target effect room) (Torn effect room) before image → StandsAs IsSnapshot room before
    → StandsAs IsSnapshot (after_broken effect room) image × ((after_broken effect room).catalogue ≡ room.catalogue) × (entered (Broken effect) room ≡ [])
broken_stands S (Enter m change) room before image can opens touched stands = absurd (let no : ◌≡◌ {A = Bool} false true = opens in cc)
broken_stands S (EnterPart m ssid part index) room before image can opens touched stands = absurd (let no : ◌≡◌ {A = Bool} false true = opens in cc)
broken_stands S (TurnOver snapshot) room before image can opens touched stands = absurd (let no : ◌≡◌ {A = Bool} false true = opens in cc)
broken_stands S (Commit drive asking) room before image can opens touched stands = (
  stands_kept S room (after_broken (Commit drive asking) room) before image (kept_commit MayCommit drive room before image stands.drives can.needs.1 touched) refl refl
      (are_emptied room.drives drive stands.drives can.needs.0) stands,
  refl,
  refl,
)
broken_stands S (Look cart seen) room before image can opens touched stands =
    (stands_kept S room room before image (kept_other (cart + 1) _ before image (omega (arith, can.needs.0)) touched) refl refl stands.drives stands, refl, refl)
broken_stands S (WriteLabel label) room before image can opens touched stands =
    (stands_kept S room room before image (kept_other (label.cart.0 + 1) _ before image (omega (arith, can.needs.allowed.cart.0)) touched) refl refl stands.drives stands, refl, refl)
broken_stands S (Push drive ssid copy offset bytes) room before image can opens touched stands =
    (stands_kept S room room before image (kept_same before image touched) refl refl stands.drives stands, refl, refl)
broken_stands S (PutIn drive volume) room before image can opens touched stands =
    (stands_kept S room room before image (kept_same before image touched) refl refl stands.drives stands, refl, refl)
broken_stands S (TakeOut drive) room before image can opens touched stands =
    (stands_kept S room room before image (kept_same before image touched) refl refl stands.drives stands, refl, refl)
broken_stands S (Open head) room before image can opens touched stands =
    (stands_kept S room room before image (kept_same before image touched) refl refl stands.drives stands, refl, refl)
broken_stands S (Take ssid piece) room before image can opens touched stands =
    (stands_kept S room room before image (kept_same before image touched) refl refl stands.drives stands, refl, refl)
broken_stands S (Close ssid) room before image can opens touched stands =
    (stands_kept S room room before image (kept_same before image touched) refl refl stands.drives stands, refl, refl)

turned_alike : (size : ℕ) (room : RoomView) → without_parts (turned size room).catalogue ≡ without_parts room.catalogue
turned_alike size room =
    cond_both (is_at_last room.journal) room (turned_room size room) (λ (one : RoomView). without_parts one.catalogue ≡ without_parts room.catalogue)
    (λ last. refl) (λ next. refl)

-- the catalogue behind what an effect entered is the room's, but for parts
pub done_catalogue : (effect : Effect) (room : RoomView) → without_parts (after_done effect room).catalogue ≡ without_parts (catalogue_behind (entered (Done effect) room) room.catalogue)
done_catalogue (Enter m change) room = ap without_parts (sym (after_indexed m change room.catalogue))
done_catalogue (EnterPart m ssid part index) room = refl
done_catalogue (TurnOver snapshot) room = turned_alike (length snapshot) room
done_catalogue (Commit drive asking) room = refl
done_catalogue (Look cart seen) room = refl
done_catalogue (WriteLabel label) room = refl
done_catalogue (Push drive ssid copy offset bytes) room = refl
done_catalogue (PutIn drive volume) room = refl
done_catalogue (TakeOut drive) room = refl
done_catalogue (Open head) room = refl
done_catalogue (Take ssid piece) room = refl
done_catalogue (Close ssid) room = refl

-- ---- some first changes

pub take_front : (count : ℕ) (first more : List Stamped) → count ≤ length first → take count (first ++ more) ≡ take count first
take_front zero first more within = refl
take_front (suc count) [] more within = absurd (omega (arith, within))
take_front (suc count) (one ∷ first) more within = ap (λ rest. one ∷ rest) (take_front count first more (omega (arith, within)))

pub take_behind : (first more : List Stamped) (count : ℕ) → take (length first + count) (first ++ more) ≡ first ++ take count more
take_behind [] more count = ap (λ n. take n more) (omega arith)
take_behind (one ∷ first) more count =
    ap (λ n. take n (one ∷ (first ++ more))) (let e : length (one ∷ first) + count ≡ suc (length first + count) = omega arith in e)
    ∙ ap (λ rest. one ∷ rest) (take_behind first more count)

-- first changes of a longer list
pub some_of_more : (IsSnapshot : CatalogueLists → List ℕ → Type 0) (first more : List Stamped) (lists : CatalogueLists) (image : Image)
    → ReopensAfterSome IsSnapshot first lists image → ReopensAfterSome IsSnapshot (first ++ more) lists image
some_of_more S first more lists image some = record {
  count = some.count;
  within = omega (arith, some.within, length-append first more);
  reopened = some.reopened;
  reopens = some.reopens;
  is = some.is ∙ ap (λ changes. without_parts (catalogue_behind changes lists)) (sym (take_front some.count first more some.within));
}

-- changes behind others
pub some_behind : (IsSnapshot : CatalogueLists → List ℕ → Type 0) (first more : List Stamped) (lists next : CatalogueLists) (image : Image) → AreIndexed more
    → without_parts next ≡ without_parts (catalogue_behind first lists)
    → ReopensAfterSome IsSnapshot more next image → ReopensAfterSome IsSnapshot (first ++ more) lists image
some_behind S first more lists next image indexed same some =
    let rest = take some.count more in
    record {
      count = length first + some.count;
      within = omega (arith, some.within, length-append first more);
      reopened = some.reopened;
      reopens = some.reopens;
      is = some.is
          ∙ behind_bare rest next (catalogue_behind first lists) (indexed_take some.count more indexed) same
          ∙ ap without_parts (sym (catalogue_append first rest lists))
          ∙ ap (λ changes. without_parts (catalogue_behind changes lists)) (sym (take_behind first more some.count));
    }

-- ---- runs

-- behind a deed that closed the room nothing is done
crash_closed : (IsSnapshot : CatalogueLists → List ℕ → Type 0) (effect : Effect) (deeds : List Deed) (room : RoomView) (before mid image : Image) → CanDo effect room → IsWritten effect
    → HasItsSnapshot IsSnapshot effect room → Touches (target effect room) (Torn effect room) before mid → StandsAs IsSnapshot room before
    → (IsTrue (after_broken effect room).is_open → ReopensAfterSome IsSnapshot (entered (Broken effect) room ++ trail deeds (after_broken effect room)) room.catalogue image)
    → AllCan deeds (after_broken effect room) → Crashed deeds (after_broken effect room) mid image
    → ReopensAfterSome IsSnapshot (entered (Broken effect) room ++ trail deeds (after_broken effect room)) room.catalogue image
crash_closed S effect [] room before mid image can written spelled touched stands go_on cans crashed =
    let R : Image → Type 0 = λ files. ReopensAfterSome S (entered (Broken effect) room) room.catalogue files in
    some_of_more S (entered (Broken effect) room) [] room.catalogue image (subst R (sym crashed) (cut_reopens S effect room before mid can written spelled touched stands))
crash_closed S effect (deed ∷ deeds) room before mid image can written spelled touched stands go_on cans crashed = go_on cans.0.opens

-- At a crash at any moment of a run the files reopen as the catalogue after the first so many
-- changes of the trail.
pub crash_stands : (IsSnapshot : CatalogueLists → List ℕ → Type 0) (deeds : List Deed) (room : RoomView) (before image : Image) → AllCan deeds room → AreWritten deeds
    → HaveSnapshots IsSnapshot deeds room → StandsAs IsSnapshot room before → Crashed deeds room before image
    → ReopensAfterSome IsSnapshot (trail deeds room) room.catalogue image
crash_stands S [] room before image can written spelled stands crashed =
    let R : Image → Type 0 = λ files. Reopens S files room.catalogue in
    reopens_before S [] room.catalogue image (subst R (sym crashed) stands.reopens)
crash_stands S (deed ∷ deeds) room before image can written spelled stands (inl cut) =
    let R : List Stamped → Type 0 = λ changes. ReopensAfterSome S changes room.catalogue image in
    some_of_more S (entered deed room) (trail deeds (after deed room)) room.catalogue image
    (subst R (sym (entered_by deed room)) (cut_reopens S (effect_of deed) room before image can.0 written.0 spelled.0 cut stands))
crash_stands S (Done effect ∷ deeds) room before image can written spelled stands (inr next) =
    let new = after_done effect room in
    some_behind S (entered (Done effect) room) (trail deeds new) room.catalogue new.catalogue image (trail_indexed deeds new) (done_catalogue effect room)
    (crash_stands S deeds new next.0 image can.1 written.1 spelled.1 (done_stands S effect room before next.0 can.0 written.0 spelled.0 next.1 stands) next.2)
crash_stands S (Broken effect ∷ deeds) room before image can written spelled stands (inr next) =
    let new = after_broken effect room in
    crash_closed S effect deeds room before next.0 image can.0 written.0 spelled.0 next.1 stands
    (λ opens. (let kept = broken_stands S effect room before next.0 can.0 opens next.1 stands in
    some_behind S (entered (Broken effect) room) (trail deeds new) room.catalogue new.catalogue image (trail_indexed deeds new)
    (ap without_parts kept.1 ∙ ap (λ changes. without_parts (catalogue_behind changes room.catalogue)) (sym kept.2))
    (crash_stands S deeds new next.0 image can.1 written.1 spelled.1 kept.0 next.2)))
    can.1 next.2

-- At the end of a run that leaves the room open the files are those of the room.
pub end_stands : (IsSnapshot : CatalogueLists → List ℕ → Type 0) (deeds : List Deed) (room : RoomView) (before image : Image) → AllCan deeds room → AreWritten deeds
    → HaveSnapshots IsSnapshot deeds room → StandsAs IsSnapshot room before → IsTrue (after_all deeds room).is_open → Led deeds room before image
    → StandsAs IsSnapshot (after_all deeds room) image
end_stands S [] room before image can written spelled stands opens led =
    let P : Image → Type 0 = λ files. StandsAs S room files in subst P (sym led) stands
end_stands S (Done effect ∷ deeds) room before image can written spelled stands opens led =
    end_stands S deeds (after_done effect room) led.0 image can.1 written.1 spelled.1 (done_stands S effect room before led.0 can.0 written.0 spelled.0 led.1 stands) opens led.2
end_stands S (Broken effect ∷ deeds) room before image can written spelled stands opens led =
    end_stands S deeds (after_broken effect room) led.0 image can.1 written.1 spelled.1
    (broken_stands S effect room before led.0 can.0 (still_open deeds (after_broken effect room) can.1 opens) led.1 stands).0 opens led.2
  where
    still_open : (deeds : List Deed) (room : RoomView) → AllCan deeds room → IsTrue (after_all deeds room).is_open → IsTrue room.is_open
    still_open [] room can opens = opens
    still_open (deed ∷ deeds) room can opens = can.0.opens

-- ---- from a room on

pub crash_reopens : (IsSnapshot : CatalogueLists → List ℕ → Type 0) (deeds : List Deed) (room : RoomView) (before image : Image) → IsRoom room → AllCan deeds room → AreWritten deeds
    → HaveSnapshots IsSnapshot deeds room → KnowsFiles room.journal before → Reopens IsSnapshot before room.catalogue → Crashed deeds room before image
    → ReopensAfterSome IsSnapshot (trail deeds room) room.catalogue image
crash_reopens S deeds room before image is can written spelled knows reopens crashed =
    crash_stands S deeds room before image can written spelled (stands_first S room before is knows reopens) crashed

pub end_reopens : (IsSnapshot : CatalogueLists → List ℕ → Type 0) (deeds : List Deed) (room : RoomView) (before image : Image) → IsRoom room → AllCan deeds room → AreWritten deeds
    → HaveSnapshots IsSnapshot deeds room → KnowsFiles room.journal before → Reopens IsSnapshot before room.catalogue
    → IsTrue (after_all deeds room).is_open → Led deeds room before image
    → KnowsFiles (after_all deeds room).journal image × Reopens IsSnapshot image (after_all deeds room).catalogue
end_reopens S deeds room before image is can written spelled knows reopens opens led =
    let stands = end_stands S deeds room before image can written spelled (stands_first S room before is knows reopens) opens led in
    (stands.knows, stands.reopens)
