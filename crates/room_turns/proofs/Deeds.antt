-- What deeds enter, and what the journal's files reopen as behind them.
use Rattle.std.proofs.Common.{◌≡◌, ◌⊎◌, ◌≤◌, Bool, true, false, List, [], ◌∷◌, ◌++◌, length, refl, sym, ap, ◌∙◌, subst, inl, inr, arith, append_assoc}
use Rattle.std.proofs.lemmas.Bool.{cond_both}
use Rattle.std.specs.Prelude.{IsTrue, Ok, Err, Result}
use Rattle.room_base.specs.declared.refusal.Refusal.{Refusal}
use Rattle.room_disk.specs.Disk.{Image}
use Rattle.cat_journal.specs.Journal.{KnowsFiles}
use Rattle.catalog_spelling.specs.Changes.{Stamped}
use Rattle.room_catalog.specs.Changing.{without_parts}
use Rattle.room_catalog.specs.Held.{CatalogueLists, catalogue_of}
use Rattle.room_effects.specs.View.{IsRoom, RoomView}
use Rattle.room_effects.specs.Effects.{Broken, Close, Commit, Deed, Done, Effect, Enter, EnterPart, Look, Open, Push, PutIn, Take, TakeOut, TurnOver, WriteLabel, after, after_all, after_broken, after_done, effect_of, is_at_last}
use Rattle.room_effects.specs.Needs.{CanDo}
use Rattle.room_effects.specs.Reopening.{HasItsSnapshot, HaveSnapshots, ReopensAfterSome}
use Rattle.room_effects.specs.Running.{AllCan, AreWritten, Goes, IsWritten, Led, RanTo, catalogue_behind, entered, trail}
use Rattle.room_effects.proofs.Changing.{AreIndexed, behind_bare, trail_indexed}
use Rattle.room_effects.proofs.Reopening.{crash_stands, done_catalogue, end_reopens, end_stands}
use Rattle.room_effects.proofs.Entering.{turned_room}
use Rattle.room_effects.proofs.Running.{catalogue_append}
use Rattle.room_effects.proofs.Standing.{StandsAs, stands_first}
use Rattle.room_turns.specs.Runs.{failed, stood}
use Rattle.room_turns.specs.Served.{ReopensBehind, ReopensNow}
use Rattle.journal_files.specs.Files.{IsSnapshot, ReplaysTo}

-- ---- the changes that stand, and the one whose entry failed

-- an effect that breaks closes the room, or enters nothing and leaves the catalogue
breaks : (effect : Effect) (room : RoomView) → ((after_broken effect room).is_open ≡ false) ⊎ (entered (Broken effect) room ≡ [])
breaks (Enter m change) room = inl refl
breaks (EnterPart m ssid part index) room = inr refl
breaks (TurnOver snapshot) room = inr refl
breaks (Commit drive asking) room = inr refl
breaks (Look cart seen) room = inr refl
breaks (WriteLabel label) room = inr refl
breaks (Push drive ssid copy offset bytes) room = inr refl
breaks (PutIn drive volume) room = inr refl
breaks (TakeOut drive) room = inr refl
breaks (Open head) room = inr refl
breaks (Take ssid piece) room = inr refl
breaks (Close ssid) room = inr refl

broken_catalogue : (effect : Effect) (room : RoomView) → (after_broken effect room).catalogue ≡ room.catalogue
broken_catalogue (Enter m change) room = refl
broken_catalogue (EnterPart m ssid part index) room = refl
broken_catalogue (TurnOver snapshot) room = refl
broken_catalogue (Commit drive asking) room = refl
broken_catalogue (Look cart seen) room = refl
broken_catalogue (WriteLabel label) room = refl
broken_catalogue (Push drive ssid copy offset bytes) room = refl
broken_catalogue (PutIn drive volume) room = refl
broken_catalogue (TakeOut drive) room = refl
broken_catalogue (Open head) room = refl
broken_catalogue (Take ssid piece) room = refl
broken_catalogue (Close ssid) room = refl

-- nothing is done behind what closed the room
none_behind : (deeds : List Deed) (room : RoomView) → AllCan deeds room → room.is_open ≡ false → deeds ≡ []
none_behind [] room can closed = refl
none_behind (deed ∷ deeds) room can closed = absurd (let no : ◌≡◌ {A = Bool} false true = sym closed ∙ can.0.opens in cc)

-- what was entered is what stands, and then what failed
pub trail_is : (deeds : List Deed) (room : RoomView) → AllCan deeds room → trail deeds room ≡ stood deeds room ++ failed deeds room
trail_is [] room can = refl
trail_is (Done effect ∷ deeds) room can =
    ap (λ (rest : List Stamped). entered (Done effect) room ++ rest) (trail_is deeds (after_done effect room) can.1)
    ∙ sym (append_assoc (entered (Done effect) room) (stood deeds (after_done effect room)) (failed deeds (after_done effect room)))
trail_is (Broken effect ∷ deeds) room can = elim (breaks effect room) [
  | inl closed ↦ (let none = none_behind deeds (after_broken effect room) can.1 closed in
      let P : List Deed → Type 0 = λ more. trail (Broken effect ∷ more) room ≡ stood (Broken effect ∷ more) room ++ failed (Broken effect ∷ more) room in
      subst P (sym none) refl)
  | inr none ↦ (let P : List Stamped → Type 0 = λ one. one ++ trail deeds (after_broken effect room) ≡ stood deeds (after_broken effect room) ++ (one ++ failed deeds (after_broken effect room)) in
      subst P (sym none) (trail_is deeds (after_broken effect room) can.1))
]

stood_indexed_front : (first more : List Stamped) → AreIndexed (first ++ more) → AreIndexed first
stood_indexed_front [] more are = tt
stood_indexed_front (one ∷ first) more are = (are.0, stood_indexed_front first more are.1)

pub stood_indexed : (deeds : List Deed) (room : RoomView) → AllCan deeds room → AreIndexed (stood deeds room)
stood_indexed deeds room can =
    let P : List Stamped → Type 0 = λ changes. AreIndexed changes in
    stood_indexed_front (stood deeds room) (failed deeds room) (subst P (trail_is deeds room can) (trail_indexed deeds room))

-- the room's catalogue is that behind the changes that stand
pub catalogue_is : (deeds : List Deed) (room : RoomView) → AllCan deeds room
    → without_parts (after_all deeds room).catalogue ≡ without_parts (catalogue_behind (stood deeds room) room.catalogue)
catalogue_is [] room can = refl
catalogue_is (Done effect ∷ deeds) room can =
    let new = after_done effect room in
    catalogue_is deeds new can.1
    ∙ behind_bare (stood deeds new) new.catalogue (catalogue_behind (entered (Done effect) room) room.catalogue) (stood_indexed deeds new can.1) (done_catalogue effect room)
    ∙ ap without_parts (sym (catalogue_append (entered (Done effect) room) (stood deeds new) room.catalogue))
catalogue_is (Broken effect ∷ deeds) room can =
    let new = after_broken effect room in
    catalogue_is deeds new can.1 ∙ ap (λ (lists : CatalogueLists). without_parts (catalogue_behind (stood deeds new) lists)) (broken_catalogue effect room)

-- of deeds that ran, at most one failed
pub failed_few : {T : Type 0} (effects : List Effect) (answer : Result T Refusal) (room : RoomView) (deeds : List Deed) → RanTo {T = T} effects room answer deeds
    → length (failed deeds room) ≤ 1
failed_few effects answer room [] ran = omega arith
failed_few {T} [] answer room (Done effect ∷ deeds) ran = absurd (none_ran {T = T} answer room (Done effect) deeds ran)
  where
    none_ran : {T : Type 0} (answer : Result T Refusal) (room : RoomView) (deed : Deed) (deeds : List Deed) → RanTo {T = T} [] room answer (deed ∷ deeds) → ⊥
    none_ran (Ok value) room (Done effect) deeds ran = ran
    none_ran (Ok value) room (Broken effect) deeds ran = ran
    none_ran (Err fault) room (Done effect) deeds ran = ran
    none_ran (Err fault) room (Broken effect) deeds ran = ran
failed_few {T} (one ∷ effects) answer room (Done effect ∷ deeds) ran = failed_few {T = T} effects answer (after_done effect room) deeds ran.1
failed_few {T} effects answer room (Broken effect ∷ []) ran = one_entered effect room
  where
    one_entered : (effect : Effect) (room : RoomView) → length (entered (Broken effect) room ++ []) ≤ 1
    one_entered (Enter m change) room = omega arith
    one_entered (EnterPart m ssid part index) room = omega arith
    one_entered (TurnOver snapshot) room = omega arith
    one_entered (Commit drive asking) room = omega arith
    one_entered (Look cart seen) room = omega arith
    one_entered (WriteLabel label) room = omega arith
    one_entered (Push drive ssid copy offset bytes) room = omega arith
    one_entered (PutIn drive volume) room = omega arith
    one_entered (TakeOut drive) room = omega arith
    one_entered (Open head) room = omega arith
    one_entered (Take ssid piece) room = omega arith
    one_entered (Close ssid) room = omega arith
failed_few {T} effects answer room (Broken effect ∷ (deed ∷ deeds)) ran = absurd (last_broken {T = T} effects answer room effect deed deeds ran)
  where
    last_broken : {T : Type 0} (effects : List Effect) (answer : Result T Refusal) (room : RoomView) (effect : Effect) (deed : Deed) (deeds : List Deed)
        → RanTo {T = T} effects room answer (Broken effect ∷ (deed ∷ deeds)) → ⊥
    last_broken [] (Ok value) room effect deed deeds ran = ran
    last_broken [] (Err fault) room effect deed deeds ran = ran
    last_broken (one ∷ effects) (Ok value) room effect deed deeds ran = ran
    last_broken (one ∷ effects) (Err fault) room effect deed deeds ran = ran

-- ---- what the files reopen as

-- whatever parts wait, it is one catalogue
pub behind_some : (changes : List Stamped) (lists : CatalogueLists) (image : Image) → ReopensAfterSome IsSnapshot changes lists image → ReopensBehind changes lists image
behind_some changes lists image some = record {
  count = some.count;
  within = some.within;
  reopens = record { reopened = some.reopened; replays = some.reopens; is = ap catalogue_of some.is };
}

now_is : (is_open : Bool) (entry : List Stamped) (lists : CatalogueLists) (image : Image) → (IsTrue is_open → ReplaysTo image lists)
    → (is_open ≡ false → ReopensBehind entry lists image) → ReopensNow is_open entry lists image
now_is true entry lists image opens closed = opens refl
now_is false entry lists image opens closed = closed refl

done_opens : (effect : Effect) (room : RoomView) → IsTrue room.is_open → IsTrue (after_done effect room).is_open
done_opens (Enter m change) room opens = opens
done_opens (EnterPart m ssid part index) room opens = opens
done_opens (TurnOver snapshot) room opens =
    cond_both (is_at_last room.journal) room (turned_room (length snapshot) room) (λ (one : RoomView). IsTrue one.is_open) (λ last. opens) (λ next. opens)
done_opens (Commit drive asking) room opens = opens
done_opens (Look cart seen) room opens = opens
done_opens (WriteLabel label) room opens = opens
done_opens (Push drive ssid copy offset bytes) room opens = opens
done_opens (PutIn drive volume) room opens = opens
done_opens (TakeOut drive) room opens = opens
done_opens (Open head) room opens = opens
done_opens (Take ssid piece) room opens = opens
done_opens (Close ssid) room opens = opens

-- one deed that leaves the room open
one_stands : (deed : Deed) (room : RoomView) (before image : Image) → CanDo (effect_of deed) room → IsWritten (effect_of deed) → HasItsSnapshot IsSnapshot (effect_of deed) room
    → StandsAs IsSnapshot room before → IsTrue (after deed room).is_open → Goes deed room before image → StandsAs IsSnapshot (after deed room) image
one_stands deed room before image can written spelled stands opens goes =
    end_stands IsSnapshot (deed ∷ []) room before image (can, tt) (written, tt) (spelled, tt) stands opens (image, goes, refl)

-- behind an effect that broke: what is left behind it, where the room is still open
closed_broken : (effect : Effect) (deeds : List Deed) (room : RoomView) (before mid image : Image) → CanDo effect room → IsWritten effect
    → HasItsSnapshot IsSnapshot effect room → StandsAs IsSnapshot room before → AllCan deeds (after_broken effect room)
    → Goes (Broken effect) room before mid → Led deeds (after_broken effect room) mid image
    → (IsTrue (after_broken effect room).is_open
    → ReopensAfterSome IsSnapshot (failed deeds (after_broken effect room)) (after_all deeds (after_broken effect room)).catalogue image)
    → ReopensAfterSome IsSnapshot (failed (Broken effect ∷ deeds) room) (after_all deeds (after_broken effect room)).catalogue image
closed_broken effect deeds room before mid image can written spelled stands cans goes led go_on = by new.is_open refl
  where
    new : RoomView
    new = after_broken effect room

    by : (is_open : Bool) → new.is_open ≡ is_open → ReopensAfterSome IsSnapshot (entered (Broken effect) room ++ failed deeds new) (after_all deeds new).catalogue image
    by true still =
        let none : entered (Broken effect) room ≡ [] = elim (breaks effect room) [
          | inl shut ↦ absurd (let no : ◌≡◌ {A = Bool} false true = sym shut ∙ still in cc)
          | inr none ↦ none
        ] in
        let P : List Stamped → Type 0 = λ entry. ReopensAfterSome IsSnapshot (entry ++ failed deeds new) (after_all deeds new).catalogue image in
        subst P (sym none) (go_on still)
    by false shut =
        let none = none_behind deeds new cans shut in
        let L : List Deed → Type 0 = λ more. Led more new mid image in
        let same : image ≡ mid = subst L none led in
        let I : Image → Type 0 = λ files. Goes (Broken effect) room before files in
        let cut = subst I (sym same) goes in
        let some = crash_stands IsSnapshot (Broken effect ∷ []) room before image (can, tt) (written, tt) (spelled, tt) stands (inl cut) in
        let P : List Deed → Type 0 = λ more. ReopensAfterSome IsSnapshot (entered (Broken effect) room ++ failed more new) (after_all more new).catalogue image in
        let C : CatalogueLists → Type 0 = λ lists. ReopensAfterSome IsSnapshot (entered (Broken effect) room ++ []) lists image in
        subst P (sym none) (subst C (sym (broken_catalogue effect room)) some)

-- behind deeds that closed the room: its catalogue, or that with the entry that failed
pub closed_reopens : (deeds : List Deed) (room : RoomView) (before image : Image) → AllCan deeds room → AreWritten deeds → HaveSnapshots IsSnapshot deeds room
    → StandsAs IsSnapshot room before → IsTrue room.is_open → (after_all deeds room).is_open ≡ false → Led deeds room before image
    → ReopensAfterSome IsSnapshot (failed deeds room) (after_all deeds room).catalogue image
closed_reopens [] room before image can written spelled stands opens closed led = absurd (let no : ◌≡◌ {A = Bool} false true = sym closed ∙ opens in cc)
closed_reopens (Done effect ∷ deeds) room before image can written spelled stands opens closed led =
    let still = done_opens effect room opens in
    closed_reopens deeds (after_done effect room) led.0 image can.1 written.1 spelled.1
    (one_stands (Done effect) room before led.0 can.0 written.0 spelled.0 stands still led.1) still closed led.2
closed_reopens (Broken effect ∷ deeds) room before image can written spelled stands opens closed led =
    closed_broken effect deeds room before led.0 image can.0 written.0 spelled.0 stands can.1 led.1 led.2
    (λ still. closed_reopens deeds (after_broken effect room) led.0 image can.1 written.1 spelled.1
    (one_stands (Broken effect) room before led.0 can.0 written.0 spelled.0 stands still led.1) still closed led.2)

-- behind deeds, whether they left the room open or not
pub ended_reopens : (deeds : List Deed) (room : RoomView) (before image : Image) → IsRoom room → AllCan deeds room → AreWritten deeds → HaveSnapshots IsSnapshot deeds room
    → KnowsFiles room.journal before → ReplaysTo before room.catalogue → IsTrue room.is_open → Led deeds room before image
    → ReopensNow (after_all deeds room).is_open (failed deeds room) (after_all deeds room).catalogue image
ended_reopens deeds room before image is can written spelled knows replays opens led =
    now_is (after_all deeds room).is_open (failed deeds room) (after_all deeds room).catalogue image
    (λ still. (end_reopens IsSnapshot deeds room before image is can written spelled knows replays still led).1)
    (λ closed. behind_some (failed deeds room) (after_all deeds room).catalogue image
    (closed_reopens deeds room before image can written spelled (stands_first IsSnapshot room before is knows replays) opens closed led))
