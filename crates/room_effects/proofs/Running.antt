-- Runs of deeds over images, and how they are joined.
use Rattle.std.proofs.Common.{◌≡◌, ℕ, ◌+◌, List, [], ◌∷◌, ◌++◌, refl, sym, subst, ap, ◌∙◌, append_assoc, arith, inl, inr}
use Rattle.std.specs.Prelude.{Bool, true, false, Option, Some, None}
use Rattle.room_disk.specs.Disk.{Image}
use Rattle.cat_journal.specs.Journal.{JournalView}
use Rattle.room_catalog.specs.Held.{CatalogueLists}
use Rattle.catalog_spelling.specs.Changes.{Stamped}
use Rattle.slot_changer.specs.Drives.{DriveView}
use Rattle.room_effects.specs.View.{RoomView, held_in}
use Rattle.room_effects.specs.Effects.{Effect, Enter, EnterPart, TurnOver, Commit, Look, WriteLabel}
use Rattle.room_effects.specs.Effects.{Push, PutIn, TakeOut, Open, Take, Close, Deed, after}
use Rattle.room_effects.specs.Effects.{after_all, effect_of, is_at_last}
use Rattle.room_catalog.specs.Changing.{catalogue_after}
use Rattle.room_effects.specs.Files.{MayCommit, MayTurnOver, Torn, Touches, target}
use Rattle.room_effects.specs.Running.{AllCan, AreWritten, AreAllowed, AreFounded, Crashed, Known, Led, catalogue_behind, entered, failures, known_behind, known_behind_all, trail}

-- ---- what is cut short may not be begun

may_turn_none : (last : Bool) (journal : JournalView) (snapshot bytes : List ℕ) → MayTurnOver last journal snapshot bytes bytes
may_turn_none true journal snapshot bytes = refl
may_turn_none false journal snapshot bytes = inl refl

may_commit_none : (held : Option DriveView) (bytes : List ℕ) → MayCommit held bytes bytes
may_commit_none None bytes = refl
may_commit_none (Some one) bytes = λ files committed. inl committed

pub torn_none : (effect : Effect) (room : RoomView) (bytes : List ℕ) → Torn effect room bytes bytes
torn_none (Enter m change) room bytes = λ contents knows held. inl held
torn_none (EnterPart m ssid part index) room bytes = λ contents knows held. inl held
torn_none (TurnOver snapshot) room bytes = may_turn_none (is_at_last room.journal) room.journal snapshot bytes
torn_none (Commit drive asking) room bytes = may_commit_none (held_in room drive) bytes
torn_none (Look cart seen) room bytes = refl
torn_none (WriteLabel label) room bytes = inl refl
torn_none (Push drive ssid copy offset piece) room bytes = refl
torn_none (PutIn drive volume) room bytes = refl
torn_none (TakeOut drive) room bytes = refl
torn_none (Open head) room bytes = refl
torn_none (Take ssid piece) room bytes = refl
torn_none (Close ssid) room bytes = refl

pub touches_none : (effect : Effect) (room : RoomView) (image : Image) → Touches (target effect room) (Torn effect room) image image
touches_none effect room image = record {
  others = λ other apart. refl;
  this = torn_none effect room (image (target effect room));
}

-- ---- files

pub crashed_none : (deeds : List Deed) (room : RoomView) (image : Image) → Crashed deeds room image image
crashed_none [] room image = refl
crashed_none (deed ∷ deeds) room image = inl (touches_none (effect_of deed) room image)

pub led_append : (first more : List Deed) (room : RoomView) (before mid image : Image) → Led first room before mid
    → Led more (after_all first room) mid image → Led (first ++ more) room before image
led_append [] more room before mid image same next =
    let P : Image → Type 0 = λ start. Led more room start image in subst P same next
led_append (deed ∷ first) more room before mid image led next =
    (led.0, led.1, led_append first more (after deed room) led.0 mid image led.2 next)

-- the files between two runs
pub record LedBetween (first more : List Deed) (room : RoomView) (before image : Image) : Type 0 where
  pub mid : Image
  pub front : Led first room before mid
  pub behind : Led more (after_all first room) mid image

pub led_split : (first more : List Deed) (room : RoomView) (before image : Image) → Led (first ++ more) room before image
    → LedBetween first more room before image
led_split [] more room before image led = record { mid = before; front = refl; behind = led }
led_split (deed ∷ first) more room before image led =
    let rest = led_split first more (after deed room) led.0 image led.2 in
    record { mid = rest.mid; front = (led.0, led.1, rest.front); behind = rest.behind }

pub crashed_append : (first more : List Deed) (room : RoomView) (before mid image : Image) → Led first room before mid
    → Crashed more (after_all first room) mid image → Crashed (first ++ more) room before image
crashed_append [] more room before mid image same next =
    let P : Image → Type 0 = λ start. Crashed more room start image in subst P same next
crashed_append (deed ∷ first) more room before mid image led next =
    inr (led.0, led.1, crashed_append first more (after deed room) led.0 mid image led.2 next)

pub crashed_front : (first more : List Deed) (room : RoomView) (before image : Image) → Crashed first room before image
    → Crashed (first ++ more) room before image
crashed_front [] more room before image same =
    let P : Image → Type 0 = λ end. Crashed more room before end in subst P (sym same) (crashed_none more room before)
crashed_front (deed ∷ first) more room before image (inl cut) = inl cut
crashed_front (deed ∷ first) more room before image (inr next) =
    inr (next.0, next.1, crashed_front first more (after deed room) next.0 image next.2)

-- all deeds done is one way to crash
pub crashed_whole : (deeds : List Deed) (room : RoomView) (before image : Image) → Led deeds room before image → Crashed deeds room before image
crashed_whole [] room before image led = led
crashed_whole (deed ∷ deeds) room before image led = inr (led.0, led.1, crashed_whole deeds (after deed room) led.0 image led.2)

-- ---- the room

pub after_append : (first more : List Deed) (room : RoomView) → after_all (first ++ more) room ≡ after_all more (after_all first room)
after_append [] more room = refl
after_append (deed ∷ first) more room = after_append first more (after deed room)

pub can_append : (first more : List Deed) (room : RoomView) → AllCan first room → AllCan more (after_all first room) → AllCan (first ++ more) room
can_append [] more room can next = next
can_append (deed ∷ first) more room can next = (can.0, can_append first more (after deed room) can.1 next)

pub can_front : (first more : List Deed) (room : RoomView) → AllCan (first ++ more) room → AllCan first room
can_front [] more room can = tt
can_front (deed ∷ first) more room can = (can.0, can_front first more (after deed room) can.1)

pub can_behind : (first more : List Deed) (room : RoomView) → AllCan (first ++ more) room → AllCan more (after_all first room)
can_behind [] more room can = can
can_behind (deed ∷ first) more room can = can_behind first more (after deed room) can.1

pub written_append : (first more : List Deed) → AreWritten first → AreWritten more → AreWritten (first ++ more)
written_append [] more written next = next
written_append (deed ∷ first) more written next = (written.0, written_append first more written.1 next)

pub failures_append : (file : ℕ) (first more : List Deed) (room : RoomView)
    → failures file (first ++ more) room ≡ failures file first room + failures file more (after_all first room)
failures_append file [] more room = omega arith
failures_append file (deed ∷ first) more room = omega (arith, failures_append file first more (after deed room))

-- ---- the trail

pub trail_append : (first more : List Deed) (room : RoomView) → trail (first ++ more) room ≡ trail first room ++ trail more (after_all first room)
trail_append [] more room = refl
trail_append (deed ∷ first) more room =
    ap (λ rest. entered deed room ++ rest) (trail_append first more (after deed room))
    ∙ sym (append_assoc (entered deed room) (trail first (after deed room)) (trail more (after_all first (after deed room))))

pub catalogue_append : (first more : List Stamped) (lists : CatalogueLists) → catalogue_behind (first ++ more) lists ≡ catalogue_behind more (catalogue_behind first lists)
catalogue_append [] more lists = refl
catalogue_append (one ∷ first) more lists = catalogue_append first more (catalogue_after (record { 0 = one.moment }) one.change lists)

-- ---- what is known of cartridges

pub known_append : (known : Known) (first more : List Deed) (room : RoomView)
    → known_behind_all known (first ++ more) room ≡ known_behind_all (known_behind_all known first room) more (after_all first room)
known_append known [] more room = refl
known_append known (deed ∷ first) more room = known_append (known_behind known deed room) first more (after deed room)

pub founded_append : (known : Known) (first more : List Deed) (room : RoomView) → AreFounded known first room
    → AreFounded (known_behind_all known first room) more (after_all first room) → AreFounded known (first ++ more) room
founded_append known [] more room are next = next
founded_append known (deed ∷ first) more room are next =
    (are.0, founded_append (known_behind known deed room) first more (after deed room) are.1 next)

pub founded_front : (known : Known) (first more : List Deed) (room : RoomView) → AreFounded known (first ++ more) room → AreFounded known first room
founded_front known [] more room are = tt
founded_front known (deed ∷ first) more room are =
    (are.0, founded_front (known_behind known deed room) first more (after deed room) are.1)

pub founded_behind : (known : Known) (first more : List Deed) (room : RoomView) → AreFounded known (first ++ more) room
    → AreFounded (known_behind_all known first room) more (after_all first room)
founded_behind known [] more room are = are
founded_behind known (deed ∷ first) more room are = founded_behind (known_behind known deed room) first more (after deed room) are.1

-- ---- what is allowed

-- behind a run whose effects are allowed, more may be that are allowed wherever it led
pub allowed_append : (Allows : Effect → RoomView → Image → Type 0) (first more : List Deed) (room : RoomView) (image : Image)
    → AreAllowed Allows first room image
    → ((next : Image) → Led first room image next → AreAllowed Allows more (after_all first room) next)
    → AreAllowed Allows (first ++ more) room image
allowed_append Allows [] more room image are behind = behind image refl
allowed_append Allows (deed ∷ first) more room image are behind = (
  are.0,
  λ next goes. allowed_append Allows first more (after deed room) next (are.1 next goes)
      (λ end led. behind end (next, goes, led)),
)

pub allowed_front : (Allows : Effect → RoomView → Image → Type 0) (first more : List Deed) (room : RoomView) (image : Image)
    → AreAllowed Allows (first ++ more) room image → AreAllowed Allows first room image
allowed_front Allows [] more room image are = tt
allowed_front Allows (deed ∷ first) more room image are =
    (are.0, λ next goes. allowed_front Allows first more (after deed room) next (are.1 next goes))

pub allowed_behind : (Allows : Effect → RoomView → Image → Type 0) (first more : List Deed) (room : RoomView) (image next : Image)
    → AreAllowed Allows (first ++ more) room image → Led first room image next → AreAllowed Allows more (after_all first room) next
allowed_behind Allows [] more room image next are led =
    let P : Image → Type 0 = λ end. AreAllowed Allows more room end in subst P (sym led) are
allowed_behind Allows (deed ∷ first) more room image next are led =
    allowed_behind Allows first more (after deed room) led.0 next (are.1 led.0 led.1) led.2
