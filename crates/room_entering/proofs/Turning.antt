-- The first file of a journal.
use Rattle.std.proofs.Common.{◌≡◌, ℕ, ◌≤◌, ◌<◌, ◌^◌, List, [], ◌∷◌, length, refl, sym, ap, ◌∙◌, subst, rules, arith}
use Rattle.std.specs.Prelude.{None, IsTrue, true, Ok, Result}
use Rattle.room_base.specs.Numbers.{max_moment}
use Rattle.room_base.specs.declared.numbers.Moment.{Moment}
use Rattle.room_base.specs.declared.refusal.Refusal.{Refusal}
use Rattle.room_disk.specs.Disk.{DiskView}
use Rattle.cat_journal.specs.Journal.{turned_over}
use Rattle.catalog_change.specs.declared.change.Change.{Change}
use Rattle.catalog_spelling.specs.Snapshots.{snapshot_text}
use Rattle.room_catalog.specs.Held.{Parts, catalogue_of, no_parts}
use Rattle.room_effects.specs.View.{RoomView, IsRoom}
use Rattle.room_effects.specs.Effects.{Effect, Enter, TurnOver, after_done, entry_bytes, turned}
use Rattle.room_effects.specs.Memory.{HasMemoryFor, HeldRoom}
use Rattle.room_effects.specs.Needs.{CanDo, IsFitting, IsWholeChange}
use Rattle.room_effects.specs.Running.{Does}
use Rattle.room_effects.proofs.Does.{does_then}
use Rattle.room_state.specs.Memory.{TakesMemory}
use Rattle.room_state.proofs.Prepared.{ready_kept}
use Rattle.room_effects.specs.Entering.{with_first_file}

-- the first file leaves all but the journal as it is: no part of an index waits where none is open
pub turned_first : (size : ℕ) (room : RoomView) → IsRoom room → room.journal.current ≡ None
    → turned size room ≡ record room { journal = turned_over room.journal size }
turned_first size room is none =
    let made : turned size room ≡ record room { catalogue = record room.catalogue { parts = no_parts }; journal = turned_over room.journal size } = rw none refl in
    made ∙ ap (λ (parts : Parts). record room { catalogue = record room.catalogue { parts = parts }; journal = turned_over room.journal size }) (sym (is.journal.unopened none).1)

-- what is entered behind it
module _ (snapshot : List ℕ) (m : Moment) (change : Change) (room new : RoomView) (is : IsRoom room) (none : room.journal.current ≡ None)
    (made : new ≡ after_done (TurnOver snapshot) room) where
  pub room_is : new ≡ record room { journal = turned_over room.journal (length snapshot) }
  room_is = made ∙ turned_first (length snapshot) room is none

  pub can_behind : IsTrue room.is_open → m.0 ≤ max_moment → IsWholeChange change → IsFitting change room → length (entry_bytes m change) < 2 ^ 32
      → CanDo (Enter m change) new
  can_behind opens moment whole fitting short =
      let Can : RoomView → Type 0 = λ one. CanDo (Enter m change) one in
      subst Can (sym room_is) (record {
        opens = opens;
        needs = record {
          whole = whole;
          fitting = record { allowed = fitting.allowed; fits = fitting.fits; parts_fit = fitting.parts_fit };
          moment = moment;
          entry = record { file = search rules; short = short };
        };
      })

-- what was prepared is still there
pub memory_behind : (snapshot : List ℕ) (m : Moment) (change : Change) (held now : HeldRoom) → now.room.catalogue ≡ held.room.catalogue
    → TakesMemory (TurnOver snapshot) held.memory now.memory → HasMemoryFor (Enter m change) held → HasMemoryFor (Enter m change) now
memory_behind snapshot m change held now same takes has = (
  ready_kept change (record { lists = held.room.catalogue; room = held.memory.catalogue }) (record { lists = now.room.catalogue; room = now.memory.catalogue })
      same takes.catalogue has.0,
  omega (arith, has.1, takes.entry),
)

-- the effects with the first file before them, where this is its snapshot
pub with_first : (room : RoomView) (snapshot : List ℕ) (effects : List Effect) → room.journal.current ≡ None
    → snapshot ≡ snapshot_text true (catalogue_of room.catalogue) → TurnOver snapshot ∷ effects ≡ with_first_file room effects
with_first room snapshot effects none is =
    let whole : with_first_file room effects ≡ TurnOver (snapshot_text true (catalogue_of room.catalogue)) ∷ effects = rw none refl in
    ap (λ (text : List ℕ). TurnOver text ∷ effects) is ∙ sym whole

-- the turn-over and the effects behind it
pub does_behind : {T U : Type 0} (snapshot : List ℕ) (effects : List Effect) (value : T) (answer : Result U Refusal) (a b c : RoomView) (old mid new : DiskView)
    → a.journal.current ≡ None → snapshot ≡ snapshot_text true (catalogue_of a.catalogue)
    → Does {T = T} (TurnOver snapshot ∷ []) (Ok value) a b old mid → Does {T = U} effects answer b c mid new
    → Does {T = U} (with_first_file a effects) answer a c old new
does_behind {T} {U} snapshot effects value answer a b c old mid new none is one two =
    let D : List Effect → Type 0 = λ all. Does {T = U} all answer a c old new in
    subst D (with_first a snapshot effects none is) (does_then {T = T} {U = U} (TurnOver snapshot) effects value answer a b c old mid new one two)
