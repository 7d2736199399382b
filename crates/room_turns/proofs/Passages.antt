-- Runs with one more passage.
use Rattle.std.proofs.Common.{◌≡◌, ℕ, ◌+◌, List, [], ◌∷◌, ◌++◌, refl, sym, ap, ◌∙◌, arith, append_assoc}
use Rattle.std.proofs.lemmas.List.{append-nil}
use Rattle.std.specs.Prelude.{IsTrue}
use Rattle.catalog_spelling.specs.Changes.{Stamped}
use Rattle.room_effects.specs.View.{RoomView}
use Rattle.room_effects.specs.Running.{failures}
use Rattle.room_effects.specs.Effects.{after_all}
use Rattle.room_turns.specs.Runs.{AreAnswered, IsReopened, Passage, behind, behind_all, failed, failures_in, left_open, stands_behind, trail_of, unless_reopened}
use Rattle.room_turns.specs.Steps.{IsAnswer}

pub behind_one_more : (passages : List Passage) (one : Passage) (room : RoomView) → behind_all (passages ++ one ∷ []) room ≡ behind one (behind_all passages room)
behind_one_more [] one room = refl
behind_one_more (first ∷ more) one room = behind_one_more more one (behind first room)

pub answered_one_more : (passages : List Passage) (one : Passage) (room : RoomView) → AreAnswered passages room → IsTrue (behind_all passages room).is_open
    → IsAnswer one.call (behind_all passages room) one.deeds → IsReopened one.reopening (after_all one.deeds (behind_all passages room))
    → AreAnswered (passages ++ one ∷ []) room
answered_one_more [] one room are opens answered again = (opens, answered, again, tt)
answered_one_more (first ∷ more) one room are opens answered again =
    (are.0, are.1, are.2, answered_one_more more one (behind first room) are.3 opens answered again)

-- and without the last
pub answered_before : (passages : List Passage) (one : Passage) (room : RoomView) → AreAnswered (passages ++ one ∷ []) room → AreAnswered passages room
answered_before [] one room are = tt
answered_before (first ∷ more) one room are = (are.0, are.1, are.2, answered_before more one (behind first room) are.3)

pub record LastAnswered (passages : List Passage) (one : Passage) (room : RoomView) : Type 0 where
  pub opens : IsTrue (behind_all passages room).is_open
  pub answered : IsAnswer one.call (behind_all passages room) one.deeds

pub last_answered : (passages : List Passage) (one : Passage) (room : RoomView) → AreAnswered (passages ++ one ∷ []) room → LastAnswered passages one room
last_answered [] one room are = record { opens = are.0; answered = are.1 }
last_answered (first ∷ more) one room are =
    let last = last_answered more one (behind first room) are.3 in
    record { opens = last.opens; answered = last.answered }

pub trail_one_more : (passages : List Passage) (one : Passage) (room : RoomView)
    → trail_of (passages ++ one ∷ []) room ≡ trail_of passages room ++ stands_behind one (behind_all passages room)
trail_one_more [] one room = append-nil (stands_behind one room)
trail_one_more (first ∷ more) one room =
    ap (λ (rest : List Stamped). stands_behind first room ++ rest) (trail_one_more more one (behind first room))
    ∙ sym (append_assoc (stands_behind first room) (trail_of more (behind first room)) (stands_behind one (behind_all more (behind first room))))

pub left_one_more : (passages : List Passage) (one : Passage) (room : RoomView)
    → left_open (passages ++ one ∷ []) room ≡ unless_reopened one.reopening (failed one.deeds (behind_all passages room))
left_one_more [] one room = refl
left_one_more (first ∷ []) one room = refl
left_one_more (first ∷ next ∷ more) one room = left_one_more (next ∷ more) one (behind first room)

pub failures_one_more : (file : ℕ) (passages : List Passage) (one : Passage) (room : RoomView)
    → failures_in file (passages ++ one ∷ []) room ≡ failures_in file passages room + failures file one.deeds (behind_all passages room)
failures_one_more file [] one room = omega arith
failures_one_more file (first ∷ more) one room = omega (arith, failures_one_more file more one (behind first room))
