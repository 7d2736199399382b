-- What is done for a call is founded, and enters at most two changes.
use Rattle.std.proofs.Common.{ℕ, zero, suc, ◌+◌, ◌≤◌, List, [], ◌∷◌, length, take, sym, ap, subst, inl, inr, arith}
use Rattle.std.proofs.lemmas.List.{length-append}
use Rattle.std.specs.Prelude.{Ok, Err, Result}
use Rattle.room_base.specs.declared.refusal.Refusal.{Refusal}
use Rattle.room_command.specs.declared.reply.Reply.{Reply}
use Rattle.room_effects.specs.View.{RoomView}
use Rattle.room_effects.specs.Effects.{Broken, Deed, Done, Effect, Enter, EnterPart, Look, WriteLabel, PutIn, TakeOut, Commit, TurnOver, Push, Open, Take, Close, after_done}
use Rattle.room_effects.specs.Running.{AreFounded, IsFounded, Known, RanTo, entered, known_behind, nothing_known, trail}
use Rattle.room_effects.proofs.Changing.{entered_alike}
use Rattle.room_effects.specs.Entering.{moment_of}
use Rattle.room_effects.specs.Plans.{Do, IsTurn, Plan, Refuse}
use Rattle.room_turns.specs.Orderly.{AreFoundedIn, IsOrderly, entries_in}
use Rattle.room_turns.specs.Runs.{failed}
use Rattle.room_turns.specs.Steps.{Call, IsAnswer}
use Rattle.room_turns.proofs.Deeds.{failed_few}
use Rattle.room_turns.proofs.Plans.{plans_are_orderly}

-- ---- founded

pub founded_ran : {T : Type 0} (known : Known) (effects : List Effect) (answer : Result T Refusal) (room : RoomView) (deeds : List Deed) → AreFoundedIn known effects room
    → RanTo {T = T} effects room answer deeds → AreFounded known deeds room
founded_ran known effects answer room [] founded ran = tt
founded_ran {T} known [] (Ok value) room (Done effect ∷ deeds) founded ran = absurd ran
founded_ran {T} known [] (Err fault) room (Done effect ∷ deeds) founded ran = absurd ran
founded_ran {T} known [] (Ok value) room (Broken effect ∷ deeds) founded ran = absurd ran
founded_ran {T} known [] (Err fault) room (Broken effect ∷ deeds) founded ran = absurd ran
founded_ran {T} known (one ∷ effects) answer room (Done effect ∷ deeds) founded ran =
    let F : Effect → Type 0 = λ e. IsFounded known e × AreFoundedIn (known_behind known (Done e) room) effects (after_done e room) in
    let now = subst F (sym ran.0) founded in
    (now.0, founded_ran {T = T} (known_behind known (Done effect) room) effects answer (after_done effect room) deeds now.1 ran.1)
founded_ran {T} known (one ∷ effects) (Ok value) room (Broken effect ∷ deeds) founded ran = absurd ran
founded_ran {T} known (one ∷ effects) (Err fault) room (Broken effect ∷ []) founded ran =
    let F : Effect → Type 0 = λ e. IsFounded known e in
    (subst F (sym ran.0) founded.0, tt)
founded_ran {T} known (one ∷ effects) (Err fault) room (Broken effect ∷ (deed ∷ deeds)) founded ran = absurd ran

founded_take : (known : Known) (count : ℕ) (effects : List Effect) (room : RoomView) → AreFoundedIn known effects room → AreFoundedIn known (take count effects) room
founded_take known zero effects room founded = tt
founded_take known (suc count) [] room founded = tt
founded_take known (suc count) (effect ∷ effects) room founded =
    (founded.0, founded_take (known_behind known (Done effect) room) count effects (after_done effect room) founded.1)

turn_founded : (plan : Plan) (room : RoomView) (reply : Reply) (deeds : List Deed) → IsOrderly nothing_known plan room → IsTurn plan room reply deeds → AreFounded nothing_known deeds room
turn_founded (Refuse refusal) room reply deeds orderly turn =
    let P : List Deed → Type 0 = λ list. AreFounded nothing_known list room in subst P (sym turn.1) tt
turn_founded (Do effects plan_reply) room reply deeds orderly (inl done) = founded_ran {T = Unit {0}} nothing_known effects (Ok tt) room deeds orderly.founded done.1
turn_founded (Do effects plan_reply) room reply deeds orderly (inr (inl broke)) = founded_ran {T = Unit {0}} nothing_known effects (Err broke.0) room deeds orderly.founded broke.2
turn_founded (Do effects plan_reply) room reply deeds orderly (inr (inr none)) =
    founded_ran {T = Unit {0}} nothing_known (take none.2.0 effects) (Ok tt) room deeds (founded_take nothing_known none.2.0 effects room orderly.founded) none.2.1

pub answer_founded : (call : Call) (room : RoomView) (deeds : List Deed) → IsAnswer call room deeds → AreFounded nothing_known deeds room
answer_founded call room deeds answer =
    turn_founded answer.0 room call.reply deeds (plans_are_orderly (moment_of call.clock room.catalogue) call.command room answer.0 answer.1) answer.2

-- ---- few entries

turn_few : (plan : Plan) (room : RoomView) (reply : Reply) (deeds : List Deed) → IsTurn plan room reply deeds → length (failed deeds room) ≤ 1
turn_few (Refuse refusal) room reply deeds turn =
    let P : List Deed → Type 0 = λ list. length (failed list room) ≤ 1 in subst P (sym turn.1) (omega arith)
turn_few (Do effects plan_reply) room reply deeds (inl done) = failed_few {T = Unit {0}} effects (Ok tt) room deeds done.1
turn_few (Do effects plan_reply) room reply deeds (inr (inl broke)) = failed_few {T = Unit {0}} effects (Err broke.0) room deeds broke.2
turn_few (Do effects plan_reply) room reply deeds (inr (inr none)) = failed_few {T = Unit {0}} (take none.2.0 effects) (Ok tt) room deeds none.2.1

pub answer_few : (call : Call) (room : RoomView) (deeds : List Deed) → IsAnswer call room deeds → length (failed deeds room) ≤ 1
answer_few call room deeds answer = turn_few answer.0 room call.reply deeds answer.2

entries_of : (effect : Effect) (room : RoomView) (effects : List Effect) → length (entered (Broken effect) room) + entries_in effects ≤ entries_in (effect ∷ effects)
entries_of (Enter m change) room effects = omega arith
entries_of (EnterPart m ssid part index) room effects = omega arith
entries_of (TurnOver snapshot) room effects = omega arith
entries_of (Commit drive asking) room effects = omega arith
entries_of (Look cart seen) room effects = omega arith
entries_of (WriteLabel label) room effects = omega arith
entries_of (Push drive ssid copy offset bytes) room effects = omega arith
entries_of (PutIn drive volume) room effects = omega arith
entries_of (TakeOut drive) room effects = omega arith
entries_of (Open head) room effects = omega arith
entries_of (Take ssid piece) room effects = omega arith
entries_of (Close ssid) room effects = omega arith

-- deeds that ran enter no more changes than there are entries
trail_few : {T : Type 0} (effects : List Effect) (answer : Result T Refusal) (room : RoomView) (deeds : List Deed) → RanTo {T = T} effects room answer deeds
    → length (trail deeds room) ≤ entries_in effects
trail_few effects answer room [] ran = omega arith
trail_few {T} [] (Ok value) room (Done effect ∷ deeds) ran = absurd ran
trail_few {T} [] (Err fault) room (Done effect ∷ deeds) ran = absurd ran
trail_few {T} [] (Ok value) room (Broken effect ∷ deeds) ran = absurd ran
trail_few {T} [] (Err fault) room (Broken effect ∷ deeds) ran = absurd ran
trail_few {T} (one ∷ effects) answer room (Done effect ∷ deeds) ran =
    let new = after_done effect room in
    let more = trail_few {T = T} effects answer new deeds ran.1 in
    let here : length (entered (Done effect) room) + entries_in effects ≤ entries_in (one ∷ effects) =
    (let P : Effect → Type 0 = λ e. length (entered (Done effect) room) + entries_in effects ≤ entries_in (e ∷ effects) in
    let Q : ℕ → Type 0 = λ n. n + entries_in effects ≤ entries_in (effect ∷ effects) in
    subst P ran.0 (subst Q (sym (ap length (entered_alike effect room))) (entries_of effect room effects))) in
    omega (arith, more, here, length-append (entered (Done effect) room) (trail deeds new))
trail_few {T} (one ∷ effects) (Ok value) room (Broken effect ∷ deeds) ran = absurd ran
trail_few {T} (one ∷ effects) (Err fault) room (Broken effect ∷ []) ran =
    let P : Effect → Type 0 = λ e. length (entered (Broken effect) room) + entries_in effects ≤ entries_in (e ∷ effects) in
    let here = subst P ran.0 (entries_of effect room effects) in
    omega (arith, here, length-append (entered (Broken effect) room) [])
trail_few {T} (one ∷ effects) (Err fault) room (Broken effect ∷ (deed ∷ deeds)) ran = absurd ran

entries_take : (count : ℕ) (effects : List Effect) → entries_in (take count effects) ≤ entries_in effects
entries_take zero effects = omega arith
entries_take (suc count) [] = omega arith
entries_take (suc count) (Enter m change ∷ effects) = omega (arith, entries_take count effects)
entries_take (suc count) (EnterPart m ssid part index ∷ effects) = entries_take count effects
entries_take (suc count) (TurnOver snapshot ∷ effects) = entries_take count effects
entries_take (suc count) (Commit drive asking ∷ effects) = entries_take count effects
entries_take (suc count) (Look cart seen ∷ effects) = entries_take count effects
entries_take (suc count) (WriteLabel label ∷ effects) = entries_take count effects
entries_take (suc count) (Push drive ssid copy offset bytes ∷ effects) = entries_take count effects
entries_take (suc count) (PutIn drive volume ∷ effects) = entries_take count effects
entries_take (suc count) (TakeOut drive ∷ effects) = entries_take count effects
entries_take (suc count) (Open head ∷ effects) = entries_take count effects
entries_take (suc count) (Take ssid piece ∷ effects) = entries_take count effects
entries_take (suc count) (Close ssid ∷ effects) = entries_take count effects

turn_enters : (plan : Plan) (room : RoomView) (reply : Reply) (deeds : List Deed) → IsOrderly nothing_known plan room → IsTurn plan room reply deeds → length (trail deeds room) ≤ 2
turn_enters (Refuse refusal) room reply deeds orderly turn =
    let P : List Deed → Type 0 = λ list. length (trail list room) ≤ 2 in subst P (sym turn.1) (omega arith)
turn_enters (Do effects plan_reply) room reply deeds orderly (inl done) =
    omega (arith, orderly.few, trail_few {T = Unit {0}} effects (Ok tt) room deeds done.1)
turn_enters (Do effects plan_reply) room reply deeds orderly (inr (inl broke)) =
    omega (arith, orderly.few, trail_few {T = Unit {0}} effects (Err broke.0) room deeds broke.2)
turn_enters (Do effects plan_reply) room reply deeds orderly (inr (inr none)) =
    omega (arith, orderly.few, trail_few {T = Unit {0}} (take none.2.0 effects) (Ok tt) room deeds none.2.1, entries_take none.2.0 effects)

pub answer_enters : (call : Call) (room : RoomView) (deeds : List Deed) → IsAnswer call room deeds → length (trail deeds room) ≤ 2
answer_enters call room deeds answer =
    turn_enters answer.0 room call.reply deeds (plans_are_orderly (moment_of call.clock room.catalogue) call.command room answer.0 answer.1) answer.2
