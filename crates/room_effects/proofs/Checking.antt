-- How a command follows a plan behind checks and reads.
use Rattle.std.proofs.Common.{◌≡◌, ◌⊎◌, ℕ, suc, List, [], ◌∷◌, take, refl, sym, ap, subst, inl, inr}
use Rattle.std.specs.Prelude.{Result, Ok, Err}
use Rattle.room_base.specs.declared.refusal.Refusal.{Refusal}
use Rattle.room_base.specs.declared.refusal.Refusal.TheVariants.{NoMemory}
use Rattle.room_disk.specs.Disk.{DiskView}
use Rattle.room_command.specs.declared.reply.Reply.{Reply}
use Rattle.room_command.specs.declared.reply.Reply.TheVariants.{Refused}
use Rattle.room_effects.specs.View.{RoomView}
use Rattle.room_effects.specs.Effects.{Effect, Deed, Done, Broken, Look, Seen}
use Rattle.room_effects.specs.Running.{AreLooks, Does, Performed, RanTo}
use Rattle.room_effects.proofs.Does.{does_fault, does_stop, performed_then}
use Rattle.room_effects.specs.Plans.{Plan, Refuse, Do, Follows, IsTurn}
use Rattle.room_effects.specs.Checked.{ComesTo, behind, checked}
use Rattle.room_effects.proofs.Following.{follows_fault, follows_no_memory, follows_refusal}

-- ---- checks

-- a refusal that takes memory
pub comes_to_refusal : {X : Type 0} (expected : Result X Refusal) (wanted made : Refusal) → expected ≡ Err wanted → (made ≡ wanted) ⊎ (made ≡ NoMemory)
    → ComesTo {X = X} expected (Err made)
comes_to_refusal {X} expected wanted made is (inl same) = inl (let e : ◌≡◌ {A = Result X Refusal} (Err made) expected = cc in e)
comes_to_refusal {X} expected wanted made is (inr none) = inr (let e : ◌≡◌ {A = Result X Refusal} (Err made) (Err NoMemory) = cc in e)

-- the checks have refused
pub follows_checks : {X : Type 0} (expected : Result X Refusal) (next : X → Plan) (made : Refusal) (room : RoomView) (disk : DiskView)
    → ComesTo {X = X} expected (Err made) → Follows (checked {X = X} expected next) (Refused made) room room disk disk
follows_checks {X} expected next made room disk (inl is) =
    let F : Result X Refusal → Type 0 = λ answer. Follows (checked {X = X} answer next) (Refused made) room room disk disk in
    subst F is (follows_refusal made room disk)
follows_checks {X} expected next made room disk (inr none) =
    let same : made ≡ NoMemory = cc none in
    let F : Refusal → Type 0 = λ refusal. Follows (checked {X = X} expected next) (Refused refusal) room room disk disk in
    subst F (sym same) (follows_no_memory (checked {X = X} expected next) room disk)

-- the checks have gone through
pub follows_checked : {X : Type 0} (expected : Result X Refusal) (next : X → Plan) (value : X) (answer : Reply) (old new : RoomView) (before now : DiskView)
    → Ok value ≡ expected → Follows (next value) answer old new before now → Follows (checked {X = X} expected next) answer old new before now
follows_checked {X} expected next value answer old new before now is follows =
    let F : Result X Refusal → Type 0 = λ checks. Follows (checked {X = X} checks next) answer old new before now in
    subst F is follows

-- what a call came to that wanted no memory
pub came_to : {X : Type 0} (expected : Result X Refusal) (value : X) → ComesTo {X = X} expected (Ok value) → Ok value ≡ expected
came_to expected value (inl is) = is
came_to {X} expected value (inr none) = absurd (let no : ◌≡◌ {A = Result X Refusal} (Ok value) (Err NoMemory) = none in cc)

-- ---- reads

module _ (cart : ℕ) (seen : Seen) (room : RoomView) where
  -- the turn with the read before it
  turned_refusal : (refusal : Refusal) (answer : Reply) (deeds : List Deed) → (answer ≡ Refused refusal) ⊎ (answer ≡ Refused NoMemory) → deeds ≡ []
      → IsTurn (Do (Look cart seen ∷ []) (Refused refusal)) room answer (Done (Look cart seen) ∷ deeds)
  turned_refusal refusal answer deeds (inl is) none =
      let R : List Deed → Type 0 = λ more. RanTo {T = Unit {0}} (Look cart seen ∷ []) room (Ok tt) (Done (Look cart seen) ∷ more) in
      inl (is, subst R (sym none) (refl, tt))
  turned_refusal refusal answer deeds (inr is) none =
      let R : List Deed → Type 0 = λ more. RanTo {T = Unit {0}} (Look cart seen ∷ []) room (Ok tt) (Done (Look cart seen) ∷ more) in
      let L : List Deed → Type 0 = λ more. AreLooks (Done (Look cart seen) ∷ more) in
      inr (inr (is, subst L (sym none) tt, (1, subst R (sym none) (refl, tt))))

  turned_done : (effects : List Effect) (reply answer : Reply) (deeds : List Deed) → IsTurn (Do effects reply) room answer deeds
      → IsTurn (Do (Look cart seen ∷ effects) reply) room answer (Done (Look cart seen) ∷ deeds)
  turned_done effects reply answer deeds (inl done) = inl (done.0, (refl, done.1))
  turned_done effects reply answer deeds (inr (inl failed)) = inr (inl (failed.0, failed.1, (refl, failed.2)))
  turned_done effects reply answer deeds (inr (inr wants)) = inr (inr (wants.0, wants.1, (suc wants.2.0, (refl, wants.2.1))))

  pub turned_behind : (plan : Plan) (answer : Reply) (deeds : List Deed) → IsTurn plan room answer deeds
      → IsTurn (behind (Look cart seen) plan) room answer (Done (Look cart seen) ∷ deeds)
  turned_behind (Refuse refusal) answer deeds turn = turned_refusal refusal answer deeds turn.0 turn.1
  turned_behind (Do effects reply) answer deeds turn = turned_done effects reply answer deeds turn

  did_look : {T : Type 0} (value : T) (deeds : List Deed) → RanTo {T = T} (Look cart seen ∷ []) room (Ok value) deeds → deeds ≡ Done (Look cart seen) ∷ []
  did_look value [] ran = absurd ran
  did_look value (Done effect ∷ []) ran = ap (λ (one : Effect). Done one ∷ []) ran.0
  did_look value (Done effect ∷ (deed ∷ deeds)) ran = absurd ran.1
  did_look value (Broken effect ∷ deeds) ran = absurd ran

  -- the read is done, and then the plan is followed
  pub follows_behind : {T : Type 0} (value : T) (plan : Plan) (answer : Reply) (new : RoomView) (before mid now : DiskView)
      → Does {T = T} (Look cart seen ∷ []) (Ok value) room room before mid → Follows plan answer room new mid now
      → Follows (behind (Look cart seen) plan) answer room new before now
  follows_behind {T} value plan answer new before mid now does follows = record {
    deeds = Done (Look cart seen) ∷ follows.deeds;
    turn = turned_behind plan answer follows.deeds follows.turn;
    performed = (let P : List Deed → Type 0 = λ deeds. Performed deeds room room before mid in
        performed_then (Done (Look cart seen) ∷ []) follows.deeds room room new before mid now
        (subst P (did_look {T = T} value does.deeds does.ran) does.performed) follows.performed);
  }

  -- the read fails
  pub follows_unread : {T : Type 0} (plan : Plan) (fault : Refusal) (new : RoomView) (before now : DiskView)
      → Does {T = T} (Look cart seen ∷ []) (Err fault) room new before now
      → Follows (behind (Look cart seen) plan) (Refused fault) room new before now
  follows_unread {T} (Refuse refusal) fault new before now does = follows_fault (Look cart seen ∷ []) (Refused refusal) room new before now fault
      (does_fault {T = T} {U = Unit {0}} (Look cart seen ∷ []) fault room new before now does)
  follows_unread {T} (Do effects reply) fault new before now does = follows_fault (Look cart seen ∷ effects) reply room new before now fault
      (does_stop {T = T} {U = Unit {0}} (Look cart seen ∷ []) effects fault room new before now does)
