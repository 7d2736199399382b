-- The plans of commands of resources.
use Rattle.std.proofs.Common.{List, [], ◌∷◌, length, sym, subst, inl, inr, arith}
use Rattle.std.specs.Prelude.{ℕ, None, Ok, Err, Option, Result, Some}
use Rattle.room_base.specs.declared.numbers.Moment.{Moment}
use Rattle.room_base.specs.declared.refusal.Refusal.{Refusal}
use Rattle.room_base.specs.declared.refusal.Refusal.TheVariants.{TooMany}
use Rattle.catalog_change.specs.declared.change.Change.TheVariants.{Defined, Dropped}
use Rattle.catalog_change.specs.declared.resource.Resource.{Resource}
use Rattle.catalog_change.specs.declared.resource.ResourceKind.{ResourceKind}
use Rattle.resource_lists.specs.Adding.{max_of_kind}
use Rattle.resource_lists.specs.Counts.{counted, counts_of}
use Rattle.resource_lists.specs.Lists.{ResourceLists}
use Rattle.resource_text.specs.Reading.{Outcome}
use Rattle.room_catalog.specs.Held.{CatalogueLists}
use Rattle.room_command.specs.declared.answer.Answer.TheVariants as answers
use Rattle.room_effects.specs.View.{RoomView}
use Rattle.room_effects.specs.Effects.{Enter}
use Rattle.room_effects.specs.Running.{nothing_known}
use Rattle.room_effects.specs.Plans.{Plan}
use Rattle.room_resources.specs.Called.{Called, exists, has, in_use, no_such, refused_for, called}
use Rattle.room_resources.specs.Defining.{IsDefinePlan, define_plan, first_missing, first_there, have_room, may_define}
use Rattle.room_resources.specs.Dropping.{drop_plan, may_drop, user_of}
use Rattle.room_turns.specs.Orderly.{IsOrderly}
use Rattle.room_turns.proofs.Orderly.{NoFaultIn, no_fault_unless, orderly_checked, orderly_entering}

there_fine : (one : Option Called) (next : Result (Unit {0}) Refusal) → NoFaultIn {X = Unit {0}} next → NoFaultIn {X = Unit {0}} (refused_for {Y = Unit {0}} exists one next)
there_fine None next fine = fine
there_fine (Some one) next fine = tt

missing_fine : (one : Option Called) → NoFaultIn {X = Unit {0}} (refused_for {Y = Unit {0}} no_such one (Ok tt))
missing_fine None = tt
missing_fine (Some one) = tt

define_fine : (lists : ResourceLists) (new : List Resource) → NoFaultIn {X = Unit {0}} (may_define lists new)
define_fine lists new =
    no_fault_unless {X = Unit {0}} (have_room (counts_of lists) (counted new)) (TooMany max_of_kind)
    (refused_for {Y = Unit {0}} exists (first_there lists new) (refused_for {Y = Unit {0}} no_such (first_missing lists new) (Ok tt))) tt
    (there_fine (first_there lists new) (refused_for {Y = Unit {0}} no_such (first_missing lists new) (Ok tt)) (missing_fine (first_missing lists new)))

given_orderly : (m : Moment) (outcome : Outcome (List Resource)) (room : RoomView) → IsOrderly nothing_known (define_plan m outcome room) room
given_orderly m (Err field) room = tt
given_orderly m (Ok new) room =
    orderly_checked {X = Unit {0}} nothing_known (may_define room.catalogue.resources new) _ room (define_fine room.catalogue.resources new)
    (λ done. orderly_entering nothing_known (Enter m (Defined new) ∷ []) (answers.Defined (length new)) room (λ one. (tt, tt)) (omega arith))

pub define_orderly : (m : Moment) (text : List ℕ) (room : RoomView) (plan : Plan) → IsDefinePlan m text room plan → IsOrderly nothing_known plan room
define_orderly m text room plan (inl given) =
    let P : Plan → Type 0 = λ one. IsOrderly nothing_known one room in subst P (sym given.2) (given_orderly m given.0 room)
define_orderly m text room plan (inr none) =
    let P : Plan → Type 0 = λ one. IsOrderly nothing_known one room in subst P (sym none) tt

user_fine : (one : Option Called) → NoFaultIn {X = Unit {0}} (refused_for {Y = Unit {0}} in_use one (Ok tt))
user_fine None = tt
user_fine (Some one) = tt

drop_fine : (kind : ResourceKind) (name : List ℕ) (lists : CatalogueLists) → NoFaultIn {X = Unit {0}} (may_drop kind name lists)
drop_fine kind name lists =
    no_fault_unless {X = Unit {0}} (has lists.resources kind name) (no_such (called kind name)) (refused_for {Y = Unit {0}} in_use (user_of kind name lists) (Ok tt)) tt
    (user_fine (user_of kind name lists))

pub drop_orderly : (m : Moment) (kind : ResourceKind) (name : List ℕ) (room : RoomView) → IsOrderly nothing_known (drop_plan m kind name room) room
drop_orderly m kind name room =
    orderly_checked {X = Unit {0}} nothing_known (may_drop kind name room.catalogue) _ room (drop_fine kind name room.catalogue)
    (λ done. orderly_entering nothing_known (Enter m (Dropped kind name) ∷ []) answers.Empty room (λ one. (tt, tt)) (omega arith))
