use Rattle.std.proofs.Common.{◌∷◌, [], ◌<◌, ◌^◌, List, length, subst, arith}
use Rattle.std.specs.Prelude.{Ok, Err}
use Rattle.catalog_change.specs.declared.change.Change.TheVariants.{Defined}
use Rattle.catalog_change.specs.declared.resource.Resource.{Resource}
use Rattle.room_command.specs.declared.answer.Answer.TheVariants as answers
use Rattle.room_command.specs.declared.reply.Reply.TheVariants.{Done}
use Rattle.room_effects.specs.Effects.{Enter}
use Rattle.room_effects.specs.Checked.{ComesTo}
use Rattle.room_effects.specs.Entering.{entering}
use Rattle.room_effects.proofs.Checking.{came_to, follows_checks}
use Rattle.room_resources.specs.Defining.{may_define}
use Rattle.room_resources.proofs.Definable.{are_few, can_be_added}
use Rattle.room_resources.proofs.defining.define_each.Goals as goal

pub overflow_cast-count : goal.overflow_cast-count
overflow_cast-count g c =
    let lists = c.args.room.now.room.catalogue.resources in
    let F : List Resource → Type 0 = λ new. ComesTo {X = Unit {0}} (may_define lists new) (Ok tt) in
    let few : length c.args.new < 2 ^ 32 = are_few lists c.args.new (came_to {X = Unit {0}} (may_define lists c.args.new) tt (subst F c.as_slice.ensures c.in-Ok.ensures)) in
    rw c.as_slice-in-Ok.ensures (omega (arith, few))

pub enter_alone-requires-clause-allowed : goal.enter_alone-requires-clause-allowed
enter_alone-requires-clause-allowed g c =
    let lists = c.args.room.now.room.catalogue.resources in
    let F : List Resource → Type 0 = λ new. ComesTo {X = Unit {0}} (may_define lists new) (Ok tt) in
    (are_few lists c.args.new (came_to {X = Unit {0}} (may_define lists c.args.new) tt (subst F c.as_slice.ensures c.in-Ok.ensures)), c.requires.allowed)

pub enter_alone-requires-clause-fits : goal.enter_alone-requires-clause-fits
enter_alone-requires-clause-fits g c =
    let lists = c.args.room.now.room.catalogue.resources in
    let F : List Resource → Type 0 = λ new. ComesTo {X = Unit {0}} (may_define lists new) (Ok tt) in
    can_be_added lists c.args.new (came_to {X = Unit {0}} (may_define lists c.args.new) tt (subst F c.as_slice.ensures c.in-Ok.ensures)) c.requires.distinct

pub returns-in-Err : goal.returns-in-Err
returns-in-Err g c =
    let room = c.args.room.now.room in
    let F : List Resource → Type 0 = λ new. ComesTo {X = Unit {0}} (may_define room.catalogue.resources new) (Err c.in-Err.refusal) in
    follows_checks {X = Unit {0}} (may_define room.catalogue.resources c.args.new)
    (λ _. entering [] (Enter c.args.m (Defined c.args.new) ∷ []) (Done (answers.Defined (length c.args.new))) room)
    c.in-Err.refusal room (g.D.Store.view c.args.store.now) (subst F c.as_slice.ensures c.in-Err.ensures)
