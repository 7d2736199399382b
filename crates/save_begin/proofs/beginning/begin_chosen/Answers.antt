use Rattle.std.proofs.Common.{◌≡◌, true, subst, sym}
use Rattle.room_base.specs.declared.refusal.Refusal.TheVariants.{TooMany}
use Rattle.room_catalog.specs.Held.{HeldCatalogue}
use Rattle.room_command.specs.declared.reply.Reply.TheVariants.{Refused}
use Rattle.room_effects.specs.Entering.{ceiling, is_at_ceiling}
use Rattle.room_effects.proofs.Following.{follows_refusal}
use Rattle.save_begin.proofs.Planned.{follows_at_ceiling}
use Rattle.save_begin.proofs.beginning.begin_chosen.Goals as goal

pub returns-then-is_at_ceiling-clause-follows : goal.returns-then-is_at_ceiling-clause-follows
returns-then-is_at_ceiling-clause-follows g c =
    let room = c.args.room.now.room in
    let disk = g.D.Store.view c.args.store.now in
    let C : HeldCatalogue → Type 0 = λ held. is_at_ceiling held.lists ≡ true in
    let at : is_at_ceiling room.catalogue ≡ true = subst C c.catalogue.ensures (sym c.if-is_at_ceiling.ensures) in
    follows_at_ceiling c.args.m room c.args.chosen (Refused (TooMany ceiling)) room disk disk at (follows_refusal (TooMany ceiling) room disk)
