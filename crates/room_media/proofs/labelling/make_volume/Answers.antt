use Rattle.std.proofs.Common.{◌≡◌, ◌∷◌, [], true, subst, sym}
use Rattle.room_base.specs.declared.refusal.Refusal.TheVariants.{TooMany}
use Rattle.catalog_change.specs.declared.change.Change.TheVariants as changes
use Rattle.room_catalog.specs.Held.{HeldCatalogue}
use Rattle.room_command.specs.declared.answer.Answer.TheVariants.{Labelled}
use Rattle.room_command.specs.declared.reply.Reply.TheVariants as replies
use Rattle.room_effects.specs.Effects.{Enter, WriteLabel}
use Rattle.room_effects.specs.Entering.{ceiling, is_at_ceiling}
use Rattle.room_effects.proofs.Following.{follows_refusal}
use Rattle.room_entering.proofs.Ceilings.{follows_at_ceiling}
use Rattle.room_media.specs.Labelling.{label_of, next_volid}
use Rattle.room_media.proofs.labelling.make_volume.Goals as goal

pub returns-then-is_at_ceiling : goal.returns-then-is_at_ceiling
returns-then-is_at_ceiling g c =
    let room = c.args.room.now.room in
    let new = c.args.new in
    let disk = g.D.Store.view c.args.store.now in
    let C : HeldCatalogue → Type 0 = λ held. is_at_ceiling held.lists ≡ true in
    let at : is_at_ceiling room.catalogue ≡ true = subst C c.catalogue.ensures (sym c.if-is_at_ceiling.ensures) in
    follows_at_ceiling [] (Enter c.args.m (changes.Labelled (next_volid room) new.cart new.pool new.capacity c.args.was) ∷ WriteLabel (label_of c.args.m (next_volid room) new) ∷ [])
    (replies.Done (Labelled new.cart (next_volid room))) (replies.Refused (TooMany ceiling)) room room disk disk at (follows_refusal (TooMany ceiling) room disk)
