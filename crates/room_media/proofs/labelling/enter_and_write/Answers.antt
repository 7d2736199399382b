use Rattle.std.proofs.Common.{◌≡◌, ◌∷◌, [], ap, ◌∙◌, sym, subst, refl}
use Rattle.std.specs.Prelude.{Ok, Err}
use Rattle.room_base.specs.declared.numbers.Volid.{Volid}
use Rattle.room_base.specs.declared.refusal.Refusal.TheVariants.{NoMemory}
use Rattle.catalog_change.specs.Catalogues.{IsCatalogue}
use Rattle.catalog_change.specs.Changes.{IsChange}
use Rattle.catalog_change.specs.declared.change.Change.TheVariants as changes
use Rattle.volume_block.specs.Valid.{IsLabel}
use Rattle.volume_block.specs.declared.label.Label.{Label}
use Rattle.room_catalog.specs.Held.{HeldCatalogue, catalogue_of}
use Rattle.room_command.specs.declared.reply.Reply.TheVariants.{Refused}
use Rattle.room_effects.specs.View.{RoomView}
use Rattle.room_effects.specs.Effects.{Enter}
use Rattle.room_effects.specs.Needs.{IsFitting}
use Rattle.room_effects.specs.Running.{Does}
use Rattle.room_entering.specs.Prepared.{IsEnteredFrom}
use Rattle.room_effects.specs.Entering.{with_first_file}
use Rattle.room_effects.specs.Plans.{Follows}
use Rattle.room_effects.proofs.Following.{follows_no_memory}
use Rattle.room_media.specs.Labelling.{label_of, new_volume_plan, next_volid}
use Rattle.room_media.proofs.Relabelling.{can_write, change_fits, change_is, follows_labelled, follows_unentered, follows_unlabelled, label_is}
use Rattle.room_media.proofs.labelling.enter_and_write.Goals as goal

pub prepare_entry-requires : goal.prepare_entry-requires
prepare_entry-requires g c =
    let room = c.args.room.now.room in
    let H : HeldCatalogue → Type 0 = λ held. IsCatalogue (catalogue_of held.lists) in
    let held = subst H c.catalogue-catalogue.ensures c.number-number.ensures.allowed in
    let is : c.next_volid-volid.result ≡ next_volid room =
    ap (λ n. record { 0 = n }) (c.next_volid-volid.ensures ∙ ap (λ (held : HeldCatalogue). held.lists.next_volid) c.catalogue-catalogue.ensures) in
    let P : Volid → Type 0 = λ v. IsChange (changes.Labelled v c.args.new.cart c.args.new.pool c.args.new.capacity c.args.was) in
    subst P (sym is) (change_is c.args.m c.args.new c.args.was room c.requires.new held)

pub enter_prepared-requires-clause-fits : goal.enter_prepared-requires-clause-fits
enter_prepared-requires-clause-fits g c =
    let room = c.args.room.now.room in
    let H : HeldCatalogue → Type 0 = λ held. IsCatalogue (catalogue_of held.lists) in
    let held = subst H c.catalogue-catalogue.ensures c.number-number.ensures.allowed in
    let is : c.next_volid-volid.result ≡ next_volid room =
    ap (λ n. record { 0 = n }) (c.next_volid-volid.ensures ∙ ap (λ (held : HeldCatalogue). held.lists.next_volid) c.catalogue-catalogue.ensures) in
    let P : Volid → Type 0 = λ v. IsFitting (changes.Labelled v c.args.new.cart c.args.new.pool c.args.new.capacity c.args.was) c.prepare_entry.new.room.room in
    let R : RoomView → Type 0 = λ r. IsFitting (changes.Labelled (next_volid room) c.args.new.cart c.args.new.pool c.args.new.capacity c.args.was) r in
    subst P (sym is) (subst R (sym c.prepare_entry.ensures.room) (change_fits c.args.m c.args.new c.args.was room c.requires.new held c.requires.below))

pub write_label-requires : goal.write_label-requires
write_label-requires g c =
    let room = c.args.room.now.room in
    let H : HeldCatalogue → Type 0 = λ held. IsCatalogue (catalogue_of held.lists) in
    let held = subst H c.catalogue-catalogue.ensures c.number-number.ensures.allowed in
    let is : c.next_volid-volid.result ≡ next_volid room =
    ap (λ n. record { 0 = n }) (c.next_volid-volid.ensures ∙ ap (λ (held : HeldCatalogue). held.lists.next_volid) c.catalogue-catalogue.ensures) in
    let same : c.label_of-label.result ≡ label_of c.args.m (next_volid room) c.args.new =
    c.label_of-label.ensures ∙ ap (λ (v : Volid). label_of c.args.m v c.args.new) is in
    let P : Label → Type 0 = λ l. IsLabel l in
    let C : Label → Type 0 = λ l. (l.cart ≡ c.args.new.cart) in
    let E : RoomView → Type 0 = λ r. IsEnteredFrom r c.enter_prepared.new.room.room in
    let cart : c.label_of-label.result.cart ≡ c.args.new.cart = subst C (sym same) refl in
    can_write c.label_of-label.result room c.enter_prepared.new.room.room c.requires.opens (subst P (sym same) (label_is c.args.m c.args.new c.args.was room c.requires.new held c.requires.moment))
    (rw cart c.requires.new.in_no_drive) (subst E c.prepare_entry.ensures.room c.in-Ok-enter_prepared.ensures.room)

pub returns-in-Ok-write_label : goal.returns-in-Ok-write_label
returns-in-Ok-write_label g c =
    let room = c.args.room.now.room in
    let mid = c.enter_prepared.new.room.room in
    let before = g.D.Store.view c.args.store.now in
    let middle = g.D.Store.view c.enter_prepared.new.store in
    let volid = c.next_volid-volid.result in
    let is : volid ≡ next_volid room =
    ap (λ n. record { 0 = n }) (c.next_volid-volid.ensures ∙ ap (λ (held : HeldCatalogue). held.lists.next_volid) c.catalogue-catalogue.ensures) in
    let D : RoomView → Type 0 = λ r. Does {T = Unit {0}} (with_first_file r (Enter c.args.m (changes.Labelled volid c.args.new.cart c.args.new.pool c.args.new.capacity c.args.was) ∷ [])) (Ok tt) r mid before middle in
    follows_labelled c.args.m c.args.new c.args.was room c.requires.below volid c.label_of-label.result mid before middle (g.D.Store.view c.write_label.new.store) is c.label_of-label.ensures
    (subst D c.prepare_entry.ensures.room c.in-Ok-enter_prepared.ensures.does) c.in-Ok-write_label.ensures

pub returns-in-Err-write_label : goal.returns-in-Err-write_label
returns-in-Err-write_label g c =
    let room = c.args.room.now.room in
    let mid = c.enter_prepared.new.room.room in
    let before = g.D.Store.view c.args.store.now in
    let middle = g.D.Store.view c.enter_prepared.new.store in
    let volid = c.next_volid-volid.result in
    let is : volid ≡ next_volid room =
    ap (λ n. record { 0 = n }) (c.next_volid-volid.ensures ∙ ap (λ (held : HeldCatalogue). held.lists.next_volid) c.catalogue-catalogue.ensures) in
    let D : RoomView → Type 0 = λ r. Does {T = Unit {0}} (with_first_file r (Enter c.args.m (changes.Labelled volid c.args.new.cart c.args.new.pool c.args.new.capacity c.args.was) ∷ [])) (Ok tt) r mid before middle in
    follows_unlabelled c.args.m c.args.new c.args.was room c.requires.below volid c.label_of-label.result c.in-Err-write_label.fault mid before middle (g.D.Store.view c.write_label.new.store) is c.label_of-label.ensures
    (subst D c.prepare_entry.ensures.room c.in-Ok-enter_prepared.ensures.does) c.in-Err-write_label.ensures

pub returns-in-Err-enter_prepared : goal.returns-in-Err-enter_prepared
returns-in-Err-enter_prepared g c =
    let room = c.args.room.now.room in
    let mid = c.enter_prepared.new.room.room in
    let before = g.D.Store.view c.args.store.now in
    let now = g.D.Store.view c.enter_prepared.new.store in
    let volid = c.next_volid-volid.result in
    let fault = c.in-Err-enter_prepared.fault in
    let is : volid ≡ next_volid room =
    ap (λ n. record { 0 = n }) (c.next_volid-volid.ensures ∙ ap (λ (held : HeldCatalogue). held.lists.next_volid) c.catalogue-catalogue.ensures) in
    let D : RoomView → Type 0 = λ r. Does {T = Unit {0}} (with_first_file r (Enter c.args.m (changes.Labelled volid c.args.new.cart c.args.new.pool c.args.new.capacity c.args.was) ∷ [])) (Err fault) r mid before now in
    follows_unentered c.args.m c.args.new c.args.was room c.requires.below volid fault mid before now is (subst D c.prepare_entry.ensures.room c.in-Err-enter_prepared.ensures.does)

pub returns-in-Err : goal.returns-in-Err
returns-in-Err g c =
    let room = c.args.room.now.room in
    let disk = g.D.Store.view c.args.store.now in
    let plan = new_volume_plan c.args.m c.args.new c.args.was room in
    let F : RoomView → Type 0 = λ now. Follows plan (Refused NoMemory) room now disk disk in
    subst F (sym c.in-Err.ensures.room) (follows_no_memory plan room disk)
