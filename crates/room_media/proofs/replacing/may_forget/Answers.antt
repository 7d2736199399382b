use Rattle.std.proofs.Common.{◌≡◌, List, refl, sym, ◌∙◌, ap, subst}
use Rattle.std.specs.Prelude.{Some, Ok, Err}
use Rattle.media_db.specs.declared.records.Record.{Record}
use Rattle.dep_chain.specs.Labelling.{IsLabelAnswer}
use Rattle.dep_chain.specs.Need.{AreSessions}
use Rattle.dep_chain.specs.declared.open_set.OpenSet.{OpenSet}
use Rattle.room_catalog.specs.Held.{HeldCatalogue}
use Rattle.room_checks.specs.OpenSets.{open_sets}
use Rattle.room_media.proofs.replacing.may_forget.Goals as goal

pub may_label-requires-clause-sessions : goal.may_label-requires-clause-sessions
may_label-requires-clause-sessions c =
    let room = c.args.room.now.room in
    let records : c.db.result.now.records ≡ room.catalogue.records =
    c.db.ensures.records ∙ ap (λ (held : HeldCatalogue). held.lists.records) c.catalogue.ensures in
    let sets : c.as_slice.result.now ≡ open_sets room = c.as_slice.ensures ∙ c.in-Ok.ensures.sets in
    let R : List Record → Type 0 = λ rows. AreSessions rows (open_sets room) in
    let S : List OpenSet → Type 0 = λ open_so. AreSessions c.db.result.now.records open_so in
    subst S (sym sets) (subst R (sym records) (c.in-Ok.ensures.recorded c.requires.between))

pub returns-in-Ok-may_label : goal.returns-in-Ok-may_label
returns-in-Ok-may_label c =
    let room = c.args.room.now.room in
    let records : c.db.result.now.records ≡ room.catalogue.records =
    c.db.ensures.records ∙ ap (λ (held : HeldCatalogue). held.lists.records) c.catalogue.ensures in
    let sets : c.as_slice.result.now ≡ open_sets room = c.as_slice.ensures ∙ c.in-Ok.ensures.sets in
    let R : List Record → Type 0 = λ rows. IsLabelAnswer rows (open_sets room) c.args.volume.now.volid.0 c.args.m.0 (Ok tt) in
    let S : List OpenSet → Type 0 = λ open_so. IsLabelAnswer c.db.result.now.records open_so c.args.volume.now.volid.0 c.args.m.0 (Ok tt) in
    (Some (Ok tt), subst R records (subst S sets c.in-Ok-may_label.ensures), refl)

pub returns-in-Ok : goal.returns-in-Ok
returns-in-Ok c =
    let room = c.args.room.now.room in
    let records : c.db.result.now.records ≡ room.catalogue.records =
    c.db.ensures.records ∙ ap (λ (held : HeldCatalogue). held.lists.records) c.catalogue.ensures in
    let sets : c.as_slice.result.now ≡ open_sets room = c.as_slice.ensures ∙ c.in-Ok.ensures.sets in
    let R : List Record → Type 0 = λ rows. IsLabelAnswer rows (open_sets room) c.args.volume.now.volid.0 c.args.m.0 (Err c.in-Err-may_label.ssid) in
    let S : List OpenSet → Type 0 = λ open_so. IsLabelAnswer c.db.result.now.records open_so c.args.volume.now.volid.0 c.args.m.0 (Err c.in-Err-may_label.ssid) in
    (Some (Err c.in-Err-may_label.ssid), subst R records (subst S sets c.in-Err-may_label.ensures), refl)
