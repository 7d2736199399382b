use Rattle.std.proofs.Common.{◌∙◌, subst, sym, ap}
use Rattle.std.specs.List.{AllByRecursion}
use Rattle.catalog_change.specs.declared.change.Change.{Change}
use Rattle.catalog_change.specs.declared.change.Change.TheVariants.{Finished}
use Rattle.catalog_change.specs.Catalogues.{IsCatalogue}
use Rattle.catalog_change.specs.Changes.{IsEntry}
use Rattle.room_catalog.specs.Fits.{Fits}
use Rattle.room_catalog.specs.Held.{CatalogueLists, Parts, catalogue_of}
use Rattle.room_catalog.specs.Ready.{IsReady}
use Rattle.room_catalog.specs.Views.{held_of}
use Rattle.room_catalog.proofs.Applied.{IsNoPart, applied_to, closed_to, is_no_part, no_parts_after, parts_stay, takes_from_more}
use Rattle.room_catalog.proofs.KeptCatalogue.{stays_allowed}
use Rattle.room_catalog.proofs.Waiting.{lists_closed, lists_made}
use Rattle.room_catalog.proofs.catalogue.Catalogue.apply.Goals as goal

pub invariant_of-self-in-FinishedParts : goal.invariant_of-self-in-FinishedParts
invariant_of-self-in-FinishedParts c =
    let old = held_of c.self.inside.kept in
    let fits = rw (← c.self.view_is) at c.requires.fits in
    let next = rw (← c.self.view_is) at c.requires.number in
    let ready = rw (← c.self.view_is) at c.requires.ready in
    let step = c.in-FinishedParts in
    let made = c.change.ensures in
    let finished = Finished step.ssid step.files step.bytes step.digest step.sections c.of-index.result in
    let closes = subst (λ (one : Change). Fits (catalogue_of old.lists) one) step.is fits in
    let room = subst (IsReady old) step.is ready in
    record {
      catalogue = subst (λ (lists : CatalogueLists). IsCatalogue (catalogue_of lists)) (sym made.lists)
          (stays_allowed c.args.number c.args.m old.lists c.take.new.self.parts old.room c.self.invariant.catalogue next c.requires.moment finished tt made.kept made.digest closes room);
      parts = subst (λ (parts : Parts). AllByRecursion IsEntry parts.entries) (sym (ap (λ (lists : CatalogueLists). lists.parts) made.lists ∙ c.take.ensures.parts)) tt;
    }

pub invariant_of-self-in_default : goal.invariant_of-self-in_default
invariant_of-self-in_default c =
    let old = held_of c.self.inside.kept in
    let fits = rw (← c.self.view_is) at c.requires.fits in
    let next = rw (← c.self.view_is) at c.requires.number in
    let ready = rw (← c.self.view_is) at c.requires.ready in
    let change = c.args.change in
    let made = c.change-in_default.ensures in
    let parts = c.clear.new.self.parts in
    let no_part = is_no_part change c.in_default.not-IndexPart c.in_default.not-FinishedParts in
    record {
      catalogue = subst (λ (lists : CatalogueLists). IsCatalogue (catalogue_of lists)) (sym made.lists)
          (stays_allowed c.args.number c.args.m old.lists parts old.room c.self.invariant.catalogue next c.requires.moment change no_part made.kept made.digest fits ready);
      parts = subst (λ (parts : Parts). AllByRecursion IsEntry parts.entries) (sym (ap (λ (lists : CatalogueLists). lists.parts) made.lists ∙ parts_stay c.args.number c.args.m change (record old.lists { parts = parts }) ∙ c.clear.ensures.parts)) tt;
    }

pub returns-in-FinishedParts-clause-applied : goal.returns-in-FinishedParts-clause-applied
returns-in-FinishedParts-clause-applied c =
    let old = (held_of c.self.inside.kept).lists in
    let fits = rw (← c.self.view_is) at c.requires.fits in
    let next = rw (← c.self.view_is) at c.requires.number in
    let step = c.in-FinishedParts in
    rw (← c.self.view_is)
    (closed_to c.args.number c.args.m old c.take.new.self.parts c.self.invariant.catalogue next (held_of c.change.new.self).lists c.args.change step.ssid step.files step.bytes step.digest step.sections c.of-index.result step.is
    (c.of-index.ensures ∙ c.take.ensures.entries) fits.1 c.change.ensures.lists)

-- the change that is passed on is no part
no_part : (c : goal.After-change-in_default) → IsNoPart c.args.change
no_part c = is_no_part c.args.change c.in_default.not-IndexPart c.in_default.not-FinishedParts

pub returns-in_default : goal.returns-in_default
returns-in_default c =
    let old = held_of c.self.inside.kept in
    let fits = rw (← c.self.view_is) at c.requires.fits in
    let next = rw (← c.self.view_is) at c.requires.number in
    let change = c.args.change in
    let made = c.change-in_default.ensures in
    let now = held_of c.change-in_default.new.self in
    rw (← c.self.view_is) (record {
      applied = applied_to c.args.number c.args.m old.lists c.clear.new.self.parts c.self.invariant.catalogue next now.lists change (no_part c) fits.1 made.lists;
      lists = lists_made c.args.number c.args.m old.lists now.lists c.clear.new.self.parts c.clear.ensures.parts next change (no_part c) made.lists;
      parts = ap (λ (lists : CatalogueLists). lists.parts) made.lists ∙ parts_stay c.args.number c.args.m change (record old.lists { parts = c.clear.new.self.parts }) ∙ c.clear.ensures.parts
          ∙ no_parts_after change old.lists.parts (no_part c);
      room = takes_from_more change old.room now.room c.clear.new.self.capacity c.clear.ensures.capacity made.room;
    })

pub returns-in-FinishedParts-clause-lists : goal.returns-in-FinishedParts-clause-lists
returns-in-FinishedParts-clause-lists c =
    let old = (held_of c.self.inside.kept).lists in
    let next = rw (← c.self.view_is) at c.requires.number in
    let step = c.in-FinishedParts in
    rw (← c.self.view_is)
    (lists_closed c.args.number c.args.m old (held_of c.change.new.self).lists c.take.new.self.parts c.take.ensures.parts next c.args.change step.ssid step.files step.bytes step.digest step.sections c.of-index.result step.is
    (c.of-index.ensures ∙ c.take.ensures.entries) c.change.ensures.lists)
