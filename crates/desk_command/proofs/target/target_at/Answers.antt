use Rattle.std.proofs.Common.{codes, subst, List, ℕ}
use Rattle.desk_command.specs.Targets.{IsAt}
use Rattle.desk_command.specs.declared.place.Place.{Place}
use Rattle.desk_command.specs.declared.place.Place.TheVariants as places
use Rattle.desk_command.proofs.Taking.{part_at, resource_is, slot_is, savegrp_is, set_is, body_is, finish_is, abort_is, amend_is}
use Rattle.desk_command.proofs.target.target_at.Goals as goal

pub returns-in-Slot : goal.returns-in-Slot
returns-in-Slot c parts is =
    let at : IsAt places.Slot parts c.args.params.now = subst (λ (p : Place). IsAt p parts c.args.params.now) c.in-Slot.is is in
    slot_is parts c.part-in-Slot.result.now at.matches
    (part_at places.Slot parts c.args.params.now (codes "slot") c.part-in-Slot.result.now at c.part-in-Slot.ensures)

pub returns-in-Savegrp : goal.returns-in-Savegrp
returns-in-Savegrp c parts is =
    let at : IsAt places.Savegrp parts c.args.params.now = subst (λ (p : Place). IsAt p parts c.args.params.now) c.in-Savegrp.is is in
    savegrp_is parts c.part-in-Savegrp.result.now at.matches
    (part_at places.Savegrp parts c.args.params.now (codes "group") c.part-in-Savegrp.result.now at c.part-in-Savegrp.ensures)

pub returns-in-Set : goal.returns-in-Set
returns-in-Set c parts is =
    let at : IsAt places.Set parts c.args.params.now = subst (λ (p : Place). IsAt p parts c.args.params.now) c.in-Set.is is in
    set_is parts c.part-in-Set.result.now at.matches
    (part_at places.Set parts c.args.params.now (codes "ssid") c.part-in-Set.result.now at c.part-in-Set.ensures)

pub returns-in-Finish : goal.returns-in-Finish
returns-in-Finish c parts is =
    let at : IsAt places.Finish parts c.args.params.now = subst (λ (p : Place). IsAt p parts c.args.params.now) c.in-Finish.is is in
    finish_is parts c.part-in-Finish.result.now at.matches
    (part_at places.Finish parts c.args.params.now (codes "ssid") c.part-in-Finish.result.now at c.part-in-Finish.ensures)

pub returns-in-Abort : goal.returns-in-Abort
returns-in-Abort c parts is =
    let at : IsAt places.Abort parts c.args.params.now = subst (λ (p : Place). IsAt p parts c.args.params.now) c.in-Abort.is is in
    abort_is parts c.part-in-Abort.result.now at.matches
    (part_at places.Abort parts c.args.params.now (codes "ssid") c.part-in-Abort.result.now at c.part-in-Abort.ensures)

pub returns-in-Amend : goal.returns-in-Amend
returns-in-Amend c parts is =
    let at : IsAt places.Amend parts c.args.params.now = subst (λ (p : Place). IsAt p parts c.args.params.now) c.in-Amend.is is in
    amend_is parts c.part-in-Amend.result.now at.matches
    (part_at places.Amend parts c.args.params.now (codes "ssid") c.part-in-Amend.result.now at c.part-in-Amend.ensures)

pub returns-in-Resource : goal.returns-in-Resource
returns-in-Resource c parts is =
    let at : IsAt places.Resource parts c.args.params.now = subst (λ (p : Place). IsAt p parts c.args.params.now) c.in-Resource.is is in
    resource_is parts c.part.result.now c.part-in-Resource.result.now at.matches
    (part_at places.Resource parts c.args.params.now (codes "kind") c.part.result.now at c.part.ensures)
    (part_at places.Resource parts c.args.params.now (codes "name") c.part-in-Resource.result.now at c.part-in-Resource.ensures)

pub returns-in-Body : goal.returns-in-Body
returns-in-Body c parts is =
    let at : IsAt places.Body parts c.args.params.now = subst (λ (p : Place). IsAt p parts c.args.params.now) c.in-Body.is is in
    body_is parts c.part-in-Body.result.now c.part-in-Body-2.result.now at.matches
    (part_at places.Body parts c.args.params.now (codes "ssid") c.part-in-Body.result.now at c.part-in-Body.ensures)
    (part_at places.Body parts c.args.params.now (codes "offset") c.part-in-Body-2.result.now at c.part-in-Body-2.ensures)
