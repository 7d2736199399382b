use Rattle.std.proofs.Common.{List, ℕ, sym, ap, ◌∙◌}
use Rattle.std.specs.Option.{option_copied}
use Rattle.catalog_change.specs.Resources.{schedule_name}
use Rattle.resource_lists.specs.Kinds.{find_named}
use Rattle.save_begin.proofs.Groups.{decides, has_schedule, not_none}
use Rattle.save_begin.proofs.grouping.scheduled_group.Goals as goal

pub unreachable-requires : goal.unreachable-requires
unreachable-requires c =
    let lists = c.catalogue-catalogue.result.now.lists in
    let group = c.in-Some.group.now in
    let found = sym c.group.ensures ∙ ap (λ one. option_copied one) c.in-Some.is in
    let none = ap (λ (name : List ℕ). find_named schedule_name name lists.resources.schedules) (sym c.as_bytes-in-Some.ensures.value)
    ∙ sym c.schedule.ensures ∙ ap (λ one. option_copied one) c.in-None-schedule.is in
    not_none (find_named schedule_name group.schedule lists.resources.schedules) (has_schedule lists c.number-held.ensures.held c.as_bytes.result.now group found) none

pub returns-in-Some-schedule-clause-decides : goal.returns-in-Some-schedule-clause-decides
returns-in-Some-schedule-clause-decides c =
    let found = sym c.schedule.ensures ∙ ap (λ one. option_copied one) c.in-Some-schedule.is in
    decides c.catalogue-catalogue.result.now.lists c.number-held.ensures.held c.as_bytes-in-Some.result.now c.in-Some-schedule.schedule.now found
