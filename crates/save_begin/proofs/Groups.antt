-- A group on record has a schedule on record, which says an action for each day.
use Rattle.std.proofs.Common.{◌≡◌, ◌≢◌, ℕ, List, length, ap, arith}
use Rattle.std.specs.Cmp.Lexicographic.{nat_list_cmp_total}
use Rattle.std.specs.Prelude.{Option, Some, None, IsSome}
use Rattle.room_base.proofs.OrderedLaws.{each_found}
use Rattle.room_rules.specs.declared.group.Group.{Group}
use Rattle.room_rules.specs.declared.schedule.Schedule.{Schedule}
use Rattle.sched_levels.specs.Actions.{DecidesEachDay}
use Rattle.catalog_change.specs.Catalogues.{HasSchedule}
use Rattle.catalog_change.specs.Resources.{IsSchedule, group_name, schedule_name}
use Rattle.resource_lists.specs.Kinds.{find_named}
use Rattle.room_catalog.specs.Held.{CatalogueLists}
use Rattle.room_catalog.specs.Invariant.{IsHeld}

module _ (lists : CatalogueLists) (held : IsHeld lists) where
  pub has_schedule : (name : List ℕ) (group : Group) → find_named group_name name lists.resources.groups ≡ Some group
      → IsSome (find_named schedule_name group.schedule lists.resources.schedules)
  has_schedule name group found =
      (each_found nat_list_cmp_total group_name (HasSchedule lists.resources.schedules lists.resources.clients) name group lists.resources.groups
      held.catalogue.resources.scheduled found).0

  pub decides : (name : List ℕ) (schedule : Schedule) → find_named schedule_name name lists.resources.schedules ≡ Some schedule → DecidesEachDay schedule
  decides name schedule found =
      let is = each_found nat_list_cmp_total schedule_name IsSchedule name schedule lists.resources.schedules held.catalogue.resources.schedules.each found in
      record {
        actions = λ none. absurd (omega (arith, is.actions.0, ap (λ (all : List ℕ). length all) none));
        overrides = is.order;
      }

-- a look-up that finds something
pub not_none : {X : Type 0} (found : Option X) → IsSome found → found ≢ None
not_none None some none = absurd (cc some)
not_none (Some x) some none = cc none
