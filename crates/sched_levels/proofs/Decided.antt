-- What decides a day.
use Rattle.std.proofs.Common.{◌≡◌, ℕ, List, [], ◌∷◌, length, refl, ◌∙◌}
use Rattle.std.specs.Prelude.{◌≢◌, ◌%◌, Some, None}
use Rattle.std.specs.List.{All, AllByRecursion, Contains, slice_index}
use Rattle.std.specs.Ordering.{nat_cmp, eq_by_cmp}
use Rattle.std.proofs.lemmas.Bool.{cond-false}
use Rattle.std.proofs.lemmas.List.Elements.{recursion_from_All}
use Rattle.std.proofs.lemmas.Cmp.{nat_cmp_total}
use Rattle.room_base.proofs.OrderedLaws.{listed_found}
use Rattle.room_base.proofs.OrderedNumbers.{other_number}
use Rattle.room_rules.specs.declared.schedule.Override.{Override}
use Rattle.room_rules.specs.declared.schedule.Schedule.{Schedule}
use Rattle.sched_levels.specs.Actions.{OverridesAscend, action_on, day_of, override_on, place_in}

pub theirs : (schedule : Schedule) (override : Override) → OverridesAscend schedule.overrides
    → Contains schedule.overrides override → action_on schedule override.day ≡ override.action
theirs schedule override ascending there =
    rw (listed_found nat_cmp_total day_of override schedule.overrides ascending there) refl

unset : (overrides : List Override) (day : ℕ) → AllByRecursion
    (λ (override : Override). override.day ≢ day) overrides → override_on overrides day ≡ None
unset [] day apart = refl
unset (override ∷ overrides) day apart =
    cond-false (eq_by_cmp nat_cmp override.day day) (Some override) (override_on overrides day)
    (other_number override.day day apart.0)
    ∙ unset overrides day apart.1

pub others : (schedule : Schedule) (day : ℕ) → All (λ (override : Override). override.day ≢ day)
    schedule.overrides → action_on schedule day
    ≡ slice_index schedule.actions (place_in schedule.period day % length schedule.actions)
others schedule day apart = rw (unset schedule.overrides day
    (recursion_from_All _ schedule.overrides apart)) refl
