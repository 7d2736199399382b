-- The parts of resources: what is read is spelled so and allowed, and what is allowed is read.
use Rattle.std.proofs.Common.{◌≡◌, ℕ, ◌≤◌, ◌<◌, true, nat_le, List, [], ◌∷◌, length, Some, refl, arith}
use Rattle.std.specs.Prelude.{IfSome}
use Rattle.std.specs.List.{AllByRecursion}
use Rattle.std.specs.Ordering.{nat_cmp}
use Rattle.std.specs.declared.cmp.Ordering.TheVariants.{Less}
use Rattle.std.proofs.lemmas.Bool.{leb-true, le-leb}
use Rattle.room_base.specs.Ordered.{Ascends}
use Rattle.room_rules.specs.declared.policy.Unit.TheVariants as units
use Rattle.room_rules.specs.declared.policy.Unit as unit
use Rattle.room_rules.specs.declared.schedule.Override.{Override}
use Rattle.room_rules.specs.declared.schedule.Period.{Period}
use Rattle.room_rules.specs.declared.schedule.Period.TheVariants as periods
use Rattle.save_stream.specs.Spelling.{IsNameTo, short_text}
use Rattle.save_stream.proofs.Again.{both}
use Rattle.save_stream.proofs.Sound.{both-true}
use Rattle.catalog_change.specs.Resources.{max_day, day_of, IsListTo, IsOverride}
use Rattle.catalog_spelling.specs.Spelled.{Reads}
use Rattle.catalog_spelling.specs.Fields.{byte_text, coded, code_at}
use Rattle.catalog_spelling.specs.Lists.{last_item}
use Rattle.catalog_spelling.specs.Resources.{unit_kinds, unit_byte, period_kinds, period_byte, action_at, names_at, names_text, levels_at, levels_text, actions_at, actions_text, is_next_day, override_text, override_at, overrides_at, overrides_text}
use Rattle.catalog_spelling.proofs.Steps.{start, begin, took, after, then-found, checked-reads, reads-as}
use Rattle.catalog_spelling.proofs.Fields.{u16-within, u32-reads, byte-within, number-empty, name-reads, code-reads}
use Rattle.catalog_spelling.proofs.Lists.{list-reads}
use Rattle.catalog_spelling.proofs.ResourceLaws.{level-reads}
use Rattle.catalog_spelling.proofs.Behind.{each-is, each-behind, Rises, rising-is, rising-behind, above-is, above-again}

-- ---- bytes that stand for something

unit-again : (one : unit.Unit) → coded unit_kinds (unit_byte one) ≡ Some one
unit-again units.Days = refl
unit-again units.Weeks = refl
unit-again units.Months = refl
unit-again units.Years = refl

pub unit-reads : Reads (code_at unit_kinds) (λ one. byte_text (unit_byte one)) (λ one. Unit {0})
unit-reads = code-reads unit_kinds unit_byte (λ one. Unit {0}) ((refl, tt), ((refl, tt), ((refl, tt), ((refl, tt), tt)))) (λ one is. unit-again one)

period-again : (period : Period) → coded period_kinds (period_byte period) ≡ Some period
period-again periods.Week = refl
period-again periods.Month = refl

pub period-reads : Reads (code_at period_kinds) (λ period. byte_text (period_byte period)) (λ period. Unit {0})
period-reads = code-reads period_kinds period_byte (λ period. Unit {0}) ((refl, tt), ((refl, tt), tt)) (λ period is. period-again period)

action-reads : Reads action_at byte_text (λ action. action ≤ 11)
action-reads = reads-as (byte-within 0 11 (omega arith)) (λ action. action ≤ 11) (λ action is. is.1) (λ action is. (omega arith, is))

-- ---- lists

pub names-read : (most : ℕ) → most < 256 → Reads (names_at most) names_text (IsListTo 64 (IsNameTo most))
names-read most fits =
    reads-as (list-reads (u16-within 0 64 (omega arith)) _ short_text (λ before. IsNameTo most) (λ before. name-reads most fits)) (IsListTo 64 (IsNameTo most))
    (λ names is. record { count = is.0.1; each = each-is (IsNameTo most) [] names is.1 })
    (λ names is. ((omega arith, is.count), each-behind (IsNameTo most) [] names is.each))

-- so many levels
abbrev pub AreLevels : List ℕ → Type 0
AreLevels levels = (length levels ≤ 64) × AllByRecursion (λ level. level ≤ 10) levels

pub levels-read : Reads levels_at levels_text AreLevels
levels-read =
    reads-as (list-reads (u16-within 0 64 (omega arith)) _ byte_text (λ before level. level ≤ 10) (λ before. level-reads)) AreLevels
    (λ levels is. (is.0.1, each-is (λ level. level ≤ 10) [] levels is.1))
    (λ levels is. ((omega arith, is.0), each-behind (λ level. level ≤ 10) [] levels is.1))

abbrev pub AreActions : List ℕ → Type 0
AreActions actions = ((1 ≤ length actions) × (length actions ≤ 31)) × AllByRecursion (λ action. action ≤ 11) actions

pub actions-read : Reads actions_at actions_text AreActions
actions-read =
    reads-as (list-reads (byte-within 1 31 (omega arith)) _ byte_text (λ before action. action ≤ 11) (λ before. action-reads)) AreActions
    (λ actions is. (is.0, each-is (λ action. action ≤ 11) [] actions is.1))
    (λ actions is. (is.0, each-behind (λ action. action ≤ 11) [] actions is.1))

-- ---- overrides

-- an override whose action is in its range
abbrev IsFitting : Override → Type 0
IsFitting one = IsOverride one × (one.action ≤ 11)

-- such an override, of a later day than the last one
abbrev IsNext : List Override → Override → Type 0
IsNext before one = Rises nat_cmp day_of IsFitting before one

-- a day that is later than the last one
abbrev IsNextDay : List Override → ℕ → Type 0
IsNextDay before day = (day ≤ max_day) × IfSome (last_item before) (λ last. nat_cmp (day_of last) day ≡ Less)

next_day-is : (before : List Override) (day : ℕ) → is_next_day before day ≡ true → IsNextDay before day
next_day-is before day is =
    let parts = both-true (nat_le day max_day) _ is in
    (leb-true day max_day parts.0, above-is day_of (last_item before) day parts.1)

next_day-again : (before : List Override) (day : ℕ) → IsNextDay before day → is_next_day before day ≡ true
next_day-again before day is = both _ _ (le-leb day max_day is.0) (above-again day_of (last_item before) day is.1)

override-reads : (before : List Override) → Reads (override_at before) override_text (IsNext before)
unfolding override_at
override-reads before =
    let day-reads = reads-as (checked-reads u32-reads (is_next_day before) (number-empty 4 (omega arith))) (IsNextDay before) (λ day is. next_day-is before day is.1) (λ day is. (omega (arith, is.0), next_day-again before day is)) in
    record {
      found = λ bytes are.
          then-found day-reads _ _ (begin (override_at before) bytes are) (λ day rest day-is goes.
          then-found action-reads _ _ goes (λ action rest action-is goes. (took _ goes, ((day-is.0, action-is), day-is.1))));
      again = λ one rest is.
          (after action-reads _ one.action is.0.1
          (after day-reads _ one.day (is.0.0, is.1) (start (override_at before)))).goes rest;
    }

abbrev pub AreOverrides : List Override → Type 0
AreOverrides overrides = IsListTo 64 IsOverride overrides × Ascends nat_cmp day_of overrides × AllByRecursion (λ one. one.action ≤ 11) overrides

overrides-apart : (overrides : List Override) → AllByRecursion IsFitting overrides → AllByRecursion IsOverride overrides × AllByRecursion (λ one. one.action ≤ 11) overrides
overrides-apart [] each = (tt, tt)
overrides-apart (one ∷ overrides) each = let more = overrides-apart overrides each.1 in ((each.0.0, more.0), (each.0.1, more.1))

overrides-both : (overrides : List Override) → AllByRecursion IsOverride overrides → AllByRecursion (λ one. one.action ≤ 11) overrides → AllByRecursion IsFitting overrides
overrides-both [] is fits = tt
overrides-both (one ∷ overrides) is fits = ((is.0, fits.0), overrides-both overrides is.1 fits.1)

pub overrides-read : Reads overrides_at overrides_text AreOverrides
overrides-read =
    reads-as (list-reads (byte-within 0 64 (omega arith)) override_at override_text IsNext override-reads) AreOverrides
    (λ overrides is.
    let parts = rising-is nat_cmp day_of IsFitting overrides is.1 in
    let each = overrides-apart overrides parts.0 in
    (record { count = is.0.1; each = each.0 }, parts.1, each.1))
    (λ overrides is. ((omega arith, is.0.count), rising-behind nat_cmp day_of IsFitting overrides (overrides-both overrides is.0.each is.2) is.1))
