use Rattle.std.proofs.Common.{◌≡◌, [], ◌∷◌, codes, length, string_bytes, subst, arith}
use Rattle.std.proofs.lemmas.Grind.{common_steps}
use Rattle.toml.proofs.Views.{Entry}
use Rattle.toml.specs.View.{members_view, view}
use Rattle.resource_text.specs.Resources.{AreOverrides, IsOverrideText}
use Rattle.resource_text.proofs.Entries.{AreReadSoFar, as_many_entries, entries_read, entry_stops, keys_ascend, next_read}
use Rattle.resource_text.proofs.Items.{names_none}
use Rattle.resource_text.proofs.schedules.overrides_of.Goals as goal

pub returns-then-len-gt-MAX_OVERRIDES : goal.returns-then-len-gt-MAX_OVERRIDES
returns-then-len-gt-MAX_OVERRIDES c =
    let all = c.args.days.now.entries in
    let count : c.len.result ≡ length all = c.len.ensures.len in
    let many = c.if-len-gt-MAX_OVERRIDES.true in
    names_none (codes "overrides") (AreOverrides (members_view all)) c.malformed.result c.malformed.ensures
    (λ overrides are. let same = as_many_entries IsOverrideText all overrides are.0 in let few = are.1 in omega arith)

pub days-preserved : goal.days-preserved
days-preserved c =
    let (can, finite, so) = c.days.invariant in
    let all = c.args.days.now.entries in
    let e : Entry = (c.in-Some.day.now, c.in-Some.action.now) in
    let iter : c.days.day-iterator ≡ e ∷ c.next.new.self = grind (arith, common_steps) in
    let one = c.in-Some-override_of.one in
    let is : IsOverrideText (string_bytes e.0) (view e.1) one =
    subst (λ key. IsOverrideText key (view e.1) one) c.as_str.ensures.value c.in-Some-override_of.ensures in (
      tt,
      tt,
      rw c.in_ok-push-in-Some-override_of.ensures.items
          (next_read IsOverrideText all c.next.new.self e c.days.overrides.items one
          (subst (λ rest. AreReadSoFar IsOverrideText all rest c.days.overrides.items) iter so) is),
    )

pub returns-in-None-override_of : goal.returns-in-None-override_of
returns-in-None-override_of c =
    let (can, finite, so) = c.days.invariant in
    let all = c.args.days.now.entries in
    let e : Entry = (c.in-Some.day.now, c.in-Some.action.now) in
    let iter : c.days.day-iterator ≡ e ∷ c.next.new.self = grind (arith, common_steps) in
    let none : (one : _) → ¬ (IsOverrideText (string_bytes e.0) (view e.1) one) =
    subst (λ key. (one : _) → ¬ (IsOverrideText key (view e.1) one)) c.as_str.ensures.value c.in-None-override_of.ensures in
    names_none (codes "overrides") (AreOverrides (members_view all)) c.malformed-in-None-override_of.result c.malformed-in-None-override_of.ensures
    (λ overrides are. entry_stops IsOverrideText all c.next.new.self e c.days.overrides.items
    (subst (λ rest. AreReadSoFar IsOverrideText all rest c.days.overrides.items) iter so) none overrides are.0)

pub returns : goal.returns
returns c =
    let (can, finite, so) = c.days.invariant in
    let all = c.args.days.now.entries in
    let none : c.days.day-iterator ≡ [] = grind (arith, common_steps) in
    let are = entries_read IsOverrideText all c.days.overrides.items
    (subst (λ rest. AreReadSoFar IsOverrideText all rest c.days.overrides.items) none so) in
    let same = as_many_entries IsOverrideText all c.days.overrides.items are in
    let count : c.len.result ≡ length all = c.len.ensures.len in
    let few = c.if-len-gt-MAX_OVERRIDES.false in
    rw c.of.ensures (are, omega arith, keys_ascend all c.len.ensures.ordered)
