use Rattle.std.proofs.Common.{List}
use Rattle.toml.specs.View.{members_view}
use Rattle.catalog_change.specs.declared.resource.Resource.{Resource}
use Rattle.resource_text.specs.Reading.{Outcome}
use Rattle.resource_text.specs.Resources.{each_gives}
use Rattle.resource_text.proofs.document.add_each.Given as goal

-- what the others give behind those that are read, all give
abbrev pub invariant-names : goal.invariant-names
invariant-names l =
    (goal.iterator-names).can_next l.name-iterator ×
    (goal.iterator-names).is_finite l.name-iterator ×
    ((outcome : Outcome (List Resource))
    → each_gives l.fn.kind (members_view l.name-iterator) l.resources.items outcome
    → each_gives l.fn.kind (members_view l.fn.members.entries) l.initial.resources.items outcome)
