use Rattle.std.proofs.Common.{◌≡◌, map}
use Rattle.toml.specs.View.{members_view}
use Rattle.resource_text.specs.Reading.{other_key}
use Rattle.resource_text.proofs.table.other_key.Given as goal

-- the first other key is among those that are left
abbrev pub invariant-keys : goal.invariant-keys
invariant-keys l =
    (goal.iterator-keys).can_next l.key-iterator ×
    (goal.iterator-keys).is_finite l.key-iterator ×
    (other_key (map (λ key. key.now) l.fn.keys) (members_view l.key-iterator)
    ≡ other_key (map (λ key. key.now) l.fn.keys) (members_view l.fn.table.entries))
