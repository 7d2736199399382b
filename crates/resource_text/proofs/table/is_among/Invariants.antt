use Rattle.std.proofs.Common.{◌≡◌, map, drop}
use Rattle.resource_text.specs.Reading.{is_among}
use Rattle.resource_text.proofs.table.is_among.Given as goal

-- it is among those that are left, or not at all
abbrev pub invariant-loop-one : goal.invariant-loop-one
invariant-loop-one l =
    is_among (map (λ key. key.now) (drop l.one-index l.fn.keys)) l.fn.key
    ≡ is_among (map (λ key. key.now) l.fn.keys) l.fn.key
