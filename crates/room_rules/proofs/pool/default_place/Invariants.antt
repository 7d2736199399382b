use Rattle.std.specs.List.{AllWithin}
use Rattle.room_rules.specs.declared.pool.Pool.{Pool}
use Rattle.room_rules.specs.Pools.{IsDefault}
use Rattle.room_rules.proofs.pool.default_place.Given as goal

-- none before the place is `Default`
abbrev pub invariant-loop-place : goal.invariant-loop-place
invariant-loop-place l = AllWithin (λ (pool : Pool). ¬ IsDefault pool) l.pools 0 l.place
