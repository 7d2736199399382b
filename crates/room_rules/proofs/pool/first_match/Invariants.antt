use Rattle.std.specs.List.{AllWithin}
use Rattle.room_rules.specs.declared.pool.Pool.{Pool}
use Rattle.room_rules.specs.Pools.{IsChosen}
use Rattle.room_rules.proofs.pool.first_match.Given as goal

-- none before the place is chosen
abbrev pub invariant-loop-place : goal.invariant-loop-place
invariant-loop-place l =
    AllWithin (λ (pool : Pool). ¬ IsChosen (record { group = l.group; client = l.client; set = l.set; level = l.level }) pool) l.pools 0 l.place
