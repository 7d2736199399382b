use Rattle.std.proofs.Common.{refl, inl, inr}
use Rattle.sched_levels.proofs.base.base_for.Goals as goal

pub returns-in-Some : goal.returns-in-Some
returns-in-Some c = inl (refl, rw (← c.base_rank.ensures) c.in-Some.ensures)

pub returns-in-None : goal.returns-in-None
returns-in-None c = inr (c.full_level.ensures, refl, rw (← c.base_rank.ensures) c.in-None.ensures)
