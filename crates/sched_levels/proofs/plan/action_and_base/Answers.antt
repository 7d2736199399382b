use Rattle.std.proofs.Common.{◌≡◌, ◌∙◌, sym, inr, arith}
use Rattle.sched_levels.proofs.plan.action_and_base.Goals as goal

pub returns-in-Some : goal.returns-in-Some
returns-in-Some c =
    let rank = c.in-Some.ensures in
    let same : c.args.action ≡ c.in-Some.level = sym (rank.1 ∙ c.byte.ensures.value) in
    inr (
      λ skipped. absurd (omega (arith, rank, same, skipped)),
      rw (c.action_of.ensures, same)
          c.base_for-level.ensures,
    )
