use Rattle.std.proofs.Common.{inl, inr}
use Rattle.dep_chain.proofs.Needing.{needed_by_record, needed_by_session, who_needs}
use Rattle.dep_chain.proofs.need.needed.Goals as goal

pub returns-then-is_kept_for : goal.returns-then-is_kept_for
returns-then-is_kept_for c =
    let facts = rw c.records-records.ensures.value at c.is_kept_for.ensures in (
      λ is. needed_by_record c.args.db.now.records c.args.sessions.now c.args.moment.0
          c.records-records.ensures.order c.args.ssid.0 (facts.0 is),
      λ _. c.if-is_kept_for.true,
    )

pub returns-else-is_kept_for : goal.returns-else-is_kept_for
returns-else-is_kept_for c =
    let facts = rw c.records-records.ensures.value at c.is_kept_for.ensures in
    let rows = c.args.db.now.records in (
      λ is. needed_by_session rows c.args.sessions.now c.args.moment.0
          c.records-records.ensures.order c.args.ssid.0 (c.has_session_on.ensures.0 is),
      λ needed. elim (who_needs rows c.args.sessions.now c.args.moment.0
          c.records-records.ensures.order c.args.ssid.0 needed) [
            | inl kept ↦ let is = facts.1 kept in absurd cc
            | inr session ↦ c.has_session_on.ensures.1 session
          ],
    )
