use Rattle.std.proofs.Common.{MatchOption}
use Rattle.std.specs.List.{AllWithin}
use Rattle.media_db.specs.declared.records.Record.{Record}
use Rattle.dep_chain.specs.Labelling.{AreSettled, Forbids}
use Rattle.dep_chain.specs.Need.{NeedsItself}
use Rattle.dep_chain.proofs.labelling.may_label.Given as goal

-- the least set so far forbids, and all that those users stand on which were passed is settled
abbrev pub invariant-loop-row : goal.invariant-loop-row
invariant-loop-row l = record {
  is : MatchOption l.least (Unit {0}) (λ least.
      Forbids l.db.records l.sessions l.volid.0 l.moment.0 least.0);
  settled : AllWithin (λ (user : Record). NeedsItself l.sessions l.moment.0 user
      → AreSettled l.db.records l.sessions l.volid.0 user.ssid.0 l.least) l.db.records 0
      l.row-index;
}
