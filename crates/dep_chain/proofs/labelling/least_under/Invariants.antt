use Rattle.std.proofs.Common.{◌≡◌, ℕ, ◌⊎◌, IfSome}
use Rattle.std.specs.List.{Contains}
use Rattle.media_db.specs.declared.records.Record.{Record}
use Rattle.dep_chain.specs.Depends.{StandsOn}
use Rattle.dep_chain.specs.Labelling.{IsSettled, IsUpTo, LiesUnder}
use Rattle.dep_chain.proofs.labelling.least_under.Given as goal

-- what the set stands on is settled, or is still below
abbrev pub invariant-loop-row : goal.invariant-loop-row
invariant-loop-row l = record {
  grown : (ssid : ℕ) → IsUpTo l.fn.so_far ssid → IsUpTo l.least ssid;
  is : (l.least ≡ l.fn.so_far) ⊎ IfSome l.least (λ found.
      LiesUnder l.db.records l.sessions l.volid.0 l.fn.ssid.0 found);
  up : (row : Record) → Contains l.db.records row → row.ssid.0 ≡ l.at.0
      → StandsOn l.db.records l.fn.ssid.0 l.at.0;
  rest : (row : Record) → Contains l.db.records row → StandsOn l.db.records l.fn.ssid.0 row.ssid.0
      → StandsOn l.db.records l.at.0 row.ssid.0 ⊎ IsSettled l.sessions l.volid.0 l.least row;
}

abbrev pub decreases-loop-row : goal.decreases-loop-row
decreases-loop-row l = l.at.0
