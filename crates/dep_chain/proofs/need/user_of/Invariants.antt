use Rattle.std.proofs.Common.{◌⊎◌}
use Rattle.std.specs.List.{AllWithin}
use Rattle.media_db.specs.declared.records.Record.{Record}
use Rattle.dep_chain.specs.Depends.{Depends}
use Rattle.dep_chain.specs.Need.{IsKept, IsOpen}
use Rattle.dep_chain.proofs.need.user_of.Given as goal

-- no record that was passed is a user's
abbrev pub invariant-loop-row : goal.invariant-loop-row
invariant-loop-row l =
    AllWithin (λ (row : Record). ¬ ((IsKept l.moment.0 row ⊎ IsOpen l.sessions row.ssid.0)
    × Depends l.db.records row.ssid.0 l.ssid.0)) l.db.records 0 l.row-index
