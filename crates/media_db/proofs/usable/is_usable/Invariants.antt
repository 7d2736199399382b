use Rattle.media_db.specs.Rows.{HasLowerBase}
use Rattle.media_db.specs.Usable.{Usable}
use Rattle.media_db.proofs.usable.is_usable.Given as goal

-- the record is usable exactly where the one that the walk has come to is
abbrev pub invariant-loop-at : goal.invariant-loop-at
invariant-loop-at l = record {
  base : HasLowerBase l.at;
  down : Usable l.records l.fn.row → Usable l.records l.at;
  up : Usable l.records l.at → Usable l.records l.fn.row;
}

abbrev pub decreases-loop-at : goal.decreases-loop-at
decreases-loop-at l = l.at.ssid.0
