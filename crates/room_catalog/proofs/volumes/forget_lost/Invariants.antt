use Rattle.std.proofs.Common.{◌≡◌, ◌≤◌, take}
use Rattle.room_catalog.specs.Changing.{forget_off}
use Rattle.room_catalog.proofs.volumes.forget_lost.Given as goal

abbrev pub invariant-loop-row : goal.invariant-loop-row
invariant-loop-row l = record {
  sets : l.index.sets ≡ forget_off l.gone.0 (take l.row-index l.records) l.fn.index.sets;
  room : l.fn.index.room ≤ l.index.room;
}
