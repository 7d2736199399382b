use Rattle.std.proofs.Common.{◌≤◌}
use Rattle.save_finish.proofs.Commits.{CommitsSoFar}
use Rattle.save_finish.proofs.committing.commit_held.Given as goal

abbrev pub invariant-loop-drive : goal.invariant-loop-drive
invariant-loop-drive g l = record {
  so_far : CommitsSoFar l.ssid.0 l.drive l.fn.room l.room (g.D.Store.view l.fn.store) (g.D.Store.view l.store);
  from_one : 1 ≤ l.drive;
  within : l.drive ≤ 5;
}
