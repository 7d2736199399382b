use Rattle.std.proofs.Common.{◌≡◌, arith}
use Rattle.slot_changer.specs.Drives.{IsDrive}
use Rattle.save_finish.proofs.Commits.{commits_end, commits_more, commits_start, commits_stop, opens_behind, ready_still}
use Rattle.save_finish.proofs.committing.commit_held.Goals as goal

pub loop-drive-init : goal.loop-drive-init
loop-drive-init g c = record {
  so_far = commits_start c.args.ssid.0 c.args.room.now (g.D.Store.view c.args.store.now) c.requires.between;
  from_one = omega arith;
  within = omega arith;
}

pub commit_one-requires-clause-opens : goal.commit_one-requires-clause-opens
commit_one-requires-clause-opens g c = opens_behind c.args.room.now c.loop-drive.room c.loop-drive.invariant.so_far.committed c.requires.opens

pub commit_one-requires-clause-ready : goal.commit_one-requires-clause-ready
commit_one-requires-clause-ready g c = ready_still c.args.room.now c.loop-drive.room c.loop-drive.invariant.so_far.committed c.requires.ready

pub commit_one-requires-clause-between : goal.commit_one-requires-clause-between
commit_one-requires-clause-between g c = c.loop-drive.invariant.so_far.between

pub returns-in-Err-clause-does : goal.returns-in-Err-clause-does
returns-in-Err-clause-does g c =
    let is : IsDrive c.loop-drive.drive = (c.loop-drive.invariant.from_one, omega (arith, c.loop-drive-test.true)) in
    commits_stop c.args.ssid.0 c.loop-drive.drive c.args.room.now c.loop-drive.room c.commit_one.new.room
    (g.D.Store.view c.args.store.now) (g.D.Store.view c.loop-drive.store) (g.D.Store.view c.commit_one.new.store) is c.loop-drive.invariant.so_far c.in-Err.fault c.in-Err.ensures.does

pub loop-drive-preserved : goal.loop-drive-preserved
loop-drive-preserved g c =
    let is : IsDrive c.loop-drive.drive = (c.loop-drive.invariant.from_one, omega (arith, c.loop-drive-test.true)) in
    record {
      so_far = commits_more c.args.ssid.0 c.loop-drive.drive c.args.room.now c.loop-drive.room c.commit_one.new.room
          (g.D.Store.view c.args.store.now) (g.D.Store.view c.loop-drive.store) (g.D.Store.view c.commit_one.new.store) is c.loop-drive.invariant.so_far
          c.in-Ok.ensures.does c.in-Ok.ensures.between c.in-Ok.ensures.committed c.in-Ok.ensures.others;
      from_one = omega (arith, c.loop-drive.invariant.from_one);
      within = omega (arith, c.loop-drive-test.true);
    }

pub returns-clause-does : goal.returns-clause-does
returns-clause-does g c =
    let last : c.loop-drive.drive ≡ 5 = omega (arith, c.loop-drive-test.false, c.loop-drive.invariant.within) in
    commits_end c.args.ssid.0 c.loop-drive.drive c.args.room.now c.loop-drive.room (g.D.Store.view c.args.store.now) (g.D.Store.view c.loop-drive.store) last c.loop-drive.invariant.so_far

pub returns-clause-between : goal.returns-clause-between
returns-clause-between g c = c.loop-drive.invariant.so_far.between

pub returns-clause-committed : goal.returns-clause-committed
returns-clause-committed g c = c.loop-drive.invariant.so_far.committed
