use Rattle.std.proofs.Common.{arith}
use Rattle.volume_store.specs.Writes.{cart_file}
use Rattle.recover_files.proofs.Judging.{invalid_lacks, run_of_block}
use Rattle.recover_files.proofs.blocks.read_in_block.Goals as goal
use Rattle.recover_files.proofs.blocks.read_in_block.Goals.{else-run-gt0-via-then-run-gt0+else-not-is_data, else-run-gt0-via-else-run-gt0}

pub returns-then-not-is_data-clause-run : goal.returns-then-not-is_data-clause-run
returns-then-not-is_data-clause-run g c = λ told.
    let file = (g.D.Store.view c.args.store.now).reads (cart_file c.args.cart.0) in
    let wanted = c.args.wanted.now in
    invalid_lacks file c.args.volid.0 c.args.number wanted.ssid.0 wanted.copy.0 wanted.place wanted.most c.take_run-run.new.into
    (rw c.if-not-is_data.true at (c.is_data.ensures.judged file (c.in_ok-read.ensures.told told) (c.in_ok-read.ensures.read told)))

pub returns-clause-run : goal.returns-clause-run
returns-clause-run g c = λ told.
    let file = (g.D.Store.view c.args.store.now).reads (cart_file c.args.cart.0) in
    let wanted = c.args.wanted.now in
    let begins = c.in_ok-read.ensures.told told in
    let is = c.in_ok-read.ensures.read told in
    run_of_block file _ c.args.volid.0 c.args.number c.in_ok-read.read.size wanted.ssid.0 wanted.copy.0 wanted.place
    c.take_run-run.new.into c.take_run-run.result begins is c.take_run-run.ensures.run
    (λ some. elim c.else-run-gt0.branch [
      | else-run-gt0-via-then-run-gt0+else-not-is_data w ↦ rw w.if-not-is_data.false at (w.is_data.ensures.judged file begins is)
      | else-run-gt0-via-else-run-gt0 w ↦ absurd (omega (arith, some, w.if-run-gt0.false))
    ])
