use Rattle.std.proofs.Common.{rules, IsTrue, arith}
use Rattle.recover_files.specs.Stages.{FoundCovers}
use Rattle.recover_files.proofs.Walking.{come_first, come_more, takes, lacks}
use Rattle.recover_files.proofs.chunks.take_run.Goals as goal

pub loop-chunk-init : goal.loop-chunk-init
loop-chunk-init c =
    let wanted = c.args.wanted.now in
    record {
      within = omega arith;
      most = omega arith;
      some = c.requires.some;
      come = λ volid number units chunks held.
          come_first c.args.block.now volid number units wanted.ssid.0 wanted.copy.0 wanted.place wanted.most chunks held;
    }

pub returns-then-covers-clause-run : goal.returns-then-covers-clause-run
returns-then-covers-clause-run c = λ volid number units chunks held.
    let wanted = c.args.wanted.now in
    let yes : IsTrue c.covers.result = search rules in
    let covers = c.covers.ensures.0 yes in
    record {
      given = takes c.args.block.now volid number units c.loop-chunk.at wanted.ssid.0 wanted.copy.0 wanted.place c.loop-chunk.clear
          c.take_bytes-count.result chunks c.in-Some.chunk c.take_bytes-count.new.into
          (c.loop-chunk.invariant.come volid number units chunks held) c.in-Some.ensures.found covers c.take_bytes-count.ensures.most
          c.take_bytes-count.ensures.within c.take_bytes-count.ensures.taken;
      clear = λ none. absurd (omega (arith, none, c.take_bytes-count.ensures.some));
    }

pub loop-chunk-preserved : goal.loop-chunk-preserved
loop-chunk-preserved c =
    let wanted = c.args.wanted.now in
    let not : ¬ FoundCovers wanted.ssid.0 wanted.copy.0 wanted.place c.in-Some.chunk = λ covers.
    (let yes : IsTrue c.covers.result = c.covers.ensures.1 covers in absurd (search rules)) in
    record {
      within = c.in-Some.ensures.next.1;
      most = omega (arith, c.loop-chunk.invariant.most, c.clear_before-clear.ensures.most);
      some = c.clear_before-clear.ensures.some;
      come = λ volid number units chunks held.
          come_more c.args.block.now volid number units c.loop-chunk.at wanted.ssid.0 wanted.copy.0 wanted.place c.loop-chunk.clear
          c.clear_before-clear.result chunks c.in-Some.chunk (c.loop-chunk.invariant.come volid number units chunks held)
          c.in-Some.ensures.found not c.clear_before-clear.ensures.most c.clear_before-clear.ensures.clear;
    }

pub returns-clause-run : goal.returns-clause-run
returns-clause-run c = λ volid number units chunks held.
    let wanted = c.args.wanted.now in
    record {
      given = λ i below. absurd (omega (arith, below));
      clear = λ none. lacks c.args.block.now volid number units c.loop-chunk.at wanted.ssid.0 wanted.copy.0 wanted.place c.loop-chunk.clear chunks
          (c.loop-chunk.invariant.come volid number units chunks held) c.in_default.ensures.found;
    }
