use Rattle.std.proofs.Common.{◌≡◌, ◌∙◌, List, ℕ, sym, subst, arith}
use Rattle.std.specs.Prelude.{IsTrue}
use Rattle.room_disk.proofs.Runs.{quiet_then}
use Rattle.volume_store.specs.Writes.{cart_file}
use Rattle.recover_files.specs.Sections.{HasUnits, SectionGives, SectionLacks, BlockGives, BlockLacks}
use Rattle.recover_files.specs.Stages.{IsRun}
use Rattle.recover_files.proofs.Places.{run_of_section, lacks_more}
use Rattle.recover_files.proofs.sections.read_section.Goals as goal
use Rattle.recover_files.proofs.sections.read_section.Goals.{then-run-gt0-via-then-run-gt0, then-run-gt0-via-else-run-gt0+then-index-last}

pub returns-then-run-gt0-clause-run : goal.returns-then-run-gt0-clause-run
returns-then-run-gt0-clause-run g c = λ told.
    let place = cart_file c.args.spot.now.cart.0 in
    let section = c.args.spot.now.section in
    let wanted = c.args.wanted.now in
    let units = c.in_ok-units.units in
    let run = c.in_ok-run.run' in
    let into = c.read_in_block.new.into in
    let old = g.D.Store.view c.args.store.now in
    let start = g.D.Store.view c.section_units.new.store in
    let here = g.D.Store.view c.each.store in
    let told_start : IsTrue start.tells = rw c.in_ok-units.ensures.tells told in
    let told_here : IsTrue here.tells = rw c.each.invariant.tells told_start in
    let same : start.reads place ≡ old.reads place = (c.in_ok-units.ensures.quiet told).reads place in
    let same_here : here.reads place ≡ start.reads place = (c.each.invariant.quiet told_start).reads place in
    let Block : List ℕ → Type 0 = λ bytes. IsRun (BlockGives bytes section.volid.0 c.number_of-number.result wanted.ssid.0 wanted.copy.0)
    (BlockLacks bytes section.volid.0 c.number_of-number.result wanted.ssid.0 wanted.copy.0) wanted.place into run in
    let block = subst Block same_here (c.in_ok-run.ensures.run told_here) in
    let Units : List ℕ → Type 0 = λ bytes. HasUnits bytes section units in
    let has = subst Units (sym same) (c.in_ok-units.ensures.units told) in
    let Given : List ℕ → Type 0 = λ bytes. IsRun (SectionGives bytes section wanted.ssid.0 wanted.copy.0)
    (SectionLacks bytes section wanted.ssid.0 wanted.copy.0) wanted.place into run in
    subst Given same
    (run_of_section (start.reads place) section units wanted.ssid.0 wanted.copy.0 wanted.place c.each.clear c.each.index
    c.last_index-last.result into run has c.last_index-last.ensures c.each.invariant.within (c.each.invariant.lacks told_start)
    c.in_ok-run.ensures.bounds (rw c.number_of-number.ensures at block)
    (λ none. elim c.then-run-gt0.branch [
      | then-run-gt0-via-then-run-gt0 w ↦ absurd (omega (arith, none, w.if-run-gt0.true))
      | then-run-gt0-via-else-run-gt0+then-index-last w ↦ w.if-index-last.true
    ]))

pub each-preserved : goal.each-preserved
each-preserved g c =
    let place = cart_file c.args.spot.now.cart.0 in
    let section = c.args.spot.now.section in
    let wanted = c.args.wanted.now in
    let run = c.in_ok-run.run' in
    let into = c.read_in_block.new.into in
    let start = g.D.Store.view c.section_units.new.store in
    let here = g.D.Store.view c.each.store in
    let new = g.D.Store.view c.read_in_block.new.store in
    record {
      later = λ other. omega (arith, c.each.invariant.later other, c.in_ok-run.ensures.cause.later other);
      tells = c.in_ok-run.ensures.tells ∙ c.each.invariant.tells;
      quiet = λ told. (let told_here : IsTrue here.tells = rw c.each.invariant.tells told in
          quiet_then start here new (c.each.invariant.quiet told) (c.in_ok-run.ensures.quiet told_here));
      within = omega (arith, c.each.invariant.within, c.if-index-last.false);
      most = omega (arith, c.each.invariant.most, c.in_ok-run.ensures.bounds.clear);
      some = c.in_ok-run.ensures.bounds.some;
      lacks = λ told.
          (let told_here : IsTrue here.tells = rw c.each.invariant.tells told in
          let same_here : here.reads place ≡ start.reads place = (c.each.invariant.quiet told).reads place in
          let Block : List ℕ → Type 0 = λ bytes. IsRun (BlockGives bytes section.volid.0 c.number_of-number.result wanted.ssid.0 wanted.copy.0)
          (BlockLacks bytes section.volid.0 c.number_of-number.result wanted.ssid.0 wanted.copy.0) wanted.place into run in
          let block = subst Block same_here (c.in_ok-run.ensures.run told_here) in
          lacks_more (start.reads place) section c.in_ok-units.units wanted.ssid.0 wanted.copy.0 wanted.place c.each.clear c.each.index into run
          (c.each.invariant.lacks told) c.in_ok-run.ensures.bounds (rw c.number_of-number.ensures at block)
          (omega (arith, c.if-run-gt0.false)));
    }
