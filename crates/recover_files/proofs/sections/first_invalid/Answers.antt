use Rattle.std.proofs.Common.{◌≡◌, ◌∙◌, List, ℕ, sym, subst, arith}
use Rattle.std.specs.Prelude.{IsTrue}
use Rattle.room_disk.proofs.Runs.{quiet_then}
use Rattle.volume_store.specs.Writes.{cart_file}
use Rattle.recover_files.specs.Sections.{IsInvalid, IsBlamed, HasUnits, number_at}
use Rattle.recover_files.proofs.Places.{blames_first, blames_none, below_or_at}
use Rattle.recover_files.proofs.sections.first_invalid.Goals as goal

pub returns-then-not-branch-clause-blamed : goal.returns-then-not-branch-clause-blamed
returns-then-not-branch-clause-blamed g c = λ told.
    let place = cart_file c.args.spot.now.cart.0 in
    let section = c.args.spot.now.section in
    let units = c.in_ok-units.units in
    let old = g.D.Store.view c.args.store.now in
    let start = g.D.Store.view c.section_units.new.store in
    let here = g.D.Store.view c.each.store in
    let told_start : IsTrue start.tells = rw c.in_ok-units.ensures.tells told in
    let told_here : IsTrue here.tells = rw c.each.invariant.tells told_start in
    let same : start.reads place ≡ old.reads place = (c.in_ok-units.ensures.quiet told).reads place in
    let same_here : here.reads place ≡ start.reads place = (c.each.invariant.quiet told_start).reads place in
    let Invalid : List ℕ → Type 0 = λ bytes. IsInvalid bytes section.volid.0 c.number_of-number.result in
    let invalid = subst Invalid same_here (rw c.if-not-branch.true at (c.in_ok-is_valid.ensures.valid told_here)) in
    let Units : List ℕ → Type 0 = λ bytes. HasUnits bytes section units in
    let has = subst Units (sym same) (c.in_ok-units.ensures.units told) in
    let Blamed : List ℕ → Type 0 = λ bytes. IsBlamed bytes section c.number_of-number.result in
    subst Blamed same (rw c.number_of-number.ensures
    (blames_first (start.reads place) section units c.each.index c.last_index-last.result has c.last_index-last.ensures
    c.each.invariant.within (c.each.invariant.valid told_start) (rw c.number_of-number.ensures at invalid)))

pub returns-then-index-last-clause-blamed : goal.returns-then-index-last-clause-blamed
returns-then-index-last-clause-blamed g c = λ told.
    let place = cart_file c.args.spot.now.cart.0 in
    let section = c.args.spot.now.section in
    let units = c.in_ok-units.units in
    let old = g.D.Store.view c.args.store.now in
    let start = g.D.Store.view c.section_units.new.store in
    let here = g.D.Store.view c.each.store in
    let told_start : IsTrue start.tells = rw c.in_ok-units.ensures.tells told in
    let told_here : IsTrue here.tells = rw c.each.invariant.tells told_start in
    let same : start.reads place ≡ old.reads place = (c.in_ok-units.ensures.quiet told).reads place in
    let same_here : here.reads place ≡ start.reads place = (c.each.invariant.quiet told_start).reads place in
    let Valid : List ℕ → Type 0 = λ bytes. ¬ IsInvalid bytes section.volid.0 c.number_of-number.result in
    let valid = subst Valid same_here (rw c.if-not-branch.false at (c.in_ok-is_valid.ensures.valid told_here)) in
    let Units : List ℕ → Type 0 = λ bytes. HasUnits bytes section units in
    let has = subst Units (sym same) (c.in_ok-units.ensures.units told) in
    let Blamed : List ℕ → Type 0 = λ bytes. IsBlamed bytes section section.first in
    subst Blamed same
    (blames_none (start.reads place) section units c.each.index c.last_index-last.result has c.last_index-last.ensures
    c.if-index-last.true (c.each.invariant.valid told_start) (rw c.number_of-number.ensures at valid))

pub each-preserved : goal.each-preserved
each-preserved g c =
    let place = cart_file c.args.spot.now.cart.0 in
    let section = c.args.spot.now.section in
    let start = g.D.Store.view c.section_units.new.store in
    let here = g.D.Store.view c.each.store in
    let new = g.D.Store.view c.is_valid.new.store in
    record {
      later = λ other. omega (arith, c.each.invariant.later other, c.in_ok-is_valid.ensures.cause.later other);
      tells = c.in_ok-is_valid.ensures.tells ∙ c.each.invariant.tells;
      quiet = λ told. (let told_here : IsTrue here.tells = rw c.each.invariant.tells told in
          quiet_then start here new (c.each.invariant.quiet told) (c.in_ok-is_valid.ensures.quiet told_here));
      within = omega (arith, c.each.invariant.within, c.if-index-last.false);
      valid = λ told j before.
          (let told_here : IsTrue here.tells = rw c.each.invariant.tells told in
          let same_here : here.reads place ≡ start.reads place = (c.each.invariant.quiet told).reads place in
          let Valid : List ℕ → Type 0 = λ bytes. ¬ IsInvalid bytes section.volid.0 c.number_of-number.result in
          let valid = subst Valid same_here (rw c.if-not-branch.false at (c.in_ok-is_valid.ensures.valid told_here)) in
          let Index : ℕ → Type 0 = λ n. ¬ IsInvalid (start.reads place) section.volid.0 (number_at section c.in_ok-units.units n) in
          below_or_at Index c.each.index (c.each.invariant.valid told) (rw c.number_of-number.ensures at valid) j (omega (arith, before)));
    }
