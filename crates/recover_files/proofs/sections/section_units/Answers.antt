use Rattle.std.proofs.Common.{◌≡◌, ◌∙◌, List, ℕ, Some, sym, subst}
use Rattle.std.specs.Prelude.{IsTrue}
use Rattle.volume_store.specs.Writes.{cart_file}
use Rattle.recover_files.specs.Sections.{LacksFirst, LacksMark, LacksLabel, HasUnits, by_first_block, by_its_mark, by_the_label, by_none_of_them}
use Rattle.recover_files.specs.Stages.{TellsMark, TellsLabel}
use Rattle.recover_files.proofs.sections.section_units.Goals as goal

pub returns-in-Some-clause-units : goal.returns-in-Some-clause-units
returns-in-Some-clause-units g c = λ told.
    rw c.units_of.ensures (by_first_block c.in-Some.first (rw c.in-Some.is at (c.in_ok-first.ensures.found told)))

pub returns-in-Some-mark_units-clause-units : goal.returns-in-Some-mark_units-clause-units
returns-in-Some-mark_units-clause-units g c = λ told.
    let place = cart_file c.args.spot.now.cart.0 in
    let section = c.args.spot.now.section in
    let start = g.D.Store.view c.args.store.now in
    let next = g.D.Store.view c.find_block.new.store in
    let told_next : IsTrue next.tells = rw c.in_ok-first.ensures.tells told in
    let same : next.reads place ≡ start.reads place = (c.in_ok-first.ensures.quiet told).reads place in
    let lacks : LacksFirst (start.reads place) section = rw c.in_default.is at (c.in_ok-first.ensures.found told) in
    let Tells : List ℕ → Type 0 = λ bytes. TellsMark bytes section.volid.0 section.mark (Some c.in-Some-mark_units.units) in
    let mark = subst Tells same
    (c.in-Some-mark_units.ensures (next.reads place) section.volid.0 section.mark (c.in_ok-mark.ensures.found told_next)) in
    by_its_mark mark.0 c.in-Some-mark_units.units lacks mark.1

pub returns-in-Some-label_units-clause-units : goal.returns-in-Some-label_units-clause-units
returns-in-Some-label_units-clause-units g c = λ told.
    let place = cart_file c.args.spot.now.cart.0 in
    let section = c.args.spot.now.section in
    let start = g.D.Store.view c.args.store.now in
    let next = g.D.Store.view c.find_block.new.store in
    let last = g.D.Store.view c.find_block-2.new.store in
    let told_next : IsTrue next.tells = rw c.in_ok-first.ensures.tells told in
    let told_last : IsTrue last.tells = rw c.in_ok-mark.ensures.tells told_next in
    let same : next.reads place ≡ start.reads place = (c.in_ok-first.ensures.quiet told).reads place in
    let same_last : last.reads place ≡ start.reads place = (c.in_ok-mark.ensures.quiet told_next).reads place ∙ same in
    let lacks : LacksFirst (start.reads place) section = rw c.in_default.is at (c.in_ok-first.ensures.found told) in
    let Lacks : List ℕ → Type 0 = λ bytes. LacksMark bytes section in
    let wants = subst Lacks same
    (c.in_default-mark_units.ensures (next.reads place) section.volid.0 section.mark (c.in_ok-mark.ensures.found told_next)) in
    let Tells : List ℕ → Type 0 = λ bytes. TellsLabel bytes section.volid.0 0 (Some c.in-Some-label_units.units) in
    let label = subst Tells same_last
    (c.in-Some-label_units.ensures (last.reads place) section.volid.0 0 (c.in_ok-label.ensures.found told_last)) in
    let Has : ℕ → Type 0 = λ units. HasUnits (start.reads place) section units in
    subst Has (sym label.2) (by_the_label label.0 lacks wants label.1)

pub returns-clause-units : goal.returns-clause-units
returns-clause-units g c = λ told.
    let place = cart_file c.args.spot.now.cart.0 in
    let section = c.args.spot.now.section in
    let start = g.D.Store.view c.args.store.now in
    let next = g.D.Store.view c.find_block.new.store in
    let last = g.D.Store.view c.find_block-2.new.store in
    let told_next : IsTrue next.tells = rw c.in_ok-first.ensures.tells told in
    let told_last : IsTrue last.tells = rw c.in_ok-mark.ensures.tells told_next in
    let same : next.reads place ≡ start.reads place = (c.in_ok-first.ensures.quiet told).reads place in
    let same_last : last.reads place ≡ start.reads place = (c.in_ok-mark.ensures.quiet told_next).reads place ∙ same in
    let lacks : LacksFirst (start.reads place) section = rw c.in_default.is at (c.in_ok-first.ensures.found told) in
    let Lacks : List ℕ → Type 0 = λ bytes. LacksMark bytes section in
    let wants = subst Lacks same
    (c.in_default-mark_units.ensures (next.reads place) section.volid.0 section.mark (c.in_ok-mark.ensures.found told_next)) in
    let Misses : List ℕ → Type 0 = λ bytes. LacksLabel bytes section in
    let misses = subst Misses same_last
    (c.in_default-label_units.ensures (last.reads place) section.volid.0 0 (c.in_ok-label.ensures.found told_last)) in
    by_none_of_them lacks wants misses
