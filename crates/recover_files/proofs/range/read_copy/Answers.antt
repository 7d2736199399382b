use Rattle.std.proofs.Common.{◌≡◌, ℕ, sym, ap, subst}
use Rattle.room_base.specs.declared.numbers.CopyNo.{CopyNo}
use Rattle.volume_store.specs.Writes.{cart_file}
use Rattle.recover_files.specs.Sections.{SectionGives, SectionLacks}
use Rattle.recover_files.specs.Stages.{IsRun}
use Rattle.recover_files.specs.StreamAt.{shelf_of}
use Rattle.recover_files.proofs.Copies.{covers_here, copy_without, copy_away, copy_home}
use Rattle.recover_files.proofs.range.read_copy.Goals as goal

pub returns-in_default-clause-run : goal.returns-in_default-clause-run
returns-in_default-clause-run g c = λ told.
    let wanted = c.args.wanted.now in
    copy_without (shelf_of c.args.db.now c.args.home.now (g.D.Store.view c.args.store.now).reads) wanted.ssid.0 wanted.place wanted.most
    c.args.copy.now c.args.into.now c.requires.sections (sym c.in_default.ensures)

pub most_within-most-requires-clause-within : goal.most_within-most-requires-clause-within
most_within-most-requires-clause-within g c =
    covers_here c.args.wanted.now.place c.args.copy.now c.in-Some.section c.requires.sections (sym c.in-Some.ensures)

pub returns-in_default-cart_at_home-clause-run : goal.returns-in_default-cart_at_home-clause-run
returns-in_default-cart_at_home-clause-run g c = λ told.
    let wanted = c.args.wanted.now in
    copy_away (shelf_of c.args.db.now c.args.home.now (g.D.Store.view c.args.store.now).reads) wanted.ssid.0 wanted.place c.most_within-most.result
    c.args.copy.now c.in-Some.section c.args.into.now c.requires.sections (sym c.in-Some.ensures)
    c.in_default-cart_at_home.ensures.found c.most_within-most.ensures.within

pub returns-in-Ok-clause-run : goal.returns-in-Ok-clause-run
returns-in-Ok-clause-run g c = λ told.
    let wanted = c.args.wanted.now in
    let bytes = (g.D.Store.view c.args.store.now).reads (cart_file c.in-Some-cart_at_home.cart.0) in
    let section = c.in-Some.section in
    let number : wanted.copy.0 ≡ c.args.copy.now.no.0 = ap (λ (n : CopyNo). n.0) c.requires.copy in
    let Is : ℕ → Type 0 = λ n. IsRun (SectionGives bytes section wanted.ssid.0 n) (SectionLacks bytes section wanted.ssid.0 n) wanted.place
    c.read_section.new.into c.in-Ok.run' in
    copy_home (shelf_of c.args.db.now c.args.home.now (g.D.Store.view c.args.store.now).reads) wanted.ssid.0 wanted.place c.most_within-most.result
    c.args.copy.now section c.in-Some-cart_at_home.cart c.read_section.new.into c.in-Ok.run' c.requires.sections (sym c.in-Some.ensures)
    c.in-Some-cart_at_home.ensures.found c.most_within-most.ensures.within c.in-Ok.ensures.bounds
    (subst Is number (c.in-Ok.ensures.run told))
