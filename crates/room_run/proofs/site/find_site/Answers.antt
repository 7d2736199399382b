use Rattle.std.proofs.Common.{List, ℕ, subst}
use Rattle.std.specs.Prelude.{IsTrue, MatchResult}
use Rattle.volume_store.specs.Committed.{HasLabel}
use Rattle.volume_store.specs.Writes.{cart_file}
use Rattle.room_run.specs.Put.{IsSite}
use Rattle.room_run.specs.Stages.{JudgesSite}
use Rattle.room_run.proofs.site.find_site.Goals as goal

pub returns-in-Labelled-clause-judged : goal.returns-in-Labelled-clause-judged
returns-in-Labelled-clause-judged g c = λ told.
    let clock = g.C.Clock.view c.args.clock.now in
    let old = g.D.Store.view c.args.disk.now in
    let mid = g.D.Store.view c.read_label.new.store in
    let file = cart_file c.args.cart.0 in
    let found = c.in-Labelled.label in
    let told_mid : IsTrue mid.tells = rw c.in-Ok.ensures.tells told in
    let label : HasLabel (old.reads file) found = rw c.in-Labelled.is at (c.in-Ok.ensures.found told) in
    let P : List ℕ → Type 0 = λ (bytes : List ℕ). HasLabel bytes found
    → MatchResult c.next_site.result (IsSite clock c.args.cart.0 bytes) (JudgesSite c.args.size bytes) in
    subst P ((c.in-Ok.ensures.quiet told).reads file) (λ has. c.next_site.ensures.judged told_mid has clock) label
