use Rattle.std.proofs.Common.{◌≡◌, ◌*◌, ◌<◌, ◌≤◌, ◌^◌, ◌∙◌, List, ℕ, length, get_or, ap, subst, arith}
use Rattle.std.specs.Prelude.{IsTrue}
use Rattle.room_disk.proofs.Runs.{quiet_then}
use Rattle.volume_store.specs.Committed.{block_at}
use Rattle.volume_store.specs.Writes.{cart_file}
use Rattle.volume_store.specs.Reads.{FindsMark, WalksOver, StopsAt}
use Rattle.volume_store.specs.declared.marks.MarkPlace.TheVariants as places
use Rattle.volume_store.proofs.Walking.{goes_on, ends_closed, ends_bad_or_short, ends_short, range_past}
use Rattle.volume_store.proofs.marks.walk_for.Goals as goal

pub returns-in-Closed-clause-walked : goal.returns-in-Closed-clause-walked
returns-in-Closed-clause-walked g c = λ told.
    let file = cart_file c.args.cart.0 in
    let old = g.D.Store.view c.args.store.now in
    let start = g.D.Store.view c.len.new.self in
    let here = g.D.Store.view c.loop-walk.store in
    let walk = c.loop-walk.walk in
    let told_start : IsTrue start.tells = rw c.in_ok-len.ensures.tells told in
    let told_here : IsTrue here.tells = rw c.loop-walk.invariant.1 told_start in
    let same : start.reads file ≡ old.reads file = (c.in_ok-len.ensures.quiet told).reads file in
    let kept : here.reads file ≡ start.reads file = (c.loop-walk.invariant.2 told_start).reads file in
    let found = rw c.in-Closed.is at (c.in_ok-read_mark_into.ensures.found told_here) in
    let inside : 4096 * walk.end < length (start.reads file) =
    omega (arith, c.loop-walk-test.true, c.block_count-blocks.ensures.no_more, c.in_ok-len.ensures.length told, ap length same) in
    let P : List ℕ → Type 0 = λ bytes. WalksOver bytes c.args.volid.0 c.args.units c.args.wanted walk in
    subst P same (ends_closed (start.reads file) c.args.volid.0 c.args.units c.args.wanted walk (c.loop-walk.invariant.4 told_start) inside
    (λ opens. found.1 (ap (λ bytes. get_or (block_at bytes walk.end) 0 0) kept ∙ opens)))

pub returns-in-Bad-clause-walked : goal.returns-in-Bad-clause-walked
returns-in-Bad-clause-walked g c = λ told.
    let file = cart_file c.args.cart.0 in
    let old = g.D.Store.view c.args.store.now in
    let start = g.D.Store.view c.len.new.self in
    let here = g.D.Store.view c.loop-walk.store in
    let walk = c.loop-walk.walk in
    let told_start : IsTrue start.tells = rw c.in_ok-len.ensures.tells told in
    let told_here : IsTrue here.tells = rw c.loop-walk.invariant.1 told_start in
    let same : start.reads file ≡ old.reads file = (c.in_ok-len.ensures.quiet told).reads file in
    let kept : here.reads file ≡ start.reads file = (c.loop-walk.invariant.2 told_start).reads file in
    let found = rw c.in-Bad.is at (c.in_ok-read_mark_into.ensures.found told_here) in
    let P : List ℕ → Type 0 = λ bytes. StopsAt bytes c.args.volid.0 c.args.units walk.end in
    let Bad : List ℕ → Type 0 = λ bytes. FindsMark (block_at bytes walk.end) c.args.volid.0 c.args.units walk.end places.Bad in
    subst P same (ends_bad_or_short (start.reads file) c.args.volid.0 c.args.units c.args.wanted walk (c.loop-walk.invariant.4 told_start) (subst Bad kept found))

pub loop-walk-preserved : goal.loop-walk-preserved
loop-walk-preserved g c =
    let file = cart_file c.args.cart.0 in
    let start = g.D.Store.view c.len.new.self in
    let here = g.D.Store.view c.loop-walk.store in
    let new = g.D.Store.view c.read_mark_into.new.store in
    let walk = c.loop-walk.walk in
    let inside : walk.end < 2 ^ 52 = omega (arith, c.loop-walk-test.true, c.block_count-blocks.ensures.no_more) in
    let count = rw c.in-Open.is at c.in_ok-read_mark_into.ensures.count in (
      λ other. omega (arith, c.loop-walk.invariant.0 other, c.in_ok-read_mark_into.ensures.cause.later other),
      c.in_ok-read_mark_into.ensures.tells ∙ c.loop-walk.invariant.1,
      λ told. (let told_here : IsTrue here.tells = rw c.loop-walk.invariant.1 told in
          quiet_then start here new (c.loop-walk.invariant.2 told) (c.in_ok-read_mark_into.ensures.quiet told_here)),
      range_past c.args.units c.in-Open.count walk c.past-walk.result c.args.wanted inside c.requires.units c.loop-walk.invariant.3 count
          c.past-walk.ensures.files c.past-walk.ensures.end c.past-walk.ensures.this c.past-walk.ensures.other,
      λ told. (let told_here : IsTrue here.tells = rw c.loop-walk.invariant.1 told in
          let kept : here.reads file ≡ start.reads file = (c.loop-walk.invariant.2 told).reads file in
          let found = rw c.in-Open.is at (c.in_ok-read_mark_into.ensures.found told_here) in
          let Found : List ℕ → Type 0 = λ bytes. FindsMark (block_at bytes walk.end) c.args.volid.0 c.args.units walk.end (places.Open c.in-Open.count) in
          goes_on (start.reads file) c.args.volid.0 c.args.units c.args.wanted c.in-Open.count walk c.past-walk.result (c.loop-walk.invariant.4 told)
          (subst Found kept found) c.past-walk.ensures.files c.past-walk.ensures.end c.past-walk.ensures.this c.past-walk.ensures.other),
    )

pub returns-clause-walked : goal.returns-clause-walked
returns-clause-walked g c = λ told.
    let file = cart_file c.args.cart.0 in
    let old = g.D.Store.view c.args.store.now in
    let start = g.D.Store.view c.len.new.self in
    let walk = c.loop-walk.walk in
    let told_start : IsTrue start.tells = rw c.in_ok-len.ensures.tells told in
    let same : start.reads file ≡ old.reads file = (c.in_ok-len.ensures.quiet told).reads file in
    let short : length (start.reads file) ≤ 4096 * walk.end =
    omega (arith, c.loop-walk-test.false, c.block_count-blocks.ensures.covers, c.in_ok-len.ensures.length told, ap length same) in
    let P : List ℕ → Type 0 = λ bytes. StopsAt bytes c.args.volid.0 c.args.units walk.end in
    subst P same (ends_short (start.reads file) c.args.volid.0 c.args.units c.args.wanted walk (c.loop-walk.invariant.4 told_start) short)
