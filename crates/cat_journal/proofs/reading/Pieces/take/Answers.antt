use Rattle.std.proofs.Common.{◌≡◌, ◌≤◌, ◌+◌, ◌∙◌, ◌++◌, ℕ, List, length, sym, ap, subst, arith}
use Rattle.std.specs.Prelude.{IsTrue}
use Rattle.std.proofs.lemmas.List.{length-append}
use Rattle.room_disk.proofs.Runs.{quiet_then}
use Rattle.cat_journal.specs.Reads.{ahead, IsOf, HandsOut}
use Rattle.cat_journal.proofs.Handing.{handed_more}
use Rattle.cat_journal.proofs.reading.Pieces.take.Goals as goal

pub loop-done-preserved : goal.loop-done-preserved
loop-done-preserved g c =
    let start = g.D.Store.view c.args.store.now in
    let here = g.D.Store.view c.loop-done.store in
    let new = g.D.Store.view c.take_some.new.store in
    let file = c.args.self.now.file in
    let held = c.loop-done.invariant in
    let done = c.loop-done.done in
    let into = c.loop-done.into in
    let more = c.take_some.new.into in
    let made = c.in_ok-count.ensures in
    let told_here : IsTrue start.tells → IsTrue here.tells = λ told. rw held.tells told in
    let front = c.split_at_mut-room.result.0.now in
    let sized : length front ≡ done = c.split_at_mut-room.ensures.front_len in
    let long : length more + done ≡ length into = omega (arith, made.size, c.split_at_mut-room.ensures.back_len) in
    let within : c.in_ok-count.count ≤ length more = omega (arith, made.within, made.size) in
    let same_size : length (front ++ more) ≡ length into = length-append front more ∙ omega (arith, sized, long) in
    record {
      within = omega (arith, same_size, within, long);
      file = made.file ∙ held.file;
      end = made.end ∙ held.end;
      size = same_size ∙ held.size;
      later = λ other. omega (arith, held.later other, made.cause.later other);
      tells = made.tells ∙ held.tells;
      quiet = λ told. quiet_then start here new (held.quiet told) (made.quiet (told_here told));
      given = λ told is. (let bytes = start.reads file in
          let same : here.reads c.loop-done.self.file ≡ bytes = (held.quiet told).reads c.loop-done.self.file ∙ ap start.reads held.file in
          let ends : IsOf c.loop-done.self (here.reads c.loop-done.self.file) = held.end ∙ is ∙ ap length (sym same) in
          let Hands : List ℕ → Type 0 = λ t. HandsOut (ahead c.loop-done.self t) (ahead c.take_some.new.self t) more c.in_ok-count.count in
          let so_far : front ++ ahead c.loop-done.self bytes ≡ ahead c.args.self.now bytes =
          ap (λ (t : List ℕ). t ++ ahead c.loop-done.self bytes) c.split_at_mut-room.ensures.front ∙ held.given told is in
          handed_more front more (ahead c.args.self.now bytes) (ahead c.loop-done.self bytes) (ahead c.take_some.new.self bytes) done
          c.in_ok-count.count sized within so_far (subst Hands same (made.handed (told_here told) ends)));
    }
