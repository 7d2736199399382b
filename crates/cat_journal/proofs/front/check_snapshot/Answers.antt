use Rattle.std.proofs.Common.{◌≡◌, ◌+◌, ◌∙◌, ℕ, List, length, take, subst, arith, true}
use Rattle.std.specs.Prelude.{IsTrue}
use Rattle.std.proofs.lemmas.List.{length-take}
use Rattle.room_disk.proofs.Runs.{quiet_then}
use Rattle.cat_journal.specs.Heads.{DigestsPart}
use Rattle.cat_journal.proofs.Fronts.{digested_more}
use Rattle.cat_journal.proofs.front.check_snapshot.Goals as goal

pub loop-done-preserved : goal.loop-done-preserved
loop-done-preserved g c =
    let start = g.D.Store.view c.args.store.now in
    let here = g.D.Store.view c.loop-done.store in
    let new = g.D.Store.view c.digest_part.new.store in
    let file = c.args.file in
    let held = c.loop-done.invariant in
    let done = c.loop-done.done in
    let made = c.in_ok-digest_part.ensures in
    let told_here : IsTrue start.tells → IsTrue here.tells = λ told. rw held.tells told in
    let digests : IsTrue start.tells → DigestsPart (start.reads file) (64 + done) c.min-count.result c.loop-done.hasher c.digest_part.new.hasher true =
    λ told. (let same : here.reads file ≡ start.reads file = (held.quiet told).reads file in
    let part = take c.min-count.result c.deref_mut.result.now in
    let sized : length part ≡ c.min-count.result =
    omega (arith, length-take c.min-count.result c.deref_mut.result.now, c.deref_mut.ensures.len, held.room, c.min-count.ensures, held.within) in
    let P : List ℕ → Type 0 = λ t. DigestsPart t (64 + done) (length part) c.loop-done.hasher c.digest_part.new.hasher true in
    let Q : ℕ → Type 0 = λ n. DigestsPart (start.reads file) (64 + done) n c.loop-done.hasher c.digest_part.new.hasher true in
    subst Q sized (subst P same (rw c.if-not-branch.false at (made.digested (told_here told))))) in
    record {
      within = omega arith;
      room = held.room;
      later = λ other. omega (arith, held.later other, made.cause.later other);
      tells = made.tells ∙ held.tells;
      quiet = λ told. quiet_then start here new (held.quiet told) (made.quiet (told_here told));
      read = λ told. omega (arith, (digests told).0);
      digested = λ told. digested_more (start.reads file) c.args.head.now.fields done c.min-count.result c.loop-done.hasher c.digest_part.new.hasher
          (held.digested told) (digests told).1;
    }
