use Rattle.std.proofs.Common.{◌≡◌, ◌∙◌, ◌≤◌, ℕ, [], length, drop, ap, subst, arith}
use Rattle.room_run.specs.Stages.{Fills}
use Rattle.room_run.proofs.TakenInput.{fills_all, fills_none, buffer_cut}
use Rattle.room_run.proofs.input.take_input.Goals as goal

pub returns-then-taken-eq0-clause-judged : goal.returns-then-taken-eq0-clause-judged
returns-then-taken-eq0-clause-judged g c = λ told.
    let before = g.S.Source.view c.args.input.now in
    let after = g.S.Source.view c.take_up_to.new.input in
    let long : length c.take_up_to.new.buffer ≡ 257025 = omega (arith, c.in-Ok.ensures, c.deref_mut.ensures.len) in
    let P : ℕ → Type 0 = λ taken. Fills before.left after.left c.take_up_to.new.buffer taken in
    fills_none before.left after.left c.take_up_to.new.buffer
    (subst P c.if-taken-eq0.true (c.in-Ok-take_up_to.ensures.filled told))
    (c.in-Ok-take_up_to.ensures.ended told (omega (arith, c.if-taken-eq0.true, long)))

pub returns-clause-judged : goal.returns-clause-judged
returns-clause-judged g c = λ told.
    let before = g.S.Source.view c.args.input.now in
    let after = g.S.Source.view c.take_up_to.new.input in
    let taken = c.in-Ok-take_up_to.taken in
    let long : length c.take_up_to.new.buffer ≡ 257025 = omega (arith, c.in-Ok.ensures, c.deref_mut.ensures.len) in
    let small : taken ≤ 257024 = c.if-taken-gt-MAX_FILE_SIZE.false in
    let ended : after.left ≡ [] = c.in-Ok-take_up_to.ensures.ended told (omega (arith, small, long)) in (
      c.truncate.ensures.items
          ∙ buffer_cut c.take_up_to.new.buffer _ taken _ (omega (arith, small, long)) (omega (arith, small, c.in-Ok.ensures))
          ∙ fills_all before.left after.left c.take_up_to.new.buffer taken (c.in-Ok-take_up_to.ensures.filled told) ended,
      ended,
    )

pub returns-then-taken-gt-MAX_FILE_SIZE-clause-judged : goal.returns-then-taken-gt-MAX_FILE_SIZE-clause-judged
returns-then-taken-gt-MAX_FILE_SIZE-clause-judged g c = λ told.
    let before = g.S.Source.view c.args.input.now in
    let taken = c.in-Ok-take_up_to.taken in
    let long : length c.take_up_to.new.buffer ≡ 257025 = omega (arith, c.in-Ok.ensures, c.deref_mut.ensures.len) in
    let is : taken ≡ 257025 = omega (arith, long, c.in-Ok-take_up_to.ensures.within, c.if-taken-gt-MAX_FILE_SIZE.true) in
    let fills = c.in-Ok-take_up_to.ensures.filled told in
    (omega (arith, fills.enough, is), fills.left ∙ ap (λ n. drop n before.left) is)
