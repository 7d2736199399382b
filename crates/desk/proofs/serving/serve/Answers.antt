use Rattle.std.proofs.Common.{[], ℕ, List, Err, refl, sym, ap, ◌∙◌, subst, arith}
use Rattle.desk.specs.Runs.{around}
use Rattle.desk.proofs.Ending.{ended_full, ended_reading, ended_sending}
use Rattle.desk.proofs.SoFar.{Going, nothing_yet, some_written}
use Rattle.desk.proofs.Turning.{answered_some, ended_shut, going_on, untimed_some}
use Rattle.desk.proofs.serving.serve.Goals as goal

pub requests-init : goal.requests-init
requests-init g c =
    let room = c.args.room.now in
    let before = around (g.S.Source.view c.args.input.now) (g.W.Sink.view c.args.out.now) (g.C.Clock.view c.args.clock.now) (g.D.Store.view c.args.disk.now) in
    let A : List ℕ → Type 0 = λ bytes. Going 0 room room before before bytes c.new-intake.result.allowed in
    let B : ℕ → Type 0 = λ allowed. Going 0 room room before before [] allowed in
    subst A (sym c.new-intake.ensures.bytes) (subst B (sym c.new-intake.ensures.allowed)
    (record { exchanges = []; counted = refl; opens = c.requires.opens; so_far = nothing_yet room before c.requires.room }))

pub returns-in-Err : goal.returns-in-Err
returns-in-Err g c =
    let going = c.requests.invariant in
    ended_reading going.exchanges c.args.room.now c.requests.room
    (around (g.S.Source.view c.args.input.now) (g.W.Sink.view c.args.out.now) (g.C.Clock.view c.args.clock.now) (g.D.Store.view c.args.disk.now))
    (around (g.S.Source.view c.requests.input) (g.W.Sink.view c.requests.out) (g.C.Clock.view c.requests.clock) (g.D.Store.view c.requests.disk))
    c.requests.intake.bytes.items c.requests.intake.allowed going.so_far (g.S.Source.view c.read_next.new.input)
    c.read_next.new.intake.bytes.items c.read_next.new.intake.allowed c.in-Err.end going.opens c.in-Err.ensures.later c.in-Err.ensures.tells
    c.in-Err.ensures.end (λ same. c.in-Err.ensures.cause (ap Err same)) c.in-Err.ensures.read

pub returns-in-Err-answer : goal.returns-in-Err-answer
returns-in-Err-answer g c =
    let before = around (g.S.Source.view c.args.input.now) (g.W.Sink.view c.args.out.now) (g.C.Clock.view c.args.clock.now) (g.D.Store.view c.args.disk.now) in
    untimed_some g.D.Store.view g.C.Clock.view c.requests.counter c.args.room.now c.requests.room before (g.S.Source.view c.requests.input)
    (g.S.Source.view c.read_next.new.input) (g.W.Sink.view c.requests.out) c.requests.disk c.answer.new.disk c.requests.clock c.answer.new.clock
    c.requests.intake.bytes.items c.requests.intake.allowed c.requests.invariant c.read_next.new.intake.bytes.items c.read_next.new.intake.allowed c.in-Ok.request
    c.in-Ok.ensures.later c.in-Ok.ensures.tells c.in-Ok.ensures.read c.answer.new.room c.in-Err-answer.ensures.later c.in-Err-answer.ensures.tells c.in-Err-answer.ensures.answers

pub returns-in-Err-send : goal.returns-in-Err-send
returns-in-Err-send g c =
    let before = around (g.S.Source.view c.args.input.now) (g.W.Sink.view c.args.out.now) (g.C.Clock.view c.args.clock.now) (g.D.Store.view c.args.disk.now) in
    let some = answered_some g.D.Store.view g.C.Clock.view c.requests.counter c.args.room.now c.requests.room before (g.S.Source.view c.requests.input)
    (g.S.Source.view c.read_next.new.input) (g.W.Sink.view c.requests.out) c.requests.disk c.answer.new.disk c.requests.clock c.answer.new.clock
    c.requests.intake.bytes.items c.requests.intake.allowed c.requests.invariant c.read_next.new.intake.bytes.items c.read_next.new.intake.allowed c.in-Ok.request
    c.in-Ok.ensures.later c.in-Ok.ensures.tells c.in-Ok.ensures.read c.answer.new.room c.in-Ok-answer.ensures.later c.in-Ok-answer.ensures.tells c.in-Ok-answer.reply
    (g.met.D.Store.is_disk c.requests.disk) c.in-Ok-answer.ensures.answers in
    let answered = around (g.S.Source.view c.read_next.new.input) (g.W.Sink.view c.requests.out) (g.C.Clock.view c.answer.new.clock) (g.D.Store.view c.answer.new.disk) in
    ended_sending c.requests.invariant.exchanges some.last c.in-Ok-answer.reply c.args.room.now c.answer.new.room before answered c.read_next.new.intake.bytes.items
    c.read_next.new.intake.allowed some.answered c.in-Err-send.end (g.W.Sink.view c.send.new.out) c.in-Err-send.ensures.later c.in-Err-send.ensures.tells c.in-Err-send.ensures.sends

pub returns-in-Err-reopen : goal.returns-in-Err-reopen
returns-in-Err-reopen g c =
    let before = around (g.S.Source.view c.args.input.now) (g.W.Sink.view c.args.out.now) (g.C.Clock.view c.args.clock.now) (g.D.Store.view c.args.disk.now) in
    let some = answered_some g.D.Store.view g.C.Clock.view c.requests.counter c.args.room.now c.requests.room before (g.S.Source.view c.requests.input)
    (g.S.Source.view c.read_next.new.input) (g.W.Sink.view c.requests.out) c.requests.disk c.answer.new.disk c.requests.clock c.answer.new.clock
    c.requests.intake.bytes.items c.requests.intake.allowed c.requests.invariant c.read_next.new.intake.bytes.items c.read_next.new.intake.allowed c.in-Ok.request
    c.in-Ok.ensures.later c.in-Ok.ensures.tells c.in-Ok.ensures.read c.answer.new.room c.in-Ok-answer.ensures.later c.in-Ok-answer.ensures.tells c.in-Ok-answer.reply
    (g.met.D.Store.is_disk c.requests.disk) c.in-Ok-answer.ensures.answers in
    let answered = around (g.S.Source.view c.read_next.new.input) (g.W.Sink.view c.requests.out) (g.C.Clock.view c.answer.new.clock) (g.D.Store.view c.answer.new.disk) in
    let written = some_written c.requests.invariant.exchanges c.in-Ok-answer.reply c.args.room.now c.answer.new.room before answered c.read_next.new.intake.bytes.items
    c.read_next.new.intake.allowed some (g.W.Sink.view c.send.new.out) c.in-Ok-send.ensures.later c.in-Ok-send.ensures.tells c.in-Ok-send.ensures.sends in
    ended_shut g.D.Store.view c.requests.counter c.requests.invariant.exchanges c.requests.invariant.counted c.args.room.now c.answer.new.room c.reopen.new.room before
    (g.S.Source.view c.read_next.new.input) (g.W.Sink.view c.send.new.out) (g.C.Clock.view c.answer.new.clock) c.answer.new.disk c.reopen.new.disk
    c.read_next.new.intake.bytes.items c.read_next.new.intake.allowed written
    (λ opens. ((c.in-Err-reopen.ensures.stays opens).1, (c.in-Err-reopen.ensures.stays opens).2)) c.in-Err-reopen.end
    (λ opens. absurd (cc (c.in-Err-reopen.ensures.stays opens).0)) c.in-Err-reopen.ensures.reopens

pub requests-preserved : goal.requests-preserved
requests-preserved g c =
    let before = around (g.S.Source.view c.args.input.now) (g.W.Sink.view c.args.out.now) (g.C.Clock.view c.args.clock.now) (g.D.Store.view c.args.disk.now) in
    let some = answered_some g.D.Store.view g.C.Clock.view c.requests.counter c.args.room.now c.requests.room before (g.S.Source.view c.requests.input)
    (g.S.Source.view c.read_next.new.input) (g.W.Sink.view c.requests.out) c.requests.disk c.answer.new.disk c.requests.clock c.answer.new.clock
    c.requests.intake.bytes.items c.requests.intake.allowed c.requests.invariant c.read_next.new.intake.bytes.items c.read_next.new.intake.allowed c.in-Ok.request
    c.in-Ok.ensures.later c.in-Ok.ensures.tells c.in-Ok.ensures.read c.answer.new.room c.in-Ok-answer.ensures.later c.in-Ok-answer.ensures.tells c.in-Ok-answer.reply
    (g.met.D.Store.is_disk c.requests.disk) c.in-Ok-answer.ensures.answers in
    let answered = around (g.S.Source.view c.read_next.new.input) (g.W.Sink.view c.requests.out) (g.C.Clock.view c.answer.new.clock) (g.D.Store.view c.answer.new.disk) in
    let written = some_written c.requests.invariant.exchanges c.in-Ok-answer.reply c.args.room.now c.answer.new.room before answered c.read_next.new.intake.bytes.items
    c.read_next.new.intake.allowed some (g.W.Sink.view c.send.new.out) c.in-Ok-send.ensures.later c.in-Ok-send.ensures.tells c.in-Ok-send.ensures.sends in
    going_on g.D.Store.view c.requests.counter c.requests.invariant.exchanges c.requests.invariant.counted c.args.room.now c.answer.new.room c.reopen.new.room before
    (g.S.Source.view c.read_next.new.input) (g.W.Sink.view c.send.new.out) (g.C.Clock.view c.answer.new.clock) c.answer.new.disk c.reopen.new.disk
    c.read_next.new.intake.bytes.items c.read_next.new.intake.allowed written
    (λ opens. ((c.in-Ok-reopen.ensures.stays opens).1, (c.in-Ok-reopen.ensures.stays opens).2)) (g.met.D.Store.is_disk c.answer.new.disk) c.in-Ok-reopen.ensures.reopens

pub returns : goal.returns
returns g c =
    let going = c.requests.invariant in
    ended_full going.exchanges c.args.room.now c.requests.room
    (around (g.S.Source.view c.args.input.now) (g.W.Sink.view c.args.out.now) (g.C.Clock.view c.args.clock.now) (g.D.Store.view c.args.disk.now))
    (around (g.S.Source.view c.requests.input) (g.W.Sink.view c.requests.out) (g.C.Clock.view c.requests.clock) (g.D.Store.view c.requests.disk))
    c.requests.intake.bytes.items c.requests.intake.allowed going.so_far going.opens (going.counted ∙ omega arith)
