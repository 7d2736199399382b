use Rattle.std.proofs.Common.{◌∙◌, ◌++◌, List, ap, arith, drop, map, set, sym}
use Rattle.std.proofs.lemmas.List.{append-nil, take_all}
use Rattle.std.proofs.lemmas.List.Edits.{map_over_more}
use Rattle.std.proofs.Math.ListN.{drop_of_length-le}
use Rattle.save_session.specs.declared.session.Session.{Session}
use Rattle.save_session.specs.Kept.{left_by}
use Rattle.save_session.proofs.sessions.leave_all.Goals as goal

pub loop-session-preserved : goal.loop-session-preserved
loop-session-preserved c =
    let start = c.args.sessions.now in
    let now = c.loop-session.sessions in
    let i = c.loop-session.session-index in
    ap (λ (one : Session). set now i one) (c.leave.ensures ∙ ap (left_by c.args.drive) (sym c.session-item.is))
    ∙ map_over_more (left_by c.args.drive) start now i c.session-item.result (omega arith) c.loop-session.invariant c.session-item.is

pub returns : goal.returns
returns c =
    let start = c.args.sessions.now in
    let i = c.loop-session.session-index in
    let change = left_by c.args.drive in
    c.loop-session.invariant
    ∙ ap (λ (xs : List Session). map change xs ++ drop i start) (take_all i start (omega arith))
    ∙ ap (λ (xs : List Session). map change start ++ xs) (drop_of_length-le start (omega arith))
    ∙ append-nil (map change start)
