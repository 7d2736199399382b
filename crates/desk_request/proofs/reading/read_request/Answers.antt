use Rattle.std.proofs.Common.{◌≡◌, Option, Some, Ok, List, ℕ, subst}
use Rattle.std.proofs.lemmas.Result.{err_from_is_err_and}
use Rattle.room_base.specs.Outside.{SourceView}
use Rattle.desk_request.specs.Heads.{BeginsWith}
use Rattle.desk_request.specs.Steps.{FindsFirst}
use Rattle.desk_request.specs.declared.head.Head.{Head}
use Rattle.desk_request.proofs.Answering.{head_failed, body_failed, request_read}
use Rattle.desk_request.proofs.reading.read_request.Goals as goal

pub returns-in_err-head-clause-read : goal.returns-in_err-head-clause-read
returns-in_err-head-clause-read g c = λ told.
    let p = err_from_is_err_and c.from_residual.result c.from_residual.ensures.1 in
    rw (p.1, p.2) (head_failed (g.S.Source.view c.args.source.now) (g.S.Source.view c.read_head.new.source) c.args.buffer.now.items c.read_head.new.buffer.items
    c.in_err-head.field-0.0 c.in_err-head.ensures.tells told c.in_err-head.ensures.read)

-- the head that was found
found : (new : SourceView) (bytes : List ℕ) (answer : Option Head) (head : Head) → answer ≡ Some head → FindsFirst new bytes (Ok answer) → BeginsWith bytes head
found new bytes answer head is finds =
    let P : Option Head → Type 0 = λ o. FindsFirst new bytes (Ok o) in subst P is finds

pub returns-in_err-body-clause-read : goal.returns-in_err-body-clause-read
returns-in_err-body-clause-read g c = λ told.
    let p = err_from_is_err_and c.from_residual-in_err-body.result c.from_residual-in_err-body.ensures.1 in
    let read = c.in_ok-head.ensures.read in
    let begins = found (g.S.Source.view c.read_head.new.source) c.read_head.new.buffer.items c.in_ok-head.field-0 c.in-Some.head c.in-Some.is read.finds in
    rw (p.1, p.2) (body_failed _ (g.S.Source.view c.args.source.now) (g.S.Source.view c.read_head.new.source) (g.S.Source.view c.read_body.new.source)
    c.args.buffer.now.items c.read_head.new.buffer.items c.read_body.new.buffer.items read.more c.in-Some.head c.in_err-body.field-0.0
    c.in_err-body.ensures.tells c.in_ok-head.ensures.tells told read.added read.took begins read.still c.in_err-body.ensures.body)

pub returns-clause-read : goal.returns-clause-read
returns-clause-read g c = λ told.
    let read = c.in_ok-head.ensures.read in
    let begins = found (g.S.Source.view c.read_head.new.source) c.read_head.new.buffer.items c.in_ok-head.field-0 c.in-Some.head c.in-Some.is read.finds in
    let body = c.in_ok-body.ensures.body in
    request_read (g.S.Source.view c.args.source.now) (g.S.Source.view c.read_head.new.source) (g.S.Source.view c.read_body.new.source)
    c.args.buffer.now.items c.read_head.new.buffer.items c.read_body.new.buffer.items c.in_ok-body.body.items read.more body.more c.in-Some.head c.new.result
    read.added (read.took told) (body.took (rw c.in_ok-head.ensures.tells told)) begins read.still body.gives.0 body.gives.1 body.gives.2 c.new.ensures
