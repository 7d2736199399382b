use Rattle.std.proofs.Common.{arith, ap, ◌∙◌, List, [], ◌∷◌, ◌++◌}
use Rattle.json.specs.Token.{Token, begin_object}
use Rattle.desk_reply.specs.Records.{first_members, copies_member, last_members}
use Rattle.desk_reply.specs.Writing.{member_tokens, list_tokens}
use Rattle.desk_reply.proofs.Lists.{object_closed, around}
use Rattle.desk_reply.proofs.record.write_record.Goals as goal

pub returns : goal.returns
returns c =
    let row = c.args.row.now in
    let copies = rw c.as_slice.ensures at c.in_ok-put_list.ensures in
    object_closed (first_members row ++ (copies_member row ∷ last_members row)) _ c.args.out.now _ _
    (c.in_ok-put_last.ensures.0
    ∙ ap (λ (list : List Token). list ++ list_tokens (last_members row))
    (copies.0
    ∙ ap (λ (list : List Token). list ++ member_tokens (copies_member row))
    (c.in_ok-put_first.ensures.0
    ∙ ap (λ (list : List Token). list ++ list_tokens (first_members row)) c.in_ok-begin_object.ensures.ok))
    ∙ around (first_members row) (last_members row) (copies_member row) (c.args.out.now.tokens ++ begin_object ∷ []))
    (grind arith) c.end_object.ensures
