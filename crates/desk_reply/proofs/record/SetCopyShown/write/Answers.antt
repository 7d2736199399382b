use Rattle.std.proofs.Common.{ℕ, arith, ap, ◌∙◌, List, [], ◌∷◌, ◌++◌, codes}
use Rattle.json.specs.Json.{Json, string}
use Rattle.json.specs.Token.{Token, begin_object}
use Rattle.desk_reply.specs.Records.{section_json}
use Rattle.desk_reply.specs.Values.{whole, json_list}
use Rattle.desk_reply.specs.Words.{copy_state_word}
use Rattle.desk_reply.specs.Writing.{member_tokens, list_tokens}
use Rattle.desk_reply.proofs.Lists.{object_closed, around}
use Rattle.desk_reply.proofs.record.SetCopyShown.write.Goals as goal

pub returns : goal.returns
returns c =
    let copy = c.args.self.now in
    let no : List (List ℕ × Json) = (codes "no", whole copy.no.0) ∷ [] in
    let sections : List ℕ × Json = (codes "sections", json_list section_json copy.sections) in
    let state : List (List ℕ × Json) = (codes "state", string (copy_state_word copy.state)) ∷ [] in
    let number = rw c.from.ensures at c.in_ok-put_members.ensures in
    let list = rw c.as_slice.ensures at c.in_ok-put_list.ensures in
    let word = rw c.copy_state_word.ensures at c.in_ok-put_members-2.ensures in
    object_closed (no ++ (sections ∷ state)) _ c.args.out.now _ _
    (word.0
    ∙ ap (λ (tokens : List Token). tokens ++ list_tokens state)
    (list.0
    ∙ ap (λ (tokens : List Token). tokens ++ member_tokens sections)
    (number.0 ∙ ap (λ (tokens : List Token). tokens ++ list_tokens no) c.in_ok-begin_object.ensures.ok))
    ∙ around no state sections (c.args.out.now.tokens ++ begin_object ∷ []))
    (grind arith) c.end_object.ensures
