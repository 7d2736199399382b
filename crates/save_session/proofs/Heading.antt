-- The reader of a session has the session's head.
use Rattle.std.proofs.Common.{◌≡◌, ◌++◌, length, Option, Some, None, refl, sym, ap, ◌∙◌}
use Rattle.std.specs.Prelude.{replicate}
use Rattle.std.proofs.lemmas.List.{append_assoc, length-replicate}
use Rattle.save_stream.specs.declared.head.SetHead.{SetHead}
use Rattle.save_stream.specs.Reading.{behind_head, head_at}
use Rattle.save_stream.specs.Spelling.{head_text}
use Rattle.save_stream.specs.Standing.{StandsAt, WaitsAt}
use Rattle.save_stream.proofs.Again.{head-again}
use Rattle.save_stream.proofs.Fields.{one-head}
use Rattle.save_stream.proofs.Steps.{head-holds, reads-holds}
use Rattle.save_session.specs.Sessions.{SessionView, IsSession}

module _ (session : SessionView) (is : IsSession session) where
  by_head : (found : Option SetHead) → session.reading.head ≡ found → StandsAt found (head_text session.head ++ session.sent) session.reading → WaitsAt found session.reading
      → session.reading.head ≡ Some session.head
  by_head None here at waits =
      let again = head-again session.head session.sent is.allowed in
      cc (sym waits ∙ ap head_at at.bytes ∙ again)
  by_head (Some head) here at waits =
      let missing = replicate session.reading.left 0 in
      let spelled = at.spelled missing (length-replicate session.reading.left 0) in
      let same = one-head session.head head (session.sent ++ missing) _ is.allowed at.allowed
      (sym (append_assoc (head_text session.head) session.sent missing) ∙ spelled.1.parts) in
      here ∙ ap (λ (h : SetHead). Some h) (sym same)

  pub reader_has_head : session.reading.head ≡ Some session.head
  reader_has_head =
      let behind = behind_head (length (head_text session.head)) session.head in
      let holds = reads-holds session.sent (head_text session.head) behind session.reading (head-holds session.head is.allowed) is.bytes is.read in
      by_head session.reading.head refl holds.stands.at holds.waits
