-- The bytes of a reply.
use Rattle.std.specs.Prelude.{◌≡◌, ◌<◌, ◌^◌, ℕ, List, [], ◌++◌, length, codes, unwrap_or, Some}
use Rattle.std.specs.Fmt.{decimal}
use Rattle.http.specs.StatusCode.{reason_phrase}
use Rattle.json.specs.Json.{Json, document}
use Rattle.room_base.specs.Refusals.{refusal_number}
use Rattle.room_command.specs.declared.reply.Reply.{Reply}
use Rattle.room_command.specs.declared.reply.Reply.TheVariants.{Done, Refused}
use Rattle.desk_reply.specs.Answers.{answer_json}
use Rattle.desk_reply.specs.Refused.{status_of_number, refusal_json}
use Rattle.desk_reply.specs.Values.{json_text}

abbrev pub reply_status : Reply → ℕ
reply_status (Done answer) = 200
reply_status (Refused refusal) = status_of_number (refusal_number refusal)

abbrev pub reply_json : Reply → Json
reply_json (Done answer) = answer_json answer
reply_json (Refused refusal) = refusal_json refusal

abbrev pub body_bytes : Reply → List ℕ
body_bytes reply = json_text (reply_json reply)

-- a line with its end
abbrev pub line : List ℕ → List ℕ
line text = text ++ codes "\r\n"

-- the phrase of a status
abbrev pub phrase : ℕ → List ℕ
phrase status = unwrap_or (reason_phrase status) []

abbrev pub status_line : ℕ → List ℕ
status_line status = line (codes "HTTP/1.1 " ++ (decimal status ++ (codes " " ++ phrase status)))

abbrev pub type_line : List ℕ
type_line = line (codes "Content-Type: application/json")

abbrev pub length_line : ℕ → List ℕ
length_line count = line (codes "Content-Length: " ++ decimal count)

-- a head and the bytes of a body
abbrev pub with_head : ℕ → List ℕ → List ℕ
with_head status body =
    status_line status ++ (type_line ++ (length_line (length body) ++ (codes "\r\n" ++ body)))

abbrev pub reply_bytes : Reply → List ℕ
reply_bytes reply = with_head (reply_status reply) (body_bytes reply)

-- the body is a text of JSON that is read as the reply's value, and its length can be said
abbrev pub IsReadable : Reply → Type 0
IsReadable reply =
    (document (body_bytes reply) ≡ Some (reply_json reply)) × (length (body_bytes reply) < 2 ^ 64)
