-- The text of a reply's value is read as that value.
use Rattle.std.proofs.Common.{◌≡◌, ◌≤◌, ℕ, List, [], ◌∷◌, map, Some, option_and_then, sym, ap, ◌∙◌, arith, append-nil}
use Rattle.json.specs.Json.{Json, value, if_last, document, max_depth}
use Rattle.json.specs.Lex.{tokens}
use Rattle.json.specs.Tree.{json_tokens, depth, items_depth}
use Rattle.json.proofs.Printed.Trees.{value-json_tokens}
use Rattle.json.specs.Token.{Token}
use Rattle.media_db.specs.declared.copies.Section.{Section}
use Rattle.media_db.specs.declared.copies.SetCopy.{SetCopy}
use Rattle.room_base.specs.declared.refusal.Refusal.{Refusal}
use Rattle.room_base.specs.declared.refusal.Refusal.TheVariants as refusals
use Rattle.room_command.specs.declared.answer.Answer.{Answer}
use Rattle.room_command.specs.declared.answer.Answer.TheVariants as answers
use Rattle.room_command.specs.declared.reply.Reply.{Reply}
use Rattle.room_command.specs.declared.reply.Reply.TheVariants.{Done, Refused}
use Rattle.desk_reply.specs.Values.{items_of}
use Rattle.desk_reply.specs.Records.{section_json, copy_json}
use Rattle.desk_reply.specs.Answers.{answer_json, slot_json, planned_json, ssid_json}
use Rattle.desk_reply.specs.Refused.{refusal_json}
use Rattle.desk_reply.specs.Replies.{reply_json, body_bytes}

-- a list is one deeper than its items
list_depth : {X : Type 0} (json : X → Json) (most : ℕ) → ((x : X) → depth (json x) ≤ most)
    → (list : List X) → items_depth (items_of (map json list)) ≤ most
list_depth json most each [] = omega arith
list_depth json most each (x ∷ xs) = omega (arith, each x, list_depth json most each xs)

section_depth : (section : Section) → depth (section_json section) ≤ 1
section_depth section = omega arith

copy_depth : (copy : SetCopy) → depth (copy_json copy) ≤ 3
copy_depth copy = omega (arith, list_depth section_json 1 section_depth copy.sections)

answer_depth : (answer : Answer) → depth (answer_json answer) ≤ 5
answer_depth (answers.Defined count) = omega arith
answer_depth answers.Empty = omega arith
answer_depth (answers.Labelled cart volid) = omega arith
answer_depth (answers.Mounted drive volid) = omega arith
answer_depth (answers.Slots lines) = omega (arith, list_depth slot_json 1 (λ line. omega arith) lines)
answer_depth (answers.Plan plan) = omega (arith, list_depth planned_json 1 (λ planned. omega arith) plan)
answer_depth (answers.Begun base level next pool saved ssid) = omega arith
answer_depth (answers.Next next) = omega arith
answer_depth (answers.Finished bytes files ssid) = omega arith
answer_depth (answers.Purged ssids) = omega (arith, list_depth ssid_json 0 (λ ssid. omega arith) ssids)
answer_depth (answers.Shown shown) = omega (arith, list_depth copy_json 3 copy_depth shown.copies)

refusal_depth : (refusal : Refusal) → depth (refusal_json refusal) ≤ 2
refusal_depth (refusals.Malformed field) = omega arith
refusal_depth (refusals.NoSuch kind name) = omega arith
refusal_depth (refusals.Exists kind name) = omega arith
refusal_depth (refusals.InUse kind name) = omega arith
refusal_depth (refusals.Skipped day) = omega arith
refusal_depth (refusals.SetBusy ssid) = omega arith
refusal_depth (refusals.NeedVolume pool) = omega arith
refusal_depth (refusals.SessionsFull limit) = omega arith
refusal_depth (refusals.NotOpen ssid) = omega arith
refusal_depth (refusals.Gap expected) = omega arith
refusal_depth (refusals.PieceTooLong limit) = omega arith
refusal_depth (refusals.BadStream offset) = omega arith
refusal_depth (refusals.NotEnded offset) = omega arith
refusal_depth (refusals.WrongLength kept) = omega arith
refusal_depth (refusals.WrongDigest kept) = omega arith
refusal_depth (refusals.SlotEmpty slot) = omega arith
refusal_depth (refusals.DriveBusy drive volid) = omega arith
refusal_depth (refusals.Unlabelled cart) = omega arith
refusal_depth (refusals.Strange volid) = omega arith
refusal_depth (refusals.LabelPending volid found) = omega arith
refusal_depth (refusals.Mounted drive) = omega arith
refusal_depth (refusals.Needed ssid) = omega arith
refusal_depth (refusals.Offsite volid) = omega arith
refusal_depth (refusals.DamagedBlock volid block) = omega arith
refusal_depth (refusals.Purged ssid) = omega arith
refusal_depth (refusals.BaseGone ssid) = omega arith
refusal_depth (refusals.HasCopy volid) = omega arith
refusal_depth (refusals.NoFile path) = omega arith
refusal_depth (refusals.TooMany limit) = omega arith
refusal_depth (refusals.DeviceFault file closed) = omega (arith, list_depth ssid_json 0 (λ ssid. omega arith) closed)
refusal_depth refusals.JournalFault = omega arith
refusal_depth refusals.NoMemory = omega arith

reply_depth : (reply : Reply) → depth (reply_json reply) ≤ 5
reply_depth (Done answer) = answer_depth answer
reply_depth (Refused refusal) = omega (arith, refusal_depth refusal)

pub reads_back : (reply : Reply) → tokens (body_bytes reply) ≡ json_tokens (reply_json reply)
    → document (body_bytes reply) ≡ Some (reply_json reply)
reads_back reply same =
    ap (λ (list : List Token). option_and_then (λ p. if_last p.0 p.1) (value max_depth list)) (same ∙ sym (append-nil (json_tokens (reply_json reply))))
    ∙ ap (option_and_then (λ p. if_last p.0 p.1)) (value-json_tokens (reply_json reply) max_depth [] (omega (arith, reply_depth reply)))
