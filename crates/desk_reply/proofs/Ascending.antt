-- The keys of each object ascend.
use Rattle.std.proofs.Common.{◌≡◌, List, [], ◌∷◌, map, Bool, true, ◌&&◌, refl, ap, ◌∙◌}
use Rattle.json.specs.Json.{Json}
use Rattle.media_db.specs.declared.copies.Section.{Section}
use Rattle.media_db.specs.declared.copies.SetCopy.{SetCopy}
use Rattle.room_base.specs.declared.refusal.Refusal.{Refusal}
use Rattle.room_base.specs.declared.refusal.Refusal.TheVariants as refusals
use Rattle.room_command.specs.declared.answer.Answer.{Answer}
use Rattle.room_command.specs.declared.answer.Answer.TheVariants as answers
use Rattle.room_command.specs.declared.reply.Reply.{Reply}
use Rattle.room_command.specs.declared.reply.Reply.TheVariants.{Done, Refused}
use Rattle.desk_reply.specs.Answers.{answer_json, slot_json, planned_json, ssid_json}
use Rattle.desk_reply.specs.Reading.{keys_ascend, items_ascend}
use Rattle.desk_reply.specs.Records.{section_json, copy_json}
use Rattle.desk_reply.specs.Refused.{refusal_json}
use Rattle.desk_reply.specs.Replies.{reply_json}
use Rattle.desk_reply.specs.Values.{items_of}

-- what holds of each item holds of the list
of_each : {X : Type 0} (json : X → Json) → ((x : X) → keys_ascend (json x) ≡ true)
    → (list : List X) → items_ascend (items_of (map json list)) ≡ true
of_each json each [] = refl
of_each json each (x ∷ xs) =
    ap (λ (first : Bool). first && items_ascend (items_of (map json xs))) (each x) ∙ of_each json each xs

section_ascends : (section : Section) → keys_ascend (section_json section) ≡ true
section_ascends section = refl

copy_ascends : (copy : SetCopy) → keys_ascend (copy_json copy) ≡ true
copy_ascends copy = rw (of_each section_json section_ascends copy.sections)

answer_ascends : (answer : Answer) → keys_ascend (answer_json answer) ≡ true
answer_ascends (answers.Defined count) = refl
answer_ascends answers.Empty = refl
answer_ascends (answers.Labelled cart volid) = refl
answer_ascends (answers.Mounted drive volid) = refl
answer_ascends (answers.Slots lines) = rw (of_each slot_json (λ line. refl) lines)
answer_ascends (answers.Plan plan) = rw (of_each planned_json (λ planned. refl) plan)
answer_ascends (answers.Begun base level next pool saved ssid) = refl
answer_ascends (answers.Next next) = refl
answer_ascends (answers.Finished bytes files ssid) = refl
answer_ascends (answers.Purged ssids) = rw (of_each ssid_json (λ ssid. refl) ssids)
answer_ascends (answers.Shown shown) = rw (of_each copy_json copy_ascends shown.copies)

refusal_ascends : (refusal : Refusal) → keys_ascend (refusal_json refusal) ≡ true
refusal_ascends (refusals.Malformed field) = refl
refusal_ascends (refusals.NoSuch kind name) = refl
refusal_ascends (refusals.Exists kind name) = refl
refusal_ascends (refusals.InUse kind name) = refl
refusal_ascends (refusals.Skipped day) = refl
refusal_ascends (refusals.SetBusy ssid) = refl
refusal_ascends (refusals.NeedVolume pool) = refl
refusal_ascends (refusals.SessionsFull limit) = refl
refusal_ascends (refusals.NotOpen ssid) = refl
refusal_ascends (refusals.Gap expected) = refl
refusal_ascends (refusals.PieceTooLong limit) = refl
refusal_ascends (refusals.BadStream offset) = refl
refusal_ascends (refusals.NotEnded offset) = refl
refusal_ascends (refusals.WrongLength kept) = refl
refusal_ascends (refusals.WrongDigest kept) = refl
refusal_ascends (refusals.SlotEmpty slot) = refl
refusal_ascends (refusals.DriveBusy drive volid) = refl
refusal_ascends (refusals.Unlabelled cart) = refl
refusal_ascends (refusals.Strange volid) = refl
refusal_ascends (refusals.LabelPending volid found) = refl
refusal_ascends (refusals.Mounted drive) = refl
refusal_ascends (refusals.Needed ssid) = refl
refusal_ascends (refusals.Offsite volid) = refl
refusal_ascends (refusals.DamagedBlock volid block) = refl
refusal_ascends (refusals.Purged ssid) = refl
refusal_ascends (refusals.BaseGone ssid) = refl
refusal_ascends (refusals.HasCopy volid) = refl
refusal_ascends (refusals.NoFile path) = refl
refusal_ascends (refusals.TooMany limit) = refl
refusal_ascends (refusals.DeviceFault file closed) = rw (of_each ssid_json (λ ssid. refl) closed)
refusal_ascends refusals.JournalFault = refl
refusal_ascends refusals.NoMemory = refl

pub reply_ascends : (reply : Reply) → keys_ascend (reply_json reply) ≡ true
reply_ascends (Done answer) = answer_ascends answer
reply_ascends (Refused refusal) = refusal_ascends refusal
