-- Answers as values of JSON. The keys of each object stand in the order of their bytes.
use Rattle.std.specs.Prelude.{[], ◌∷◌, codes}
use Rattle.json.specs.Json.{Json, string}
use Rattle.room_base.specs.declared.numbers.Ssid.{Ssid}
use Rattle.room_command.specs.declared.answer.Answer.{Answer}
use Rattle.room_command.specs.declared.answer.Answer.TheVariants as answers
use Rattle.room_command.specs.declared.answer.SlotLine.{SlotLine}
use Rattle.room_rules.specs.declared.group.Planned.{Planned}
use Rattle.desk_reply.specs.Records.{record_json}
use Rattle.desk_reply.specs.Values.{whole, json_list, json_object}
use Rattle.desk_reply.specs.Words.{level_word, action_word}

abbrev pub ssid_json : Ssid → Json
ssid_json ssid = whole ssid.0

abbrev pub slot_json : SlotLine → Json
slot_json line = json_object
    ((codes "cart", whole line.cart.0)
    ∷ (codes "drive", whole line.drive)
    ∷ (codes "slot", whole line.slot)
    ∷ (codes "volid", whole line.volid.0)
    ∷ [])

abbrev pub planned_json : Planned → Json
planned_json planned = json_object
    ((codes "action", string (action_word planned.action))
    ∷ (codes "base", whole planned.base.0)
    ∷ (codes "client", string planned.client)
    ∷ (codes "set", string planned.set)
    ∷ [])

abbrev pub answer_json : Answer → Json
answer_json (answers.Defined count) = json_object ((codes "defined", whole count) ∷ [])
answer_json answers.Empty = json_object []
answer_json (answers.Labelled cart volid) =
    json_object ((codes "cart", whole cart.0) ∷ (codes "volid", whole volid.0) ∷ [])
answer_json (answers.Mounted drive volid) =
    json_object ((codes "drive", whole drive) ∷ (codes "volid", whole volid.0) ∷ [])
answer_json (answers.Slots lines) = json_object ((codes "slots", json_list slot_json lines) ∷ [])
answer_json (answers.Plan plan) = json_object ((codes "plan", json_list planned_json plan) ∷ [])
answer_json (answers.Begun base level next pool saved ssid) = json_object
    ((codes "base", whole base.0)
    ∷ (codes "level", string (level_word level))
    ∷ (codes "next", whole next)
    ∷ (codes "pool", string pool)
    ∷ (codes "saved", whole saved.0)
    ∷ (codes "ssid", whole ssid.0)
    ∷ [])
answer_json (answers.Next next) = json_object ((codes "next", whole next) ∷ [])
answer_json (answers.Finished bytes files ssid) = json_object
    ((codes "bytes", whole bytes)
    ∷ (codes "files", whole files)
    ∷ (codes "ssid", whole ssid.0)
    ∷ [])
answer_json (answers.Purged ssids) = json_object ((codes "purged", json_list ssid_json ssids) ∷ [])
answer_json (answers.Shown shown) = record_json shown
