-- What is known of a save set, as a value of JSON.
use Rattle.std.specs.Prelude.{ℕ, List, [], ◌∷◌, ◌++◌, codes}
use Rattle.hex.specs.Hex.{encode_lower}
use Rattle.json.specs.Json.{Json, string, boolean}
use Rattle.media_db.specs.declared.copies.Section.{Section}
use Rattle.media_db.specs.declared.copies.SetCopy.{SetCopy}
use Rattle.media_db.specs.declared.records.Record.{Record}
use Rattle.desk_reply.specs.Values.{whole, json_list, json_object}
use Rattle.desk_reply.specs.Words.{level_word, record_state_word, copy_state_word}

-- a section's six numbers
abbrev pub section_numbers : Section → List ℕ
section_numbers section =
    section.volid.0 ∷ section.mark ∷ section.first ∷ section.last ∷ section.from ∷ section.to ∷ []

abbrev pub section_json : Section → Json
section_json section = json_list whole (section_numbers section)

abbrev pub copy_json : SetCopy → Json
copy_json copy = json_object
    ((codes "no", whole copy.no.0)
    ∷ (codes "sections", json_list section_json copy.sections)
    ∷ (codes "state", string (copy_state_word copy.state))
    ∷ [])

-- the members of a record's object before `copies`
abbrev pub first_members : Record → List (List ℕ × Json)
first_members row =
    (codes "base", whole row.base.0)
    ∷ (codes "browse", whole row.browse.0)
    ∷ (codes "bytes", whole row.bytes)
    ∷ (codes "changed", whole row.changed)
    ∷ (codes "client", string row.client)
    ∷ []

-- those behind it
abbrev pub last_members : Record → List (List ℕ × Json)
last_members row =
    (codes "digest", string (encode_lower row.digest))
    ∷ (codes "files", whole row.files)
    ∷ (codes "group", string row.group)
    ∷ (codes "hold", boolean row.hold)
    ∷ (codes "level", string (level_word row.level))
    ∷ (codes "next_copy", whole row.next_copy)
    ∷ (codes "pool", string row.pool)
    ∷ (codes "purged", boolean row.purged)
    ∷ (codes "retain", whole row.retain.0)
    ∷ (codes "saved", whole row.saved.0)
    ∷ (codes "set", string row.set)
    ∷ (codes "ssid", whole row.ssid.0)
    ∷ (codes "state", string (record_state_word row.state))
    ∷ []

abbrev pub copies_member : Record → List ℕ × Json
copies_member row = (codes "copies", json_list copy_json row.copies)

abbrev pub record_json : Record → Json
record_json row = json_object (first_members row ++ (copies_member row ∷ last_members row))
