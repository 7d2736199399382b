-- The members of an object as they are handed to its writer.
use Rattle.std.specs.Prelude.{ℕ, List}
use Rattle.hex.specs.Hex.{encode_lower}
use Rattle.json.specs.Json.{Json, string, boolean}
use Rattle.desk_reply.specs.declared.member.Member.{Member}
use Rattle.desk_reply.specs.declared.member.Value.{Value}
use Rattle.desk_reply.specs.declared.member.Value.TheVariants as values
use Rattle.desk_reply.specs.Answers.{ssid_json}
use Rattle.desk_reply.specs.Values.{whole, json_list}

abbrev pub value_json : Value → Json
value_json (values.Number count) = whole count
value_json (values.Text text) = string text.now
value_json (values.Flag flag) = boolean flag
value_json (values.Digest digest) = string (encode_lower digest.now)
value_json (values.Ssids ssids) = json_list ssid_json ssids.now

abbrev pub member_of : Member → List ℕ × Json
member_of member = (member.0.now, value_json member.1)
