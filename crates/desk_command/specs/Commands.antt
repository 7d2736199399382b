-- The command that a request asks for.
use Rattle.std.specs.Prelude.{◌≡◌, ◌⊎◌, ℕ, if◌then◌else◌, List, [], codes, Result, Ok, Err}
use Rattle.room_base.specs.declared.numbers.Cart.{Cart}
use Rattle.room_base.specs.declared.numbers.Ssid.{Ssid}
use Rattle.room_base.specs.declared.refusal.Refusal.{Refusal}
use Rattle.room_base.specs.declared.refusal.Refusal.TheVariants.{NoMemory, NoSuch}
use Rattle.room_command.specs.declared.command.Command.{Command}
use Rattle.room_command.specs.declared.command.Command.TheVariants as commands
use Rattle.catalog_change.specs.declared.resource.ResourceKind.{ResourceKind}
use Rattle.serde_json.specs.Find.{as_bool}
use Rattle.desk_request.specs.Requests.{RequestText}
use Rattle.desk_command.specs.Fields.{action_in, digest_in, field, is_name_to, most_u8, most_u64}
use Rattle.desk_command.specs.Fields.{most_u32, name_part, name_to, number_part, number_to}
use Rattle.desk_command.specs.Fields.{object_in, optional}
use Rattle.desk_command.specs.Outcomes.{Outcome, after}
use Rattle.desk_command.specs.Routes.{HasRoute, Route, Define, Drop, Load, Eject, Label, Mount}
use Rattle.desk_command.specs.Routes.{Unmount, Inventory, Savegrp, Begin, Append, Finish, Abort}
use Rattle.desk_command.specs.Routes.{Amend, Delete, Nsrim, Show}

abbrev pub ssid_part : List ℕ → Outcome Ssid
ssid_part part = after (number_part (codes "ssid") most_u64 part) (λ ssid. Ok (record { 0 = ssid }))

abbrev pub drop_of : ResourceKind → List ℕ → Outcome Command
drop_of kind name = after (name_part (codes "name") name) (λ name. Ok (commands.Drop kind name))

abbrev pub load_of : List ℕ → List ℕ → Outcome Command
load_of slot body =
    after (number_part (codes "slot") most_u8 slot) (λ slot.
    after (object_in body) (λ object.
    after (field (codes "cart") (number_to most_u32) object) (λ cart.
    Ok (commands.Load slot (record { 0 = cart })))))

abbrev pub eject_of : List ℕ → Outcome Command
eject_of slot =
    after (number_part (codes "slot") most_u8 slot) (λ slot. Ok (commands.Eject slot))

abbrev pub label_of : List ℕ → Outcome Command
label_of body =
    after (object_in body) (λ object.
    after (field (codes "slot") (number_to most_u8) object) (λ slot.
    after (field (codes "pool") (name_to 64) object) (λ pool.
    after (field (codes "capacity") (number_to most_u32) object) (λ capacity.
    after (optional (codes "block") (number_to most_u32) object) (λ block.
    Ok (commands.Label slot pool capacity block))))))

abbrev pub mount_of : List ℕ → Outcome Command
mount_of body =
    after (object_in body) (λ object.
    after (field (codes "slot") (number_to most_u8) object) (λ slot.
    after (field (codes "drive") (number_to most_u8) object) (λ drive.
    Ok (commands.Mount slot drive))))

abbrev pub unmount_of : List ℕ → Outcome Command
unmount_of body =
    after (object_in body) (λ object.
    after (field (codes "drive") (number_to most_u8) object) (λ drive.
    Ok (commands.Unmount drive)))

abbrev pub savegrp_of : List ℕ → Outcome Command
savegrp_of group =
    after (name_part (codes "group") group) (λ group. Ok (commands.Savegrp group))

abbrev pub begin_of : List ℕ → Outcome Command
begin_of body =
    after (object_in body) (λ object.
    after (field (codes "client") (name_to 64) object) (λ client.
    after (field (codes "set") (name_to 255) object) (λ set.
    after (optional (codes "group") (name_to 64) object) (λ group.
    after (optional (codes "level") action_in object) (λ level.
    Ok (commands.Begin client set group level))))))

abbrev pub append_place : List ℕ → List ℕ → Outcome (Ssid × ℕ)
append_place ssid offset =
    after (ssid_part ssid) (λ ssid.
    after (number_part (codes "offset") most_u64 offset) (λ offset.
    Ok (ssid, offset)))

-- the body is the piece
abbrev pub append_of : List ℕ → List ℕ → List ℕ → Outcome Command
append_of ssid offset body =
    after (append_place ssid offset) (λ place. Ok (commands.Append place.0 place.1 body))

abbrev pub finish_of : List ℕ → List ℕ → Outcome Command
finish_of ssid body =
    after (ssid_part ssid) (λ ssid.
    after (object_in body) (λ object.
    after (field (codes "length") (number_to most_u64) object) (λ length.
    after (field (codes "sha256") digest_in object) (λ sha256.
    Ok (commands.Finish ssid length sha256)))))

abbrev pub amend_of : List ℕ → List ℕ → Outcome Command
amend_of ssid body =
    after (ssid_part ssid) (λ ssid.
    after (object_in body) (λ object.
    after (optional (codes "browse") (number_to most_u64) object) (λ browse.
    after (optional (codes "retain") (number_to most_u64) object) (λ retain.
    after (optional (codes "hold") as_bool object) (λ hold.
    Ok (commands.Amend ssid browse retain hold))))))

-- a command of a save set that has no fields
abbrev pub of_set : (Ssid → Command) → List ℕ → Outcome Command
of_set command ssid = after (ssid_part ssid) (λ ssid. Ok (command ssid))

-- the command of a line of the table, with the body of the request
abbrev pub command_by : Route → List ℕ → Outcome Command
command_by Define body = Ok (commands.Define body)
command_by (Drop kind name) body = drop_of kind name
command_by (Load slot) body = load_of slot body
command_by (Eject slot) body = eject_of slot
command_by Label body = label_of body
command_by Mount body = mount_of body
command_by Unmount body = unmount_of body
command_by Inventory body = Ok commands.Inventory
command_by (Savegrp group) body = savegrp_of group
command_by Begin body = begin_of body
command_by (Append ssid offset) body = append_of ssid offset body
command_by (Finish ssid) body = finish_of ssid body
command_by (Abort ssid) body = of_set commands.Abort ssid
command_by (Amend ssid) body = amend_of ssid body
command_by (Delete ssid) body = of_set commands.Delete ssid
command_by Nsrim body = Ok commands.Nsrim
command_by (Show ssid) body = of_set commands.Show ssid

-- how a target is named that no route has
abbrev pub name_of_target : List ℕ → List ℕ
name_of_target target = if is_name_to 8192 target then target else []

abbrev pub no_route : List ℕ → Refusal
no_route target = NoSuch (codes "route") (name_of_target target)

-- What a request comes to: the command of the route that it has, or the refusal that this gives in
-- its place; without a route the refusal that names the target.
abbrev pub CommandOf : RequestText → Outcome Command → Type 0
CommandOf request outcome =
    ((route : Route) × HasRoute request.method request.target route
    × (outcome ≡ command_by route request.body))
    ⊎ (((route : Route) → ¬ (HasRoute request.method request.target route))
    × (outcome ≡ Err (no_route request.target)))

-- what a call answers to a request; it may always lack memory
abbrev pub AnswersRequest : RequestText → Outcome Command → Type 0
AnswersRequest request result = CommandOf request result ⊎ (result ≡ Err NoMemory)
