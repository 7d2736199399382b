-- The plan of a drop of a resource.
use Rattle.std.specs.Prelude.{ℕ, Bool, ◌||◌, if◌then◌else◌, List, [], ◌∷◌, codes}
use Rattle.std.specs.Prelude.{Option, Some, None, Result, Ok}
use Rattle.std.specs.List.{find, list_any}
use Rattle.std.specs.Option.{option_map, option_or}
use Rattle.room_base.specs.declared.numbers.Moment.{Moment}
use Rattle.room_base.specs.declared.refusal.Refusal.{Refusal}
use Rattle.media_db.specs.declared.records.Record.{Record}
use Rattle.media_db.specs.declared.volumes.VolumeRec.{VolumeRec}
use Rattle.room_rules.specs.declared.group.Group.{Group}
use Rattle.catalog_change.specs.declared.change.Change.TheVariants.{Dropped}
use Rattle.catalog_change.specs.declared.resource.Client.{Client}
use Rattle.catalog_change.specs.declared.resource.ResourceKind.{ResourceKind}
use Rattle.catalog_change.specs.declared.resource.ResourceKind.TheVariants as kinds
use Rattle.room_catalog.specs.Held.{CatalogueLists}
use Rattle.room_command.specs.declared.answer.Answer.TheVariants as answers
use Rattle.room_command.specs.declared.reply.Reply.TheVariants as replies
use Rattle.room_effects.specs.View.{RoomView}
use Rattle.room_effects.specs.Effects.{Enter}
use Rattle.room_effects.specs.Checked.{checked, unless}
use Rattle.room_effects.specs.Entering.{entering}
use Rattle.room_effects.specs.Plans.{Plan}
use Rattle.room_resources.specs.Called.{Called, called, has, in_use, is_same, no_such, numbered, refused_for}

-- ---- what needs a resource

-- the client of the room's own saves
abbrev pub room_itself : Called
room_itself = called kinds.Client (codes "room")

abbrev pub keeps_by : List ℕ → Client → Bool
keeps_by name client = is_same client.browse name || is_same client.retention name

abbrev pub has_member : List ℕ → Group → Bool
has_member name group = list_any (λ member. is_same member.client name) group.members

-- of the clients that a policy keeps the one of least name
abbrev pub policy_user : List ℕ → List Client → Option Called
policy_user name clients =
    option_map (λ client. called kinds.Client client.name) (find (keeps_by name) clients)

-- the room's client needs pool `Default`; of the volumes of another pool the one of least volid does
abbrev pub pool_user : List ℕ → List VolumeRec → Option Called
pool_user name volumes =
    if is_same name (codes "Default") then Some room_itself
    else option_map (λ volume. numbered (codes "volume") volume.volid.0)
    (find (λ volume. is_same volume.pool name) volumes)

-- of the groups of a schedule the one of least name
abbrev pub schedule_user : List ℕ → List Group → Option Called
schedule_user name groups =
    option_map (λ group. called kinds.Group group.name)
    (find (λ group. is_same group.schedule name) groups)

-- Client `room` needs itself. Of the groups that have another as a member the one of least name
-- does, and without one the record of least ssid.
abbrev pub client_user : List ℕ → List Group → List Record → Option Called
client_user name groups records =
    if is_same name (codes "room") then Some room_itself
    else option_or
    (option_map (λ group. called kinds.Group group.name) (find (has_member name) groups))
    (option_map (λ row. numbered (codes "set") row.ssid.0)
    (find (λ row. is_same row.client name) records))

-- what needs the resource of this kind and name
abbrev pub user_of : ResourceKind → List ℕ → CatalogueLists → Option Called
user_of kinds.Policy name lists = policy_user name lists.resources.clients
user_of kinds.Pool name lists = pool_user name lists.volumes
user_of kinds.Client name lists = client_user name lists.resources.groups lists.records
user_of kinds.Schedule name lists = schedule_user name lists.resources.groups
user_of kinds.Group name lists = None

-- ---- the plan

-- whether the resource may be dropped, or why not
abbrev pub may_drop : ResourceKind → List ℕ → CatalogueLists → Result (Unit {0}) Refusal
may_drop kind name lists =
    unless (has lists.resources kind name) (no_such (called kind name))
    (refused_for in_use (user_of kind name lists) (Ok tt))

abbrev pub drop_plan : Moment → ResourceKind → List ℕ → RoomView → Plan
drop_plan m kind name room =
    checked (may_drop kind name room.catalogue) (λ _.
    entering [] (Enter m (Dropped kind name) ∷ []) (replies.Done answers.Empty) room)
