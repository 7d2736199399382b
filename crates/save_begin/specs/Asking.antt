-- What is looked up for a save, and what is checked before one begins.
use Rattle.std.specs.Prelude.{◌≡◌, ◌≢◌, ◌⊎◌, ℕ, ◌/◌, ◌==◌, ◌&&◌, not, nat_lt, nat_eq, Bool, List, ◌++◌}
use Rattle.std.specs.Prelude.{false, codes, length, Option, Some, None, Result, Ok, Err, MatchBool, IfSome}
use Rattle.std.specs.List.{find, list_any}
use Rattle.std.specs.Option.{is_some, option_map}
use Rattle.std.specs.Cmp.Lexicographic.{pointwise}
use Rattle.room_base.specs.declared.numbers.Moment.{Moment}
use Rattle.room_base.specs.declared.numbers.Ssid.{Ssid}
use Rattle.room_base.specs.declared.refusal.Refusal.{Refusal}
use Rattle.room_base.specs.declared.refusal.Refusal.TheVariants.{
  Malformed,
  NoMemory,
  NoSuch,
  SessionsFull,
  SetBusy,
  Skipped,
  TooMany,
}
use Rattle.room_rules.specs.declared.group.Group.{Group}
use Rattle.room_rules.specs.declared.policy.Policy.{Policy}
use Rattle.room_rules.specs.declared.schedule.Schedule.{Schedule}
use Rattle.room_rules.specs.Times.{day_seconds}
use Rattle.save_stream.specs.declared.head.SetHead.{SetHead}
use Rattle.sched_levels.specs.Actions.{action_on}
use Rattle.sched_levels.specs.Plans.{skip}
use Rattle.catalog_change.specs.declared.resource.Client.{Client}
use Rattle.catalog_change.specs.Resources.{
  IsSetName,
  IsShortName,
  client_name,
  group_name,
  policy_name,
  schedule_name,
}
use Rattle.resource_lists.specs.Kinds.{find_named}
use Rattle.save_session.specs.Sessions.{SessionView, find_session}
use Rattle.room_effects.specs.View.{RoomView}
use Rattle.room_effects.specs.Faults.{ssids_of}
use Rattle.room_effects.specs.Checked.{behind_check, unless}
use Rattle.save_begin.specs.declared.asked.Asked.{Asked}
use Rattle.save_begin.specs.declared.asked.Allowed.{Allowed}

-- ---- what is on record

abbrev pub client_of : List ℕ → RoomView → Option Client
client_of name room = find_named client_name name room.catalogue.resources.clients

abbrev pub policy_of : List ℕ → RoomView → Option Policy
policy_of name room = find_named policy_name name room.catalogue.resources.policies

abbrev pub group_of : List ℕ → RoomView → Option Group
group_of name room = find_named group_name name room.catalogue.resources.groups

abbrev pub schedule_of : List ℕ → RoomView → Option Schedule
schedule_of name room = find_named schedule_name name room.catalogue.resources.schedules

-- the day of a moment, counted from 1970-01-01
abbrev pub day_of : Moment → ℕ
day_of m = m.0 / day_seconds

-- the action of a schedule on the day; a group's schedule is on record
abbrev pub scheduled : Option Schedule → Moment → ℕ
scheduled None m = skip
scheduled (Some schedule) m = action_on schedule (day_of m)

abbrev pub group_action : Moment → RoomView → Group → ℕ
group_action m room group = scheduled (schedule_of group.schedule room) m

-- the action of the group of this name, if one is given
abbrev pub action_by : Option Group → Moment → RoomView → ℕ
action_by None m room = skip
action_by (Some group) m room = group_action m room group

abbrev pub group_given : Option (List ℕ) → RoomView → Option Group
group_given None room = None
group_given (Some name) room = group_of name room

-- ---- answers of checks

-- A call answers what checks come to. Where they refuse, it may answer that there is no memory for
-- the names of the refusal.
abbrev pub AnswersFor : {X : Type 0} → Result X Refusal → Result X Refusal → Type 0
AnswersFor expected (Ok value) = expected ≡ Ok value
AnswersFor expected (Err made) =
    (wanted : Refusal) × (expected ≡ Err wanted) × ((made ≡ wanted) ⊎ (made ≡ NoMemory))

-- ---- the fields

-- a short name, but not that of the room's own saves
abbrev pub IsClientAsked : List ℕ → Type 0
IsClientAsked client = IsShortName client × (client ≢ codes "room")

abbrev pub IsGroupAsked : Option (List ℕ) → Type 0
IsGroupAsked group = IfSome group IsShortName

-- the test tells whether the fact holds
abbrev pub Tells : Bool → Type 0 → Type 0
Tells test Fact = MatchBool test Fact (¬ Fact)

-- which of the names are allowed
pub record AreAllowed (allowed : Allowed) (asked : Asked) : Type 0 where
  pub client : Tells allowed.client (IsClientAsked asked.client)
  pub set : Tells allowed.set (IsSetName asked.set)
  pub group : Tells allowed.group (IsGroupAsked asked.group)

-- a level that saves is given, or a group whose schedule says it
abbrev pub is_level : Option ℕ → Option (List ℕ) → Bool
is_level None group = is_some group
is_level (Some level) group = not (level == skip)

abbrev pub field_checks : Allowed → Asked → Result (Unit {0}) Refusal
field_checks allowed asked = unless allowed.client (Malformed (codes "client"))
    (unless allowed.set (Malformed (codes "set"))
    (unless allowed.group (Malformed (codes "group"))
    (unless (is_level asked.level asked.group) (Malformed (codes "level")) (Ok tt))))

-- ---- what has to be there

abbrev pub same_name : List ℕ → List ℕ → Bool
same_name = pointwise nat_eq

abbrev pub is_asked : Asked → List ℕ → List ℕ → Bool
is_asked asked client set = same_name client asked.client && same_name set asked.set

abbrev pub has_member : Asked → Group → Bool
has_member asked group = list_any (λ member. is_asked asked member.client member.set) group.members

-- a member is named by its client, a colon, and its set
abbrev pub member_name : Asked → List ℕ
member_name asked = asked.client ++ (codes ":" ++ asked.set)

abbrev pub in_group : Asked → Group → Result (Unit {0}) Refusal
in_group asked group =
    unless (has_member asked group) (NoSuch (codes "member") (member_name asked)) (Ok tt)

abbrev pub member_check : Asked → List ℕ → Option Group → Result (Unit {0}) Refusal
member_check asked name None = Err (NoSuch (codes "group") name)
member_check asked name (Some group) = in_group asked group

-- a group that is given is there, and has the client's set
abbrev pub group_check : Asked → Option (List ℕ) → RoomView → Result (Unit {0}) Refusal
group_check asked None room = Ok tt
group_check asked (Some name) room = member_check asked name (group_of name room)

abbrev pub there_checks : Asked → RoomView → Result (Unit {0}) Refusal
there_checks asked room =
    unless (is_some (client_of asked.client room)) (NoSuch (codes "client") asked.client)
    (group_check asked asked.group room)

-- ---- the level

-- the level that is wanted: the one that is given, or else that of the group's day, unless this is
-- skipped
abbrev pub wanted_level : Option ℕ → ℕ → ℕ → Result ℕ Refusal
wanted_level None action day = unless (not (action == skip)) (Skipped day) (Ok action)
wanted_level (Some level) action day = Ok level

abbrev pub level_check : Moment → Asked → RoomView → Result ℕ Refusal
level_check m asked room =
    wanted_level asked.level (action_by (group_given asked.group room) m room) (day_of m)

-- ---- room for the save

-- a head, if there is one, is of this set
abbrev pub saves_head : Asked → Option SetHead → Bool
saves_head asked None = false
saves_head asked (Some head) = is_asked asked head.client head.set

-- the session saves this set
abbrev pub saves : Asked → Option SessionView → Bool
saves asked session = saves_head asked (option_map (λ session. session.head) session)

-- the first of these sessions that saves this set
abbrev pub busy_with : Asked → List SessionView → Option Ssid
busy_with asked sessions =
    find (λ (ssid : Ssid). saves asked (find_session ssid.0 sessions)) (ssids_of sessions)

abbrev pub none_busy : Option Ssid → Result (Unit {0}) Refusal
none_busy None = Ok tt
none_busy (Some ssid) = Err (SetBusy ssid)

-- the most open sessions, and the most records
abbrev pub max_sessions : ℕ
max_sessions = 64

abbrev pub max_records : ℕ
max_records = 65536

-- one more session and one more record are no more than that
abbrev pub count_checks : RoomView → Result (Unit {0}) Refusal
count_checks room =
    unless (nat_lt (length room.sessions) max_sessions) (SessionsFull max_sessions)
    (unless (nat_lt (length room.catalogue.records) max_records) (TooMany max_records) (Ok tt))

abbrev pub free_checks : Asked → RoomView → Result (Unit {0}) Refusal
free_checks asked room =
    behind_check (none_busy (busy_with asked room.sessions)) (λ done. count_checks room)

-- ---- all of it

abbrev pub level_checks : Moment → Asked → RoomView → Result ℕ Refusal
level_checks m asked room = behind_check (level_check m asked room)
    (λ level. behind_check (free_checks asked room) (λ free. Ok level))

abbrev pub named_checks : Moment → Asked → RoomView → Result ℕ Refusal
named_checks m asked room =
    behind_check (there_checks asked room) (λ done. level_checks m asked room)

-- what is checked before a save begins comes to the level that is wanted
abbrev pub begin_checks : Allowed → Moment → Asked → RoomView → Result ℕ Refusal
begin_checks allowed m asked room =
    behind_check (field_checks allowed asked) (λ done. named_checks m asked room)
