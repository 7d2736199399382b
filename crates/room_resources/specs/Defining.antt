-- The plan of a definition of resources.
use Rattle.std.specs.Prelude.{◌≡◌, ◌⊎◌, ℕ, ◌+◌, Bool, not, ◌&&◌, ◌||◌, nat_le, if◌then◌else◌, is_some}
use Rattle.std.specs.Prelude.{List, [], ◌∷◌, length, Option, Some, None, Result, Ok, Err}
use Rattle.std.specs.List.{find, list_any}
use Rattle.std.specs.Option.{option_and_then, option_map, option_or}
use Rattle.room_base.specs.declared.numbers.Moment.{Moment}
use Rattle.room_base.specs.declared.refusal.Refusal.{Refusal}
use Rattle.room_base.specs.declared.refusal.Refusal.TheVariants.{Malformed, NoMemory, TooMany}
use Rattle.room_rules.specs.declared.group.Member.{Member}
use Rattle.catalog_change.specs.declared.change.Change.TheVariants.{Defined}
use Rattle.catalog_change.specs.declared.resource.Resource.{Resource}
use Rattle.catalog_change.specs.declared.resource.Resource.TheVariants as resources
use Rattle.catalog_change.specs.declared.resource.ResourceKind.{ResourceKind}
use Rattle.catalog_change.specs.declared.resource.ResourceKind.TheVariants as kinds
use Rattle.catalog_change.specs.Resources.{kind_of, name_of}
use Rattle.resource_lists.specs.Adding.{max_of_kind}
use Rattle.resource_lists.specs.Counts.{counted, counts_of}
use Rattle.resource_lists.specs.Kinds.{is_kind}
use Rattle.resource_lists.specs.Lists.{ResourceLists}
use Rattle.resource_lists.specs.declared.counts.KindCounts.{KindCounts}
use Rattle.resource_text.specs.Reading.{Outcome}
use Rattle.resource_text.specs.Resources.{text_gives}
use Rattle.resource_text.specs.declared.fault.TextFault.{TextFault}
use Rattle.resource_text.specs.declared.fault.TextFault.TheVariants as faults
use Rattle.room_command.specs.declared.answer.Answer.TheVariants as answers
use Rattle.room_command.specs.declared.reply.Reply.TheVariants as replies
use Rattle.room_effects.specs.View.{RoomView}
use Rattle.room_effects.specs.Effects.{Enter}
use Rattle.room_effects.specs.Checked.{checked, unless}
use Rattle.room_effects.specs.Entering.{entering}
use Rattle.room_effects.specs.Plans.{Plan, Refuse}
use Rattle.room_resources.specs.Called.{Called, called, exists, has, is_same, no_such, refused_for}

-- ---- what new resources need

-- a resource has this kind and name
abbrev pub goes_by : ResourceKind → List ℕ → Resource → Bool
goes_by kind name resource = is_kind (kind_of resource) kind && is_same (name_of resource) name

-- the resource of this kind and name is there, or among the new ones
abbrev pub is_there : ResourceLists → List Resource → ResourceKind → List ℕ → Bool
is_there lists new kind name = has lists kind name || list_any (goes_by kind name) new

abbrev pub missing : ResourceLists → List Resource → ResourceKind → List ℕ → Option Called
missing lists new kind name =
    if is_there lists new kind name then None else Some (called kind name)

-- the client of the first member whose client isn't there
abbrev pub missing_client : ResourceLists → List Resource → List Member → Option Called
missing_client lists new members =
    option_map (λ member. called kinds.Client member.client)
    (find (λ member. not (is_there lists new kinds.Client member.client)) members)

-- the first thing that a resource needs and that isn't there
abbrev pub missing_of : ResourceLists → List Resource → Resource → Option Called
missing_of lists new (resources.Client client) =
    option_or (missing lists new kinds.Policy client.browse)
    (missing lists new kinds.Policy client.retention)
missing_of lists new (resources.Group group) =
    option_or (missing lists new kinds.Schedule group.schedule)
    (missing_client lists new group.members)
missing_of lists new (resources.Policy policy) = None
missing_of lists new (resources.Pool pool) = None
missing_of lists new (resources.Schedule schedule) = None

-- the first thing that isn't there of all that new resources need, in their order
abbrev pub first_missing : ResourceLists → List Resource → Option Called
first_missing lists new =
    option_and_then (missing_of lists new) (find (λ one. is_some (missing_of lists new one)) new)

-- ---- checks

-- the first of new resources that is there already
abbrev pub first_there : ResourceLists → List Resource → Option Called
first_there lists new =
    option_map (λ one. called (kind_of one) (name_of one))
    (find (λ one. has lists (kind_of one) (name_of one)) new)

-- two counts are together at most as many as there may be of a kind
abbrev pub have_room : KindCounts → KindCounts → Bool
have_room now new =
    nat_le (now.policies + new.policies) max_of_kind
    && nat_le (now.pools + new.pools) max_of_kind
    && nat_le (now.clients + new.clients) max_of_kind
    && nat_le (now.schedules + new.schedules) max_of_kind
    && nat_le (now.groups + new.groups) max_of_kind

-- whether new resources may be defined, or why not
abbrev pub may_define : ResourceLists → List Resource → Result (Unit {0}) Refusal
may_define lists new =
    unless (have_room (counts_of lists) (counted new)) (TooMany max_of_kind)
    (refused_for exists (first_there lists new)
    (refused_for no_such (first_missing lists new) (Ok tt)))

-- ---- the plan

-- what is said of a text that isn't taken
abbrev pub fault_refusal : TextFault → Refusal
fault_refusal (faults.Malformed field) = Malformed field
fault_refusal faults.Memory = NoMemory

-- with what the text of a definition gives
abbrev pub define_plan : Moment → Outcome (List Resource) → RoomView → Plan
define_plan m (Err field) room = Refuse (Malformed field)
define_plan m (Ok new) room =
    checked (may_define room.catalogue.resources new) (λ _.
    entering [] (Enter m (Defined new) ∷ []) (replies.Done (answers.Defined (length new))) room)

-- what the text gives is planned, or there is no memory to read it
abbrev pub IsDefinePlan : Moment → List ℕ → RoomView → Plan → Type 0
IsDefinePlan m text room plan =
    ((outcome : Outcome (List Resource)) × text_gives text outcome
    × (plan ≡ define_plan m outcome room))
    ⊎ (plan ≡ Refuse NoMemory)
