-- What a text of resources stands for.
use Rattle.std.specs.Prelude.{◌≡◌, ◌⊎◌, ℕ, ◌≤◌, List, [], ◌∷◌, ◌++◌, length, codes, map, pos}
use Rattle.std.specs.Prelude.{Option, Some, None, Result, Ok, Err, Vec}
use Rattle.std.specs.declared.alloc.Global.{Global}
use Rattle.std.specs.Str.{IsUtf8}
use Rattle.toml.specs.Data.{Data, string, integer, array, table, Items, Members, no_members, member, get_member}
use Rattle.toml.specs.Parse.{parse_document}
use Rattle.room_rules.specs.declared.group.Member.{Member}
use Rattle.room_rules.specs.declared.policy.Unit.{Unit as PolicyUnit}
use Rattle.room_rules.specs.declared.schedule.Override.{Override}
use Rattle.room_rules.specs.declared.schedule.Period.{Period}
use Rattle.catalog_change.specs.declared.resource.Resource.{Resource}
use Rattle.catalog_change.specs.declared.resource.Resource.TheVariants as resources
use Rattle.catalog_change.specs.declared.resource.ResourceKind.{ResourceKind}
use Rattle.catalog_change.specs.declared.resource.ResourceKind.TheVariants as kinds
use Rattle.catalog_change.specs.Resources.{IsSetName, IsShortName}
use Rattle.resource_text.specs.declared.fault.TextFault.{TextFault}
use Rattle.resource_text.specs.declared.fault.TextFault.TheVariants.{Malformed, Memory}
use Rattle.resource_text.specs.Days.{IsDayText}
use Rattle.resource_text.specs.Lists.{AreEntries, AreItems, AreTextsTo, MayHaveTexts}
use Rattle.resource_text.specs.Reading.{
  Ends,
  Field,
  HasKeys,
  HasText,
  IsItself,
  IsTable,
  KeysAscend,
  Outcome,
  other_key,
}
use Rattle.resource_text.specs.Words.{IsActionWord, IsLevelWord, period_word, unit_word}

-- ---- policies

-- a whole number from 1 to 9,999
abbrev pub HasCount : Members → ℕ → Type 0
HasCount members count = (get_member (codes "count") members ≡ Some (integer (pos count)))
    × (1 ≤ count) × (count ≤ 9999)

abbrev pub HasUnit : Members → PolicyUnit → Type 0
HasUnit members unit = get_member (codes "period") members ≡ Some (string (unit_word unit))

abbrev pub policy_gives : List ℕ → Members → Outcome Resource → Type 0
policy_gives name members =
    HasKeys (codes "count" ∷ codes "period" ∷ []) members
    (Field (codes "count") (HasCount members) (λ count.
    Field (codes "period") (HasUnit members) (λ unit.
    Ends (resources.Policy (record { name = name; count = count; unit = unit })))))

-- ---- pools

abbrev pub pool_gives : List ℕ → Members → Outcome Resource → Type 0
pool_gives name members =
    HasKeys (codes "groups" ∷ codes "clients" ∷ codes "sets" ∷ codes "levels" ∷ []) members
    (Field (codes "groups") (MayHaveTexts (codes "groups") 64 (IsItself IsShortName) members)
    (λ groups.
    Field (codes "clients") (MayHaveTexts (codes "clients") 64 (IsItself IsShortName) members)
    (λ clients.
    Field (codes "sets") (MayHaveTexts (codes "sets") 64 (IsItself IsSetName) members) (λ sets.
    Field (codes "levels") (MayHaveTexts (codes "levels") 64 IsLevelWord members) (λ levels.
    Ends (resources.Pool (record {
      name = name;
      groups = groups;
      clients = clients;
      sets = sets;
      levels = levels;
    })))))))

-- ---- clients

abbrev pub client_gives : List ℕ → Members → Outcome Resource → Type 0
client_gives name members =
    HasKeys (codes "browse" ∷ codes "retention" ∷ []) members
    (Field (codes "browse") (HasText (codes "browse") IsShortName members) (λ browse.
    Field (codes "retention") (HasText (codes "retention") IsShortName members) (λ retention.
    Ends (resources.Client (record {
      name = name;
      browse = browse;
      retention = retention;
    })))))

-- ---- schedules

abbrev pub HasPeriod : Members → Period → Type 0
HasPeriod members period = get_member (codes "period") members ≡ Some (string (period_word period))

-- at least one action, and at most 31
abbrev pub AreActions : Items → List ℕ → Type 0
AreActions items actions = AreTextsTo 31 IsActionWord items actions × (1 ≤ length actions)

abbrev pub HasActions : Members → List ℕ → Type 0
HasActions members actions =
    (items : Items) × (get_member (codes "actions") members ≡ Some (array items))
    × AreActions items actions

abbrev pub IsOverrideText : List ℕ → Data → Override → Type 0
IsOverrideText key value override = (word : List ℕ) × (value ≡ string word)
    × IsDayText key override.day × IsActionWord word override.action

-- a table has at most so many overrides, in their order
abbrev pub AreOverrides : Members → List Override → Type 0
AreOverrides days overrides = AreEntries IsOverrideText days overrides × (length overrides ≤ 64)
    × KeysAscend days

-- a schedule without overrides has none
abbrev pub HasOverrides : Members → List Override → Type 0
HasOverrides members overrides =
    ((days : Members) × (get_member (codes "overrides") members ≡ Some (table days))
    × AreOverrides days overrides)
    ⊎ ((get_member (codes "overrides") members ≡ None) × (overrides ≡ []))

abbrev pub schedule_gives : List ℕ → Members → Outcome Resource → Type 0
schedule_gives name members =
    HasKeys (codes "period" ∷ codes "actions" ∷ codes "overrides" ∷ []) members
    (Field (codes "period") (HasPeriod members) (λ period.
    Field (codes "actions") (HasActions members) (λ actions.
    Field (codes "overrides") (HasOverrides members) (λ overrides.
    Ends (resources.Schedule (record {
      name = name;
      period = period;
      actions = actions;
      overrides = overrides;
    }))))))

-- ---- groups

-- a member has a client and a set, and nothing else
pub record IsMemberTable (value : Data) (one : Member) : Type 0 where
  pub members : Members
  pub is_table : value ≡ table members
  pub client : HasText (codes "client") IsShortName members one.client
  pub set : HasText (codes "set") IsSetName members one.set
  pub no_other : other_key (codes "client" ∷ codes "set" ∷ []) members ≡ None

abbrev pub AreMembers : Items → List Member → Type 0
AreMembers items list = AreItems IsMemberTable items list × (length list ≤ 256)

abbrev pub HasMembers : Members → List Member → Type 0
HasMembers members list =
    (items : Items) × (get_member (codes "members") members ≡ Some (array items))
    × AreMembers items list

abbrev pub group_gives : List ℕ → Members → Outcome Resource → Type 0
group_gives name members =
    HasKeys (codes "schedule" ∷ codes "members" ∷ []) members
    (Field (codes "schedule") (HasText (codes "schedule") IsShortName members) (λ schedule.
    Field (codes "members") (HasMembers members) (λ list.
    Ends (resources.Group (record {
      name = name;
      schedule = schedule;
      members = list;
    })))))

-- ---- the text

-- the key of a kind of resources
abbrev pub kind_key : ResourceKind → List ℕ
kind_key kinds.Policy = codes "policies"
kind_key kinds.Pool = codes "pools"
kind_key kinds.Client = codes "clients"
kind_key kinds.Schedule = codes "schedules"
kind_key kinds.Group = codes "groups"

abbrev pub gives_of : ResourceKind → List ℕ → Members → Outcome Resource → Type 0
gives_of kinds.Policy = policy_gives
gives_of kinds.Pool = pool_gives
gives_of kinds.Client = client_gives
gives_of kinds.Schedule = schedule_gives
gives_of kinds.Group = group_gives

-- a resource of a kind: its name is judged first, then that it is a table, then what it has
abbrev pub resource_gives : ResourceKind → List ℕ → Data → Outcome Resource → Type 0
resource_gives kind name value =
    Field (codes "name") (IsItself IsShortName name) (λ itself.
    Field (kind_key kind) (IsTable value) (λ members. gives_of kind itself members))

-- the resources of a table of one kind, behind those that were read before
abbrev pub each_gives : ResourceKind → Members → List Resource → Outcome (List Resource) → Type 0
each_gives kind no_members done outcome = outcome ≡ Ok done
each_gives kind (member name value members) done outcome =
    ((one : Resource) × resource_gives kind name value (Ok one)
    × each_gives kind members (done ++ one ∷ []) outcome)
    ⊎ ((field : List ℕ) × resource_gives kind name value (Err field) × (outcome ≡ Err field))

-- the resources of one kind in a text, which may have none, behind those that were read before
abbrev pub kind_gives : ResourceKind → Option Data → List Resource → Outcome (List Resource)
    → Type 0
kind_gives kind None done outcome = outcome ≡ Ok done
kind_gives kind (Some value) done outcome =
    Field (kind_key kind) (IsTable value) (λ members. each_gives kind members done) outcome

-- a kind, and what follows it
abbrev pub Kind : ResourceKind → Members → List Resource
    → (List Resource → Outcome (List Resource) → Type 0) → Outcome (List Resource) → Type 0
Kind kind members done Then outcome =
    ((all : List Resource) × kind_gives kind (get_member (kind_key kind) members) done (Ok all)
    × Then all outcome)
    ⊎ ((field : List ℕ) × kind_gives kind (get_member (kind_key kind) members) done (Err field)
    × (outcome ≡ Err field))

-- the kinds in the order in which they are read
abbrev pub all_kinds : List ResourceKind
all_kinds = kinds.Policy ∷ kinds.Pool ∷ kinds.Client ∷ kinds.Schedule ∷ kinds.Group ∷ []

abbrev pub kinds_give : List ResourceKind → Members → List Resource → Outcome (List Resource)
    → Type 0
kinds_give [] all done outcome = outcome ≡ Ok done
kinds_give (kind ∷ others) all done outcome = Kind kind all done (kinds_give others all) outcome

abbrev pub document_gives : Members → Outcome (List Resource) → Type 0
document_gives all = HasKeys (map kind_key all_kinds) all (kinds_give all_kinds all [])

-- the table that bytes are the text of
abbrev pub IsDocument : List ℕ → Members → Type 0
IsDocument bytes members = IsUtf8 bytes × (parse_document bytes ≡ Some members)

-- What a text of resources gives: all of them, or the first field that isn't allowed.
abbrev pub text_gives : List ℕ → Outcome (List Resource) → Type 0
text_gives bytes = Field (codes "text") (IsDocument bytes) document_gives

-- ---- answers

-- what a call answers that adds what it reads to a list
abbrev pub Adds : (Outcome (List Resource) → Type 0) → List Resource → Result (Unit {0}) TextFault
    → Type 0
Adds Gives now (Ok _) = Gives (Ok now)
Adds Gives now (Err (Malformed field)) = Gives (Err field)
Adds Gives now (Err Memory) = Unit {0}

-- what a call answers that reads all
abbrev pub ReadsAll : (Outcome (List Resource) → Type 0) → Result (Vec Resource Global) TextFault
    → Type 0
ReadsAll Gives (Ok all) = Gives (Ok all.items)
ReadsAll Gives (Err (Malformed field)) = Gives (Err field)
ReadsAll Gives (Err Memory) = Unit {0}
