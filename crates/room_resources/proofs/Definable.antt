-- New resources that may be defined can be added.
use Rattle.std.proofs.Common.{◌≡◌, Bool, true, false, ℕ, ◌+◌, ◌≤◌, List, [], ◌∷◌, length, Option, Some, None, refl, sym, ◌∙◌, inl, inr, arith}
use Rattle.std.specs.Prelude.{Result, Ok, Err, IsTrue, nat_le, not, is_some, ◌↔◌, if◌then◌else◌}
use Rattle.std.specs.List.{AllByRecursion, find}
use Rattle.std.specs.Option.{option_and_then}
use Rattle.std.proofs.lemmas.Bool.{and_parts}
use Rattle.std.proofs.lemmas.Bool.Decides.{nat_tests}
use Rattle.room_base.proofs.OrderedLaws.{each_weaker}
use Rattle.room_base.specs.declared.refusal.Refusal.{Refusal}
use Rattle.room_base.specs.declared.refusal.Refusal.TheVariants.{Malformed, NoMemory, TooMany}
use Rattle.room_base.specs.declared.numbers.Moment.{Moment}
use Rattle.room_disk.specs.Disk.{DiskView}
use Rattle.resource_text.specs.Resources.{ReadsAll, text_gives}
use Rattle.resource_text.specs.declared.fault.TextFault.{TextFault}
use Rattle.resource_text.specs.declared.fault.TextFault.TheVariants as faults
use Rattle.room_command.specs.declared.reply.Reply.TheVariants.{Refused}
use Rattle.room_effects.specs.View.{RoomView}
use Rattle.room_effects.specs.Plans.{Plan, Refuse, Follows}
use Rattle.room_effects.proofs.Following.{follows_refusal}
use Rattle.room_rules.specs.declared.group.Member.{Member}
use Rattle.catalog_change.specs.declared.resource.Resource.{Resource}
use Rattle.catalog_change.specs.declared.resource.Resource.TheVariants as resources
use Rattle.catalog_change.specs.declared.resource.ResourceKind.{ResourceKind}
use Rattle.catalog_change.specs.declared.resource.ResourceKind.TheVariants as kinds
use Rattle.catalog_change.specs.Changes.{IsCount}
use Rattle.catalog_change.specs.Resources.{kind_of, name_of}
use Rattle.resource_lists.specs.Adding.{AreAddable, AreDistinct, HasResource, IsThere, Refers, StayWithin, max_of_kind}
use Rattle.resource_lists.specs.Counts.{counted, counts_of}
use Rattle.resource_lists.specs.Lists.{ResourceLists}
use Rattle.room_resources.specs.Called.{Called, called, exists, has, no_such, refused_for}
use Rattle.room_resources.specs.Defining.{IsDefinePlan, fault_refusal, first_missing, first_there, have_room, is_there, may_define, missing, missing_client, missing_of}
use Rattle.room_resources.proofs.Lists.{first_none, found_passes, none_mapped, none_passes, not_some, not_true, refused_next, refused_none, second_none, some_not_none, unless_holds, unless_next}
use Rattle.room_resources.proofs.Naming.{are_there, is_not_had}

-- ---- counts

no_more : (one most : ℕ) → nat_le one most ≡ true → one ≤ most
no_more one most is = grind (arith, nat_tests)

at_most : (one most : ℕ) → one ≤ most → nat_le one most ≡ true
at_most one most is = grind (arith, nat_tests)

pub stay_within : (lists : ResourceLists) (new : List Resource) → have_room (counts_of lists) (counted new) ≡ true → StayWithin lists new
stay_within lists new is =
    let now = counts_of lists in
    let more = counted new in
    let (four, groups) = and_parts _ (nat_le (now.groups + more.groups) max_of_kind) is in
    let (three, schedules) = and_parts _ (nat_le (now.schedules + more.schedules) max_of_kind) four in
    let (two, clients) = and_parts _ (nat_le (now.clients + more.clients) max_of_kind) three in
    let (policies, pools) = and_parts (nat_le (now.policies + more.policies) max_of_kind) (nat_le (now.pools + more.pools) max_of_kind) two in
    record {
      policies = no_more _ _ policies;
      pools = no_more _ _ pools;
      clients = no_more _ _ clients;
      schedules = no_more _ _ schedules;
      groups = no_more _ _ groups;
    }

pub has_room : (lists : ResourceLists) (new : List Resource) → StayWithin lists new → have_room (counts_of lists) (counted new) ≡ true
has_room lists new within = rw (at_most _ _ within.policies, at_most _ _ within.pools, at_most _ _ within.clients, at_most _ _ within.schedules, at_most _ _ within.groups) refl

-- what the catalogue says of the room for them
pub room_is : (lists : ResourceLists) (new : List Resource) (answer : Bool) → (IsTrue answer ↔ StayWithin lists new) → answer ≡ have_room (counts_of lists) (counted new)
room_is lists new answer says = by answer says (have_room (counts_of lists) (counted new)) refl
  where
    by : (one : Bool) → (IsTrue one ↔ StayWithin lists new) → (other : Bool) → have_room (counts_of lists) (counted new) ≡ other → one ≡ other
    by true says true is = refl
    by false says false is = refl
    by true says false is = sym (has_room lists new (says.0 refl)) ∙ is
    by false says true is = says.1 (stay_within lists new is)

-- all of them are of some kind
counted_all : (new : List Resource) → length new ≡ (counted new).policies + (counted new).pools + (counted new).clients + (counted new).schedules + (counted new).groups
counted_all [] = refl
counted_all (resources.Policy one ∷ new) = let rest = counted_all new in omega arith
counted_all (resources.Pool one ∷ new) = let rest = counted_all new in omega arith
counted_all (resources.Client one ∷ new) = let rest = counted_all new in omega arith
counted_all (resources.Schedule one ∷ new) = let rest = counted_all new in omega arith
counted_all (resources.Group one ∷ new) = let rest = counted_all new in omega arith

-- ---- what is there

there_if : (test : Bool) (one : Called) → (if test then None else Some one) ≡ None → test ≡ true
there_if true one is = refl
there_if false one is = absurd (let no : ◌≡◌ {A = Option Called} (Some one) None = is in cc)

not_missing : (lists : ResourceLists) (new : List Resource) (kind : ResourceKind) (name : List ℕ) → missing lists new kind name ≡ None → IsThere lists new kind name
not_missing lists new kind name is = are_there lists new kind name (there_if (is_there lists new kind name) (called kind name) is)

clients_there : (lists : ResourceLists) (new : List Resource) (members : List Member) → missing_client lists new members ≡ None → AllByRecursion (λ member. IsThere lists new kinds.Client member.client) members
clients_there lists new members is =
    let test = λ (member : Member). not (is_there lists new kinds.Client member.client) in
    each_weaker (λ member. test member ≡ false) (λ member. IsThere lists new kinds.Client member.client)
    (λ member no. are_there lists new kinds.Client member.client (not_true (is_there lists new kinds.Client member.client) no)) members
    (none_passes test members (none_mapped (λ (member : Member). called kinds.Client member.client) (find test members) is))

refers : (lists : ResourceLists) (new : List Resource) (one : Resource) → missing_of lists new one ≡ None → Refers lists new one
refers lists new (resources.Client client) is = (
  not_missing lists new kinds.Policy client.browse (first_none (missing lists new kinds.Policy client.browse) (missing lists new kinds.Policy client.retention) is),
  not_missing lists new kinds.Policy client.retention (second_none (missing lists new kinds.Policy client.browse) (missing lists new kinds.Policy client.retention) is),
)
refers lists new (resources.Group group) is = (
  not_missing lists new kinds.Schedule group.schedule (first_none (missing lists new kinds.Schedule group.schedule) (missing_client lists new group.members) is),
  clients_there lists new group.members (second_none (missing lists new kinds.Schedule group.schedule) (missing_client lists new group.members) is),
)
refers lists new (resources.Policy policy) is = tt
refers lists new (resources.Pool pool) is = tt
refers lists new (resources.Schedule schedule) is = tt

all_refer : (lists : ResourceLists) (new : List Resource) → first_missing lists new ≡ None → AllByRecursion (Refers lists new) new
all_refer lists new is = by (find (λ one. is_some (missing_of lists new one)) new) refl is
  where
    by : (found : Option Resource) → find (λ one. is_some (missing_of lists new one)) new ≡ found → option_and_then (missing_of lists new) found ≡ None → AllByRecursion (Refers lists new) new
    by None found none = each_weaker (λ one. is_some (missing_of lists new one) ≡ false) (Refers lists new) (λ one no. refers lists new one (not_some (missing_of lists new one) no)) new
        (none_passes (λ one. is_some (missing_of lists new one)) new found)
    by (Some one) found none = some_not_none (missing_of lists new one) (found_passes (λ other. is_some (missing_of lists new other)) new one found) none

all_absent : (lists : ResourceLists) (new : List Resource) → first_there lists new ≡ None → AllByRecursion (λ one. ¬ HasResource lists (kind_of one) (name_of one)) new
all_absent lists new is =
    let test = λ (one : Resource). has lists (kind_of one) (name_of one) in
    each_weaker (λ one. test one ≡ false) (λ one. ¬ HasResource lists (kind_of one) (name_of one)) (λ one. is_not_had lists (kind_of one) (name_of one)) new
    (none_passes test new (none_mapped (λ (one : Resource). called (kind_of one) (name_of one)) (find test new) is))

-- the checks have gone through
module _ (lists : ResourceLists) (new : List Resource) (may : Ok tt ≡ may_define lists new) where
  abbrev Needs : Result (Unit {0}) Refusal
  Needs = refused_for {Y = Unit {0}} no_such (first_missing lists new) (Ok tt)

  abbrev Checks : Result (Unit {0}) Refusal
  Checks = refused_for {Y = Unit {0}} exists (first_there lists new) (refused_for {Y = Unit {0}} no_such (first_missing lists new) (Ok tt))

  behind : Ok tt ≡ Checks
  behind = unless_next (have_room (counts_of lists) (counted new)) (TooMany max_of_kind) Checks may

  pub can_be_added : AreDistinct new → AreAddable lists new
  can_be_added distinct = record {
    distinct = distinct;
    absent = all_absent lists new (refused_none exists (first_there lists new) Needs behind);
    refer = all_refer lists new (refused_none no_such (first_missing lists new) (Ok tt) (refused_next exists (first_there lists new) Needs behind));
  }

  pub are_few : IsCount (length new)
  are_few =
      let within = stay_within lists new (unless_holds (have_room (counts_of lists) (counted new)) (TooMany max_of_kind) Checks may) in
      let all = counted_all new in
      let policies = within.policies in
      let pools = within.pools in
      let clients = within.clients in
      let schedules = within.schedules in
      let groups = within.groups in
      omega arith

-- ---- a text that isn't taken

pub follows_fault : (m : Moment) (text : List ℕ) (room : RoomView) (disk : DiskView) (fault : TextFault) → ReadsAll (text_gives text) (Err fault)
    → (plan : Plan) × IsDefinePlan m text room plan × Follows plan (Refused (fault_refusal fault)) room room disk disk
follows_fault m text room disk (faults.Malformed field) gives = (Refuse (Malformed field), inl (Err field, gives, refl), follows_refusal (Malformed field) room disk)
follows_fault m text room disk faults.Memory gives = (Refuse NoMemory, inr refl, follows_refusal NoMemory room disk)
