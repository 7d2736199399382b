-- What nothing needs can be dropped.
use Rattle.std.proofs.Common.{◌≡◌, ◌≢◌, Bool, true, false, ℕ, List, [], ◌∷◌, Option, Some, None, refl, codes}
use Rattle.std.specs.Prelude.{Ok, if◌then◌else◌}
use Rattle.std.specs.List.{AllByRecursion, find, list_any}
use Rattle.std.specs.Option.{option_map, option_or}
use Rattle.std.proofs.lemmas.Bool.{or_parts}
use Rattle.room_base.proofs.OrderedLaws.{each_weaker}
use Rattle.room_rules.specs.declared.group.Group.{Group}
use Rattle.room_rules.specs.declared.group.Member.{Member}
use Rattle.catalog_change.specs.declared.resource.Client.{Client}
use Rattle.catalog_change.specs.declared.resource.ResourceKind.{ResourceKind}
use Rattle.catalog_change.specs.declared.resource.ResourceKind.TheVariants as kinds
use Rattle.catalog_change.specs.Catalogues.{HasResources}
use Rattle.catalog_change.specs.Resources.{IsShortName}
use Rattle.resource_lists.specs.Adding.{HasResource, IsNotMemberOf, IsNotPolicyOf, IsUnused}
use Rattle.room_catalog.specs.Held.{CatalogueLists, catalogue_of}
use Rattle.room_resources.specs.Called.{Called, called, has, in_use, is_same, no_such, numbered, refused_for}
use Rattle.room_resources.specs.Dropping.{has_member, keeps_by, may_drop, room_itself, user_of}
use Rattle.room_resources.proofs.Lists.{first_none, none_mapped, none_passes, refused_none, unless_holds, unless_next}
use Rattle.room_resources.proofs.Naming.{is_had, is_other, names_are_short}

-- the room's client isn't the one that needs it
not_itself : (test : Bool) (one : Called) (other : Option Called) → (if test then Some one else other) ≡ None → test ≡ false
not_itself true one other is = absurd (let no : ◌≡◌ {A = Option Called} (Some one) None = is in cc)
not_itself false one other is = refl

others_none : (test : Bool) (one : Called) (other : Option Called) → (if test then Some one else other) ≡ None → other ≡ None
others_none true one other is = absurd (let no : ◌≡◌ {A = Option Called} (Some one) None = is in cc)
others_none false one other is = is

no_member : (name : List ℕ) (members : List Member) → list_any (λ member. is_same member.client name) members ≡ false → AllByRecursion (λ member. member.client ≢ name) members
no_member name [] is = tt
no_member name (member ∷ members) is =
    let (differs, rest) = or_parts (is_same member.client name) (list_any (λ other. is_same other.client name) members) is in
    (is_other member.client name differs, no_member name members rest)

not_policy : (name : List ℕ) (client : Client) → keeps_by name client ≡ false → IsNotPolicyOf name client
not_policy name client is =
    let (browse, retention) = or_parts (is_same client.browse name) (is_same client.retention name) is in
    (is_other client.browse name browse, is_other client.retention name retention)

pub is_unused : (kind : ResourceKind) (name : List ℕ) (lists : CatalogueLists) → user_of kind name lists ≡ None → IsUnused lists.resources kind name
is_unused kinds.Policy name lists is =
    each_weaker (λ client. keeps_by name client ≡ false) (IsNotPolicyOf name) (λ client. not_policy name client) lists.resources.clients
    (none_passes (keeps_by name) lists.resources.clients (none_mapped (λ (client : Client). called kinds.Client client.name) (find (keeps_by name) lists.resources.clients) is))
is_unused kinds.Pool name lists is =
    is_other name (codes "Default") (not_itself (is_same name (codes "Default")) room_itself
    (option_map (λ volume. numbered (codes "volume") volume.volid.0) (find (λ volume. is_same volume.pool name) lists.volumes)) is)
is_unused kinds.Client name lists is =
    let groups = option_map (λ (group : Group). called kinds.Group group.name) (find (has_member name) lists.resources.groups) in
    let records = option_map (λ row. numbered (codes "set") row.ssid.0) (find (λ row. is_same row.client name) lists.records) in
    let test = is_same name (codes "room") in (
      is_other name (codes "room") (not_itself test room_itself (option_or groups records) is),
      each_weaker (λ group. has_member name group ≡ false) (IsNotMemberOf name) (λ group. no_member name group.members) lists.resources.groups
          (none_passes (has_member name) lists.resources.groups (none_mapped (λ (group : Group). called kinds.Group group.name) (find (has_member name) lists.resources.groups)
          (first_none groups records (others_none test room_itself (option_or groups records) is)))),
    )
is_unused kinds.Schedule name lists is =
    each_weaker (λ group. is_same group.schedule name ≡ false) (λ group. group.schedule ≢ name) (λ group. is_other group.schedule name) lists.resources.groups
    (none_passes (λ group. is_same group.schedule name) lists.resources.groups
    (none_mapped (λ (group : Group). called kinds.Group group.name) (find (λ group. is_same group.schedule name) lists.resources.groups) is))
is_unused kinds.Group name lists is = tt

-- the checks have gone through
module _ (kind : ResourceKind) (name : List ℕ) (lists : CatalogueLists) (may : Ok tt ≡ may_drop kind name lists) where
  there : has lists.resources kind name ≡ true
  there = unless_holds (has lists.resources kind name) (no_such (called kind name)) (refused_for {Y = Unit {0}} in_use (user_of kind name lists) (Ok tt)) may

  pub can_be_dropped : HasResource lists.resources kind name × IsUnused lists.resources kind name
  can_be_dropped = (
    is_had lists.resources kind name there,
    is_unused kind name lists (refused_none in_use (user_of kind name lists) (Ok tt)
        (unless_next (has lists.resources kind name) (no_such (called kind name)) (refused_for {Y = Unit {0}} in_use (user_of kind name lists) (Ok tt)) may)),
  )

  pub its_name_is_short : HasResources (catalogue_of lists) → IsShortName name
  its_name_is_short all = names_are_short (catalogue_of lists) kind name all there
