-- Resources that are added one after another.
use Rattle.std.proofs.Common.{◌≡◌, ◌+◌, ◌≤◌, List, [], ◌∷◌, length, Option, refl, ap, ◌∙◌, arith, length-append}
use Rattle.std.specs.Prelude.{filter_map}
use Rattle.std.proofs.lemmas.List.Elements.{filter_map-append}
use Rattle.catalog_change.specs.declared.resource.Resource.{Resource}
use Rattle.catalog_change.specs.declared.resource.Resource.TheVariants as resources
use Rattle.resource_lists.specs.Changing.{with_each}
use Rattle.resource_lists.specs.Lists.{HeldResources, ResourceLists, ResourceRoom}
use Rattle.resource_lists.specs.Kinds.{as_client, as_group, as_policy, as_pool, as_schedule}
use Rattle.resource_lists.specs.Room.{HasRoomFor, KeepsRoomBeside}

pub kind_first : {X Y : Type 0} (kind : X → Option Y) (x : X) (xs : List X) → length (filter_map kind (x ∷ xs)) ≡ length (filter_map kind (x ∷ [])) + length (filter_map kind xs)
kind_first kind x xs = ap length (filter_map-append kind (x ∷ []) xs) ∙ length-append (filter_map kind (x ∷ [])) (filter_map kind xs)

each_first : (r : Resource) (rest : List Resource) (lists : ResourceLists) → with_each rest (with_each (r ∷ []) lists) ≡ with_each (r ∷ rest) lists
each_first (resources.Policy x) rest lists = refl
each_first (resources.Pool x) rest lists = refl
each_first (resources.Client x) rest lists = refl
each_first (resources.Schedule x) rest lists = refl
each_first (resources.Group x) rest lists = refl

-- where these are left to be added
pub record Adds (new : List Resource) (start now : HeldResources) (rest : List Resource) : Type 0 where
  pub lists : with_each rest now.lists ≡ with_each new start.lists
  pub room : HasRoomFor now.room rest
  pub policies : start.room.policies + length (filter_map as_policy rest) ≤ now.room.policies + length (filter_map as_policy new)
  pub pools : start.room.pools + length (filter_map as_pool rest) ≤ now.room.pools + length (filter_map as_pool new)
  pub clients : start.room.clients + length (filter_map as_client rest) ≤ now.room.clients + length (filter_map as_client new)
  pub schedules : start.room.schedules + length (filter_map as_schedule rest) ≤ now.room.schedules + length (filter_map as_schedule new)
  pub groups : start.room.groups + length (filter_map as_group rest) ≤ now.room.groups + length (filter_map as_group new)

pub adds_none : (new : List Resource) (start : HeldResources) → HasRoomFor start.room new → Adds new start start new
adds_none new start room = record { lists = refl; room = room; policies = omega arith; pools = omega arith; clients = omega arith; schedules = omega arith; groups = omega arith }

-- where none is left, all are added
pub adds_all : (new : List Resource) (start now : HeldResources) (rest : List Resource) → Adds new start now rest → length rest ≡ 0 → (now.lists ≡ with_each new start.lists) × KeepsRoomBeside new start.room now.room
adds_all new start now [] adds none = (adds.lists, record { policies = omega (arith, adds.policies); pools = omega (arith, adds.pools); clients = omega (arith, adds.clients); schedules = omega (arith, adds.schedules); groups = omega (arith, adds.groups) })
adds_all new start now (r ∷ rest) adds none = absurd (omega arith)

module _ (r : Resource) (rest : List Resource) where
  pub room_for_first : (room : ResourceRoom) → HasRoomFor room (r ∷ rest) → HasRoomFor room (r ∷ [])
  room_for_first room has = record {
    policies = omega (arith, has.policies, kind_first as_policy r rest);
    pools = omega (arith, has.pools, kind_first as_pool r rest);
    clients = omega (arith, has.clients, kind_first as_client r rest);
    schedules = omega (arith, has.schedules, kind_first as_schedule r rest);
    groups = omega (arith, has.groups, kind_first as_group r rest);
  }

  pub adds_one : (new : List Resource) (start now after : HeldResources) → Adds new start now (r ∷ rest) → after.lists ≡ with_each (r ∷ []) now.lists → KeepsRoomBeside (r ∷ []) now.room after.room → Adds new start after rest
  adds_one new start now after adds made kept = record {
    lists = ap (with_each rest) made ∙ each_first r rest now.lists ∙ adds.lists;
    room = record {
      policies = omega (arith, adds.room.policies, kept.policies, kind_first as_policy r rest);
      pools = omega (arith, adds.room.pools, kept.pools, kind_first as_pool r rest);
      clients = omega (arith, adds.room.clients, kept.clients, kind_first as_client r rest);
      schedules = omega (arith, adds.room.schedules, kept.schedules, kind_first as_schedule r rest);
      groups = omega (arith, adds.room.groups, kept.groups, kind_first as_group r rest);
    };
    policies = omega (arith, adds.policies, kept.policies, kind_first as_policy r rest);
    pools = omega (arith, adds.pools, kept.pools, kind_first as_pool r rest);
    clients = omega (arith, adds.clients, kept.clients, kind_first as_client r rest);
    schedules = omega (arith, adds.schedules, kept.schedules, kind_first as_schedule r rest);
    groups = omega (arith, adds.groups, kept.groups, kind_first as_group r rest);
  }
