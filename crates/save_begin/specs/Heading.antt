-- The head of a save that begins.
use Rattle.std.specs.Prelude.{◌≡◌, ℕ, ◌+◌, ◌*◌, max, min, List, [], Option, Some, None}
use Rattle.std.specs.List.{HoldsAt}
use Rattle.room_base.specs.Numbers.{max_moment}
use Rattle.room_base.specs.declared.numbers.Moment.{Moment}
use Rattle.room_base.specs.declared.numbers.Ssid.{Ssid}
use Rattle.room_rules.specs.declared.policy.Policy.{Policy}
use Rattle.room_rules.specs.declared.pool.Pool.{Pool}
use Rattle.room_rules.specs.Pools.{IsPoolOf, Save}
use Rattle.room_rules.specs.Times.{unit_seconds}
use Rattle.save_stream.specs.declared.head.SetHead.{SetHead}
use Rattle.sched_levels.specs.Bases.{IsBaseFor}
use Rattle.catalog_change.specs.declared.resource.Client.{Client}
use Rattle.room_effects.specs.View.{RoomView}
use Rattle.save_begin.specs.declared.asked.Asked.{Asked}
use Rattle.save_begin.specs.Asking.{client_of, policy_of}

-- ---- times

-- the moment until which what begins at m is kept by a policy; a client's policies are on record
abbrev pub until : Moment → Option Policy → ℕ
until m None = m.0
until m (Some policy) = min (m.0 + policy.count * unit_seconds policy.unit) max_moment

abbrev pub browse_until : Moment → RoomView → Option Client → ℕ
browse_until m room None = m.0
browse_until m room (Some client) = until m (policy_of client.browse room)

-- a save is kept at least as long as it can be browsed
abbrev pub retain_until : Moment → RoomView → Option Client → ℕ
retain_until m room None = m.0
retain_until m room (Some client) =
    max (until m (policy_of client.retention room)) (browse_until m room (Some client))

-- ---- the pool

-- without a group it has the empty name
abbrev pub group_or_none : Option (List ℕ) → List ℕ
group_or_none None = []
group_or_none (Some name) = name

abbrev pub save_of : Asked → ℕ → Save
save_of asked level = record {
  group = group_or_none asked.group;
  client = asked.client;
  set = asked.set;
  level = level;
}

-- the name of the pool that the save goes to
pub record IsPoolFor (save : Save) (pools : List Pool) (name : List ℕ) : Type 0 where
  pub place : ℕ
  pub is : IsPoolOf pools save place
  pub named : HoldsAt (λ pool. pool.name ≡ name) pools place

-- ---- the head

abbrev pub next_ssid : RoomView → Ssid
next_ssid room = record { 0 = room.catalogue.next_ssid }

-- the head of a save of this level and base, which goes to this pool
abbrev pub head_with : Moment → Asked → ℕ → Ssid → List ℕ → RoomView → SetHead
head_with m asked level base pool room = record {
  ssid = next_ssid room;
  base = base;
  level = level;
  saved = m;
  browse = record { 0 = browse_until m room (client_of asked.client room) };
  retain = record { 0 = retain_until m room (client_of asked.client room) };
  client = asked.client;
  set = asked.set;
  group = group_or_none asked.group;
  pool = pool;
}

-- The head of a save for which this level is wanted. Without a save set that it can stand on the
-- save becomes a full one, and the pool is that of the level that it has then.
pub record IsHeadFor (m : Moment) (asked : Asked) (wanted : ℕ) (room : RoomView)
    (head : SetHead) : Type 0 where
  pub base : IsBaseFor room.catalogue.records asked.client asked.set wanted head.level head.base
  pub pool : IsPoolFor (save_of asked head.level) room.catalogue.resources.pools head.pool
  pub is : head ≡ head_with m asked head.level head.base head.pool room
