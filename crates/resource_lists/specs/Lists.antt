-- The lists of resources, and those of a room that has just been made.
use Rattle.std.specs.Prelude.{ℕ, List, [], ◌∷◌, codes}
use Rattle.room_rules.specs.declared.group.Group.{Group}
use Rattle.room_rules.specs.declared.policy.Policy.{Policy}
use Rattle.room_rules.specs.declared.policy.Unit.{Unit as PolicyUnit}
use Rattle.room_rules.specs.declared.policy.Unit.TheVariants.{Months, Years}
use Rattle.room_rules.specs.declared.pool.Pool.{Pool}
use Rattle.room_rules.specs.declared.schedule.Schedule.{Schedule}
use Rattle.catalog_change.specs.declared.resource.Client.{Client}

-- the lists of resources, each in the order of the names
pub record ResourceLists : Type 0 where
  pub policies : List Policy
  pub pools : List Pool
  pub clients : List Client
  pub schedules : List Schedule
  pub groups : List Group

-- how many more resources of each kind fit without taking memory
pub record ResourceRoom : Type 0 where
  pub policies : ℕ
  pub pools : ℕ
  pub clients : ℕ
  pub schedules : ℕ
  pub groups : ℕ

-- the resources in memory
pub record HeldResources : Type 0 where
  pub lists : ResourceLists
  pub room : ResourceRoom

abbrev pub lasting : List ℕ → PolicyUnit → Policy
lasting name unit = record { name = name; count = 1; unit = unit }

-- the pool without criteria, which takes what no other takes
abbrev pub default_pool : Pool
default_pool = record {
  name = codes "Default";
  groups = [];
  clients = [];
  sets = [];
  levels = [];
}

-- the client of the room's own saves
abbrev pub room_client : Client
room_client = record {
  name = codes "room";
  browse = codes "Month";
  retention = codes "Year";
}

abbrev pub opening_resources : ResourceLists
opening_resources = record {
  policies = lasting (codes "Month") Months ∷ (lasting (codes "Year") Years ∷ []);
  pools = default_pool ∷ [];
  clients = room_client ∷ [];
  schedules = [];
  groups = [];
}
