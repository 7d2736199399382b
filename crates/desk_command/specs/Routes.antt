-- Which request asks for which command: the method and the target of each.
use Rattle.std.specs.Prelude.{◌≡◌, ℕ, ◌==◌, Bool, IsTrue, ◌&&◌, not, nat_lt, List, [], ◌∷◌, length}
use Rattle.std.specs.Prelude.{codes}
use Rattle.std.specs.List.{flat_map, list_all, list_any}
use Rattle.catalog_change.specs.declared.resource.ResourceKind.{ResourceKind}
use Rattle.catalog_change.specs.declared.resource.ResourceKind.TheVariants as kinds
use Rattle.desk_command.specs.declared.route.Route.{Route as LentRoute}
use Rattle.desk_command.specs.declared.route.Route.TheVariants as lent

-- A line of the table of routes. What stands in braces there is a part of the target.
pub data Route : Type 0 where
  Define : Route
  Drop : ResourceKind → List ℕ → Route
  Load : List ℕ → Route
  Eject : List ℕ → Route
  Label : Route
  Mount : Route
  Unmount : Route
  Inventory : Route
  Savegrp : List ℕ → Route
  Begin : Route
  Append : List ℕ → List ℕ → Route
  Finish : List ℕ → Route
  Abort : List ℕ → Route
  Amend : List ℕ → Route
  Delete : List ℕ → Route
  Nsrim : Route
  Show : List ℕ → Route

-- the word of a kind of resources
abbrev pub kind_word : ResourceKind → List ℕ
kind_word kinds.Policy = codes "policy"
kind_word kinds.Pool = codes "pool"
kind_word kinds.Client = codes "client"
kind_word kinds.Schedule = codes "schedule"
kind_word kinds.Group = codes "group"

abbrev pub method_of : Route → List ℕ
method_of Define = codes "POST"
method_of (Drop kind name) = codes "DELETE"
method_of (Load slot) = codes "POST"
method_of (Eject slot) = codes "DELETE"
method_of Label = codes "POST"
method_of Mount = codes "POST"
method_of Unmount = codes "POST"
method_of Inventory = codes "GET"
method_of (Savegrp group) = codes "GET"
method_of Begin = codes "POST"
method_of (Append ssid offset) = codes "PUT"
method_of (Finish ssid) = codes "POST"
method_of (Abort ssid) = codes "POST"
method_of (Amend ssid) = codes "POST"
method_of (Delete ssid) = codes "DELETE"
method_of Nsrim = codes "POST"
method_of (Show ssid) = codes "GET"

-- the parts of its target
abbrev pub parts_of : Route → List (List ℕ)
parts_of Define = codes "resources" ∷ []
parts_of (Drop kind name) = codes "resources" ∷ kind_word kind ∷ name ∷ []
parts_of (Load slot) = codes "slots" ∷ slot ∷ []
parts_of (Eject slot) = codes "slots" ∷ slot ∷ []
parts_of Label = codes "label" ∷ []
parts_of Mount = codes "mount" ∷ []
parts_of Unmount = codes "unmount" ∷ []
parts_of Inventory = codes "inventory" ∷ []
parts_of (Savegrp group) = codes "savegrp" ∷ group ∷ []
parts_of Begin = codes "sets" ∷ []
parts_of (Append ssid offset) = codes "sets" ∷ ssid ∷ codes "body" ∷ offset ∷ []
parts_of (Finish ssid) = codes "sets" ∷ ssid ∷ codes "finish" ∷ []
parts_of (Abort ssid) = codes "sets" ∷ ssid ∷ codes "abort" ∷ []
parts_of (Amend ssid) = codes "sets" ∷ ssid ∷ codes "amend" ∷ []
parts_of (Delete ssid) = codes "sets" ∷ ssid ∷ []
parts_of Nsrim = codes "nsrim" ∷ []
parts_of (Show ssid) = codes "sets" ∷ ssid ∷ []

-- the byte between the parts of a target
abbrev pub slash : ℕ
slash = 47

abbrev pub is_slash : ℕ → Bool
is_slash byte = byte == slash

-- a part has a byte at least, and no slash
abbrev pub is_part : List ℕ → Bool
is_part part = nat_lt 0 (length part) && not (list_any is_slash part)

-- the target that is these parts, each behind a slash
abbrev pub behind_slash : List ℕ → List ℕ
behind_slash part = slash ∷ part

abbrev pub target_of : List (List ℕ) → List ℕ
target_of parts = flat_map behind_slash parts

-- a method and the parts of a target are those of a route
abbrev pub IsOf : List ℕ → List (List ℕ) → Route → Type 0
IsOf method parts route = (method ≡ method_of route) × (parts ≡ parts_of route)

-- A request has a route: it has its method, and its target is the route's parts, each behind a slash.
pub record HasRoute (method target : List ℕ) (route : Route) : Type 0 where
  pub method_is : method ≡ method_of route
  pub target_is : target ≡ target_of (parts_of route)
  pub are_parts : IsTrue (list_all is_part (parts_of route))

-- a route, of one whose parts are lent
abbrev pub seen : LentRoute → Route
seen lent.Define = Define
seen (lent.Drop kind name) = Drop kind name.now
seen (lent.Load slot) = Load slot.now
seen (lent.Eject slot) = Eject slot.now
seen lent.Label = Label
seen lent.Mount = Mount
seen lent.Unmount = Unmount
seen lent.Inventory = Inventory
seen (lent.Savegrp group) = Savegrp group.now
seen lent.Begin = Begin
seen (lent.Append ssid offset) = Append ssid.now offset.now
seen (lent.Finish ssid) = Finish ssid.now
seen (lent.Abort ssid) = Abort ssid.now
seen (lent.Amend ssid) = Amend ssid.now
seen (lent.Delete ssid) = Delete ssid.now
seen lent.Nsrim = Nsrim
seen (lent.Show ssid) = Show ssid.now
