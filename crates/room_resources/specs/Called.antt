-- How refusals call resources, and what is known by a number.
use Rattle.std.specs.Prelude.{◌≡◌, ◌⊎◌, ℕ, Bool, List, codes, nat_eq, is_some}
use Rattle.std.specs.Prelude.{Option, Some, None, Result, Err}
use Rattle.std.specs.Cmp.Lexicographic.{pointwise}
use Rattle.std.specs.Fmt.{decimal}
use Rattle.room_base.specs.declared.refusal.Refusal.{Refusal}
use Rattle.room_base.specs.declared.refusal.Refusal.TheVariants.{Exists, InUse, NoMemory, NoSuch}
use Rattle.catalog_change.specs.declared.resource.ResourceKind.{ResourceKind}
use Rattle.catalog_change.specs.declared.resource.ResourceKind.TheVariants as kinds
use Rattle.catalog_change.specs.Resources.{
  client_name,
  group_name,
  policy_name,
  pool_name,
  schedule_name,
}
use Rattle.resource_lists.specs.Kinds.{find_named}
use Rattle.resource_lists.specs.Lists.{ResourceLists}

abbrev pub kind_word : ResourceKind → List ℕ
kind_word kinds.Policy = codes "policy"
kind_word kinds.Pool = codes "pool"
kind_word kinds.Client = codes "client"
kind_word kinds.Schedule = codes "schedule"
kind_word kinds.Group = codes "group"

-- what a refusal calls: a kind, and a name of that kind
pub record Called : Type 0 where
  pub kind : List ℕ
  pub name : List ℕ

abbrev pub called : ResourceKind → List ℕ → Called
called kind name = record { kind = kind_word kind; name = name }

abbrev pub numbered : List ℕ → ℕ → Called
numbered kind number = record { kind = kind; name = decimal number }

abbrev pub no_such : Called → Refusal
no_such one = NoSuch one.kind one.name

abbrev pub exists : Called → Refusal
exists one = Exists one.kind one.name

abbrev pub in_use : Called → Refusal
in_use one = InUse one.kind one.name

-- a refusal takes memory for what it calls
abbrev pub IsRefusal : Refusal → Refusal → Type 0
IsRefusal wanted made = (made ≡ wanted) ⊎ (made ≡ NoMemory)

-- refused where there is one; else what the checks behind it come to
abbrev pub refused_for : {Y : Type 0} → (Called → Refusal) → Option Called → Result Y Refusal
    → Result Y Refusal
refused_for refusal (Some one) next = Err (refusal one)
refused_for refusal None next = next

-- two texts are the same
abbrev pub is_same : List ℕ → List ℕ → Bool
is_same one other = pointwise nat_eq one other

-- the resource of this kind and name is there
abbrev pub has : ResourceLists → ResourceKind → List ℕ → Bool
has lists kinds.Policy name = is_some (find_named policy_name name lists.policies)
has lists kinds.Pool name = is_some (find_named pool_name name lists.pools)
has lists kinds.Client name = is_some (find_named client_name name lists.clients)
has lists kinds.Schedule name = is_some (find_named schedule_name name lists.schedules)
has lists kinds.Group name = is_some (find_named group_name name lists.groups)
