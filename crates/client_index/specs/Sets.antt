-- The indexes of save sets, as a list in the order of their numbers.
use Rattle.std.specs.Prelude.{ℕ, Bool, List, [], ◌∷◌, Option, unwrap_or}
use Rattle.std.specs.List.{AllByRecursion, list_any}
use Rattle.std.specs.Option.{option_map}
use Rattle.std.specs.Ordering.{eq_by_cmp, nat_cmp}
use Rattle.room_base.specs.Ordered.{Ascends, find_by, put_by, remove_by}
use Rattle.room_base.specs.declared.numbers.Ssid.{Ssid}
use Rattle.save_stream.specs.declared.entry.IndexEntry.{IndexEntry}
use Rattle.client_index.specs.declared.index.SetIndex.{SetIndex}
use Rattle.save_stream.specs.Spelling.{PathsAscend}

-- the indexes of sets, and how many more fit without taking memory
pub record Indexes : Type 0 where
  pub sets : List SetIndex
  pub room : ℕ

abbrev pub number_of : SetIndex → ℕ
number_of set = set.ssid.0

-- the numbers of the sets ascend strictly, and so do the paths of each
pub record AreOrdered (sets : List SetIndex) : Type 0 where
  pub numbers : Ascends nat_cmp number_of sets
  pub paths : AllByRecursion (λ set. PathsAscend set.entries) sets

-- the entries of a set, if it has an index
abbrev pub entries_of : List SetIndex → Ssid → Option (List IndexEntry)
entries_of sets ssid = option_map (λ set. set.entries) (find_by nat_cmp number_of ssid.0 sets)

-- the entries of a set; a set without an index has none
abbrev pub entries_or_none : List SetIndex → Ssid → List IndexEntry
entries_or_none sets ssid = unwrap_or (entries_of sets ssid) []

-- the indexes with this one in its place, or in place of the one that its set has
abbrev pub put : List SetIndex → SetIndex → List SetIndex
put sets new = put_by nat_cmp number_of new sets

-- the indexes without that of a set
abbrev pub forget : List SetIndex → Ssid → List SetIndex
forget sets ssid = remove_by nat_cmp number_of ssid.0 sets

-- the indexes without those of these sets
abbrev pub forget_each : List Ssid → List SetIndex → List SetIndex
forget_each [] sets = sets
forget_each (ssid ∷ ssids) sets = forget_each ssids (forget sets ssid)

-- the numbers of sets ascend strictly
abbrev pub AreAscending : List Ssid → Type 0
AreAscending ssids = Ascends nat_cmp (λ ssid. ssid.0) ssids

-- the set is one of these
abbrev pub is_one_of : List Ssid → Ssid → Bool
is_one_of ssids ssid = list_any (λ one. eq_by_cmp nat_cmp ssid.0 one.0) ssids
