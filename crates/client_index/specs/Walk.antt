-- What a walk through the entries of sets has still before it.
use Rattle.std.specs.Prelude.{◌≡◌, ℕ, List, [], ◌∷◌, length, not, ◌==◌, map, filter, nat_eq, Bool}
use Rattle.std.specs.Prelude.{false, Option, Some, None, if◌then◌else◌}
use Rattle.std.specs.Borrow.{Bor}
use Rattle.std.specs.List.{AllByRecursion}
use Rattle.std.specs.Option.{option_map}
use Rattle.std.specs.Ordering.{nat_cmp, is_gt}
use Rattle.std.specs.Cmp.Lexicographic.{pointwise, slice_cmp}
use Rattle.room_base.specs.declared.numbers.Ssid.{Ssid}
use Rattle.save_stream.specs.declared.entry.IndexEntry.{IndexEntry}
use Rattle.save_stream.specs.Spelling.{IsBelow}
use Rattle.client_index.specs.declared.seen.Seen.{Seen}
use Rattle.client_index.specs.declared.index.SetIndex.{SetIndex}
use Rattle.client_index.specs.declared.walk.Rest.{Rest}
use Rattle.save_stream.specs.Spelling.{PathsAscend, PathsAscendFrom}
use Rattle.client_index.specs.View.{entry_of, deciding}

abbrev pub rest_of : Rest → SetIndex
rest_of rest = record { ssid = rest.owner; entries = rest.entries.now }

abbrev pub rests_of : List Rest → List SetIndex
rests_of rests = map rest_of rests

-- the first of two paths isn't above the other
abbrev pub IsUpTo : List ℕ → List ℕ → Type 0
IsUpTo one other = is_gt (slice_cmp nat_cmp one other) ≡ false

-- the paths of each set ascend
abbrev pub EachAscends : List SetIndex → Type 0
EachAscends sets = AllByRecursion (λ set. PathsAscend set.entries) sets

-- the paths of each set ascend from above this one
abbrev pub EachAscendsFrom : List ℕ → List SetIndex → Type 0
EachAscendsFrom low sets = AllByRecursion (λ set. PathsAscendFrom low set.entries) sets

-- the sets decide alike on the paths above this one
abbrev pub DecideAlike : List ℕ → List SetIndex → List SetIndex → Type 0
DecideAlike low sets others =
    (path : List ℕ) → IsBelow low path → deciding sets path ≡ deciding others path

-- entries of other ones above this path
pub record AreAbove (low : List ℕ) (entries above : List IndexEntry) : Type 0 where
  pub ascend : PathsAscendFrom low above
  pub same : (path : List ℕ) → IsBelow low path → entry_of above path ≡ entry_of entries path

-- the entries don't begin below this path
abbrev pub BeginsFrom : List ℕ → List IndexEntry → Type 0
BeginsFrom path [] = Unit {0}
BeginsFrom path (entry ∷ entries) = IsUpTo path entry.path

-- no set has an entry, or this one has the least path of all and decides on it
abbrev pub IsLeast : List SetIndex → Option (Ssid × IndexEntry) → Type 0
IsLeast sets None = AllByRecursion (λ set. set.entries ≡ []) sets
IsLeast sets (Some least) =
    (deciding sets least.1.path ≡ Some least)
    × AllByRecursion (λ set. BeginsFrom least.1.path set.entries) sets

-- the first of two entries, unless the other's path is below its own
abbrev pub lesser_of : Option (Ssid × IndexEntry) → Ssid × IndexEntry → Option (Ssid × IndexEntry)
lesser_of None other = Some other
lesser_of (Some least) other =
    if is_gt (slice_cmp nat_cmp least.1.path other.1.path) then Some other else Some least

-- the least entry, when those of a set are seen too
abbrev pub lesser : Option (Ssid × IndexEntry) → Ssid → List IndexEntry → Option (Ssid × IndexEntry)
lesser least owner [] = least
lesser least owner (entry ∷ entries) = lesser_of least (owner, entry)

-- entries without the first one, where it has this path
abbrev pub past : List ℕ → List IndexEntry → List IndexEntry
past path [] = []
past path (entry ∷ entries) =
    if pointwise nat_eq entry.path path then entries else (entry ∷ entries)

abbrev pub has_entries : SetIndex → Bool
has_entries set = not (length set.entries == 0)

abbrev pub past_in : List ℕ → SetIndex → SetIndex
past_in path set = record { ssid = set.ssid; entries = past path set.entries }

-- sets past a path, but for those that have no entries then
abbrev pub passed : List ℕ → List SetIndex → List SetIndex
passed path sets = filter has_entries (map (past_in path) sets)

-- an entry and its set, as it is lent
abbrev pub lent : Option (Ssid × Bor IndexEntry) → Option (Ssid × IndexEntry)
lent least = option_map (λ one. (one.0, one.1.now)) least

-- what a path adds to an answer
abbrev pub added : List ℕ → Option Seen → List (List ℕ × Seen)
added path None = []
added path (Some seen) = (path, seen) ∷ []
