-- The view of a chain of save sets: what each path shows.
use Rattle.std.specs.Prelude.{◌≡◌, ℕ, ◌≤◌, ◌⊎◌, List, [], ◌∷◌, length, map, nat_eq, Contains}
use Rattle.std.specs.Prelude.{Option, Some, None}
use Rattle.std.specs.Option.{option_and_then}
use Rattle.std.specs.List.{find, AllByRecursion}
use Rattle.std.specs.Cmp.Lexicographic.{pointwise}
use Rattle.room_base.specs.declared.numbers.Ssid.{Ssid}
use Rattle.save_stream.specs.declared.entry.EntryKind.{EntryKind}
use Rattle.save_stream.specs.declared.entry.EntryKind.TheVariants as kinds
use Rattle.save_stream.specs.declared.entry.IndexEntry.{IndexEntry}
use Rattle.save_stream.specs.Spelling.{IsBelow}
use Rattle.client_index.specs.declared.seen.Seen.{Seen}
use Rattle.client_index.specs.declared.index.SetIndex.{SetIndex}
use Rattle.client_index.specs.Sets.{entries_or_none}

-- what an entry of this kind shows: nothing where the path is gone
abbrev pub shown : EntryKind → Seen → Option Seen
shown kinds.File seen = Some seen
shown kinds.Folder seen = Some seen
shown kinds.Gone seen = None

-- what an entry of a set shows
abbrev pub seen_of : Ssid → IndexEntry → Option Seen
seen_of owner entry =
    shown entry.kind
    (record {
      owner = owner;
      kind = entry.kind;
      mtime = entry.mtime;
      size = entry.size;
      place =
          entry.place;
    })

-- the entry of a path
abbrev pub entry_of : List IndexEntry → List ℕ → Option IndexEntry
entry_of entries path = find (λ entry. pointwise nat_eq entry.path path) entries

-- a set's entry comes before what other sets have
abbrev pub first_of : Ssid → Option IndexEntry → Option (Ssid × IndexEntry)
    → Option (Ssid × IndexEntry)
first_of owner (Some entry) others = Some (owner, entry)
first_of owner None others = others

-- the first of the sets that has an entry of the path, and that entry
abbrev pub deciding : List SetIndex → List ℕ → Option (Ssid × IndexEntry)
deciding [] path = None
deciding (set ∷ sets) path = first_of set.ssid (entry_of set.entries path) (deciding sets path)

-- the sets of a chain, in its order; one without an index has no entries
abbrev pub chain_of : List SetIndex → List Ssid → List SetIndex
chain_of sets chain =
    map (λ ssid. record { ssid = ssid; entries = entries_or_none sets ssid }) chain

-- what sets show at a path: the first that has an entry of it decides
abbrev pub view_of : List SetIndex → List ℕ → Option Seen
view_of sets path = option_and_then (λ first. seen_of first.0 first.1) (deciding sets path)

-- the view of a chain at a path
abbrev pub view : List SetIndex → List Ssid → List ℕ → Option Seen
view sets chain path = view_of (chain_of sets chain) path

-- paths with what they show, of which the paths ascend strictly, from above this one
abbrev pub SeenAscend : List ℕ → List (List ℕ × Seen) → Type 0
SeenAscend low [] = Unit {0}
SeenAscend low (one ∷ others) = IsBelow low one.0 × SeenAscend one.0 others

-- The first paths above this one that sets show, at most so many, each with what it shows. A path
-- that isn't among them stands above them all, and they are as many as they may be.
pub record AreFirstSeen (sets : List SetIndex) (after : List ℕ) (most : ℕ)
    (answer : List (List ℕ × Seen)) : Type 0 where
  pub ascend : SeenAscend after answer
  pub shown : AllByRecursion (λ one. view_of sets one.0 ≡ Some one.1) answer
  pub count : length answer ≤ most
  pub complete : (path : List ℕ) (seen : Seen) → IsBelow after path → view_of sets path ≡ Some seen
      → Contains answer (path, seen)
      ⊎ ((length answer ≡ most) × AllByRecursion (λ one. IsBelow one.0 path) answer)
