-- Values of several kinds: a byte says which, and how the fields behind it are read.
use Rattle.std.specs.Prelude.{ℕ, ◌==◌, List, [], ◌∷◌, length, Err, if◌then◌else◌}
use Rattle.catalog_spelling.specs.Reading.{Part, ◌>>=◌}
use Rattle.catalog_spelling.specs.Fields.{byte_at}

-- how the fields of each kind are read
abbrev pub Readers : Type 0 → Type 0
Readers X = List (ℕ × (List ℕ → Part X))

-- the fields of this kind, whose byte begins so many bytes
abbrev pub chosen : {X : Type 0} → Readers X → ℕ → ℕ → List ℕ → Part X
chosen [] kind behind rest = Err behind
chosen (reader ∷ readers) kind behind rest =
    if kind == reader.0 then reader.1 rest else chosen readers kind behind rest

unfoldable pub by_kind_at : {X : Type 0} → Readers X → List ℕ → Part X
by_kind_at readers bytes = byte_at bytes >>= λ kind. chosen readers kind.0 (length bytes) kind.1
