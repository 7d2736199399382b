-- Names that are judged beside others: those that ascend, and those that have to be known.
use Rattle.std.specs.Prelude.{◌≡◌, ℕ, ◌-◌, Bool, true, false, List, length, Result, Ok, Err, is_some}
use Rattle.std.specs.Prelude.{if◌then◌else◌}
use Rattle.std.specs.Ordering.{nat_cmp}
use Rattle.std.specs.Cmp.Lexicographic.{slice_cmp}
use Rattle.room_base.specs.Ordered.{find_by}
use Rattle.save_stream.specs.Reading.{is_below}
use Rattle.catalog_spelling.specs.declared.fault.FieldFault.{FieldFault}
use Rattle.catalog_spelling.specs.declared.fault.FieldFault.TheVariants as faults
use Rattle.catalog_spelling.specs.Reading.{Part, ◌>>=◌}
use Rattle.catalog_spelling.specs.Fields.{name_at}
use Rattle.catalog_spelling.specs.Lists.{last_item, by_item}

-- one of the items has the name
abbrev pub is_there : {X : Type 0} → (X → List ℕ) → List X → List ℕ → Bool
is_there name items wanted = is_some (find_by (slice_cmp nat_cmp) name wanted items)

-- a name stands above that of the last of these items
abbrev pub is_next_name : {X : Type 0} → (X → List ℕ) → List X → List ℕ → Bool
is_next_name name before wanted =
    by_item true (λ last. is_below (name last) wanted) (last_item before)

-- a name of 1 to 64 bytes that is allowed by a test, which is judged at the first byte behind its
-- length
unfoldable pub name_if_at : (List ℕ → Bool) → List ℕ → Part (List ℕ)
name_if_at allows bytes = name_at 64 bytes
    >>= λ name. if allows name.0 then Ok name else Err (length bytes - 1)

-- the judgement of a name behind its length, which begins these bytes
abbrev pub AllowsName : {T : Type 0} → Bool → List ℕ → Result T FieldFault → Type 0
AllowsName allowed bytes (Ok _) = allowed ≡ true
AllowsName allowed bytes (Err fault) =
    (allowed ≡ false) × (fault ≡ faults.Bad (length bytes - 1))
