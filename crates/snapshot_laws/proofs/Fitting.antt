-- The numbers of what was written are in the ranges of their bytes.
use Rattle.std.proofs.Common.{◌≡◌, ◌≢◌, ℕ, Bool, true, false, cond, eqb, List, [], ◌∷◌, Option, Some, None, refl, sym, ap, subst, ◌∙◌}
use Rattle.std.specs.List.{AllByRecursion}
use Rattle.std.proofs.lemmas.Bool.{eqb-false, eqb-true}
use Rattle.room_base.proofs.OrderedNumbers.{other_number}
use Rattle.client_index.specs.Sets.{entries_or_none}
use Rattle.client_index.specs.declared.index.SetIndex.{SetIndex}
use Rattle.media_db.specs.Rows.{find_record}
use Rattle.media_db.specs.declared.records.Record.{Record}
use Rattle.save_stream.specs.declared.entry.IndexEntry.{IndexEntry}
use Rattle.catalog_spelling.specs.Entries.{FitsEntry}
use Rattle.catalog_spelling.specs.Fits.{FitsRecord, FitsRow}
use Rattle.catalog_spelling.specs.Snapshots.{kept_index}

abbrev pub chosen_row : Record → List Record → ℕ → Bool → Option Record
chosen_row row rows ssid test = cond test (Some row) (find_record ssid rows)

-- another set is found behind a record
pub row_later : (row : Record) (rows : List Record) (ssid : ℕ) → row.ssid.0 ≢ ssid → find_record ssid (row ∷ rows) ≡ find_record ssid rows
row_later row rows ssid is = ap (chosen_row row rows ssid) (other_number row.ssid.0 ssid is)

pub rows_fit : (sets : List SetIndex) (indexed : Bool) (rows : List Record) → AllByRecursion (FitsRow sets indexed) rows → AllByRecursion FitsRecord rows
rows_fit sets indexed [] each = tt
rows_fit sets indexed (row ∷ rows) each = (each.0.0, rows_fit sets indexed rows each.1)

pub kept_none : (indexed : Bool) → kept_index indexed [] ≡ []
kept_none true = refl
kept_none false = refl

-- only sets on record have an index
pub indexes_fit : (sets : List SetIndex) (indexed : Bool) (rows : List Record) (ssid : ℕ) → AllByRecursion (FitsRow sets indexed) rows → (find_record ssid rows ≡ None → entries_or_none sets (record { 0 = ssid }) ≡ [])
    → AllByRecursion FitsEntry (kept_index indexed (entries_or_none sets (record { 0 = ssid })))
indexes_fit sets indexed [] ssid each none = subst (λ (index : List IndexEntry). AllByRecursion FitsEntry index) (sym (ap (kept_index indexed) (none refl) ∙ kept_none indexed)) tt
indexes_fit sets indexed (row ∷ rows) ssid each none =
    elim (eqb row.ssid.0 ssid) as (λ test. eqb row.ssid.0 ssid ≡ test → AllByRecursion FitsEntry (kept_index indexed (entries_or_none sets (record { 0 = ssid })))) [
      | true ↦ (λ same. subst (λ (n : ℕ). AllByRecursion FitsEntry (kept_index indexed (entries_or_none sets (record { 0 = n })))) (eqb-true row.ssid.0 ssid same) each.0.1)
      | false ↦ (λ same. indexes_fit sets indexed rows ssid each.1 (λ is. none (row_later row rows ssid (eqb-false row.ssid.0 ssid same) ∙ is)))
    ] refl
