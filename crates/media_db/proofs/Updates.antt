-- What updates of the records keep.
use Rattle.std.proofs.Common.{◌≡◌, ℕ, List, Option, Some, None, Ok, Err, IsSome, get_or, set, sym, subst, ap, ◌∙◌}
use mathlib.Core.Bool.{false≢true}
use Rattle.std.proofs.lemmas.Cmp.{nat_cmp_total}
use Rattle.std.specs.declared.cmp.Ordering.TheVariants.{Equal}
use Rattle.room_base.specs.declared.numbers.Volid.{Volid}
use Rattle.room_base.proofs.OrderedNumbers.{equal_numbers}
use Rattle.media_db.specs.declared.volumes.VolumeRec.{VolumeRec}
use Rattle.media_db.specs.declared.records.Record.{Record}
use Rattle.room_base.specs.declared.numbers.Ssid.{Ssid}
use Rattle.media_db.specs.Rows.{AreRecords, HasLowerBase, ssid_of, volid_of, put_row, remove_row, update_row}
use Rattle.std.specs.Ordering.{nat_cmp}
use Rattle.room_base.specs.Ordered.{IsPlace}
use Rattle.room_base.proofs.OrderedUpdates.{updated_at, none_updated, ascends_put, ascends_removed, ascends_updated, each_put, each_removed, each_updated}

pub records_put : (row : Record) (rows : List Record) → HasLowerBase row → AreRecords rows → AreRecords (put_row row rows)
records_put row rows base are = record { ascending = ascends_put nat_cmp_total ssid_of rows row are.ascending; bases = each_put nat_cmp_total ssid_of HasLowerBase rows row base are.bases }

pub records_removed : (ssid : ℕ) (rows : List Record) → AreRecords rows → AreRecords (remove_row ssid rows)
records_removed ssid rows are = record { ascending = ascends_removed nat_cmp_total ssid_of ssid rows are.ascending; bases = each_removed nat_cmp_total ssid_of HasLowerBase ssid rows are.bases }

-- an edit changes neither the number of a record nor its base
pub record IsEdit (change : Record → Record) : Type 0 where
  pub ssid : (row : Record) → (change row).ssid ≡ row.ssid
  pub base : (row : Record) → (change row).base ≡ row.base

pub records_edited : (change : Record → Record) → IsEdit change → (ssid : ℕ) (rows : List Record) → AreRecords rows → AreRecords (update_row ssid change rows)
records_edited change edit ssid rows are = record {
  ascending = ascends_updated nat_cmp_total ssid_of change (λ row. ap (λ (s : Ssid). s.0) (edit.ssid row)) ssid rows are.ascending;
  bases = each_updated nat_cmp_total ssid_of HasLowerBase change (λ row lower. rw (edit.ssid row, edit.base row) lower) ssid rows are.bases;
}

-- a record is edited at its place
pub edited_at : (change : Record → Record) (ssid : ℕ) (rows : List Record) (at : ℕ) → AreRecords rows → IsPlace nat_cmp ssid_of ssid rows (Ok at)
    → (old new : Record) → old ≡ get_or rows at old → new ≡ change old → set rows at new ≡ update_row ssid change rows
edited_at change ssid rows at are place old new read made =
    ap (λ (row : Record). set rows at row) (made ∙ ap change read) ∙ updated_at nat_cmp_total ssid_of ssid change rows at are.ascending place old

-- where there is none, all records stay
pub edited_none : (change : Record → Record) (ssid : ℕ) (rows : List Record) (at : ℕ) → IsPlace nat_cmp ssid_of ssid rows (Err at) → rows ≡ update_row ssid change rows
edited_none change ssid rows at place = none_updated nat_cmp_total ssid_of ssid change rows at place

-- the record at its place has its ssid
pub place_ssid : (ssid : Ssid) (rows : List Record) (at : ℕ) → IsPlace nat_cmp ssid_of ssid.0 rows (Ok at) → (row : Record) → row ≡ get_or rows at row → row.ssid ≡ ssid
place_ssid ssid rows at place row read =
    let compared = subst (λ (other : Record). nat_cmp other.ssid.0 ssid.0 ≡ Equal) (sym read) (place.1 row) in
    let numbered : ℕ → Ssid = λ n. record { 0 = n } in
    ap numbered (equal_numbers row.ssid.0 ssid.0 compared)

pub place_volid : (volid : Volid) (volumes : List VolumeRec) (at : ℕ) → IsPlace nat_cmp volid_of volid.0 volumes (Ok at) → (volume : VolumeRec) → volume ≡ get_or volumes at volume → volume.volid ≡ volid
place_volid volid volumes at place volume read =
    let compared = subst (λ (other : VolumeRec). nat_cmp other.volid.0 volid.0 ≡ Equal) (sym read) (place.1 volume) in
    let numbered : ℕ → Volid = λ n. record { 0 = n } in
    ap numbered (equal_numbers volume.volid.0 volid.0 compared)

-- what isn't there is no value
pub none_there : {A : Type 0} (o : Option A) → o ≡ None → IsSome o → ⊥
none_there None none some = false≢true some
none_there (Some x) none some = cc
