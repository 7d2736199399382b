-- How chains of bases make a record usable, and which base is the last one.
use Rattle.std.proofs.Common.{◌≡◌, ◌≢◌, ℕ, ◌<◌, List, [], ◌∷◌, ◌++◌, Some, None, sym, subst, ◌∙◌, inl, inr, arith}
use Rattle.std.specs.List.{AllByRecursion}
use Rattle.std.proofs.lemmas.Bool.{cases_lt}
use Rattle.std.proofs.lemmas.List.{append-nil, append_assoc}
use Rattle.media_db.specs.declared.records.Record.{Record}
use Rattle.std.specs.Ordering.{nat_cmp}
use Rattle.std.specs.declared.cmp.Ordering.TheVariants.{Less}
use Rattle.std.proofs.lemmas.Cmp.{nat_cmp_total}
use Rattle.room_base.specs.Ordered.{Ascends}
use Rattle.room_base.proofs.OrderedLaws.{each_weaker, each_found, each_middle, found_has_key, less_before, middle_found, found_behind}
use Rattle.room_base.proofs.OrderedNumbers.{equal_numbers, compares_less}
use Rattle.media_db.specs.Rows.{AreRecords, HasLowerBase, find_record, ssid_of}
use Rattle.media_db.specs.Usable.{IsRestorable, Usable, alone, based, CanBeBase, IsLastBase}

pub usable_ready : {rows : List Record} {row : Record} → Usable rows row → IsRestorable row
usable_ready (alone row ready none) = ready
usable_ready (based row base ready found more) = ready

-- a record that doesn't stand alone is usable by its base
pub usable_base : {rows : List Record} {row : Record} → Usable rows row → row.base.0 ≢ 0 → (base : Record) × (find_record row.base.0 rows ≡ Some base) × Usable rows base
usable_base (alone row ready none) some = absurd (some none)
usable_base (based row base ready found more) some = (base, found, more)

pub usable_down : {rows : List Record} {row : Record} (base : Record) → Usable rows row → row.base.0 ≢ 0 → find_record row.base.0 rows ≡ Some base → Usable rows base
usable_down {rows = rows} base usable some found =
    let under = usable_base usable some in
    let same : under.0 ≡ base = cc (under.1, found) in
    subst (λ (row : Record). Usable rows row) same under.2

pub usable_stops : {rows : List Record} {row : Record} → Usable rows row → row.base.0 ≢ 0 → find_record row.base.0 rows ≡ None → ⊥
usable_stops usable some none = let under = usable_base usable some in cc (under.1, none)

-- a base that is found is lower
pub base_is_lower : (rows : List Record) (row base : Record) → HasLowerBase row → find_record row.base.0 rows ≡ Some base → base.ssid.0 < row.ssid.0
base_is_lower rows row base lower found = omega (arith, equal_numbers base.ssid.0 row.base.0 (found_has_key nat_cmp_total ssid_of row.base.0 base rows found))

pub base_has_lower : (rows : List Record) (ssid : ℕ) (base : Record) → AreRecords rows → find_record ssid rows ≡ Some base → HasLowerBase base
base_has_lower rows ssid base are found = each_found nat_cmp_total ssid_of HasLowerBase ssid base rows are.bases found

-- ---- the last base

module _ (rows : List Record) (client set : List ℕ) (below : ℕ) where
  -- the records behind some first ones are no bases
  pub record IsBehind (front : List Record) : Type 0 where
    pub back : List Record
    pub parts : rows ≡ front ++ back
    pub none : AllByRecursion (λ row. ¬ (CanBeBase rows client set below row)) back

  pub behind_all : IsBehind rows
  behind_all = record { back = []; parts = sym (append-nil rows); none = tt }

  pub behind_more : (before : List Record) (row : Record) → ¬ (CanBeBase rows client set below row) → IsBehind (before ++ row ∷ []) → IsBehind before
  behind_more before row isnt behind = record {
    back = row ∷ behind.back;
    parts = behind.parts ∙ append_assoc before (row ∷ []) behind.back;
    none = (isnt, behind.none);
  }

  pub lower_base : (before : List Record) (row : Record) → AreRecords rows → IsBehind (before ++ row ∷ []) → HasLowerBase row
  lower_base before row are behind =
      let parts = behind.parts ∙ append_assoc before (row ∷ []) behind.back in
      each_middle nat_cmp_total ssid_of HasLowerBase before row behind.back (subst (λ (all : List Record). AllByRecursion HasLowerBase all) parts are.bases)

  pub last_of : (before : List Record) (row : Record) → AreRecords rows → IsBehind (before ++ row ∷ []) → CanBeBase rows client set below row → IsLastBase rows client set below (Some row.ssid)
  last_of before row are behind is =
      let parts = behind.parts ∙ append_assoc before (row ∷ []) behind.back in
      let up : Ascends nat_cmp ssid_of (before ++ row ∷ behind.back) = subst (λ (all : List Record). Ascends nat_cmp ssid_of all) parts are.ascending in
      let found : find_record row.ssid.0 (before ++ row ∷ behind.back) ≡ Some row = middle_found nat_cmp_total ssid_of before row behind.back up in (
        record { row = row; found = subst (λ (all : List Record). find_record row.ssid.0 all ≡ Some row) (sym parts) found; is = is },
        λ ssid other. elim (cases_lt row.ssid.0 ssid) [
          | inr at_most ↦ at_most
          | inl above ↦
              let lesser : nat_cmp row.ssid.0 ssid ≡ Less = compares_less row.ssid.0 ssid above in
              let less : AllByRecursion (λ y. nat_cmp y.ssid.0 ssid ≡ Less) before = each_weaker (λ y. nat_cmp y.ssid.0 row.ssid.0 ≡ Less) (λ y. nat_cmp y.ssid.0 ssid ≡ Less) (λ y lower. nat_cmp_total.trans y.ssid.0 row.ssid.0 ssid lower lesser) before (less_before nat_cmp_total ssid_of before row behind.back up) in
              let there : find_record ssid (before ++ row ∷ behind.back) ≡ Some other.row = subst (λ (all : List Record). find_record ssid all ≡ Some other.row) parts other.found in
              let later : find_record ssid (row ∷ behind.back) ≡ Some other.row = sym (found_behind nat_cmp_total ssid_of ssid before (row ∷ behind.back) less) ∙ there in
              let last : find_record ssid behind.back ≡ Some other.row = sym (found_behind nat_cmp_total ssid_of ssid (row ∷ []) behind.back (lesser, tt)) ∙ later in
              absurd (each_found nat_cmp_total ssid_of (λ row. ¬ (CanBeBase rows client set below row)) ssid other.row behind.back behind.none last other.is)
        ],
      )

  pub no_last : IsBehind [] → IsLastBase rows client set below None
  no_last behind ssid other =
      each_found nat_cmp_total ssid_of (λ row. ¬ (CanBeBase rows client set below row)) ssid other.row behind.back behind.none (subst (λ (all : List Record). find_record ssid all ≡ Some other.row) behind.parts other.found) other.is
