-- Records in the order of their list.
use Rattle.std.proofs.Common.{◌≡◌, ℕ, zero, suc, ◌<◌, ◌≤◌, List, [], ◌∷◌, length, get_or, Some}
use Rattle.std.proofs.Common.{refl, sym, subst, ap, ◌∙◌, inl, inr, arith}
use Rattle.std.specs.List.{AllWithin, Contains}
use Rattle.std.specs.Ordering.{nat_cmp}
use Rattle.std.proofs.lemmas.Bool.{cases_lt}
use Rattle.std.proofs.lemmas.Cmp.{nat_cmp_total}
use Rattle.room_base.specs.Ordered.{Ascends}
use Rattle.room_base.proofs.OrderedLists.{above_each, ascend_rest}
use Rattle.room_base.proofs.OrderedLaws.{found_listed, listed_found}
use Rattle.room_base.proofs.OrderedNumbers.{lesser_number}
use Rattle.media_db.specs.declared.records.Record.{Record}
use Rattle.media_db.specs.Rows.{AreRecords, find_record, ssid_of}

-- a record that is found is in the list, and the other way round
pub listed : (rows : List Record) (ssid : ℕ) (row : Record) → find_record ssid rows ≡ Some row
    → Contains rows row
listed rows ssid row found = found_listed nat_cmp_total ssid_of ssid row rows found

pub found : (rows : List Record) (row : Record) → AreRecords rows → Contains rows row
    → find_record row.ssid.0 rows ≡ Some row
found rows row are is = listed_found nat_cmp_total ssid_of row rows are.ascending is

-- what is in a list of one item
pub in_one : {X : Type 0} (x y : X) (k : ℕ) → k < length (x ∷ []) → get_or (x ∷ []) k y ≡ y → x ≡ y
in_one x y zero within is = is
in_one x y (suc k) within is = absurd (omega arith)

-- ---- order

ascends_at : (rows : List Record) → Ascends nat_cmp ssid_of rows → (i k : ℕ) (d : Record) → i < k
    → k < length rows → (get_or rows i d).ssid.0 < (get_or rows k d).ssid.0
ascends_at [] up i k d below within = absurd (omega arith)
ascends_at (row ∷ rows) up zero zero d below within = absurd (omega arith)
ascends_at (row ∷ rows) up zero (suc k) d below within =
    let inside : k < length rows = omega arith in
    lesser_number row.ssid.0 (get_or rows k d).ssid.0
    (above_each nat_cmp_total ssid_of row.ssid.0 rows up k d inside)
ascends_at (row ∷ rows) up (suc i) zero d below within = absurd (omega arith)
ascends_at (row ∷ rows) up (suc i) (suc k) d below within =
    ascends_at rows (ascend_rest nat_cmp_total ssid_of row rows up) i k d (omega arith)
    (omega arith)

pub get_default : (rows : List Record) (k : ℕ) (d other : Record) → k < length rows
    → get_or rows k d ≡ get_or rows k other
get_default [] k d other within = absurd (omega arith)
get_default (row ∷ rows) zero d other within = refl
get_default (row ∷ rows) (suc k) d other within = get_default rows k d other (omega arith)

-- records at a lower and at a higher place
pub higher_at : (rows : List Record) (i k : ℕ) (low high : Record) → AreRecords rows → i < k
    → k < length rows → get_or rows i low ≡ low → get_or rows k high ≡ high
    → low.ssid.0 < high.ssid.0
higher_at rows i k low high are below within at_low at_high =
    let up = ascends_at rows are.ascending i k low below within in
    let other : get_or rows k low ≡ high = get_default rows k low high within ∙ at_high in
    let one = ap (λ (row : Record). row.ssid.0) at_low in
    let two = ap (λ (row : Record). row.ssid.0) other in
    omega (arith, up, one, two)

pub place_order : (rows : List Record) (i k : ℕ) (one other : Record) → AreRecords rows
    → i < length rows → k < length rows → get_or rows i one ≡ one → get_or rows k other ≡ other
    → one.ssid.0 ≡ other.ssid.0 → i ≡ k
place_order rows i k one other are in_i in_k at_one at_other same = elim (cases_lt i k) [
  | inl below ↦
      let up = higher_at rows i k one other are below in_k at_one at_other in
      absurd (omega (arith, up, same))
  | inr above ↦ elim (cases_lt k i) [
    | inl under ↦
        let up = higher_at rows k i other one are under in_i at_other at_one in
        absurd (omega (arith, up, same))
    | inr upto ↦ omega (arith, above, upto)
  ]
]

pub same_at : (rows : List Record) (k : ℕ) (one other : Record) → k < length rows
    → get_or rows k one ≡ one → get_or rows k other ≡ other → one ≡ other
same_at rows k one other within at_one at_other = sym at_one ∙ get_default rows k one other within
    ∙ at_other

-- ---- the first record that has something

module _ (P : Record → Type 0) (rows : List Record) (at : ℕ)
    (none : AllWithin (λ row. ¬ P row) rows 0 at) where
  -- one that has it isn't before the place
  pub not_before : (k : ℕ) (row : Record) → k < length rows → get_or rows k row ≡ row → P row
      → at ≤ k
  not_before k row within is has = elim (cases_lt k at) [
    | inl before ↦ absurd (none k row (omega arith) before (subst P (sym is) has))
    | inr behind ↦ behind
  ]

  pub first_is_least : AreRecords rows → (first : Record) → at < length rows
      → first ≡ get_or rows at first → (row : Record) → Contains rows row → P row
      → first.ssid.0 ≤ row.ssid.0
  first_is_least are first inside read row is has =
      let behind = not_before is.0 row is.1 is.2 has in
      elim (cases_lt at is.0) [
        | inl below ↦ let up = higher_at rows at is.0 first row are below is.1 (sym read) is.2 in
            omega (arith, up)
        | inr upto ↦
            let same : at ≡ is.0 = omega (arith, behind, upto) in
            let place : get_or rows at row ≡ row = subst (λ (k : ℕ). get_or rows k row ≡ row)
            (sym same) is.2 in
            let one = ap (λ (row : Record). row.ssid.0)
            (same_at rows at first row inside (sym read) place) in
            omega (arith, one)
      ]

  pub none_at_all : length rows ≤ at → (row : Record) → Contains rows row → P row → ⊥
  none_at_all end row is has = let behind = not_before is.0 row is.1 is.2 has in let within = is.1
      in omega (arith, behind, within, end)
