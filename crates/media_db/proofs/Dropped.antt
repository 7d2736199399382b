-- What is left once the copies on a volume went.
use Rattle.std.proofs.Common.{◌≡◌, ℕ, Bool, true, false, not, cond, List, [], ◌∷◌, Option, Some, None, refl, sym, subst, ap, ◌∙◌, arith}
use Rattle.std.specs.List.{AllByRecursion, filter, retain_mut}
use Rattle.std.specs.List.Retain.{RetainsInTurn}
use Rattle.std.specs.Option.{option_and_then}
use Rattle.std.specs.Ordering.{nat_cmp, eq_by_cmp, is_gt}
use Rattle.std.specs.declared.cmp.Ordering.TheVariants.{Less, Equal, Greater}
use Rattle.std.specs.declared.cmp.Ordering.{Ordering}
use Rattle.std.specs.Ordering.{is_eq}
use Rattle.room_base.proofs.OrderedLaws.{each_above, each_found, found_has_key}
use Rattle.room_base.proofs.OrderedNumbers.{equal_numbers, lesser_number}
use Rattle.std.proofs.lemmas.Bool.{true≢false, cond_both, cond-true, cond-false}
use Rattle.std.proofs.lemmas.Cmp.{nat_cmp_total}
use Rattle.room_base.specs.Ordered.{AscendsFrom, Ascends}
use Rattle.room_base.proofs.OrderedLists.{ascend_alone, ascend_rest, from_lower}
use Rattle.media_db.specs.declared.copies.SetCopy.{SetCopy}
use Rattle.media_db.specs.declared.records.Record.{Record}
use Rattle.media_db.specs.Edits.{drop_copies_on, has_copy_if_complete, is_done_on, without_copies_on}
use Rattle.media_db.specs.Rows.{AreRecords, HasLowerBase, find_record, ssid_of}

equal_is : (order : Ordering) → is_eq order ≡ true → order ≡ Equal
equal_is Less e = absurd (true≢false (sym e))
equal_is Equal e = refl
equal_is Greater e = absurd (true≢false (sym e))

module _ (volid : ℕ) where
  abbrev stays : Record → Bool
  stays row = has_copy_if_complete (without_copies_on volid row)

  abbrev kept : Record → Option Record
  kept row = cond (stays row) (Some (without_copies_on volid row)) None

  -- ---- what each has that is left

  pub each_left : (P : Record → Type 0) → ((row : Record) → stays row ≡ true → P (without_copies_on volid row)) → (rows : List Record) → AllByRecursion P (drop_copies_on volid rows)
  each_left P has [] = tt
  each_left P has (row ∷ rows) =
      cond_both (stays row) (without_copies_on volid row ∷ drop_copies_on volid rows) (drop_copies_on volid rows) (AllByRecursion P)
      (λ is. (has row is, each_left P has rows)) (λ gone. each_left P has rows)

  not_true : (test : Bool) → not test ≡ true → test ≡ false
  not_true true is = sym is
  not_true false is = refl

  pub no_copy_on : (copies : List SetCopy) → AllByRecursion (λ copy. is_done_on volid copy ≡ false) (filter (λ copy. not (is_done_on volid copy)) copies)
  no_copy_on [] = tt
  no_copy_on (copy ∷ copies) =
      cond_both (not (is_done_on volid copy)) (copy ∷ filter (λ copy. not (is_done_on volid copy)) copies) (filter (λ copy. not (is_done_on volid copy)) copies) (AllByRecursion (λ copy. is_done_on volid copy ≡ false))
      (λ other. (not_true (is_done_on volid copy) other, no_copy_on copies)) (λ gone. no_copy_on copies)

  -- ---- what stays ordered

  pub dropped_from : (low : ℕ) (rows : List Record) → AscendsFrom nat_cmp ssid_of low rows → AscendsFrom nat_cmp ssid_of low (drop_copies_on volid rows)
  dropped_from low [] a = tt
  dropped_from low (row ∷ rows) a =
      let rest = dropped_from row.ssid.0 rows a.1 in
      cond_both (stays row) (without_copies_on volid row ∷ drop_copies_on volid rows) (drop_copies_on volid rows) (AscendsFrom nat_cmp ssid_of low)
      (λ is. (a.0, rest))
      (λ gone. from_lower nat_cmp_total ssid_of row.ssid.0 low (drop_copies_on volid rows) (ap is_gt a.0) rest)

  dropped_ascend : (rows : List Record) → Ascends nat_cmp ssid_of rows → Ascends nat_cmp ssid_of (drop_copies_on volid rows)
  dropped_ascend [] a = tt
  dropped_ascend (row ∷ rows) a =
      let rest = dropped_from row.ssid.0 rows a in
      cond_both (stays row) (without_copies_on volid row ∷ drop_copies_on volid rows) (drop_copies_on volid rows) (Ascends nat_cmp ssid_of)
      (λ is. rest)
      (λ gone. ascend_alone nat_cmp_total ssid_of row.ssid.0 (drop_copies_on volid rows) rest)

  dropped_bases : (rows : List Record) → AllByRecursion HasLowerBase rows → AllByRecursion HasLowerBase (drop_copies_on volid rows)
  dropped_bases [] each = tt
  dropped_bases (row ∷ rows) each =
      cond_both (stays row) (without_copies_on volid row ∷ drop_copies_on volid rows) (drop_copies_on volid rows) (AllByRecursion HasLowerBase)
      (λ is. (each.0, dropped_bases rows each.1)) (λ gone. dropped_bases rows each.1)

  pub records_dropped : (rows : List Record) → AreRecords rows → AreRecords (drop_copies_on volid rows)
  records_dropped rows are = record { ascending = dropped_ascend rows are.ascending; bases = dropped_bases rows are.bases }

  -- ---- what is found

  none_by : (low ssid : ℕ) (rows : List Record) → AscendsFrom nat_cmp ssid_of low rows → low ≡ ssid → (found : Option Record) → find_record ssid rows ≡ found → find_record ssid rows ≡ None
  none_by low ssid rows a same None is = is
  none_by low ssid rows a same (Some row) is =
      let below = lesser_number low row.ssid.0 (each_found nat_cmp_total ssid_of (λ one. nat_cmp low one.ssid.0 ≡ Less) ssid row rows (each_above nat_cmp_total ssid_of low rows a) is) in
      let has = equal_numbers row.ssid.0 ssid (found_has_key nat_cmp_total ssid_of ssid row rows is) in
      absurd (omega arith)

  pub found_dropped : (ssid : ℕ) (rows : List Record) → Ascends nat_cmp ssid_of rows → find_record ssid (drop_copies_on volid rows) ≡ option_and_then kept (find_record ssid rows)
  found_dropped ssid [] a = refl
  found_dropped ssid (row ∷ rows) a =
      by (stays row) refl (eq_by_cmp nat_cmp row.ssid.0 ssid) refl (found_dropped ssid rows (ascend_rest nat_cmp_total ssid_of row rows a))
    where
      by : (left : Bool) → stays row ≡ left → (here : Bool) → eq_by_cmp nat_cmp row.ssid.0 ssid ≡ here
          → find_record ssid (drop_copies_on volid rows) ≡ option_and_then kept (find_record ssid rows)
          → find_record ssid (cond left (without_copies_on volid row ∷ drop_copies_on volid rows) (drop_copies_on volid rows)) ≡ option_and_then kept (cond here (Some row) (find_record ssid rows))
      by true is true here more =
          cond-true (eq_by_cmp nat_cmp row.ssid.0 ssid) (Some (without_copies_on volid row)) (find_record ssid (drop_copies_on volid rows)) here
          ∙ sym (cond-true (stays row) (Some (without_copies_on volid row)) None is)
      by true is false other more =
          cond-false (eq_by_cmp nat_cmp row.ssid.0 ssid) (Some (without_copies_on volid row)) (find_record ssid (drop_copies_on volid rows)) other ∙ more
      by false is true here more =
          none_by row.ssid.0 ssid (drop_copies_on volid rows) (dropped_from row.ssid.0 rows a) (equal_numbers row.ssid.0 ssid (equal_is (nat_cmp row.ssid.0 ssid) here)) (find_record ssid (drop_copies_on volid rows)) refl
          ∙ sym (cond-false (stays row) (Some (without_copies_on volid row)) None is)
      by false is false other more = more

-- what is left where each call answers by a test, leaves a change, and stays as it is itself
pub retained : {S X : Type 0} (R : S → X → Bool → S → X → Type 0) (test : X → Bool) (change : X → X) (f : S)
    → ((x : X) (b : Bool) (t : S) (y : X) → R f x b t y → (b ≡ test x) × (y ≡ change x) × (t ≡ f))
    → (xs ys : List X) → RetainsInTurn R f xs ys → ys ≡ retain_mut test change xs
retained R test change f says [] ys is = is
retained {S = S} {X = X} R test change f says (x ∷ xs) ys (b, t, y, called, zs, rest, is) =
    let said = says x b t y called in
    let more = retained R test change f says xs zs (subst (λ (s : S). RetainsInTurn R s xs zs) said.2 rest) in
    is ∙ ap (λ (c : Bool). cond c (y ∷ zs) zs) said.0
    ∙ ap (λ (first : X). cond (test x) (first ∷ zs) zs) said.1
    ∙ ap (λ (others : List X). cond (test x) (change x ∷ others) others) more
