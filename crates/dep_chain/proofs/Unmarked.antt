-- The sets without a mark are those that can be purged.
use Rattle.std.proofs.Common.{◌≡◌, ℕ, suc, ◌+◌, ◌<◌, ◌⊎◌, Bool, true, false, List, [], ◌∷◌, ◌++◌}
use Rattle.std.proofs.Common.{Result, Ok, Err, IfOk, length, get_or, refl, sym, subst, ap, ◌∙◌, inl}
use Rattle.std.proofs.Common.{inr, arith}
use mathlib.Core.Bool.{false≢true}
use Rattle.std.specs.List.{Contains}
use Rattle.std.specs.Ordering.{nat_cmp}
use Rattle.std.proofs.lemmas.Bool.{cases_lt}
use Rattle.std.proofs.lemmas.List.Elements.{Contains-append_left, Contains-append_right}
use Rattle.std.proofs.lemmas.List.Elements.{Contains-append_cases}
use Rattle.room_base.specs.declared.numbers.Ssid.{Ssid}
use Rattle.room_base.specs.Ordered.{Ascends, AscendsFrom}
use Rattle.room_base.proofs.OrderedNumbers.{compares_less}
use Rattle.media_db.specs.declared.records.Record.{Record}
use Rattle.media_db.specs.declared.records.RecordState.TheVariants.{Complete}
use Rattle.media_db.specs.Rows.{AreRecords}
use Rattle.dep_chain.specs.declared.open_set.OpenSet.{OpenSet}
use Rattle.dep_chain.specs.Purging.{AreThePurgeable, IsPurgeable, ssid_number}
use Rattle.dep_chain.specs.Marks.{AreMarks, AreUnmarked, IsAt, IsUnmarked, StaysUnder}
use Rattle.dep_chain.proofs.Depending.{found_ssid}
use Rattle.dep_chain.proofs.Listed.{found, higher_at, in_one, same_at}
use Rattle.dep_chain.proofs.Marking.{at_found, found_at}
use Rattle.dep_chain.proofs.Purges.{is_purgeable, not_both}

pub ok_weaker : {T E : Type 0} (r : Result T E) (P Q : T → Type 0) → ((x : T) → P x → Q x)
    → IfOk r P → IfOk r Q
ok_weaker (Ok x) P Q weaker is = weaker x is
ok_weaker (Err e) P Q weaker is = tt

-- ---- one set more

from_more : (x : Ssid) (low : ℕ) (xs : List Ssid) → AscendsFrom nat_cmp ssid_number low xs
    → low < x.0 → ((y : Ssid) → Contains xs y → y.0 < x.0)
    → AscendsFrom nat_cmp ssid_number low (xs ++ x ∷ [])
from_more x low [] up below each = (compares_less low x.0 below, tt)
from_more x low (y ∷ ys) up below each = (
  up.0,
  from_more x y.0 ys up.1 (each y (0, omega arith, refl))
      (λ z is. let within = is.1 in each z (suc is.0, omega (arith, within), is.2)),
)

ascends_more : (x : Ssid) (xs : List Ssid) → Ascends nat_cmp ssid_number xs
    → ((y : Ssid) → Contains xs y → y.0 < x.0) → Ascends nat_cmp ssid_number (xs ++ x ∷ [])
ascends_more x [] up each = tt
ascends_more x (y ∷ ys) up each = from_more x y.0 ys up (each y (0, omega arith, refl))
    (λ z is. let within = is.1 in each z (suc is.0, omega (arith, within), is.2))

module _ (rows : List Record) (are : AreRecords rows) (marks : List Bool) where
  wider : (at : ℕ) (ssid : Ssid) → IsUnmarked rows marks at ssid
      → IsUnmarked rows marks (at + 1) ssid
  wider at ssid is = record {
    place = is.place;
    row = is.row;
    before =
        (let under = is.before in omega (arith, under));
    at = is.at;
    is = is.is;
    complete =
        is.complete;
    free = is.free;
  }

  before_or_at : (at : ℕ) (row : Record) (ssid : Ssid) → at < length rows → row ≡ get_or rows at row
      → IsUnmarked rows marks (at + 1) ssid → IsUnmarked rows marks at ssid
      ⊎ ((row.ssid ≡ ssid) × (row.state ≡ Complete) × (get_or marks at false ≡ false))
  before_or_at at row ssid within read is = elim (cases_lt is.place at) [
    | inl under ↦ inl (record {
      place = is.place;
      row = is.row;
      before = under;
      at = is.at;
      is =
          is.is;
      complete = is.complete;
      free = is.free;
    })
    | inr upto ↦
        let below = is.before in
        let same : is.place ≡ at = omega (arith, upto, below) in
        let here : get_or rows at is.row ≡ is.row = subst (λ (k : ℕ). get_or rows k is.row ≡ is.row)
        same is.at.is in
        let one : is.row ≡ row = same_at rows at is.row row within here (sym read) in
        inr (
          subst (λ (r : Record). r.ssid ≡ ssid) one is.is,
          subst (λ (r : Record). r.state ≡ Complete) one is.complete,
          subst (λ (k : ℕ). get_or marks k false ≡ false) same is.free,
        )
  ]

  pub unmarked_more : (at : ℕ) (row : Record) (ssids : List Ssid) → at < length rows
      → row ≡ get_or rows at row → row.state ≡ Complete → get_or marks at false ≡ false
      → AreUnmarked rows marks at ssids → AreUnmarked rows marks (at + 1) (ssids ++ row.ssid ∷ [])
  unmarked_more at row ssids within read complete free before =
      let here : IsAt rows at row = record { within = within; is = sym read } in
      record {
        ascending = ascends_more row.ssid ssids before.ascending (λ ssid is.
            let one = before.only ssid is in
            let up = higher_at rows one.place at one.row row are one.before within one.at.is
            (sym read) in
            subst (λ (s : Ssid). s.0 < row.ssid.0) one.is up);
        only = λ ssid is. elim (Contains-append_cases ssids (row.ssid ∷ []) ssid is) [
          | inl was ↦ wider at ssid (before.only ssid was)
          | inr new ↦ record {
            place = at;
            row = row;
            before = omega arith;
            at = here;
            is = in_one
                row.ssid ssid new.0 new.1 new.2;
            complete = complete;
            free = free;
          }
        ];
        all = λ ssid is. elim (before_or_at at row ssid within read is) [
          | inl was ↦ Contains-append_left ssids (row.ssid ∷ []) ssid (before.all ssid was)
          | inr new ↦ Contains-append_right ssids (row.ssid ∷ []) ssid (0, omega arith, new.0)
        ];
      }

  pub unmarked_same : (at : ℕ) (row : Record) (ssids : List Ssid) → at < length rows
      → row ≡ get_or rows at row → (row.state ≡ Complete → get_or marks at false ≡ false → ⊥)
      → AreUnmarked rows marks at ssids → AreUnmarked rows marks (at + 1) ssids
  unmarked_same at row ssids within read isnt before = record {
    ascending = before.ascending;
    only = λ ssid is. wider at ssid (before.only ssid is);
    all = λ ssid is. elim (before_or_at at row ssid within read is) [
      | inl was ↦ before.all ssid was
      | inr new ↦ absurd (isnt new.1 new.2)
    ];
  }

  pub none_unmarked : AreUnmarked rows marks 0 []
  none_unmarked = record {
    ascending = tt;
    only = λ ssid is. let within = is.1 in absurd (omega (arith, within));
    all = λ ssid is. let before = is.before in absurd (omega (arith, before));
  }

  -- ---- all of them

  module _ (sessions : List OpenSet) (moment : ℕ) (marked : AreMarks rows sessions moment marks)
    where
      can_be_purged : (ssid : Ssid) → IsUnmarked rows marks (length rows) ssid
          → IsPurgeable rows sessions moment ssid.0
      can_be_purged ssid is =
          let free : ¬ StaysUnder rows sessions moment is.row.ssid.0 = λ under. false≢true
          (sym is.free ∙ (marked is.place is.row is.at).1 under) in
          subst (λ (s : Ssid). IsPurgeable rows sessions moment s.0) is.is
          (is_purgeable rows sessions moment are is.row.ssid.0
          (is.row, at_found rows are is.place is.row is.at, is.complete)
          (λ by. free (record {
            user = by.1.ssid.0;
            on = by.4.1;
            stays = inl (by.1, found rows by.1 are (by.0, by.2, by.3), by.4.0);
          }))
          (λ by. free (record {
            user = by.1.ssid.0;
            on = by.4;
            stays = inr
                (by.0, by.1, by.2, by.3, refl);
          })))

      not_under : (ssid : ℕ) → IsPurgeable rows sessions moment ssid
          → ¬ StaysUnder rows sessions moment ssid
      not_under ssid is under = elim under.stays [
        | inl browsed ↦ not_both moment browsed.0
            (is.browsed under.user browsed.0 under.on browsed.1 browsed.2.0) browsed.2
        | inr session ↦ is.closed under.user under.on session
      ]

      no_mark : (mark : Bool) → (mark ≡ true → ⊥) → mark ≡ false
      no_mark true isnt = absurd (isnt refl)
      no_mark false isnt = refl

      has_no_mark : (ssid : Ssid) → IsPurgeable rows sessions moment ssid.0
          → IsUnmarked rows marks (length rows) ssid
      has_no_mark ssid is =
          let at = found_at rows are ssid.0 is.row is.found in
          let key = found_ssid rows ssid.0 is.row is.found in
          let numbered : ℕ → Ssid = λ n. record { 0 = n } in
          record {
            place = at.0;
            row = is.row;
            before = at.1.within;
            at = at.1;
            is = ap numbered key;
            complete = is.complete;
            free = no_mark (get_or marks at.0 false) (λ mark.
                not_under ssid.0 is (subst (λ (n : ℕ). StaysUnder rows sessions moment n) key
                ((marked at.0 is.row at.1).0 mark)));
          }

      pub unmarked_purgeable : (ssids : List Ssid) → AreUnmarked rows marks (length rows) ssids
          → AreThePurgeable rows sessions moment ssids
      unmarked_purgeable ssids are_unmarked = record {
        ascending = are_unmarked.ascending;
        each = λ ssid. (
          λ is. can_be_purged ssid (are_unmarked.only ssid is),
          λ is. are_unmarked.all ssid (has_no_mark ssid is),
        );
      }
