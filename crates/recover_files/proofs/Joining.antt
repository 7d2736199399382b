-- A range and the one behind it.
use Rattle.std.proofs.Common.{◌≡◌, ℕ, ◌+◌, ◌-◌, List, ◌++◌, length, refl, sym, subst, arith, inl, inr}
use Rattle.std.specs.Prelude.{Result, Ok, Err, slice_index}
use Rattle.std.proofs.Math.ListN.{get_or-append}
use Rattle.std.proofs.lemmas.Bool.{cases_lt}
use Rattle.std.proofs.lemmas.List.{length-append, get_or-append_right}
use Rattle.media_db.specs.declared.records.Record.{Record}
use Rattle.recover_files.specs.StreamAt.{Shelf, StreamAt, AreBytes, FailsFirst, GivesRange}
use Rattle.recover_files.specs.declared.fault.RangeFault.{RangeFault}
use Rattle.recover_files.specs.declared.fault.RangeFault.TheVariants as faults

-- bytes, and so many behind them
bytes_join : (shelf : Shelf) (rows : List Record) (ssid from count : ℕ) (first second : List ℕ) → AreBytes shelf rows ssid from (length first) first
    → AreBytes shelf rows ssid (from + length first) count second → AreBytes shelf rows ssid from (length first + count) (first ++ second)
bytes_join shelf rows ssid from count first second front back i below = elim (cases_lt i (length first)) [
  | inl before ↦ (
      let same : slice_index (first ++ second) i ≡ slice_index first i = get_or-append first second 0 i before in
      subst (λ (b : ℕ). StreamAt shelf rows ssid (from + i) (Ok b)) (sym same) (front i before))
  | inr behind ↦ (
      let same : slice_index (first ++ second) i ≡ slice_index second (i - length first) =
      get_or-append_right first second (length first) i 0 refl behind in
      let there : from + length first + (i - length first) ≡ from + i = omega (arith, behind) in
      let here = subst (λ (n : ℕ). StreamAt shelf rows ssid n (Ok (slice_index second (i - length first)))) there
      (back (i - length first) (omega (arith, below, behind))) in
      subst (λ (b : ℕ). StreamAt shelf rows ssid (from + i) (Ok b)) (sym same) here)
]

fails_join : (shelf : Shelf) (rows : List Record) (ssid from : ℕ) (first second : List ℕ) (fault : RangeFault) → AreBytes shelf rows ssid from (length first) first
    → FailsFirst shelf rows ssid (from + length first) second fault → FailsFirst shelf rows ssid from (first ++ second) fault
fails_join shelf rows ssid from first second fault front back =
    let there : from + length first + back.count ≡ from + (length first + back.count) = omega arith in
    record {
      count = length first + back.count;
      within = omega (arith, back.within, length-append first second);
      before = bytes_join shelf rows ssid from back.count first second front back.before;
      fails = subst (λ (n : ℕ). StreamAt shelf rows ssid n (Err fault)) there back.fails;
    }

pub ranges_behind : (shelf : Shelf) (rows : List Record) (ssid from : ℕ) (first second : List ℕ) (answer : Result (Unit {0}) RangeFault)
    → AreBytes shelf rows ssid from (length first) first → GivesRange shelf rows ssid (from + length first) second answer
    → GivesRange shelf rows ssid from (first ++ second) answer
ranges_behind shelf rows ssid from first second (Ok done) front back =
    subst (λ (n : ℕ). AreBytes shelf rows ssid from n (first ++ second)) (sym (length-append first second))
    (bytes_join shelf rows ssid from (length second) first second front back)
ranges_behind shelf rows ssid from first second (Err (faults.Offsite volid)) front back = fails_join shelf rows ssid from first second (faults.Offsite volid) front back
ranges_behind shelf rows ssid from first second (Err (faults.Damaged volid block)) front back = fails_join shelf rows ssid from first second (faults.Damaged volid block) front back
ranges_behind shelf rows ssid from first second (Err (faults.Failed file)) front back = tt

pub range_front : (shelf : Shelf) (rows : List Record) (ssid from : ℕ) (first second : List ℕ) (fault : RangeFault) → FailsFirst shelf rows ssid from first fault
    → FailsFirst shelf rows ssid from (first ++ second) fault
range_front shelf rows ssid from first second fault fails = record {
  count = fails.count;
  within = omega (arith, fails.within, length-append first second);
  before = λ i below.
      (let same : slice_index (first ++ second) i ≡ slice_index first i = get_or-append first second 0 i (omega (arith, below, fails.within)) in
      subst (λ (b : ℕ). StreamAt shelf rows ssid (from + i) (Ok b)) (sym same) (fails.before i below));
  fails = fails.fails;
}
