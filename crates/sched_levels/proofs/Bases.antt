-- What follows for the base of a save.
use Rattle.std.proofs.Common.{◌≡◌, ℕ, ◌<◌, List, sym, ◌∙◌, inl, inr, arith}
use Rattle.std.specs.Prelude.{◌↔◌}
use Rattle.std.proofs.lemmas.Cmp.{nat_cmp_total}
use Rattle.room_base.proofs.OrderedLaws.{found_has_key}
use Rattle.room_base.proofs.OrderedNumbers.{equal_numbers}
use Rattle.room_base.specs.declared.numbers.Ssid.{Ssid}
use Rattle.media_db.specs.declared.records.Record.{Record}
use Rattle.media_db.specs.Rows.{AreRecords, ssid_of}
use Rattle.media_db.specs.Usable.{IsBaseSsid}
use Rattle.media_db.proofs.Chains.{base_has_lower}
use Rattle.sched_levels.specs.Bases.{IsBaseFor, full, rank_below}

pub one_base : (rows : List Record) (client set : List ℕ) (wanted level other_level : ℕ)
    (base other : Ssid) → IsBaseFor rows client set wanted level base
    → IsBaseFor rows client set wanted other_level other
    → (level ≡ other_level) × (base.0 ≡ other.0)
one_base rows client set wanted level other_level base other (inl one) (inl two) =
    let least = one.1.1 other.0 two.1.0 in
    let most = two.1.1 base.0 one.1.0 in
    (omega (arith, one.0, two.0), omega (arith, least, most))
one_base rows client set wanted level other_level base other (inl one) (inr two) = absurd
    (two.2 base.0 one.1.0)
one_base rows client set wanted level other_level base other (inr one) (inl two) = absurd
    (one.2 other.0 two.1.0)
one_base rows client set wanted level other_level base other (inr one) (inr two) =
    (omega (arith, one.0, two.0), omega (arith, one.1, two.1))

-- the ssid of a base isn't 0
positive : (rows : List Record) (client set : List ℕ) (below ssid : ℕ) → AreRecords rows
    → IsBaseSsid rows client set below ssid → 0 < ssid
positive rows client set below ssid are is =
    let lower = base_has_lower rows ssid is.row are is.found in
    let same = equal_numbers is.row.ssid.0 ssid
    (found_has_key nat_cmp_total ssid_of ssid is.row rows is.found) in
    omega (arith, lower, same)

-- the level of a save with a base isn't full
not_full : (rows : List Record) (client set : List ℕ) (ssid : ℕ)
    → ¬ IsBaseSsid rows client set (rank_below full) ssid
not_full rows client set ssid is = omega (arith, is.is.rank)

pub no_base : (rows : List Record) (client set : List ℕ) (wanted level : ℕ) (base : Ssid)
    → AreRecords rows → IsBaseFor rows client set wanted level base → (base.0 ≡ 0) ↔ (level ≡ full)
no_base rows client set wanted level base are (inl stands) = (
  λ none. absurd (omega (
    arith,
    positive rows client set (rank_below wanted) base.0 are stands.1.0,
    none,
  )),
  λ whole. let e : wanted ≡ full = sym stands.0
      ∙ whole in absurd (not_full rows client set base.0 (rw e at (stands.1.0))),
)
no_base rows client set wanted level base are (inr alone) = (λ none. alone.0, λ whole. alone.1)
