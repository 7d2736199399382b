-- How a set depends on what its bases lead to.
use Rattle.std.proofs.Common.{◌≡◌, ℕ, ◌<◌, ◌≤◌, List, Some, refl, sym, subst, ◌∙◌, inl, inr, arith}
use Rattle.std.proofs.lemmas.Cmp.{nat_cmp_total}
use Rattle.room_base.proofs.OrderedLaws.{found_has_key}
use Rattle.room_base.proofs.OrderedNumbers.{equal_numbers}
use Rattle.media_db.specs.declared.records.Record.{Record}
use Rattle.media_db.specs.Rows.{AreRecords, find_record, ssid_of}
use Rattle.media_db.proofs.Chains.{base_has_lower}
use Rattle.dep_chain.specs.Depends.{HasBase, Depends, on_base, on_further, StandsOn}

-- a record that is found has the ssid
pub found_ssid : (rows : List Record) (ssid : ℕ) (row : Record) → find_record ssid rows ≡ Some row
    → row.ssid.0 ≡ ssid
found_ssid rows ssid row found = equal_numbers row.ssid.0 ssid
    (found_has_key nat_cmp_total ssid_of ssid row rows found)

pub base_lower : (rows : List Record) (ssid base : ℕ) → AreRecords rows → HasBase rows ssid base
    → base < ssid
base_lower rows ssid base are has =
    let low = base_has_lower rows ssid has.row are has.found in
    let is = found_ssid rows ssid has.row has.found in
    omega (arith, low, is, has.named)

pub depends_lower : {rows : List Record} {ssid other : ℕ} → AreRecords rows
    → Depends rows ssid other → other < ssid
depends_lower {rows = rows} are (on_base ssid other has) = base_lower rows ssid other are has
depends_lower {rows = rows} are (on_further ssid base other has more) =
    let first = base_lower rows ssid base are has in
    let then = depends_lower are more in
    omega (arith, first, then)

pub one_base : (rows : List Record) (ssid base other : ℕ) → HasBase rows ssid base
    → HasBase rows ssid other → base ≡ other
one_base rows ssid base other has and =
    let same : has.row ≡ and.row = cc (has.found, and.found) in
    sym has.named ∙ subst (λ (row : Record). has.row.base.0 ≡ row.base.0) same refl ∙ and.named

-- ---- one step of the walk

pub depends_down : {rows : List Record} {ssid other : ℕ} (base : ℕ) → HasBase rows ssid base
    → Depends rows ssid other → StandsOn rows base other
depends_down {rows = rows} base has (on_base ssid other and) = inl
    (one_base rows ssid base other has and)
depends_down {rows = rows} base has (on_further ssid next other and more) =
    inr (subst (λ (n : ℕ). Depends rows n other) (one_base rows ssid next base and has) more)

pub step_down : (rows : List Record) (ssid base other : ℕ) → HasBase rows ssid base → other < ssid
    → StandsOn rows ssid other → StandsOn rows base other
step_down rows ssid base other has above on = elim on [
  | inl same ↦ absurd (omega (arith, same, above))
  | inr depends ↦ depends_down base has depends
]

pub step_up : (rows : List Record) (ssid base other : ℕ) → HasBase rows ssid base
    → StandsOn rows base other → Depends rows ssid other
step_up rows ssid base other has on = elim on [
  | inl same ↦ subst (λ (n : ℕ). Depends rows ssid n) same (on_base ssid base has)
  | inr more ↦ on_further ssid base other has more
]

no_base : {rows : List Record} {ssid other : ℕ} → ((base : ℕ) → ¬ HasBase rows ssid base)
    → Depends rows ssid other → ⊥
no_base none (on_base ssid other has) = none other has
no_base none (on_further ssid base other has more) = none base has

pub no_base_below : (rows : List Record) (ssid other : ℕ) → ((base : ℕ) → ¬ HasBase rows ssid base)
    → other < ssid → StandsOn rows ssid other → ⊥
no_base_below rows ssid other none above on = elim on [
  | inl same ↦ omega (arith, same, above)
  | inr depends ↦ no_base none depends
]

pub none_below : (rows : List Record) (ssid other : ℕ) → AreRecords rows → ssid ≤ other
    → StandsOn rows ssid other → ssid ≡ other
none_below rows ssid other are upto on = elim on [
  | inl same ↦ same
  | inr depends ↦ let lower = depends_lower are depends in absurd (omega (arith, lower, upto))
]

-- what it depends on, and what that depends on
pub depends_onward : {rows : List Record} {ssid base other : ℕ} → Depends rows ssid base
    → Depends rows base other → Depends rows ssid other
depends_onward {other = other} (on_base ssid base has) then = on_further ssid base other has then
depends_onward {other = other} (on_further ssid next base has more) then = on_further ssid next
    other has (depends_onward more then)

pub stands_onward : (rows : List Record) (user ssid other : ℕ) → StandsOn rows user ssid
    → Depends rows ssid other → StandsOn rows user other
stands_onward rows user ssid other on depends = elim on [
  | inl same ↦ inr (subst (λ (n : ℕ). Depends rows n other) (sym same) depends)
  | inr first ↦ inr (depends_onward first depends)
]

-- what stands on a set stands on its base
pub on_the_base : (rows : List Record) (user ssid base : ℕ) → StandsOn rows user ssid
    → HasBase rows ssid base → StandsOn rows user base
on_the_base rows user ssid base on has = stands_onward rows user ssid base on
    (on_base ssid base has)
