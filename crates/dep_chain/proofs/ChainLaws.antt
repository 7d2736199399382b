-- A set's chain, where it breaks, and what it has.
use Rattle.std.proofs.Common.{◌≡◌, ◌≢◌, ℕ, zero, suc, ◌<◌, ◌⊎◌, ◌↔◌, true, List, [], ◌∷◌, length}
use Rattle.std.proofs.Common.{get_or, refl, sym, subst, ap, ◌∙◌, inl, inr, arith}
use mathlib.Core.Bool.{false≢true}
use Rattle.std.specs.List.{Contains}
use Rattle.room_base.specs.declared.numbers.Ssid.{Ssid}
use Rattle.media_db.specs.declared.records.Record.{Record}
use Rattle.dep_chain.specs.declared.chains.ChainFault.{ChainFault}
use Rattle.dep_chain.specs.declared.chains.ChainFault.TheVariants.{BaseGone, Purged}
use Rattle.dep_chain.specs.Chains.{IsComplete, IsWhole, IsChain, alone, based, Breaks, gone, purged}
use Rattle.dep_chain.specs.Chains.{lower}
use Rattle.dep_chain.specs.Depends.{HasBase, Depends, on_base, on_further, StandsOn}
use Rattle.dep_chain.proofs.Depending.{depends_down, step_up}
use Rattle.dep_chain.proofs.Listed.{in_one}

same_row : {rows : List Record} {ssid : ℕ} (row other : Record) → IsComplete rows ssid row
    → IsComplete rows ssid other → row ≡ other
same_row row other is also = let one = is.found in let two = also.found in cc (one, two)

-- ---- what a chain begins with

below_alone : {rows : List Record} {ssid : Ssid} {ssids : List Ssid} (row : Record)
    → IsWhole rows ssid.0 row → row.base.0 ≡ 0 → IsChain rows ssid ssids → ssids ≡ ssid ∷ []
below_alone row whole none (alone ssid other also still) = refl
below_alone row whole none (based ssid other below also some is) =
    let same = same_row row other whole.complete also.complete in
    absurd (some (subst (λ (r : Record). r.base.0 ≡ 0) same none))

below_based : {rows : List Record} {ssid : Ssid} {ssids : List Ssid} (row : Record)
    → IsWhole rows ssid.0 row → row.base.0 ≢ 0 → IsChain rows ssid ssids → (below : List Ssid)
    × IsChain rows row.base below × (ssids ≡ ssid ∷ below)
below_based row whole some (alone ssid other also none) =
    let same = same_row row other whole.complete also.complete in
    absurd (some (subst (λ (r : Record). r.base.0 ≡ 0) (sym same) none))
below_based {rows = rows} row whole some (based ssid other below also more is) =
    let same = same_row row other whole.complete also.complete in
    (below, subst (λ (r : Record). IsChain rows r.base below) (sym same) is, refl)

pub one_chain : {rows : List Record} {ssid : Ssid} {ssids others : List Ssid}
    → IsChain rows ssid ssids → IsChain rows ssid others → ssids ≡ others
one_chain (alone ssid row whole none) other = sym (below_alone row whole none other)
one_chain (based ssid row below whole some is) other =
    let rest = below_based row whole some other in
    ap (λ (ssids : List Ssid). ssid ∷ ssids) (one_chain is rest.1) ∙ sym rest.2

-- ---- where it breaks

breaks_below : {rows : List Record} {ssid : Ssid} {fault : ChainFault} (row : Record)
    → IsWhole rows ssid.0 row → Breaks rows ssid fault → (row.base.0 ≢ 0)
    × Breaks rows row.base fault
breaks_below row whole (gone ssid none) = absurd (none row whole.complete)
breaks_below row whole (purged ssid other is given_up) =
    let same = same_row row other whole.complete is in
    absurd (false≢true (sym whole.kept
    ∙ subst (λ (r : Record). r.purged ≡ true) (sym same) given_up))
breaks_below {rows = rows} row whole (lower ssid other fault also some breaks) =
    let same = same_row row other whole.complete also.complete in (
      subst (λ (r : Record). r.base.0 ≢ 0) (sym same) some,
      subst
          (λ (r : Record). Breaks rows r.base fault) (sym same) breaks,
    )

pub never_both : {rows : List Record} {ssid : Ssid} {ssids : List Ssid} {fault : ChainFault}
    → IsChain rows ssid ssids → Breaks rows ssid fault → ⊥
never_both (alone ssid row whole none) breaks = (breaks_below row whole breaks).0 none
never_both (based ssid row below whole some is) breaks = never_both is
    (breaks_below row whole breaks).1

where_gone : {rows : List Record} {ssid : Ssid} {fault : ChainFault}
    → ((row : Record) → ¬ IsComplete rows ssid.0 row) → Breaks rows ssid fault
    → BaseGone ssid ≡ fault
where_gone none (gone ssid also) = refl
where_gone none (purged ssid row is given_up) = absurd (none row is)
where_gone none (lower ssid row fault whole some breaks) = absurd (none row whole.complete)

where_purged : {rows : List Record} {ssid : Ssid} {fault : ChainFault} (row : Record)
    → IsComplete rows ssid.0 row → row.purged ≡ true → Breaks rows ssid fault → Purged ssid ≡ fault
where_purged row is given_up (gone ssid none) = absurd (none row is)
where_purged row is given_up (purged ssid other also too) = refl
where_purged row is given_up (lower ssid other fault whole some breaks) =
    let same = same_row row other is whole.complete in
    absurd (false≢true (sym whole.kept ∙ subst (λ (r : Record). r.purged ≡ true) same given_up))

pub one_fault : {rows : List Record} {ssid : Ssid} {fault other : ChainFault}
    → Breaks rows ssid fault → Breaks rows ssid other → fault ≡ other
one_fault (gone ssid none) other = where_gone none other
one_fault (purged ssid row is given_up) other = where_purged row is given_up other
one_fault (lower ssid row fault whole some breaks) other = one_fault breaks
    (breaks_below row whole other).1

-- ---- what it has

first_is : (ssid other : Ssid) → ssid.0 ≡ other.0 → ssid ≡ other
first_is ssid other same = let numbered : ℕ → Ssid = λ n. record { 0 = n } in ap numbered same

in_more : (x y : Ssid) (xs : List Ssid) (k : ℕ) → k < length (x ∷ xs) → get_or (x ∷ xs) k y ≡ y
    → (x ≡ y) ⊎ Contains xs y
in_more x y xs zero within is = inl is
in_more x y xs (suc k) within is = inr (k, omega arith, is)

row_base : {rows : List Record} (ssid : Ssid) (row : Record) → IsWhole rows ssid.0 row
    → row.base.0 ≢ 0 → HasBase rows ssid.0 row.base.0
row_base ssid row whole some = record
    { row = row; found = whole.complete.found; named = refl; set = some }

stands_alone : {rows : List Record} {ssid base : ℕ} (row : Record) → IsComplete rows ssid row
    → row.base.0 ≡ 0 → HasBase rows ssid base → ⊥
stands_alone row is none has =
    let one = is.found in
    let two = has.found in
    let same : row ≡ has.row = cc (one, two) in
    has.set (sym has.named ∙ subst (λ (r : Record). r.base.0 ≡ 0) same none)

no_base : {rows : List Record} {ssid other : ℕ} (row : Record) → IsComplete rows ssid row
    → row.base.0 ≡ 0 → Depends rows ssid other → ⊥
no_base row is none (on_base ssid base has) = stands_alone row is none has
no_base row is none (on_further ssid base other has more) = stands_alone row is none has

pub has_what_it_stands_on : {rows : List Record} {ssid : Ssid} {ssids : List Ssid} (other : Ssid)
    → IsChain rows ssid ssids → Contains ssids other ↔ StandsOn rows ssid.0 other.0
has_what_it_stands_on other (alone ssid row whole none) = (
  λ is. inl (ap (λ (s : Ssid). s.0) (in_one ssid other is.0 is.1 is.2)),
  λ on. elim on [
    | inl same ↦ (0, omega arith, first_is ssid other same)
    | inr depends ↦ absurd (no_base row whole.complete none depends)
  ],
)
has_what_it_stands_on {rows = rows} other (based ssid row below whole some is) =
    let has = row_base ssid row whole some in
    let rest = has_what_it_stands_on other is in (
      λ in_all. elim (in_more ssid other below in_all.0 in_all.1 in_all.2) [
        | inl same ↦ inl (ap (λ (s : Ssid). s.0) same)
        | inr in_rest ↦ inr (step_up rows ssid.0 row.base.0 other.0 has (rest.0 in_rest))
      ],
      λ on. elim on [
        | inl same ↦ (0, omega arith, first_is ssid other same)
        | inr depends ↦
            let there = rest.1 (depends_down row.base.0 has depends) in
            let within = there.1 in
            (suc there.0, omega (arith, within), there.2)
      ],
    )
