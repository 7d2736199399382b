-- The drive that is picked, as far as a walk over the drives has come.
use Rattle.std.proofs.Common.{◌≡◌, ◌⊎◌, inl, inr, ℕ, suc, zero, ◌+◌, ◌<◌, ◌≤◌, List, [], ◌∷◌, sym, subst, ap, arith, refl, length, get_or}
use Rattle.std.proofs.lemmas.Bool.Decides.{nat_tests}
use Rattle.std.specs.Prelude.{Bool, true, false, Option, Some, None, nat_le, if◌then◌else◌, slice_index, slice_index_or}
use Rattle.room_base.specs.declared.numbers.Volid.{Volid}
use Rattle.slot_changer.specs.Drives.{DriveView}
use Rattle.slot_changer.specs.Picking.{MayPick, less_busy}

-- what is in the drive at a place
abbrev pub at_place : List (Option DriveView) → ℕ → Option DriveView
at_place drives place = slice_index_or drives place None

-- the drive at a place goes before that at another
abbrev pub GoesFirst : List ℕ → ℕ → ℕ → Type 0
GoesFirst busy place other =
    (slice_index busy place < slice_index busy other)
    ⊎ ((slice_index busy place ≡ slice_index busy other) × (place ≤ other))

-- of the drives at the first places, this one is picked
abbrev pub IsFirst : List (Option DriveView) → List ℕ → ℕ → List ℕ → List Volid → ℕ → Option ℕ → Type 0
IsFirst drives pool count busy barred places None =
    (other : ℕ) → other < places → ¬ MayPick pool count barred (at_place drives other)
IsFirst drives pool count busy barred places (Some place) =
    (place < places) × MayPick pool count barred (at_place drives place)
    × ((other : ℕ) → other < places → MayPick pool count barred (at_place drives other) → GoesFirst busy place other)

below_suc : (other places : ℕ) → other < places + 1 → (other < places) ⊎ (other ≡ places)
below_suc other places within = grind arith

-- the drive at the next place may not be picked
pub first_passed : (drives : List (Option DriveView)) (pool : List ℕ) (count : ℕ) (busy : List ℕ) (barred : List Volid) (places : ℕ) (picked : Option ℕ)
    → IsFirst drives pool count busy barred places picked → ¬ MayPick pool count barred (at_place drives places)
    → IsFirst drives pool count busy barred (places + 1) picked
first_passed drives pool count busy barred places None first not =
    λ other within may. elim (below_suc other places within) [
      | inl below ↦ first other below may
      | inr is ↦ not (let P : ℕ → Type 0 = λ n. MayPick pool count barred (at_place drives n) in subst P is may)
    ]
first_passed drives pool count busy barred places (Some place) first not = (
  omega (arith, first.0),
  first.1,
  λ other within may. elim (below_suc other places within) [
    | inl below ↦ first.2 other below may
    | inr is ↦ absurd (not (let P : ℕ → Type 0 = λ n. MayPick pool count barred (at_place drives n) in subst P is may))
  ],
)

goes_here : (busy : List ℕ) (places other : ℕ) → other ≡ places → GoesFirst busy places other
goes_here busy places other is = inr (ap (λ n. slice_index busy n) (sym is), omega (arith, is))

not_less : (one other : ℕ) → one ≤ other → (one < other) ⊎ (one ≡ other)
not_less one other le = grind arith

-- no fewer sessions, and behind it
goes_behind : (busy : List ℕ) (place places other : ℕ) → place < places → slice_index busy place ≤ slice_index busy places
    → other ≡ places → GoesFirst busy place other
goes_behind busy place places other below le is =
    let Goes : ℕ → Type 0 = λ n. GoesFirst busy place n in
    subst Goes (sym is) (elim (not_less (slice_index busy place) (slice_index busy places) le) [
      | inl less ↦ inl less
      | inr same ↦ inr (same, omega (arith, below))
    ])

goes_further : (busy : List ℕ) (places place other : ℕ) → slice_index busy places < slice_index busy place
    → GoesFirst busy place other → GoesFirst busy places other
goes_further busy places place other less (inl below) = inl (omega (arith, less, below))
goes_further busy places place other less (inr same) = inl (omega (arith, less, same.0))

-- the better of the drive that is picked and the one at the next place
first_better : (drives : List (Option DriveView)) (pool : List ℕ) (count : ℕ) (busy : List ℕ) (barred : List Volid) (places place : ℕ)
    → IsFirst drives pool count busy barred places (Some place) → MayPick pool count barred (at_place drives places)
    → (stays : Bool) → stays ≡ nat_le (slice_index busy place) (slice_index busy places)
    → IsFirst drives pool count busy barred (places + 1) (Some (if stays then place else places))
first_better drives pool count busy barred places place first may true is = (
  omega (arith, first.0),
  first.1,
  λ other within others. elim (below_suc other places within) [
    | inl below ↦ first.2 other below others
    | inr here ↦ goes_behind busy place places other first.0 (grind (arith, nat_tests)) here
  ],
)
first_better drives pool count busy barred places place first may false is = (
  omega arith,
  may,
  λ other within others. elim (below_suc other places within) [
    | inl below ↦ goes_further busy places place other (grind (arith, nat_tests)) (first.2 other below others)
    | inr here ↦ goes_here busy places other here
  ],
)

-- the drive at the next place may be picked
pub first_met : (drives : List (Option DriveView)) (pool : List ℕ) (count : ℕ) (busy : List ℕ) (barred : List Volid) (places : ℕ) (picked : Option ℕ)
    → IsFirst drives pool count busy barred places picked → MayPick pool count barred (at_place drives places)
    → IsFirst drives pool count busy barred (places + 1) (Some (less_busy busy picked places))
first_met drives pool count busy barred places None first may = (
  omega arith,
  may,
  λ other within others. elim (below_suc other places within) [
    | inl below ↦ absurd (first other below others)
    | inr is ↦ goes_here busy places other is
  ],
)
first_met drives pool count busy barred places (Some place) first may =
    first_better drives pool count busy barred places place first may (nat_le (slice_index busy place) (slice_index busy places)) refl

-- what stands at a place, whatever would stand behind the end
read_as : {A : Type 0} (xs : List A) (place : ℕ) (one other : A) → place < length xs → get_or xs place one ≡ get_or xs place other
read_as [] place one other within = absurd (omega (arith, within))
read_as (x ∷ xs) zero one other within = refl
read_as (x ∷ xs) (suc place) one other within = read_as xs place one other (omega (arith, within))

pub may_pick_at : (drives : List (Option DriveView)) (pool : List ℕ) (count : ℕ) (barred : List Volid) (place : ℕ) (other : Option DriveView)
    → place < length drives → MayPick pool count barred (get_or drives place other) → MayPick pool count barred (at_place drives place)
may_pick_at drives pool count barred place other within =
    let May : Option DriveView → Type 0 = λ held. MayPick pool count barred held in
    subst May (read_as drives place other None within)

pub may_pick_from : (drives : List (Option DriveView)) (pool : List ℕ) (count : ℕ) (barred : List Volid) (place : ℕ) (other : Option DriveView)
    → place < length drives → MayPick pool count barred (at_place drives place) → MayPick pool count barred (get_or drives place other)
may_pick_from drives pool count barred place other within =
    let May : Option DriveView → Type 0 = λ held. MayPick pool count barred held in
    subst May (read_as drives place None other within)
