-- Changes of one drive.
use Rattle.std.proofs.Common.{◌≡◌, ◌≢◌, ℕ, suc, zero, ◌-◌, List, [], ◌∷◌, length, refl, ap, arith}
use Rattle.std.proofs.lemmas.List.{get_or-set_same, get_or-set_other, length-set}
use Rattle.std.specs.Prelude.{Option, Some, None, slice_set}
use Rattle.std.specs.Option.{option_map}
use Rattle.slot_changer.specs.Drives.{DriveView, IsDrive, in_drive, set_drive, change_drive}

pub set_same : (drives : List (Option DriveView)) (drive : ℕ) (held : Option DriveView) → length drives ≡ 4 → IsDrive drive
    → in_drive (set_drive drives drive held) drive ≡ held
set_same drives drive held four is = get_or-set_same drives (drive - 1) held None (omega (arith, four, is.0, is.1))

pub set_other : (drives : List (Option DriveView)) (drive other : ℕ) (held : Option DriveView) → IsDrive drive → IsDrive other
    → other ≢ drive → in_drive (set_drive drives drive held) other ≡ in_drive drives other
set_other drives drive other held is is_other apart =
    get_or-set_other drives (drive - 1) (other - 1) held None (omega (arith, is.0, is_other.0, apart))

set_at_twice : {A : Type 0} (xs : List A) (place : ℕ) (one other : A) → slice_set (slice_set xs place one) place other ≡ slice_set xs place other
set_at_twice [] place one other = refl
set_at_twice (x ∷ xs) zero one other = refl
set_at_twice (x ∷ xs) (suc place) one other = ap (λ rest. x ∷ rest) (set_at_twice xs place one other)

pub set_twice : (drives : List (Option DriveView)) (drive : ℕ) (one other : Option DriveView)
    → set_drive (set_drive drives drive one) drive other ≡ set_drive drives drive other
set_twice drives drive one other = set_at_twice drives (drive - 1) one other

pub length_set : (drives : List (Option DriveView)) (drive : ℕ) (held : Option DriveView) → length (set_drive drives drive held) ≡ length drives
length_set drives drive held = length-set drives (drive - 1) held

pub change_is : (drives : List (Option DriveView)) (drive : ℕ) (one : DriveView) (change : DriveView → DriveView)
    → in_drive drives drive ≡ Some one → change_drive drives drive change ≡ set_drive drives drive (Some (change one))
change_is drives drive one change is = ap (λ held. set_drive drives drive (option_map change held)) is

pub ruleset one_change = (set_same, set_other, set_twice, length_set, change_is)
