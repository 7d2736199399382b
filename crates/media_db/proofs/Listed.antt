-- The volume that lies on a cartridge.
use Rattle.std.proofs.Common.{◌≡◌, ℕ, ◌<◌, eqb, List, [], ◌∷◌, Option, Some, None, Bool, true, false, cond, refl, sym, subst, ◌∙◌, inl, inr, arith}
use Rattle.std.specs.Ordering.{nat_cmp}
use Rattle.std.specs.declared.cmp.Ordering.TheVariants.{Less}
use Rattle.std.proofs.lemmas.Bool.Decides.{nat_tests}
use Rattle.std.proofs.lemmas.Cmp.{nat_cmp_total}
use Rattle.room_base.specs.Ordered.{Ascends}
use Rattle.room_base.proofs.OrderedLists.{ascend_rest}
use Rattle.room_base.proofs.OrderedLaws.{each_above, each_found, found_has_key, found_first, found_above, first_or_behind}
use Rattle.room_base.proofs.OrderedNumbers.{equal_numbers, lesser_number, compares_less}
use Rattle.media_db.specs.declared.volumes.VolumeRec.{VolumeRec}
use Rattle.media_db.specs.Rows.{IsLeastOn, volume_on, find_volume, volid_of}

module _ (cart : ℕ) (volume : VolumeRec) (volumes : List VolumeRec) (up : Ascends nat_cmp volid_of (volume ∷ volumes)) where
  above_first : (volid : ℕ) (other : VolumeRec) → find_volume volid volumes ≡ Some other → volume.volid.0 < volid
  above_first volid other found =
      let each = each_above nat_cmp_total volid_of volume.volid.0 volumes up in
      let below = lesser_number volume.volid.0 other.volid.0 (each_found nat_cmp_total volid_of (λ y. nat_cmp volume.volid.0 y.volid.0 ≡ Less) volid other volumes each found) in
      let has = equal_numbers other.volid.0 volid (found_has_key nat_cmp_total volid_of volid other volumes found) in
      omega arith

  least_is_first : volume.cart.0 ≡ cart → IsLeastOn cart (volume ∷ volumes) (Some volume)
  least_is_first here = (
    found_first nat_cmp_total volid_of volume volumes,
    here,
    λ volid other found lies. elim (first_or_behind nat_cmp_total volid_of volume volumes volid other found) [
      | inl first ↦ let has = equal_numbers volume.volid.0 volid first.1 in omega arith
      | inr behind ↦ let above = above_first volid other behind.1 in omega arith
    ],
  )

  least_is_behind : ¬ (volume.cart.0 ≡ cart) → (least : Option VolumeRec) → IsLeastOn cart volumes least → IsLeastOn cart (volume ∷ volumes) least
  least_is_behind isnt None none = λ volid other found lies. elim (first_or_behind nat_cmp_total volid_of volume volumes volid other found) [
    | inl first ↦ isnt (subst (λ (one : VolumeRec). one.cart.0 ≡ cart) (sym first.0) lies)
    | inr behind ↦ none volid other behind.1 lies
  ]
  least_is_behind isnt (Some least) is = (
    found_above nat_cmp_total volid_of volume volumes least.volid.0 (compares_less volume.volid.0 least.volid.0 (above_first least.volid.0 least is.0)) ∙ is.0,
    is.1,
    λ volid other found lies. elim (first_or_behind nat_cmp_total volid_of volume volumes volid other found) [
      | inl first ↦ absurd (isnt (subst (λ (one : VolumeRec). one.cart.0 ≡ cart) (sym first.0) lies))
      | inr behind ↦ is.2 volid other behind.1 lies
    ],
  )

  least_on_more : (same : Bool) → eqb volume.cart.0 cart ≡ same → IsLeastOn cart volumes (volume_on cart volumes) → IsLeastOn cart (volume ∷ volumes) (cond same (Some volume) (volume_on cart volumes))
  least_on_more true is more = least_is_first (grind (arith, nat_tests))
  least_on_more false is more = least_is_behind (λ (here : volume.cart.0 ≡ cart). grind (arith, nat_tests)) (volume_on cart volumes) more

pub least_on : (cart : ℕ) (volumes : List VolumeRec) → Ascends nat_cmp volid_of volumes → IsLeastOn cart volumes (volume_on cart volumes)
least_on cart [] up = λ volid other found. cc
least_on cart (volume ∷ volumes) up = least_on_more cart volume volumes up (eqb volume.cart.0 cart) refl (least_on cart volumes (ascend_rest nat_cmp_total volid_of volume volumes up))
