-- Slots and volumes stay allowed when they are filled and emptied, labelled and dropped.
use Rattle.std.proofs.Common.{◌≡◌, ◌≢◌, ℕ, ◌+◌, ◌<◌, ◌≤◌, eqb, Bool, true, false, not, cond, List, [], ◌∷◌, length, Option, Some, None, refl, sym, ◌∙◌, inl, inr, arith}
use Rattle.std.specs.List.{AllByRecursion}
use Rattle.std.specs.Ordering.{eq_by_cmp, nat_cmp}
use Rattle.std.proofs.lemmas.Bool.{cond_both, false≢true}
use Rattle.std.proofs.lemmas.Bool.Decides.{nat_tests}
use Rattle.std.proofs.lemmas.Cmp.{nat_cmp_total}
use Rattle.room_base.specs.declared.numbers.Cart.{Cart}
use Rattle.room_base.specs.Ordered.{put_by, remove_by}
use Rattle.room_base.proofs.OrderedLaws.{each_weaker}
use Rattle.room_base.proofs.OrderedNumbers.{same_number}
use Rattle.room_base.proofs.OrderedUpdates.{ascends_put, ascends_removed, each_put, each_removed}
use Rattle.media_db.specs.declared.volumes.VolumeRec.{VolumeRec}
use Rattle.media_db.specs.Rows.{put_volume, remove_volume, volid_of, volume_on}
use Rattle.catalog_change.specs.declared.slot.FilledSlot.{FilledSlot}
use Rattle.catalog_change.specs.Catalogues.{AreApart, AreSlots, HasVolumes, IsDrawn, IsFilled, IsVolume, max_number, slot_cart, slot_number, volume_cart}
use Rattle.catalog_change.specs.Changes.{IsCapacity, IsCart, IsCount}
use Rattle.catalog_change.specs.Resources.{IsShortName}
use Rattle.room_catalog.specs.Changing.{volumes_off}
use Rattle.room_catalog.specs.Fits.{IsLoadable}
use Rattle.room_catalog.proofs.Updated.{apart_put, apart_removed, length_put, length_removed}

-- ---- slots

pub filled_are : (slots : List FilledSlot) (slot : ℕ) (cart : Cart) → AreSlots slots → IsLoadable slots slot cart → AreSlots (put_by nat_cmp slot_number (record { slot = slot; cart = cart }) slots)
filled_are slots slot cart are fits =
    let filled : FilledSlot = record { slot = slot; cart = cart } in
    record {
      each = each_put nat_cmp_total slot_number IsFilled slots filled (record { slot = fits.is_slot; cart = fits.is_cart }) are.each;
      order = ascends_put nat_cmp_total slot_number slots filled are.order;
      carts = apart_put nat_cmp_total slot_number slot_cart filled slots fits.elsewhere are.carts;
    }

pub emptied_are : (slots : List FilledSlot) (slot : ℕ) → AreSlots slots → AreSlots (remove_by nat_cmp slot_number slot slots)
emptied_are slots slot are = record {
  each = each_removed nat_cmp_total slot_number IsFilled slot slots are.each;
  order = ascends_removed nat_cmp_total slot_number slot slots are.order;
  carts = apart_removed nat_cmp_total slot_number slot_cart slot slots are.carts;
}

-- ---- volumes

abbrev IsElsewhere : ℕ → VolumeRec → Type 0
IsElsewhere cart volume = volume.cart.0 ≢ cart

each_off : (P : VolumeRec → Type 0) (gone : Option VolumeRec) (volumes : List VolumeRec) → AllByRecursion P volumes → AllByRecursion P (volumes_off gone volumes)
each_off P None volumes each = each
each_off P (Some gone) volumes each = each_removed nat_cmp_total volid_of P gone.volid.0 volumes each

-- an item before the others, of which some go
each_off_more : (P : VolumeRec → Type 0) (gone : Option VolumeRec) (volume : VolumeRec) (volumes : List VolumeRec) → P volume → AllByRecursion P (volumes_off gone volumes) → AllByRecursion P (volumes_off gone (volume ∷ volumes))
each_off_more P None volume volumes one each = (one, each)
each_off_more P (Some gone) volume volumes one each =
    cond_both (not (eq_by_cmp nat_cmp volume.volid.0 gone.volid.0)) (volume ∷ remove_volume gone.volid.0 volumes) (remove_volume gone.volid.0 volumes) (AllByRecursion P) (λ kept. (one, each)) (λ dropped. each)

-- the first goes
each_off_first : (P : VolumeRec → Type 0) (gone : VolumeRec) (volumes : List VolumeRec) → AllByRecursion P volumes → AllByRecursion P (remove_volume gone.volid.0 (gone ∷ volumes))
each_off_first P gone volumes each = by (eq_by_cmp nat_cmp gone.volid.0 gone.volid.0) (same_number gone.volid.0)
  where
    by : (here : Bool) → here ≡ true → AllByRecursion P (cond (not here) (gone ∷ remove_volume gone.volid.0 volumes) (remove_volume gone.volid.0 volumes))
    by true is = each_removed nat_cmp_total volid_of P gone.volid.0 volumes each
    by false is = absurd (false≢true is)

-- once the volume on a cartridge went, none lies there
pub none_left_on : (cart : ℕ) (volumes : List VolumeRec) → AreApart volume_cart volumes → AllByRecursion (IsElsewhere cart) (volumes_off (volume_on cart volumes) volumes)
none_left_on cart [] apart = tt
none_left_on cart (volume ∷ volumes) apart = by (eqb volume.cart.0 cart) refl (none_left_on cart volumes apart.1)
  where
    by : (here : Bool) → eqb volume.cart.0 cart ≡ here → AllByRecursion (IsElsewhere cart) (volumes_off (volume_on cart volumes) volumes)
        → AllByRecursion (IsElsewhere cart) (volumes_off (cond here (Some volume) (volume_on cart volumes)) (volume ∷ volumes))
    by true is rest =
        let same : volume.cart.0 ≡ cart = grind (arith, nat_tests) in
        each_off_first (IsElsewhere cart) volume volumes (each_weaker (λ other. other.cart.0 ≢ volume.cart.0) (IsElsewhere cart) (λ other differs lies. differs (lies ∙ sym same)) volumes apart.0)
    by false is rest = each_off_more (IsElsewhere cart) (volume_on cart volumes) volume volumes (λ (same : volume.cart.0 ≡ cart). grind (arith, nat_tests)) rest

order_off : (gone : Option VolumeRec) (next : ℕ) (volumes : List VolumeRec) → HasVolumes next volumes → HasVolumes next (volumes_off gone volumes)
order_off None next volumes has = has
order_off (Some gone) next volumes has = record {
  each = each_removed nat_cmp_total volid_of (IsVolume next) gone.volid.0 volumes has.each;
  order = ascends_removed nat_cmp_total volid_of gone.volid.0 volumes has.order;
  carts = apart_removed nat_cmp_total volid_of volume_cart gone.volid.0 volumes has.carts;
  count = omega (arith, has.count, length_removed nat_cmp_total volid_of gone.volid.0 volumes);
}

length_off : (gone : Option VolumeRec) (volumes : List VolumeRec) → length (volumes_off gone volumes) ≤ length volumes
length_off None volumes = omega arith
length_off (Some gone) volumes = length_removed nat_cmp_total volid_of gone.volid.0 volumes

pub laid_are : (next : ℕ) (volumes : List VolumeRec) (volume : VolumeRec) → HasVolumes next volumes → 1 ≤ volume.volid.0 → next ≤ volume.volid.0 → volume.volid.0 < max_number → IsCart volume.cart → IsShortName volume.pool → IsCapacity volume.capacity → IsCount (length volumes + 1)
    → HasVolumes (volume.volid.0 + 1) (put_volume volume (volumes_off (volume_on volume.cart.0 volumes) volumes))
laid_are next volumes volume has some drawn below cart pool capacity room =
    let gone = volume_on volume.cart.0 volumes in
    let left = order_off gone next volumes has in
    let rest = volumes_off gone volumes in
    let more = each_weaker (IsVolume next) (IsVolume (volume.volid.0 + 1)) (λ one of. record {
      volid = of.volid;
      drawn = later next volume.volid.0 one.volid.0 of.drawn below drawn;
      cart = of.cart;
      pool = of.pool;
      capacity = of.capacity;
    }) (volumes_off (volume_on volume.cart.0 volumes) volumes) left.each in
    record {
      each = each_put nat_cmp_total volid_of (IsVolume (volume.volid.0 + 1)) rest volume (record { volid = some; drawn = inl (omega arith); cart = cart; pool = pool; capacity = capacity }) more;
      order = ascends_put nat_cmp_total volid_of rest volume left.order;
      carts = apart_put nat_cmp_total volid_of volume_cart volume rest (none_left_on volume.cart.0 volumes has.carts) left.carts;
      count = omega (arith, room, length_put nat_cmp_total volid_of volume rest, length_off gone volumes);
    }
  where
    later : (next volid number : ℕ) → IsDrawn max_number next number → volid < max_number → next ≤ volid → IsDrawn max_number (volid + 1) number
    later next volid number (inl less) below drawn = inl (omega arith)
    later next volid number (inr last) below drawn = absurd (omega arith)
