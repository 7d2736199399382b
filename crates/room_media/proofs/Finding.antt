-- Which drive has a cartridge.
use Rattle.std.proofs.Common.{◌≡◌, ◌⊎◌, ℕ, suc, zero, Bool, true, false, refl, sym, ap, ◌∙◌, subst, inl, inr, arith, if◌then◌else◌}
use Rattle.std.proofs.lemmas.Bool.{cases_Bool}
use Rattle.std.proofs.lemmas.Bool.Decides.{eqb_tells}
use Rattle.std.specs.Prelude.{Option, Some, None, IsSomeAnd, MatchOption}
use Rattle.slot_changer.specs.Drives.{DriveView, IsDrive}
use Rattle.room_effects.specs.View.{RoomView, IsRoom, held_in}
use Rattle.room_effects.specs.Needs.{IsInNoDrive}
use Rattle.room_effects.specs.Running.{has_cart}
use Rattle.std.proofs.lemmas.Cmp.{nat_cmp_total}
use Rattle.std.specs.Option.{option_map}
use Rattle.room_base.proofs.OrderedLaws.{each_found}
use Rattle.room_base.specs.declared.numbers.Cart.{Cart}
use Rattle.catalog_change.specs.Catalogues.{IsFilled, slot_number}
use Rattle.catalog_change.specs.declared.slot.FilledSlot.{FilledSlot}
use Rattle.volume_store.specs.Writes.{IsCart}
use Rattle.room_catalog.specs.Fits.{find_slot}
use Rattle.room_catalog.specs.Held.{CatalogueLists}
use Rattle.room_catalog.specs.Invariant.{IsHeld}
use Rattle.room_media.specs.Slots.{drive_or, drive_with}

-- ---- what a drive has

-- the volume of the cartridge is in the drive
record Holds (cart : ℕ) (held : Option DriveView) : Type 0 where
  pub one : DriveView
  pub is : held ≡ Some one
  pub same : one.volume.cart.0 ≡ cart

holds_so : (cart : ℕ) (held : Option DriveView) → IsSomeAnd held (λ one. one.volume.cart.0 ≡ cart) → Holds cart held
holds_so cart None some = absurd some
holds_so cart (Some one) some = record { one = one; is = refl; same = some }

some_has : (cart : ℕ) (one : DriveView) → one.volume.cart.0 ≡ cart → has_cart cart (Some one) ≡ true
some_has cart one same = elim (eqb_tells one.volume.cart.0 cart) [ inl is ↦ is.0 | inr isnt ↦ absurd (isnt.1 same) ]

told_so : (cart : ℕ) (held : Option DriveView) → Holds cart held → has_cart cart held ≡ true
told_so cart held holds =
    let T : Option DriveView → Type 0 = λ one. has_cart cart one ≡ true in
    subst T (sym holds.is) (some_has cart holds.one holds.same)

holds_told : (cart : ℕ) (held : Option DriveView) → has_cart cart held ≡ true → Holds cart held
holds_told cart None told = absurd (let no : ◌≡◌ {A = Bool} false true = told in cc)
holds_told cart (Some one) told = record {
  one = one;
  is = refl;
  same = elim (eqb_tells one.volume.cart.0 cart) [
    | inl is ↦ is.1
    | inr isnt ↦ absurd (let no : ◌≡◌ {A = Bool} false true = sym isnt.0 ∙ told in cc)
  ];
}

-- ---- all drives

drive_cases : (drive : ℕ) → IsDrive drive → (drive ≡ 1) ⊎ (drive ≡ 2) ⊎ (drive ≡ 3) ⊎ (drive ≡ 4)
drive_cases zero is = absurd (omega arith)
drive_cases (suc zero) is = inl refl
drive_cases (suc (suc zero)) is = inr (inl refl)
drive_cases (suc (suc (suc zero))) is = inr (inr (inl refl))
drive_cases (suc (suc (suc (suc zero)))) is = inr (inr (inr refl))
drive_cases (suc (suc (suc (suc (suc n))))) is = absurd (omega arith)

drive_here : (cart : ℕ) (room : RoomView) (drive : ℕ) (others : Option ℕ) → has_cart cart (held_in room drive) ≡ true → drive_or cart room drive others ≡ Some drive
drive_here cart room drive others has = by (has_cart cart (held_in room drive)) has
  where
    by : (test : Bool) → test ≡ true → (if test then Some drive else others) ≡ Some drive
    by true same = refl
    by false same = absurd (let no : ◌≡◌ {A = Bool} false true = same in cc)

drive_there : (cart : ℕ) (room : RoomView) (drive : ℕ) (others : Option ℕ) → has_cart cart (held_in room drive) ≡ false → drive_or cart room drive others ≡ others
drive_there cart room drive others has = by (has_cart cart (held_in room drive)) has
  where
    by : (test : Bool) → test ≡ false → (if test then Some drive else others) ≡ others
    by false same = refl
    by true same = absurd (let no : ◌≡◌ {A = Bool} true false = same in cc)

module _ (cart : ℕ) (room : RoomView) where
  none_has : IsInNoDrive cart room → (drive : ℕ) → IsDrive drive → has_cart cart (held_in room drive) ≡ false
  none_has none drive is = elim (cases_Bool (has_cart cart (held_in room drive))) [
    | inl told ↦ absurd (let holds = holds_told cart (held_in room drive) told in none drive holds.one is holds.is holds.same)
    | inr not_told ↦ not_told
  ]

  found_none : IsInNoDrive cart room → None ≡ drive_with cart room
  found_none none =
      let away = λ (drive : ℕ) (is : IsDrive drive) (others : Option ℕ). drive_there cart room drive others (none_has none drive is) in
      sym (away 1 (omega arith, omega arith) (drive_or cart room 2 (drive_or cart room 3 (drive_or cart room 4 None)))
      ∙ away 2 (omega arith, omega arith) (drive_or cart room 3 (drive_or cart room 4 None))
      ∙ away 3 (omega arith, omega arith) (drive_or cart room 4 None)
      ∙ away 4 (omega arith, omega arith) None)

  -- no other drive has it
  only : IsRoom room → (drive other : ℕ) → IsDrive drive → IsDrive other → Holds cart (held_in room drive) → has_cart cart (held_in room other) ≡ true → other ≡ drive
  only is drive other is_drive is_other holds told =
      let there = holds_told cart (held_in room other) told in
      is.drives.apart other drive there.one holds.one is_other is_drive there.is holds.is (there.same ∙ sym holds.same)

  -- this drive, or the others
  step : IsRoom room → (drive other : ℕ) (others : Option ℕ) → IsDrive drive → IsDrive other → Holds cart (held_in room drive)
      → (has_cart cart (held_in room other) ≡ false → others ≡ Some drive) → drive_or cart room other others ≡ Some drive
  step is drive other others is_drive is_other holds rest = elim (cases_Bool (has_cart cart (held_in room other))) [
    | inl told ↦ drive_here cart room other others told ∙ ap (λ (n : ℕ). Some n) (only is drive other is_drive is_other holds told)
    | inr not_told ↦ drive_there cart room other others not_told ∙ rest not_told
  ]

  not_away : (drive other : ℕ) → Holds cart (held_in room drive) → drive ≡ other → has_cart cart (held_in room other) ≡ false → ⊥
  not_away drive other holds same away =
      let told : has_cart cart (held_in room other) ≡ true = ap (λ (n : ℕ). has_cart cart (held_in room n)) (sym same) ∙ told_so cart (held_in room drive) holds in
      (let no : ◌≡◌ {A = Bool} true false = sym told ∙ away in cc)

  found_some : IsRoom room → (drive : ℕ) → IsDrive drive → IsSomeAnd (held_in room drive) (λ one. one.volume.cart.0 ≡ cart) → Some drive ≡ drive_with cart room
  found_some is drive is_drive some =
      let holds = holds_so cart (held_in room drive) some in
      sym (step is drive 1 (drive_or cart room 2 (drive_or cart room 3 (drive_or cart room 4 None))) is_drive (omega arith, omega arith) holds
      (λ first. step is drive 2 (drive_or cart room 3 (drive_or cart room 4 None)) is_drive (omega arith, omega arith) holds
      (λ second. step is drive 3 (drive_or cart room 4 None) is_drive (omega arith, omega arith) holds
      (λ third. step is drive 4 None is_drive (omega arith, omega arith) holds
      (λ fourth. absurd (elim (drive_cases drive is_drive) [
        | inl one ↦ not_away drive 1 holds one first
        | inr (inl two) ↦ not_away drive 2 holds two second
        | inr (inr (inl three)) ↦ not_away drive 3 holds three third
        | inr (inr (inr four)) ↦ not_away drive 4 holds four fourth
      ]))))))

-- what the room answers is the drive that has it
pub found_drive : (cart : ℕ) (room : RoomView) (result : Option ℕ) → IsRoom room
    → MatchOption result (IsInNoDrive cart room) (λ drive. IsDrive drive × IsSomeAnd (held_in room drive) (λ one. one.volume.cart.0 ≡ cart))
    → result ≡ drive_with cart room
found_drive cart room None is none = found_none cart room none
found_drive cart room (Some drive) is some = found_some cart room is drive some.0 some.1

-- where no drive is found it is in none
pub in_none : (cart : ℕ) (room : RoomView) (result : Option ℕ) → result ≡ None
    → MatchOption result (IsInNoDrive cart room) (λ drive. IsDrive drive × IsSomeAnd (held_in room drive) (λ one. one.volume.cart.0 ≡ cart))
    → IsInNoDrive cart room
in_none cart room None none found = found
in_none cart room (Some drive) none found = absurd (let no : ◌≡◌ {A = Option ℕ} (Some drive) None = none in cc)

-- ---- slots

-- what lies in a slot is a cartridge
cart_of : (held : Option FilledSlot) (cart : Cart) → ((filled : FilledSlot) → held ≡ Some filled → IsFilled filled) → option_map (λ (filled : FilledSlot). filled.cart) held ≡ Some cart
    → IsCart cart.0
cart_of None cart each is = absurd (cc is)
cart_of (Some filled) cart each is = let same : filled.cart ≡ cart = cc is in let P : Cart → Type 0 = λ one. IsCart one.0 in subst P same (each filled refl).cart

pub cart_in_slot : (slot : ℕ) (cart : Cart) (lists : CatalogueLists) → IsHeld lists → option_map (λ (filled : FilledSlot). filled.cart) (find_slot slot lists.slots) ≡ Some cart
    → IsCart cart.0
cart_in_slot slot cart lists held is = cart_of (find_slot slot lists.slots) cart
    (λ filled found. each_found nat_cmp_total slot_number IsFilled slot filled lists.slots held.catalogue.slots.each found) is
