-- What loading needs of the catalogue.
use Rattle.std.proofs.Common.{◌≡◌, ◌≢◌, ℕ, ◌≤◌, Bool, true, false, List, [], ◌∷◌, refl, sym, ◌∙◌, inl, inr, arith}
use Rattle.std.proofs.lemmas.Bool.Decides.{eqb_tells, nat_tests}
use Rattle.std.specs.Prelude.{Option, Some, None, not, Result, Ok, Err}
use Rattle.std.specs.List.{AllByRecursion}
use Rattle.std.specs.Option.{is_some, option_map}
use Rattle.room_base.specs.declared.numbers.Cart.{Cart}
use Rattle.room_base.specs.declared.refusal.Refusal.{Refusal}
use Rattle.catalog_change.specs.declared.slot.FilledSlot.{FilledSlot}
use Rattle.room_catalog.specs.Fits.{IsLoadable, find_slot}
use Rattle.room_effects.specs.View.{RoomView}
use Rattle.room_effects.specs.Checked.{unless}
use Rattle.room_media.specs.Slots.{cart_in, in_no_slot, is_cart, is_slot, load_checks, slot_with}

-- a check that went through, and the checks behind it
went_through : {X : Type 0} (test : Bool) (refusal : Refusal) (next : Result X Refusal) (value : X) → Ok value ≡ unless {X = X} test refusal next
    → (test ≡ true) × (Ok value ≡ next)
went_through {X} true refusal next value is = (refl, is)
went_through {X} false refusal next value is = absurd (let no : ◌≡◌ {A = Result X Refusal} (Ok value) (Err refusal) = is in cc)

slot_is : (slot : ℕ) → is_slot slot ≡ true → (1 ≤ slot) × (slot ≤ 32)
slot_is slot is = grind (arith, nat_tests)

cart_is : (cart : ℕ) → is_cart cart ≡ true → (1 ≤ cart) × (cart ≤ 256)
cart_is cart is = grind (arith, nat_tests)

empty_is : (held : Option FilledSlot) → not (is_some (option_map (λ (filled : FilledSlot). filled.cart) held)) ≡ true → held ≡ None
empty_is None is = refl
empty_is (Some filled) is = absurd (let no : ◌≡◌ {A = Bool} false true = is in cc)

elsewhere_in : (cart : ℕ) (slots : List FilledSlot) → slot_with cart slots ≡ None → AllByRecursion (λ filled. filled.cart.0 ≢ cart) slots
elsewhere_in cart [] none = tt
elsewhere_in cart (filled ∷ slots) none = elim (eqb_tells filled.cart.0 cart) [
  | inl is ↦ absurd (let here : slot_with cart (filled ∷ slots) ≡ Some filled = rw is.0 refl in
      let no : ◌≡◌ {A = Option FilledSlot} (Some filled) None = sym here ∙ none in cc)
  | inr isnt ↦ (isnt.1, elsewhere_in cart slots (let there : slot_with cart (filled ∷ slots) ≡ slot_with cart slots = rw isnt.0 refl in sym there ∙ none))
]

no_slot : (held : Option FilledSlot) → Ok tt ≡ in_no_slot held → held ≡ None
no_slot None is = refl
no_slot (Some filled) is = absurd (cc is)

pub loadable : (slot : ℕ) (cart : Cart) (room : RoomView) → Ok tt ≡ load_checks slot cart.0 room → IsLoadable room.catalogue.slots slot cart
loadable slot cart room is =
    let one = went_through (is_slot slot) _ _ tt is in
    let two = went_through (is_cart cart.0) _ _ tt one.1 in
    let three = went_through (not (is_some (cart_in slot room))) _ _ tt two.1 in
    record {
      is_slot = slot_is slot one.0;
      empty = empty_is (find_slot slot room.catalogue.slots) three.0;
      is_cart = cart_is cart.0 two.0;
      elsewhere = elsewhere_in cart.0 room.catalogue.slots (no_slot (slot_with cart.0 room.catalogue.slots) three.1);
    }
