-- What amending needs of the catalogue.
use Rattle.std.proofs.Common.{◌≡◌, ℕ, ◌≤◌, Bool, true, false, refl, sym, subst, arith}
use Rattle.std.proofs.lemmas.Bool.Decides.{nat_tests}
use Rattle.std.proofs.lemmas.Cmp.{nat_cmp_total}
use Rattle.std.specs.Prelude.{Option, Some, None, IsSome, Result, Ok, Err, nat_le}
use Rattle.room_base.specs.Numbers.{max_moment}
use Rattle.room_base.specs.declared.numbers.Moment.{Moment}
use Rattle.room_base.specs.declared.numbers.Ssid.{Ssid}
use Rattle.room_base.specs.declared.refusal.Refusal.{Refusal}
use Rattle.room_base.proofs.OrderedLaws.{each_found}
use Rattle.media_db.specs.Rows.{find_record, ssid_of}
use Rattle.media_db.specs.declared.records.Record.{Record}
use Rattle.catalog_change.specs.Catalogues.{IsRecord}
use Rattle.catalog_change.specs.declared.change.Change.TheVariants.{Amended}
use Rattle.room_catalog.specs.Fits.{FitsByKind}
use Rattle.room_catalog.specs.Held.{catalogue_of}
use Rattle.room_catalog.specs.Invariant.{IsHeld}
use Rattle.room_effects.specs.View.{RoomView}
use Rattle.room_effects.specs.Checked.{behind_check, unless}
use Rattle.room_records.specs.declared.amending.Amendment.{Amendment}
use Rattle.room_records.specs.Amending.{amend_checks, amended_as, in_order, is_moment, time_or}
use Rattle.room_records.specs.Showing.{on_record}

-- a check that went through, and the checks behind it
went_through : {X : Type 0} (test : Bool) (refusal : Refusal) (next : Result X Refusal) (value : X) → Ok value ≡ unless {X = X} test refusal next
    → (test ≡ true) × (Ok value ≡ next)
went_through {X} true refusal next value is = (refl, is)
went_through {X} false refusal next value is = absurd (let no : ◌≡◌ {A = Result X Refusal} (Ok value) (Err refusal) = is in cc)

-- the set is on record
was_there : {X : Type 0} (ssid : Ssid) (held : Option Record) (next : Record → Result X Refusal) (value : X) → Ok value ≡ behind_check {X = Record} {Y = X} (on_record ssid held) next
    → (row : Record) × (held ≡ Some row) × (Ok value ≡ next row)
was_there {X} ssid None next value is = absurd (cc is)
was_there {X} ssid (Some row) next value is = (row, refl, is)

some_there : {X : Type 0} (held : Option X) (x : X) → held ≡ Some x → IsSome held
some_there {X} held x is = let S : Option X → Type 0 = λ one. IsSome one in subst S (sym is) refl

is_up_to : (one other : ℕ) → nat_le one other ≡ true → one ≤ other
is_up_to one other is = grind (arith, nat_tests)

-- the greatest moment isn't passed
time_within : (time : Option ℕ) (was : Moment) → is_moment time ≡ true → was.0 ≤ max_moment → (time_or time was).0 ≤ max_moment
time_within None was given within = within
time_within (Some time) was given within = is_up_to time max_moment given

module _ (ssid : Ssid) (browse retain : Option ℕ) (hold : Option Bool) (room : RoomView) (amended : Amendment) (held : IsHeld room.catalogue)
    (is : Ok amended ≡ amend_checks ssid browse retain hold room) where
  pub amend_fits : FitsByKind (catalogue_of room.catalogue) (Amended ssid amended.browse amended.retain amended.hold)
  amend_fits =
      let one = went_through (is_moment browse) _ _ amended is in
      let two = went_through (is_moment retain) _ _ amended one.1 in
      let there = was_there {X = Amendment} ssid (find_record ssid.0 room.catalogue.records) (λ row. in_order (amended_as browse retain hold row)) amended two.1 in
      let row = there.0 in
      let three = went_through (nat_le (time_or browse row.browse).0 (time_or retain row.retain).0) _ _ amended there.2 in
      let same : amended ≡ amended_as browse retain hold row = cc (three.1) in
      let allowed : IsRecord room.catalogue.next_ssid row =
      each_found nat_cmp_total ssid_of (IsRecord room.catalogue.next_ssid) ssid.0 row room.catalogue.records held.catalogue.records.each there.1 in
      let ordered : (time_or browse row.browse).0 ≤ (time_or retain row.retain).0 = is_up_to _ _ three.0 in
      let within : (time_or retain row.retain).0 ≤ max_moment = time_within retain row.retain two.0 allowed.head.retain.1 in
      let F : Amendment → Type 0 = λ a. FitsByKind (catalogue_of room.catalogue) (Amended ssid a.browse a.retain a.hold) in
      subst F (sym same) (some_there (find_record ssid.0 room.catalogue.records) row there.1, ordered, within)
