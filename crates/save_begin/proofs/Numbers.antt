-- Numbers that are left, and numbers that were drawn.
use Rattle.std.proofs.Common.{◌≡◌, ℕ, ◌<◌, false, List, refl, arith, inl, inr}
use Rattle.std.proofs.lemmas.Bool.Decides.{nat_tests}
use Rattle.std.proofs.lemmas.Cmp.{nat_cmp_total}
use Rattle.std.specs.List.{AllByRecursion}
use Rattle.std.specs.Prelude.{Option, Some, None, IsSomeAnd}
use Rattle.room_base.proofs.OrderedLaws.{each_found, each_weaker, found_has_key}
use Rattle.room_base.proofs.OrderedNumbers.{equal_numbers}
use Rattle.media_db.specs.declared.records.Record.{Record}
use Rattle.media_db.specs.Rows.{AreRecords, HasLowerBase, find_record}
use Rattle.media_db.specs.Rows as rows
use Rattle.catalog_change.specs.Catalogues.{IsRecord, max_number}
use Rattle.room_catalog.specs.Held.{CatalogueLists}
use Rattle.room_catalog.specs.Invariant.{IsHeld}
use Rattle.save_session.specs.Sessions.{SessionView, find_session, ssid_of}
use Rattle.room_effects.specs.View.{IsRecordOf}
use Rattle.room_effects.specs.Entering.{is_at_ceiling}
use Rattle.room_between.specs.Middle.{HasRecord}

pub below_is : (lists : CatalogueLists) → is_at_ceiling lists ≡ false → (lists.number < max_number) × (lists.next_ssid < max_number)
below_is lists below = grind (arith, nat_tests)

module _ (lists : CatalogueLists) (held : IsHeld lists) where
  pub are_records : AreRecords lists.records
  are_records = record {
    ascending = held.catalogue.records.order;
    bases = each_weaker (IsRecord lists.next_ssid) HasLowerBase (λ row is. is.head.base) lists.records held.catalogue.records.each;
  }

  -- a record that is found has a number below the next one
  pub is_below : is_at_ceiling lists ≡ false → (ssid : ℕ) (row : Record) → find_record ssid lists.records ≡ Some row → ssid < lists.next_ssid
  is_below below ssid row found =
      let is = each_found nat_cmp_total rows.ssid_of (IsRecord lists.next_ssid) ssid row lists.records held.catalogue.records.each found in
      let same = equal_numbers row.ssid.0 ssid (found_has_key nat_cmp_total rows.ssid_of ssid row lists.records found) in
      let left = below_is lists below in
      elim is.drawn [
        | inl less ↦ omega (arith, less, same)
        | inr last ↦ absurd (omega (arith, left.1, last))
      ]

  -- no session has the next number
  pub none_open : is_at_ceiling lists ≡ false → (sessions : List SessionView) → AllByRecursion (HasRecord lists.records) sessions → find_session lists.next_ssid sessions ≡ None
  none_open below sessions has = by (find_session lists.next_ssid sessions) refl
    where
      no_row : (session : SessionView) (found : Option Record) → find_record (ssid_of session) lists.records ≡ found → ssid_of session ≡ lists.next_ssid
          → IsSomeAnd found (IsRecordOf session) → ⊥
      no_row session None is same row = absurd row
      no_row session (Some row) is same begun = let less = is_below below (ssid_of session) row is in omega (arith, less, same)

      by : (found : Option SessionView) → find_session lists.next_ssid sessions ≡ found → found ≡ None
      by None is = refl
      by (Some session) is =
          absurd (no_row session (find_record (ssid_of session) lists.records) refl
          (equal_numbers (ssid_of session) lists.next_ssid (found_has_key nat_cmp_total ssid_of lists.next_ssid session sessions is))
          (each_found nat_cmp_total ssid_of (HasRecord lists.records) lists.next_ssid session sessions has is))
