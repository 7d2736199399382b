-- What purging needs of the catalogue.
use Rattle.std.proofs.Common.{◌≡◌, ℕ, ◌<◌, ◌≤◌, List, [], ◌∷◌, length, refl, sym, subst, inl, inr, arith}
use Rattle.std.proofs.lemmas.Bool.{false≢true}
use Rattle.std.proofs.lemmas.Bool.Decides.{eqb_tells}
use Rattle.std.proofs.lemmas.Cmp.{nat_cmp_total}
use Rattle.std.proofs.lemmas.List.Elements.{All-contains_itself, recursion_from_All}
use Rattle.std.specs.Prelude.{Option, Some, None, IsSome, IsSomeAnd}
use Rattle.std.specs.List.{AllByRecursion, Contains}
use Rattle.std.specs.Ordering.{nat_cmp}
use Rattle.std.specs.declared.cmp.Ordering.TheVariants.{Less}
use Rattle.room_base.specs.Ordered.{Ascends, AscendsFrom}
use Rattle.room_base.specs.declared.numbers.Moment.{Moment}
use Rattle.room_base.specs.declared.numbers.Ssid.{Ssid}
use Rattle.room_base.proofs.OrderedLaws.{each_above, each_found, each_weaker, found_above, found_has_key}
use Rattle.room_base.proofs.OrderedLists.{ascend_alone}
use Rattle.room_base.proofs.OrderedNumbers.{compares_less, equal_numbers, lesser_number, other_number}
use Rattle.media_db.specs.Rows.{find_record, ssid_of}
use Rattle.media_db.specs.declared.records.Record.{Record}
use Rattle.catalog_change.specs.Changes.{IsChange}
use Rattle.catalog_change.specs.declared.change.Change.TheVariants.{Purged}
use Rattle.dep_chain.specs.Purging.{IsPurgeable, ssid_number}
use Rattle.dep_chain.specs.declared.open_set.OpenSet.{OpenSet}
use Rattle.room_catalog.specs.Fits.{FitsByKind, IsComplete}
use Rattle.room_catalog.specs.Held.{catalogue_of}
use Rattle.room_catalog.specs.Invariant.{IsHeld}
use Rattle.room_catalog.proofs.Updated.{ascends_filtered, each_filtered}
use Rattle.room_checks.specs.OpenSets.{open_sets}
use Rattle.room_effects.specs.View.{RoomView}
use Rattle.room_records.specs.Purging.{AreToPurge, is_unpurged}

-- ---- there are no more sets on record than records

abbrev OnRecord : List Record → Ssid → Type 0
OnRecord rows ssid = IsSome (find_record ssid.0 rows)

-- a set on record behind the first is above it
found_behind : (row : Record) (rows : List Record) (ssid : ℕ) (held : Option Record) → AscendsFrom nat_cmp ssid_of row.ssid.0 rows → find_record ssid rows ≡ held → IsSome held
    → row.ssid.0 < ssid
found_behind row rows ssid None up is some = absurd (false≢true some)
found_behind row rows ssid (Some found) up is some =
    let above = lesser_number row.ssid.0 found.ssid.0
    (each_found nat_cmp_total ssid_of (λ one. nat_cmp row.ssid.0 one.ssid.0 ≡ Less) ssid found rows (each_above nat_cmp_total ssid_of row.ssid.0 rows up) is) in
    let same = equal_numbers found.ssid.0 ssid (found_has_key nat_cmp_total ssid_of ssid found rows is) in
    omega (arith, above, same)

-- sets above the first record are among those behind it
among_rest : (row : Record) (rows : List Record) (low : ℕ) (ssids : List Ssid) → row.ssid.0 ≤ low → AscendsFrom nat_cmp ssid_number low ssids
    → AllByRecursion (OnRecord (row ∷ rows)) ssids → AllByRecursion (OnRecord rows) ssids
among_rest row rows low [] under up each = tt
among_rest row rows low (ssid ∷ ssids) under up each =
    let above = lesser_number low ssid.0 up.0 in
    let less : nat_cmp row.ssid.0 ssid.0 ≡ Less = compares_less row.ssid.0 ssid.0 (omega (arith, under, above)) in
    let S : Option Record → Type 0 = λ held. IsSome held in (
      subst S (found_above nat_cmp_total ssid_of row rows ssid.0 less) each.0,
      among_rest row rows ssid.0 ssids (omega (arith, under, above)) up.1 each.1,
    )

no_more : (rows : List Record) (ssids : List Ssid) → Ascends nat_cmp ssid_of rows → Ascends nat_cmp ssid_number ssids → AllByRecursion (OnRecord rows) ssids
    → length ssids ≤ length rows
no_more rows [] order up each = omega arith
no_more [] (ssid ∷ ssids) order up each = absurd (false≢true each.0)
no_more (row ∷ rows) (ssid ∷ ssids) order up each = elim (eqb_tells row.ssid.0 ssid.0) [
  | inl same ↦
      let rest = among_rest row rows ssid.0 ssids (omega (arith, same.1)) up each.1 in
      let count = no_more rows ssids (ascend_alone nat_cmp_total ssid_of row.ssid.0 rows order) (ascend_alone nat_cmp_total ssid_number ssid.0 ssids up) rest in
      omega (arith, count)
  | inr differs ↦
      let behind : find_record ssid.0 (row ∷ rows) ≡ find_record ssid.0 rows = rw (other_number row.ssid.0 ssid.0 differs.1) refl in
      let S : Option Record → Type 0 = λ held. IsSome held in
      let there : OnRecord rows ssid = subst S behind each.0 in
      let above = found_behind row rows ssid.0 (find_record ssid.0 rows) order refl there in
      let rest = among_rest row rows ssid.0 ssids (omega (arith, above)) up each.1 in
      let count = no_more rows (ssid ∷ ssids) (ascend_alone nat_cmp_total ssid_of row.ssid.0 rows order) up (there, rest) in
      omega (arith, count)
]

-- ---- the sets to purge

abbrev HasComplete : List Record → Ssid → Type 0
HasComplete rows ssid = IsSomeAnd (find_record ssid.0 rows) IsComplete

complete_so : (rows : List Record) (sessions : List OpenSet) (moment : ℕ) (ssid : Ssid) → IsPurgeable rows sessions moment ssid.0 → HasComplete rows ssid
complete_so rows sessions moment ssid is = let S : Option Record → Type 0 = λ held. IsSomeAnd held IsComplete in subst S (sym is.found) is.complete

recorded_so : (rows : List Record) (ssid : Ssid) → HasComplete rows ssid → OnRecord rows ssid
recorded_so rows ssid is = by (find_record ssid.0 rows) is
  where
    by : (held : Option Record) → IsSomeAnd held IsComplete → IsSome held
    by None is = absurd is
    by (Some row) is = refl

module _ (m : Moment) (room : RoomView) (ssids : List Ssid) (held : IsHeld room.catalogue) (to : AreToPurge m room ssids) where
  all_complete : AllByRecursion (HasComplete room.catalogue.records) to.purgeable
  all_complete =
      let each = recursion_from_All (Contains to.purgeable) to.purgeable (All-contains_itself to.purgeable) in
      each_weaker (Contains to.purgeable) (HasComplete room.catalogue.records)
      (λ ssid among. complete_so room.catalogue.records (open_sets room) m.0 ssid ((to.are.each ssid).0 among)) to.purgeable each

  complete : AllByRecursion (HasComplete room.catalogue.records) ssids
  complete =
      let A : List Ssid → Type 0 = λ list. AllByRecursion (HasComplete room.catalogue.records) list in
      subst A (sym to.is) (each_filtered (HasComplete room.catalogue.records) (is_unpurged room.catalogue.records) to.purgeable all_complete)

  ascending : Ascends nat_cmp ssid_number ssids
  ascending =
      let A : List Ssid → Type 0 = λ list. Ascends nat_cmp ssid_number list in
      subst A (sym to.is) (ascends_filtered nat_cmp_total ssid_number (is_unpurged room.catalogue.records) to.purgeable to.are.ascending)

  pub purge_allowed : IsChange (Purged ssids)
  purge_allowed =
      let recorded = each_weaker (HasComplete room.catalogue.records) (OnRecord room.catalogue.records) (recorded_so room.catalogue.records) ssids complete in
      let count = no_more room.catalogue.records ssids held.catalogue.records.order ascending recorded in
      (omega (arith, count, held.catalogue.records.count), ascending)

  pub purge_fits : FitsByKind (catalogue_of room.catalogue) (Purged ssids)
  purge_fits = complete
