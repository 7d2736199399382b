-- What a change leaves of the record of an open session's set.
use Rattle.std.proofs.Common.{◌≡◌, ◌≢◌, ℕ, ◌+◌, ◌==◌, Bool, true, false, cond, List, [], ◌∷◌, refl, sym, ap, ◌∙◌, subst, arith, inl, inr}
use Rattle.std.proofs.lemmas.Bool.{cond-true, cond-false, cond_both, true≢false}
use Rattle.std.proofs.lemmas.Bool.Decides.{eqb_tells, nat_tests}
use Rattle.std.specs.List.{AllByRecursion}
use Rattle.std.specs.Option.{option_map}
use Rattle.std.specs.Ordering.{eq_by_cmp, nat_cmp}
use Rattle.std.specs.Prelude.{Option, Some, None, IsSomeAnd, not, ◌||◌}
use Rattle.room_base.specs.declared.numbers.Moment.{Moment}
use Rattle.room_base.specs.declared.numbers.Ssid.{Ssid}
use Rattle.room_base.proofs.OrderedNumbers.{same_number}
use Rattle.save_stream.specs.declared.head.SetHead.{SetHead}
use Rattle.media_db.specs.declared.copies.CopyState.TheVariants as copies
use Rattle.media_db.specs.declared.records.Record.{Record}
use Rattle.media_db.specs.declared.records.RecordState.{RecordState}
use Rattle.media_db.specs.declared.records.RecordState.TheVariants as states
use Rattle.media_db.specs.declared.volumes.VolumeRec.{VolumeRec}
use Rattle.media_db.specs.Edits.{aborted, amended, drop_copies_on, finished, has_copy_if_complete, has_done, is_complete, purged_by, with_begun_copy, with_copy_removed, with_done_copy, without_copies_on}
use Rattle.media_db.specs.Rows.{find_record, volume_on}
use Rattle.media_db.specs.Streams.{head_of}
use Rattle.catalog_change.specs.declared.change.Change.{Change}
use Rattle.catalog_change.specs.declared.change.Change.TheVariants.{Defined, Dropped, Loaded, Ejected, Labelled, Begun, Finished, Aborted, Amended, Deleted, Purged, CopyBegun, CopyDone, IndexPart, FinishedParts}
use Rattle.room_catalog.specs.Applying.{begun_row, edited_at, is_among}
use Rattle.room_catalog.specs.Changing.{catalogue_after, records_off}
use Rattle.room_catalog.specs.Fits.{FitsByKind, IsBegun, IsComplete}
use Rattle.room_catalog.specs.Held.{CatalogueLists, catalogue_of}
use Rattle.room_catalog.proofs.Found.{found_edited, found_edited_twice, found_purged, found_row, found_without}
use Rattle.save_session.specs.Sessions.{SessionView, find_session, ssid_of}
use Rattle.room_effects.specs.View.{IsRecordOf, with_times_of}
use Rattle.room_effects.specs.Needs.{IsWholeChange}
use Rattle.room_between.specs.Middle.{HasRecord}
use Rattle.room_between.specs.Quiet.{LeavesOpen}

-- ---- the set isn't the change's

-- a change that isn't about this set, or only amends it
abbrev pub IsElsewhere : Change → ℕ → Type 0
IsElsewhere (Begun head) ssid = head.ssid.0 ≢ ssid
IsElsewhere (Finished set files bytes digest sections index) ssid = set.0 ≢ ssid
IsElsewhere (FinishedParts set files bytes digest sections) ssid = set.0 ≢ ssid
IsElsewhere (Aborted set) ssid = set.0 ≢ ssid
IsElsewhere (Deleted set) ssid = set.0 ≢ ssid
IsElsewhere _ ssid = Unit {0}

-- no session that isn't found has the ssid
pub none_has : (ssid : ℕ) (sessions : List SessionView) → find_session ssid sessions ≡ None → AllByRecursion (λ session. ssid ≢ ssid_of session) sessions
none_has ssid [] none = tt
none_has ssid (one ∷ sessions) none = by (eq_by_cmp nat_cmp (ssid_of one) ssid) refl none (none_has ssid sessions)
  where
    by : (here : Bool) → eq_by_cmp nat_cmp (ssid_of one) ssid ≡ here → cond here (Some one) (find_session ssid sessions) ≡ None
        → (find_session ssid sessions ≡ None → AllByRecursion (λ session. ssid ≢ ssid_of session) sessions)
        → AllByRecursion (λ session. ssid ≢ ssid_of session) (one ∷ sessions)
    by true is none rest = absurd (cc none)
    by false is none rest = (
      λ same. absurd (true≢false (sym (same_number ssid) ∙ ap (λ (k : ℕ). eq_by_cmp nat_cmp k ssid) same ∙ is)),
      rest none,
    )

-- nothing is asked of any session
pub each_of_all : {X : Type 0} (xs : List X) → AllByRecursion (λ x. Unit {0}) xs
each_of_all [] = tt
each_of_all (x ∷ xs) = (tt, each_of_all xs)

pub elsewhere : (change : Change) (sessions : List SessionView) → LeavesOpen change sessions → AllByRecursion (λ session. IsElsewhere change (ssid_of session)) sessions
elsewhere (Begun head) sessions leaves = none_has head.ssid.0 sessions leaves
elsewhere (Finished set files bytes digest sections index) sessions leaves = none_has set.0 sessions leaves
elsewhere (FinishedParts set files bytes digest sections) sessions leaves = none_has set.0 sessions leaves
elsewhere (Aborted set) sessions leaves = none_has set.0 sessions leaves
elsewhere (Deleted set) sessions leaves = none_has set.0 sessions leaves
elsewhere (Defined new) sessions leaves = each_of_all sessions
elsewhere (Dropped kind name) sessions leaves = each_of_all sessions
elsewhere (Loaded slot cart) sessions leaves = each_of_all sessions
elsewhere (Ejected slot) sessions leaves = each_of_all sessions
elsewhere (Labelled volid cart pool capacity was) sessions leaves = each_of_all sessions
elsewhere (Amended set browse retain hold) sessions leaves = each_of_all sessions
elsewhere (Purged sets) sessions leaves = each_of_all sessions
elsewhere (CopyBegun set copy) sessions leaves = each_of_all sessions
elsewhere (CopyDone set copy sections removed) sessions leaves = each_of_all sessions
elsewhere (IndexPart set part index) sessions leaves = each_of_all sessions

-- a choice by a number that is another one
pub other_choice : {A : Type 0} (one other : ℕ) (x y : A) → one ≢ other → cond (one == other) x y ≡ y
other_choice one other x y differs = let e : (one == other) ≡ false = grind (arith, nat_tests) in cond-false (one == other) x y e

-- ---- what is found after an edit

module _ (P : Record → Type 0) where
  mapped : (edit : Record → Record) → ((row : Record) → P row → P (edit row)) → (found : Option Record) → IsSomeAnd found P → IsSomeAnd (option_map edit found) P
  mapped edit keeps None has = has
  mapped edit keeps (Some row) has = keeps row has

  -- the record of a set, which may be that of the edited one
  edited : (set : Ssid) (edit : Record → Record) → ((row : Record) → P row → P (edit row)) → (ssid : ℕ) (found : Option Record) → IsSomeAnd found P
      → IsSomeAnd (edited_at set edit ssid found) P
  edited set edit keeps ssid found has =
      cond_both (set.0 == ssid) (option_map edit found) found (λ (it : Option Record). IsSomeAnd it P) (λ same. mapped edit keeps found has) (λ other. has)

  -- copies on a volume went, where no record goes for which this holds
  module _ (volid : ℕ) (stays : (row : Record) → P row → has_copy_if_complete (without_copies_on volid row) ≡ true) (keeps : (row : Record) → P row → P (without_copies_on volid row)) where
    dropped : (ssid : ℕ) (rows : List Record) → IsSomeAnd (find_record ssid rows) P → IsSomeAnd (find_record ssid (drop_copies_on volid rows)) P
    dropped ssid [] has = has
    dropped ssid (row ∷ rows) has =
        by (eq_by_cmp nat_cmp row.ssid.0 ssid) refl (has_copy_if_complete (without_copies_on volid row)) refl has (dropped ssid rows)
      where
        by : (here : Bool) → eq_by_cmp nat_cmp row.ssid.0 ssid ≡ here → (left : Bool) → has_copy_if_complete (without_copies_on volid row) ≡ left
            → IsSomeAnd (cond here (Some row) (find_record ssid rows)) P
            → (IsSomeAnd (find_record ssid rows) P → IsSomeAnd (find_record ssid (drop_copies_on volid rows)) P)
            → IsSomeAnd (find_record ssid (cond left (without_copies_on volid row ∷ drop_copies_on volid rows) (drop_copies_on volid rows))) P
        by true same true left has rest =
            let S : Option Record → Type 0 = λ it. IsSomeAnd it P in
            subst S (sym (cond-true (eq_by_cmp nat_cmp row.ssid.0 ssid) (Some (without_copies_on volid row)) (find_record ssid (drop_copies_on volid rows)) same)) (keeps row has)
        by true same false gone has rest = absurd (true≢false (sym (stays row has) ∙ gone))
        by false other true left has rest =
            let S : Option Record → Type 0 = λ it. IsSomeAnd it P in
            subst S (sym (cond-false (eq_by_cmp nat_cmp row.ssid.0 ssid) (Some (without_copies_on volid row)) (find_record ssid (drop_copies_on volid rows)) other)) (rest has)
        by false other false gone has rest = rest has

-- ---- the record of a session

module _ (session : SessionView) where
  with_copies_left : (volid : ℕ) (row : Record) → IsRecordOf session row → IsRecordOf session (without_copies_on volid row)
  with_copies_left volid row is = record { begun = is.begun; kept = is.kept; head = is.head; unchanged = is.unchanged }

  stays_begun : (volid : ℕ) (row : Record) → IsRecordOf session row → has_copy_if_complete (without_copies_on volid row) ≡ true
  stays_begun volid row is = ap (λ (state : RecordState). not (is_complete state) || has_done (without_copies_on volid row).copies) is.begun

  off_volume : (gone : Option VolumeRec) (ssid : ℕ) (rows : List Record) → IsSomeAnd (find_record ssid rows) (IsRecordOf session)
      → IsSomeAnd (find_record ssid (records_off gone rows)) (IsRecordOf session)
  off_volume None ssid rows has = has
  off_volume (Some gone) ssid rows has = dropped (IsRecordOf session) gone.volid.0 (stays_begun gone.volid.0) (with_copies_left gone.volid.0) ssid rows has

  -- its times are amended, by an entry whose number isn't 0
  is_amended : (browse retain : Moment) (hold : Bool) (number : ℕ) (row : Record) → IsRecordOf session row → IsRecordOf session (amended browse retain hold (number + 1) row)
  is_amended browse retain hold number row is = record {
    begun = is.begun;
    kept = is.kept;
    head = ap (λ (head : SetHead). record head { browse = browse; retain = retain }) is.head;
    unchanged = λ none. absurd (omega (arith, none));
  }

-- a complete record isn't that of a session
not_both : (found : Option Record) → IsSomeAnd found IsComplete → IsSomeAnd found IsBegun → ⊥
not_both None complete begun = absurd complete
not_both (Some row) complete begun = absurd (let no : ◌≡◌ {A = RecordState} states.Complete states.Begun = sym complete ∙ begun in cc)

not_among : (rows : List Record) (ssid : ℕ) → IsSomeAnd (find_record ssid rows) IsBegun → (sets : List Ssid)
    → AllByRecursion (λ set. IsSomeAnd (find_record set.0 rows) IsComplete) sets → is_among sets ssid ≡ false
not_among rows ssid begun [] complete = refl
not_among rows ssid begun (set ∷ sets) complete =
    elim (eqb_tells set.0 ssid) [
      | inl same ↦ (let C : ℕ → Type 0 = λ k. IsSomeAnd (find_record k rows) IsComplete in
          absurd (not_both (find_record ssid rows) (subst C same.1 complete.0) begun))
      | inr other ↦ ap (λ (here : Bool). here || is_among sets ssid) other.0 ∙ not_among rows ssid begun sets complete.1
    ]

begun_of : (session : SessionView) (found : Option Record) → IsSomeAnd found (IsRecordOf session) → IsSomeAnd found IsBegun
begun_of session None has = has
begun_of session (Some row) has = has.begun

-- ---- changes

-- what is found is what was found, for another choice
pub same_found : (P : Record → Type 0) (now was : Option Record) → now ≡ was → IsSomeAnd was P → IsSomeAnd now P
same_found P now was same has = let S : Option Record → Type 0 = λ it. IsSomeAnd it P in subst S (sym same) has

module _ (m : Moment) (lists : CatalogueLists) (session : SessionView) (has : HasRecord lists.records session) where
  abbrev ssid : ℕ
  ssid = ssid_of session

  abbrev found : Option Record
  found = find_record ssid lists.records

  -- the record of a session's set stays its record behind a change
  pub record_stays : (change : Change) → IsWholeChange change → FitsByKind (catalogue_of lists) change → IsElsewhere change ssid
      → HasRecord (catalogue_after m change lists).records session
  record_stays (Defined new) whole fits there = has
  record_stays (Dropped kind name) whole fits there = has
  record_stays (Loaded slot cart) whole fits there = has
  record_stays (Ejected slot) whole fits there = has
  record_stays (Labelled volid cart pool capacity was) whole fits there = off_volume session (volume_on cart.0 lists.volumes) ssid lists.records has
  record_stays (Begun head) whole fits there =
      same_found (IsRecordOf session) (find_record ssid (catalogue_after m (Begun head) lists).records) found
      (found_row (begun_row head) ssid lists.records ∙ other_choice head.ssid.0 ssid (Some (begun_row head)) found there) has
  record_stays (Finished set files bytes digest sections index) whole fits there =
      same_found (IsRecordOf session) (find_record ssid (catalogue_after m (Finished set files bytes digest sections index) lists).records) found
      (found_edited set (finished files bytes digest sections) (λ row. refl) ssid lists.records
      ∙ other_choice set.0 ssid (option_map (finished files bytes digest sections) found) found there) has
  record_stays (FinishedParts set files bytes digest sections) whole fits there =
      same_found (IsRecordOf session) (find_record ssid (catalogue_after m (FinishedParts set files bytes digest sections) lists).records) found
      (found_edited set (finished files bytes digest sections) (λ row. refl) ssid lists.records
      ∙ other_choice set.0 ssid (option_map (finished files bytes digest sections) found) found there) has
  record_stays (Aborted set) whole fits there =
      same_found (IsRecordOf session) (find_record ssid (catalogue_after m (Aborted set) lists).records) found
      (found_edited set aborted (λ row. refl) ssid lists.records ∙ other_choice set.0 ssid (option_map aborted found) found there) has
  record_stays (Amended set browse retain hold) whole fits there =
      let edit : Record → Record = amended browse retain hold (lists.number + 1) in
      same_found (IsRecordOf session) (find_record ssid (catalogue_after m (Amended set browse retain hold) lists).records) (edited_at set edit ssid found)
      (found_edited set edit (λ row. refl) ssid lists.records)
      (edited (IsRecordOf session) set edit (is_amended session browse retain hold lists.number) ssid found has)
  record_stays (Deleted set) whole fits there =
      same_found (IsRecordOf session) (find_record ssid (catalogue_after m (Deleted set) lists).records) found
      (found_without set.0 ssid lists.records ∙ other_choice set.0 ssid None found there) has
  record_stays (Purged sets) whole fits there =
      let among = not_among lists.records ssid (begun_of session found has) sets fits in
      same_found (IsRecordOf session) (find_record ssid (catalogue_after m (Purged sets) lists).records) found
      (found_purged (lists.number + 1) sets ssid lists.records
      ∙ cond-false (is_among sets ssid) (option_map (purged_by (lists.number + 1)) found) found among) has
  record_stays (CopyBegun set copy) whole fits there =
      let edit : Record → Record = with_begun_copy copy in
      same_found (IsRecordOf session) (find_record ssid (catalogue_after m (CopyBegun set copy) lists).records) (edited_at set edit ssid found)
      (found_edited set edit (λ row. refl) ssid lists.records)
      (edited (IsRecordOf session) set edit (λ row is. record { begun = is.begun; kept = is.kept; head = is.head; unchanged = is.unchanged }) ssid found has)
  record_stays (CopyDone set copy sections removed) whole fits there =
      let edit : Record → Record = λ row. with_copy_removed removed (with_done_copy copy sections row) in
      same_found (IsRecordOf session) (find_record ssid (catalogue_after m (CopyDone set copy sections removed) lists).records) (edited_at set edit ssid found)
      (found_edited_twice set (with_done_copy copy sections) (with_copy_removed removed) (λ row. refl) (λ row. refl) ssid lists.records)
      (edited (IsRecordOf session) set edit (λ row is. record { begun = is.begun; kept = is.kept; head = is.head; unchanged = is.unchanged }) ssid found has)
  record_stays (IndexPart set part index) whole fits there = absurd whole

-- the record of a save that has begun is its session's
pub begun_has : (head : SetHead) (rows : List Record) (session : SessionView) → session.head ≡ head → IsRecordOf session (begun_row head)
begun_has head rows session same =
    let H : SetHead → Type 0 = λ it. (head_of (begun_row head) ≡ with_times_of (begun_row head) it) × (head_of (begun_row head) ≡ it) in
    let is = subst H (sym same) (refl, refl) in
    record { begun = refl; kept = refl; head = is.0; unchanged = λ none. (is.1, refl) }
