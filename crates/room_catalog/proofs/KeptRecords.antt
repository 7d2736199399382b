-- Records stay allowed when they are edited, added, and removed.
use Rattle.std.proofs.Common.{◌≡◌, ◌≢◌, ℕ, zero, suc, ◌+◌, ◌<◌, ◌≤◌, Bool, true, false, not, cond, List, [], ◌∷◌, ◌++◌, length, Option, Some, None, refl, sym, subst, ap, ◌∙◌, inl, inr, arith, length-append}
use Rattle.std.specs.Prelude.{◌||◌}
use Rattle.std.specs.List.{AllByRecursion, Any, list_any}
use Rattle.std.specs.Ordering.{eq_by_cmp, nat_cmp}
use Rattle.std.specs.Cmp.{unsigned_ties}
use Rattle.std.proofs.lemmas.Bool.{cond-true, cond_both, false≢true}
use Rattle.std.proofs.lemmas.Bool.Decides.{nat_tests}
use Rattle.std.proofs.lemmas.Cmp.{nat_cmp_total}
use Rattle.room_base.specs.Numbers.{max_moment}
use Rattle.room_base.specs.declared.numbers.CopyNo.{CopyNo}
use Rattle.room_base.specs.declared.numbers.Moment.{Moment}
use Rattle.room_base.specs.declared.numbers.Ssid.{Ssid}
use Rattle.room_base.specs.Ordered.{Ascends}
use Rattle.room_base.proofs.OrderedLaws.{each_weaker}
use Rattle.room_base.proofs.OrderedLists.{ascend_alone}
use Rattle.room_base.proofs.OrderedUpdates.{ascends_put, ascends_removed, ascends_updated, each_put, each_removed, each_updated}
use Rattle.save_stream.specs.declared.head.SetHead.{SetHead}
use Rattle.save_stream.specs.Spelling.{IsHead, head_text}
use Rattle.save_stream.proofs.Lengths.{length-head_text}
use Rattle.media_db.specs.declared.copies.CopyState.TheVariants as copies
use Rattle.media_db.specs.declared.copies.Section.{Section}
use Rattle.media_db.specs.declared.copies.SetCopy.{SetCopy}
use Rattle.media_db.specs.declared.records.Record.{Record}
use Rattle.media_db.specs.declared.records.RecordState.{RecordState}
use Rattle.media_db.specs.declared.records.RecordState.TheVariants as states
use Rattle.media_db.specs.Edits.{aborted, amended, begun_copy, copies_off, copy_no, drop_copies_on, finished, has_copy_if_complete, has_done, is_complete, is_done, is_done_on, purged_by, with_begun_copy, with_copy_done, without_copies_on, without_copy}
use Rattle.media_db.specs.Rows.{find_record, put_row, remove_row, ssid_of, update_row}
use Rattle.media_db.specs.Streams.{head_of}
use Rattle.media_db.specs.declared.volumes.VolumeRec.{VolumeRec}
use Rattle.media_db.proofs.Dropped.{dropped_from}
use Rattle.catalog_change.specs.Catalogues.{FitState, HasRecords, IsCopy, IsDrawn, IsLonger, IsRecord, max_copy, max_number}
use Rattle.catalog_change.specs.Changes.{AreSections, IsCount}
use Rattle.room_catalog.specs.Applying.{begun_row, with_copy_ended}
use Rattle.room_catalog.specs.Changing.{purge_each, records_off}
use Rattle.room_catalog.specs.Fits.{IsBegun, IsComplete, IsCopyFinishable, IsCopyable, IsFinishable}
use Rattle.room_catalog.proofs.Updated.{ascends_filtered, ascends_pushed, each_filtered, each_pushed, each_updated_found, length_filtered, length_put, length_removed, length_updated}

-- what is below a next number is below a later one
drawn_more : (greatest next later number : ℕ) → IsDrawn greatest next number → next < greatest → next ≤ later → IsDrawn greatest later number
drawn_more greatest next later number (inl below) less grows = inl (omega arith)
drawn_more greatest next later number (inr last) less grows = absurd (omega arith)

-- a set is as long, with another record of a head as long
longer_as : (state : RecordState) (row other : Record) → length (head_text (head_of row)) ≡ length (head_text (head_of other)) → row.bytes ≡ other.bytes → IsLonger state row → IsLonger state other
longer_as states.Begun row other head bytes is = tt
longer_as states.Complete row other head bytes is = subst (λ (n : ℕ). n < other.bytes) head (subst (λ (n : ℕ). length (head_text (head_of row)) < n) bytes is)
longer_as states.Aborted row other head bytes is = tt

or_true : (test rest : Bool) → rest ≡ true → test || rest ≡ true
or_true true rest is = refl
or_true false rest is = is

module _ (next : ℕ) (row : Record) (is : IsRecord next row) where
  pub aborted_is : IsRecord next (aborted row)
  aborted_is = record { head = is.head; drawn = is.drawn; bytes = tt; digest = is.digest; each = is.each; order = is.order; count = is.count; state = tt }

  pub purged_is : (number : ℕ) → IsRecord next (purged_by number row)
  purged_is number = record { head = is.head; drawn = is.drawn; bytes = longer_as row.state row (purged_by number row) refl refl is.bytes; digest = is.digest; each = is.each; order = is.order; count = is.count; state = is.state }

  pub amended_is : (browse retain : Moment) (hold : Bool) (number : ℕ) → browse.0 ≤ retain.0 → retain.0 ≤ max_moment → IsRecord next (amended browse retain hold number row)
  amended_is browse retain hold number ordered within =
      let other = amended browse retain hold number row in
      record {
        head = record {
          ssid = is.head.ssid;
          base = is.head.base;
          level = is.head.level;
          full = is.head.full;
          saved = is.head.saved;
          browse = omega arith;
          retain = (ordered, within);
          client = is.head.client;
          set = is.head.set;
          group = is.head.group;
          pool = is.head.pool;
        };
        drawn = is.drawn;
        bytes = longer_as row.state row other (length-head_text (head_of row) ∙ sym (length-head_text (head_of other))) refl is.bytes;
        digest = is.digest;
        each = is.each;
        order = is.order;
        count = is.count;
        state = is.state;
      }

  begun_copies : IsBegun row → row.copies ≡ begun_copy (record { 0 = 1 }) ∷ []
  begun_copies begun = subst (λ (state : RecordState). FitState state row.copies) begun is.state

  first_done : List Section → SetCopy
  first_done sections = record { no = record { 0 = 1 }; state = copies.Done; sections = sections }

  pub finished_is : (files bytes : ℕ) (digest : List ℕ) (sections : List Section) → IsFinishable bytes row → length digest ≡ 32 → AreSections sections → IsRecord next (finished files bytes digest sections row)
  finished_is files bytes digest sections fits whole are =
      let copies_are = begun_copies fits.0 in
      let done : with_copy_done 1 sections row.copies ≡ record { no = record { 0 = 1 }; state = copies.Done; sections = sections } ∷ [] = ap (with_copy_done 1 sections) copies_are in
      let one = subst (AllByRecursion (IsCopy row.next_copy)) copies_are is.each in
      record {
        head = is.head;
        drawn = is.drawn;
        bytes = fits.1;
        digest = whole;
        each = subst (AllByRecursion (IsCopy row.next_copy)) (sym done) (record { number = one.0.number; drawn = one.0.drawn; sections = are }, tt);
        order = subst (Ascends nat_cmp copy_no) (sym done) tt;
        count = subst (λ (list : List SetCopy). length list ≤ 255) (sym done) (omega arith);
        state = subst (λ (list : List SetCopy). has_done list ≡ true) (sym done) refl;
      }

  -- ---- copies

  complete_done : IsComplete row → has_done row.copies ≡ true
  complete_done complete = subst (λ (state : RecordState). FitState state row.copies) complete is.state

  -- a record with a copy has a next one
  next_of : (list : List SetCopy) → has_done list ≡ true → AllByRecursion (IsCopy row.next_copy) list → 1 ≤ row.next_copy
  next_of [] done each = absurd (false≢true done)
  next_of (copy ∷ list) done each = elim each.0.drawn [ inl below ↦ omega (arith, each.0.number) | inr last ↦ omega arith ]

  any_more : (test : SetCopy → Bool) (list others : List SetCopy) → list_any test list ≡ true → list_any test (list ++ others) ≡ true
  any_more test [] others is = absurd (false≢true is)
  any_more test (copy ∷ list) others is = by (test copy) is (any_more test list others)
    where
      by : (here : Bool) → here || list_any test list ≡ true → (list_any test list ≡ true → list_any test (list ++ others) ≡ true) → here || list_any test (list ++ others) ≡ true
      by true is rest = refl
      by false is rest = rest is

  pub with_begun_copy_is : (copy : CopyNo) → IsCopyable copy.0 row → IsRecord next (with_begun_copy copy row)
  with_begun_copy_is copy fits =
      let done = complete_done fits.complete in
      let drawn = fits.drawn in
      let first = next_of row.copies done is.each in
      let more = each_weaker (IsCopy row.next_copy) (IsCopy (copy.0 + 1)) (λ one of. record { number = of.number; drawn = drawn_more max_copy row.next_copy (copy.0 + 1) one.no.0 of.drawn (omega arith) (omega arith); sections = of.sections }) row.copies is.each in
      let below = each_weaker (IsCopy row.next_copy) (λ one. one.no.0 < copy.0) (λ one of. elim of.drawn [ inl less ↦ omega arith | inr last ↦ absurd (omega arith) ]) row.copies is.each in
      record {
        head = is.head;
        drawn = is.drawn;
        bytes = longer_as row.state row (with_begun_copy copy row) refl refl is.bytes;
        digest = is.digest;
        each = each_pushed (IsCopy (copy.0 + 1)) row.copies (begun_copy copy) more (record { number = omega arith; drawn = inl (omega arith); sections = refl });
        order = ascends_pushed copy_no row.copies (begun_copy copy) is.order below;
        count = omega (arith, fits.count, length-append row.copies (begun_copy copy ∷ []));
        state = subst (λ (state : RecordState). FitState state (row.copies ++ begun_copy copy ∷ [])) (sym fits.complete) (any_more (λ one. is_done one.state) row.copies (begun_copy copy ∷ []) done);
      }

  -- a copy that ended is done, and the removed one is another
  module _ (number removed : ℕ) (sections : List Section) where
    later_any : (P : SetCopy → Type 0) (copy : SetCopy) (list : List SetCopy) → ¬ P copy → Any P (copy ∷ list) → Any P list
    later_any P copy list isnt (zero, one, below, there, has) = absurd (isnt (subst P (sym there) has))
    later_any P copy list isnt (suc at, one, below, there, has) = (at, one, omega arith, there, has)

    abbrev Numbered : SetCopy → Type 0
    Numbered copy = copy.no.0 ≡ number

    pub done_left : (list : List SetCopy) → Any Numbered list → removed ≢ number → has_done (without_copy removed (with_copy_done number sections list)) ≡ true
    done_left [] (at, one, below, there, has) differs = absurd (omega arith)
    done_left (copy ∷ list) some differs = by (eq_by_cmp nat_cmp copy.no.0 number) refl (λ more. done_left list more differs)
      where
        kept_or : (keep : Bool) (rest : List SetCopy) → has_done rest ≡ true → has_done (cond keep (copy ∷ rest) rest) ≡ true
        kept_or true rest done = or_true (is_done copy.state) (has_done rest) done
        kept_or false rest done = done

        by : (here : Bool) → eq_by_cmp nat_cmp copy.no.0 number ≡ here
            → (Any Numbered list → has_done (without_copy removed (with_copy_done number sections list)) ≡ true)
            → has_done (without_copy removed (cond here (record copy { state = copies.Done; sections = sections } ∷ list) (copy ∷ with_copy_done number sections list))) ≡ true
        by true is rest =
            let same : copy.no.0 ≡ number = grind (arith, nat_tests, unsigned_ties copy.no.0 number) in
            let other : eq_by_cmp nat_cmp copy.no.0 removed ≡ false = grind (arith, nat_tests, unsigned_ties copy.no.0 removed) in
            ap has_done (cond-true (not (eq_by_cmp nat_cmp copy.no.0 removed)) (record copy { state = copies.Done; sections = sections } ∷ without_copy removed list) (without_copy removed list) (ap not other))
        by false is rest =
            kept_or (not (eq_by_cmp nat_cmp copy.no.0 removed)) (without_copy removed (with_copy_done number sections list))
            (rest (later_any Numbered copy list (λ same. grind (arith, nat_tests, unsigned_ties copy.no.0 number)) some))

  numbered : (number : ℕ) (list : List SetCopy) → Any (λ copy. (copy.no.0 ≡ number) × (copy.state ≡ copies.Begun)) list → Any (λ (copy : SetCopy). copy.no.0 ≡ number) list
  numbered number list (at, one, below, there, has) = (at, one, below, there, has.0)

  -- a copy that is listed has a number of at least 1
  number_some : (number : ℕ) (list : List SetCopy) → AllByRecursion (IsCopy row.next_copy) list → Any (λ (copy : SetCopy). copy.no.0 ≡ number) list → 1 ≤ number
  number_some number [] each (at, one, below, there, has) = absurd (omega arith)
  number_some number (copy ∷ list) each (zero, one, below, there, has) = let first = each.0.number in let same : copy ≡ one = there in let is : copy.no.0 ≡ number = ap (λ (c : SetCopy). c.no.0) same ∙ has in omega arith
  number_some number (copy ∷ list) each (suc at, one, below, there, has) = number_some number list each.1 (at, one, omega arith, there, has)

  pub with_copy_ended_is : (copy : CopyNo) (sections : List Section) (removed : CopyNo) → IsCopyFinishable copy.0 removed.0 row → AreSections sections → IsRecord next (with_copy_ended copy sections removed row)
  with_copy_ended_is copy sections removed fits are =
      let some = numbered copy.0 row.copies fits.begun in
      let least = number_some copy.0 row.copies is.each some in
      let differs : removed.0 ≢ copy.0 = elim fits.other [ inl none ↦ (λ same. omega arith) | inr other ↦ other.0 ] in
      let list = with_copy_done copy.0 sections row.copies in
      record {
        head = is.head;
        drawn = is.drawn;
        bytes = longer_as row.state row (with_copy_ended copy sections removed row) refl refl is.bytes;
        digest = is.digest;
        each = each_removed nat_cmp_total copy_no (IsCopy row.next_copy) removed.0 list
            (each_updated nat_cmp_total copy_no (IsCopy row.next_copy) (λ one. record one { state = copies.Done; sections = sections }) (λ one of. record { number = of.number; drawn = of.drawn; sections = are }) copy.0 row.copies is.each);
        order = ascends_removed nat_cmp_total copy_no removed.0 list (ascends_updated nat_cmp_total copy_no (λ (one : SetCopy). record one { state = copies.Done; sections = sections }) (λ one. refl) copy.0 row.copies is.order);
        count = omega (arith, is.count, length_removed nat_cmp_total copy_no removed.0 list, length_updated nat_cmp_total copy_no copy.0 (λ (one : SetCopy). record one { state = copies.Done; sections = sections }) row.copies);
        state = subst (λ (state : RecordState). FitState state (without_copy removed.0 list)) (sym fits.complete) (done_left copy.0 removed.0 sections row.copies some differs);
      }

  -- ---- copies on a volume

  fit_off : (state : RecordState) (list : List SetCopy) (volid : ℕ) → FitState state list → not (is_complete state) || has_done (copies_off volid list) ≡ true → FitState state (copies_off volid list)
  fit_off states.Begun list volid fit stays = ap (copies_off volid) fit
  fit_off states.Complete list volid fit stays = stays
  fit_off states.Aborted list volid fit stays = tt

  pub without_copies_is : (volid : ℕ) → has_copy_if_complete (without_copies_on volid row) ≡ true → IsRecord next (without_copies_on volid row)
  without_copies_is volid stays =
      record {
        head = is.head;
        drawn = is.drawn;
        bytes = longer_as row.state row (without_copies_on volid row) refl refl is.bytes;
        digest = is.digest;
        each = each_filtered (IsCopy row.next_copy) (λ (copy : SetCopy). not (is_done_on volid copy)) row.copies is.each;
        order = ascends_filtered nat_cmp_total copy_no (λ (copy : SetCopy). not (is_done_on volid copy)) row.copies is.order;
        count = omega (arith, is.count, length_filtered (λ (copy : SetCopy). not (is_done_on volid copy)) row.copies);
        state = fit_off row.state row.copies volid is.state stays;
      }

-- ---- records

begun_is : (head : SetHead) → IsHead head → IsRecord (head.ssid.0 + 1) (begun_row head)
begun_is head is = record {
  head = is;
  drawn = inl (omega arith);
  bytes = tt;
  digest = refl;
  each = (record { number = omega arith; drawn = inl (omega arith); sections = refl }, tt);
  order = tt;
  count = omega arith;
  state = refl;
}

module _ (next : ℕ) (rows : List Record) (are : HasRecords next rows) where
  pub edited_are : (set : Ssid) (edit : Record → Record) → ((row : Record) → (edit row).ssid ≡ row.ssid) → ((row : Record) → find_record set.0 rows ≡ Some row → IsRecord next row → IsRecord next (edit row)) → HasRecords next (update_row set.0 edit rows)
  edited_are set edit keeps allowed = record {
    each = each_updated_found nat_cmp_total ssid_of (IsRecord next) edit set.0 rows allowed are.each;
    order = ascends_updated nat_cmp_total ssid_of edit (λ row. ap (λ (s : Ssid). s.0) (keeps row)) set.0 rows are.order;
    count = subst IsCount (sym (length_updated nat_cmp_total ssid_of set.0 edit rows)) are.count;
  }

  pub begun_are : (head : SetHead) → IsHead head → next ≤ head.ssid.0 → head.ssid.0 < max_number → IsCount (length rows + 1) → HasRecords (head.ssid.0 + 1) (put_row (begun_row head) rows)
  begun_are head is drawn below room = record {
    each = each_put nat_cmp_total ssid_of (IsRecord (head.ssid.0 + 1)) rows (begun_row head) (begun_is head is)
        (each_weaker (IsRecord next) (IsRecord (head.ssid.0 + 1)) (λ row of. record {
          head = of.head;
          drawn = drawn_more max_number next (head.ssid.0 + 1) row.ssid.0 of.drawn (omega arith) (omega arith);
          bytes = of.bytes;
          digest = of.digest;
          each = of.each;
          order = of.order;
          count = of.count;
          state = of.state;
        }) rows are.each);
    order = ascends_put nat_cmp_total ssid_of rows (begun_row head) are.order;
    count = omega (arith, room, length_put nat_cmp_total ssid_of (begun_row head) rows);
  }

  pub removed_are : (gone : ℕ) → HasRecords next (remove_row gone rows)
  removed_are gone = record {
    each = each_removed nat_cmp_total ssid_of (IsRecord next) gone rows are.each;
    order = ascends_removed nat_cmp_total ssid_of gone rows are.order;
    count = omega (arith, are.count, length_removed nat_cmp_total ssid_of gone rows);
  }

each_dropped : (next volid : ℕ) (rows : List Record) → AllByRecursion (IsRecord next) rows → AllByRecursion (IsRecord next) (drop_copies_on volid rows)
each_dropped next volid [] each = tt
each_dropped next volid (row ∷ rows) each =
    let rest = each_dropped next volid rows each.1 in
    cond_both (has_copy_if_complete (without_copies_on volid row)) (without_copies_on volid row ∷ drop_copies_on volid rows) (drop_copies_on volid rows) (AllByRecursion (IsRecord next))
    (λ stays. (without_copies_is next row each.0 volid stays, rest)) (λ gone. rest)

length_dropped : (volid : ℕ) (rows : List Record) → length (drop_copies_on volid rows) ≤ length rows
length_dropped volid [] = omega arith
length_dropped volid (row ∷ rows) =
    let rest = length_dropped volid rows in
    cond_both (has_copy_if_complete (without_copies_on volid row)) (without_copies_on volid row ∷ drop_copies_on volid rows) (drop_copies_on volid rows) (λ (left : List Record). length left ≤ length (row ∷ rows))
    (λ stays. omega (arith, rest)) (λ gone. omega (arith, rest))

dropped_ascend : (volid : ℕ) (rows : List Record) → Ascends nat_cmp ssid_of rows → Ascends nat_cmp ssid_of (drop_copies_on volid rows)
dropped_ascend volid [] a = tt
dropped_ascend volid (row ∷ rows) a =
    let rest = dropped_from volid row.ssid.0 rows a in
    cond_both (has_copy_if_complete (without_copies_on volid row)) (without_copies_on volid row ∷ drop_copies_on volid rows) (drop_copies_on volid rows) (Ascends nat_cmp ssid_of)
    (λ stays. rest) (λ gone. ascend_alone nat_cmp_total ssid_of row.ssid.0 (drop_copies_on volid rows) rest)

pub off_are : (next : ℕ) (gone : Option VolumeRec) (rows : List Record) → HasRecords next rows → HasRecords next (records_off gone rows)
off_are next None rows are = are
off_are next (Some gone) rows are = record {
  each = each_dropped next gone.volid.0 rows are.each;
  order = dropped_ascend gone.volid.0 rows are.order;
  count = omega (arith, are.count, length_dropped gone.volid.0 rows);
}

pub purged_are : (next number : ℕ) (sets : List Ssid) (rows : List Record) → HasRecords next rows → HasRecords next (purge_each number sets rows)
purged_are next number [] rows are = are
purged_are next number (set ∷ sets) rows are =
    purged_are next number sets (update_row set.0 (purged_by number) rows) (edited_are next rows are set (purged_by number) (λ row. refl) (λ row found is. purged_is next row is number))
