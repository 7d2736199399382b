-- What is found in the lists of a catalogue after a change.
use Rattle.std.proofs.Common.{◌≡◌, ◌≢◌, ℕ, Bool, true, false, cond, List, [], ◌∷◌, Option, Some, None, refl, sym, ap, ◌∙◌, arith}
use Rattle.std.specs.Prelude.{◌==◌, ◌||◌, unwrap_or}
use Rattle.std.specs.List.{AllByRecursion}
use Rattle.std.specs.Option.{option_and_then, option_map, option_or}
use Rattle.std.specs.Cmp.{unsigned_ties}
use Rattle.std.specs.Cmp.Lexicographic.{slice_cmp, nat_list_cmp_total, same_text, texts_ties}
use Rattle.std.specs.Ordering.{eq_by_cmp, is_eq, nat_cmp}
use Rattle.std.specs.declared.cmp.Ordering.TheVariants.{Equal, Greater, Less}
use Rattle.std.specs.declared.cmp.Ordering.{Ordering}
use Rattle.std.proofs.lemmas.Bool.{true≢false}
use Rattle.std.proofs.lemmas.Bool.Decides.{nat_tests}
use Rattle.std.proofs.lemmas.Cmp.{nat_cmp_total}
use Rattle.room_base.specs.declared.numbers.Ssid.{Ssid}
use Rattle.room_base.specs.Ordered.{Ascends, put_by, remove_by}
use Rattle.room_base.proofs.OrderedLaws.{each_above, each_found, found_has_key, found_put, found_removed, found_updated}
use Rattle.room_base.proofs.OrderedLists.{ascend_rest}
use Rattle.room_base.proofs.OrderedNumbers.{equal_numbers, lesser_number}
use Rattle.save_stream.specs.declared.entry.IndexEntry.{IndexEntry}
use Rattle.media_db.specs.declared.records.Record.{Record}
use Rattle.media_db.specs.declared.volumes.VolumeRec.{VolumeRec}
use Rattle.media_db.specs.Edits.{has_copy_if_complete, purged_by, without_copies_on}
use Rattle.media_db.specs.Rows.{find_record, find_volume, put_row, put_volume, remove_row, ssid_of, update_row, volid_of}
use Rattle.media_db.proofs.Dropped.{found_dropped}
use Rattle.client_index.specs.declared.index.SetIndex.{SetIndex}
use Rattle.client_index.specs.Sets.{entries_of, forget, forget_each, put}
use Rattle.client_index.proofs.Shown.{entries_of-forget, entries_of-put}
use Rattle.catalog_change.specs.declared.slot.FilledSlot.{FilledSlot}
use Rattle.catalog_change.specs.Catalogues.{slot_number}
use Rattle.room_catalog.specs.Applying.{edited_at, index_of_row, is_among, is_gone, row_off, row_off_gone}
use Rattle.room_catalog.specs.Changing.{forget_off, forget_row_off, purge_each, records_off, sets_off, volumes_off}
use Rattle.room_catalog.specs.Fits.{find_slot}
use Rattle.room_catalog.specs.Held.{index_in}
use Rattle.resource_lists.specs.Kinds.{find_named, put_each, put_named}

-- a choice by numbers that compare as equal is one by numbers that are equal
pub by_number : {A : Type 0} (one other : ℕ) (x y : A) → cond (eq_by_cmp nat_cmp one other) x y ≡ cond (one == other) x y
by_number one other x y = ap (λ (test : Bool). cond test x y) (sym (unsigned_ties one other))

equal_is : (order : Ordering) → is_eq order ≡ true → order ≡ Equal
equal_is Less e = absurd (true≢false (sym e))
equal_is Equal e = refl
equal_is Greater e = absurd (true≢false (sym e))

-- ---- slots

pub found_filled : (filled : FilledSlot) (slot : ℕ) (slots : List FilledSlot) → find_slot slot (put_by nat_cmp slot_number filled slots) ≡ cond (filled.slot == slot) (Some filled) (find_slot slot slots)
found_filled filled slot slots = found_put nat_cmp_total slot_number filled slot slots ∙ by_number filled.slot slot _ _

pub found_emptied : (emptied slot : ℕ) (slots : List FilledSlot) → find_slot slot (remove_by nat_cmp slot_number emptied slots) ≡ cond (emptied == slot) None (find_slot slot slots)
found_emptied emptied slot slots = found_removed nat_cmp_total slot_number emptied slot slots ∙ by_number emptied slot _ _

-- ---- volumes

pub found_volumes_off : (gone : Option VolumeRec) (volid : ℕ) (volumes : List VolumeRec) → find_volume volid (volumes_off gone volumes) ≡ cond (is_gone gone volid) None (find_volume volid volumes)
found_volumes_off None volid volumes = refl
found_volumes_off (Some gone) volid volumes = found_removed nat_cmp_total volid_of gone.volid.0 volid volumes ∙ by_number gone.volid.0 volid _ _

pub found_laid : (volume : VolumeRec) (gone : Option VolumeRec) (volid : ℕ) (volumes : List VolumeRec)
    → find_volume volid (put_volume volume (volumes_off gone volumes)) ≡ cond (volume.volid.0 == volid) (Some volume) (cond (is_gone gone volid) None (find_volume volid volumes))
found_laid volume gone volid volumes =
    found_put nat_cmp_total volid_of volume volid (volumes_off gone volumes) ∙ by_number volume.volid.0 volid _ _
    ∙ ap (λ (rest : Option VolumeRec). cond (volume.volid.0 == volid) (Some volume) rest) (found_volumes_off gone volid volumes)

-- ---- records

pub found_row : (row : Record) (ssid : ℕ) (rows : List Record) → find_record ssid (put_row row rows) ≡ cond (row.ssid.0 == ssid) (Some row) (find_record ssid rows)
found_row row ssid rows = found_put nat_cmp_total ssid_of row ssid rows ∙ by_number row.ssid.0 ssid _ _

pub found_without : (gone ssid : ℕ) (rows : List Record) → find_record ssid (remove_row gone rows) ≡ cond (gone == ssid) None (find_record ssid rows)
found_without gone ssid rows = found_removed nat_cmp_total ssid_of gone ssid rows ∙ by_number gone ssid _ _

pub found_edited : (set : Ssid) (edit : Record → Record) → ((row : Record) → (edit row).ssid ≡ row.ssid) → (ssid : ℕ) (rows : List Record)
    → find_record ssid (update_row set.0 edit rows) ≡ edited_at set edit ssid (find_record ssid rows)
found_edited set edit keeps ssid rows =
    found_updated nat_cmp_total ssid_of edit (λ row. ap (λ (s : Ssid). s.0) (keeps row)) set.0 ssid rows ∙ by_number set.0 ssid _ _

-- a record that is edited twice
pub found_edited_twice : (set : Ssid) (first second : Record → Record) → ((row : Record) → (first row).ssid ≡ row.ssid) → ((row : Record) → (second row).ssid ≡ row.ssid) → (ssid : ℕ) (rows : List Record)
    → find_record ssid (update_row set.0 second (update_row set.0 first rows)) ≡ edited_at set (λ row. second (first row)) ssid (find_record ssid rows)
found_edited_twice set first second keeps also ssid rows =
    found_edited set second also ssid (update_row set.0 first rows) ∙ ap (edited_at set second ssid) (found_edited set first keeps ssid rows)
    ∙ by (set.0 == ssid) (find_record ssid rows)
  where
    by : (here : Bool) (found : Option Record) → cond here (option_map second (cond here (option_map first found) found)) (cond here (option_map first found) found) ≡ cond here (option_map (λ row. second (first row)) found) found
    by true None = refl
    by true (Some row) = refl
    by false found = refl

-- purged once or more, a record is purged
purged_or : (number : ℕ) (here among : Bool) (found : Option Record) → cond among (option_map (purged_by number) (cond here (option_map (purged_by number) found) found)) (cond here (option_map (purged_by number) found) found) ≡ cond (here || among) (option_map (purged_by number) found) found
purged_or number true true None = refl
purged_or number true true (Some row) = refl
purged_or number true false found = refl
purged_or number false among found = refl

pub found_purged : (number : ℕ) (sets : List Ssid) (ssid : ℕ) (rows : List Record) → find_record ssid (purge_each number sets rows) ≡ cond (is_among sets ssid) (option_map (purged_by number) (find_record ssid rows)) (find_record ssid rows)
found_purged number [] ssid rows = refl
found_purged number (set ∷ sets) ssid rows =
    let once = found_edited set (purged_by number) (λ row. refl) ssid rows in
    found_purged number sets ssid (update_row set.0 (purged_by number) rows)
    ∙ ap (λ (found : Option Record). cond (is_among sets ssid) (option_map (purged_by number) found) found) once
    ∙ purged_or number (set.0 == ssid) (is_among sets ssid) (find_record ssid rows)

-- ---- resources

pub same_name : (one other : List ℕ) → slice_cmp nat_cmp one other ≡ Equal → one ≡ other
same_name one other is = same_text one other (sym (texts_ties one other ∙ ap is_eq is))

-- items of which no two have one name
abbrev pub Apart : {X : Type 0} → (X → List ℕ) → List X → Type 0
Apart name [] = Unit {0}
Apart name (x ∷ xs) = AllByRecursion (λ other. name other ≢ name x) xs × Apart name xs

none_named : {X : Type 0} (name : X → List ℕ) (x : X) (xs : List X) (wanted : List ℕ) → AllByRecursion (λ other. name other ≢ name x) xs → slice_cmp nat_cmp (name x) wanted ≡ Equal → find_named name wanted xs ≡ None
none_named name x xs wanted apart is = by (find_named name wanted xs) refl
  where
    by : (found : Option _) → find_named name wanted xs ≡ found → found ≡ None
    by None found = refl
    by (Some other) found =
        let has = same_name (name other) wanted (found_has_key nat_list_cmp_total name wanted other xs found) in
        let other_name = each_found nat_list_cmp_total name (λ one. name one ≢ name x) wanted other xs apart found in
        absurd (other_name (has ∙ sym (same_name (name x) wanted is)))

pub found_each : {X : Type 0} (name : X → List ℕ) (items list : List X) (wanted : List ℕ) → Apart name items → find_named name wanted (put_each name items list) ≡ option_or (find_named name wanted items) (find_named name wanted list)
found_each name [] list wanted apart = refl
found_each name (x ∷ xs) list wanted apart =
    found_each name xs (put_named name x list) wanted apart.1
    ∙ ap (option_or (find_named name wanted xs)) (found_put nat_list_cmp_total name x wanted list)
    ∙ by (eq_by_cmp (slice_cmp nat_cmp) (name x) wanted) refl
  where
    by : (here : Bool) → eq_by_cmp (slice_cmp nat_cmp) (name x) wanted ≡ here
        → option_or (find_named name wanted xs) (cond here (Some x) (find_named name wanted list)) ≡ option_or (cond here (Some x) (find_named name wanted xs)) (find_named name wanted list)
    by true is = ap (λ (found : Option _). option_or found (Some x)) (none_named name x xs wanted apart.0 (equal_is (slice_cmp nat_cmp (name x) wanted) is))
    by false is = refl

pub found_off : (gone : Option VolumeRec) (ssid : ℕ) (rows : List Record) → Ascends nat_cmp ssid_of rows → find_record ssid (records_off gone rows) ≡ row_off_gone gone (find_record ssid rows)
found_off None ssid rows ascend = refl
found_off (Some gone) ssid rows ascend = found_dropped gone.volid.0 ssid rows ascend

-- ---- indexes

chosen : {X : Type 0} (test : Bool) (x : Option (List X)) (y : Option (List X)) → unwrap_or (cond test x y) [] ≡ cond test (unwrap_or x []) (unwrap_or y [])
chosen true x y = refl
chosen false x y = refl

pub index_put : (sets : List SetIndex) (new : SetIndex) (ssid : ℕ) → index_in (put sets new) ssid ≡ cond (new.ssid.0 == ssid) new.entries (index_in sets ssid)
index_put sets new ssid =
    ap (λ (found : Option (List IndexEntry)). unwrap_or found []) (entries_of-put sets new (record { 0 = ssid }))
    ∙ chosen (new.ssid.0 == ssid) (Some new.entries) (entries_of sets (record { 0 = ssid }))

pub index_forgotten : (sets : List SetIndex) (gone : Ssid) (ssid : ℕ) → index_in (forget sets gone) ssid ≡ cond (gone.0 == ssid) [] (index_in sets ssid)
index_forgotten sets gone ssid =
    ap (λ (found : Option (List IndexEntry)). unwrap_or found []) (entries_of-forget sets gone (record { 0 = ssid }))
    ∙ chosen (gone.0 == ssid) None (entries_of sets (record { 0 = ssid }))

forgotten_or : {X : Type 0} (here among : Bool) (x : List X) → cond among [] (cond here [] x) ≡ cond (here || among) [] x
forgotten_or true true x = refl
forgotten_or true false x = refl
forgotten_or false among x = refl

pub index_purged : (gone : List Ssid) (sets : List SetIndex) (ssid : ℕ) → index_in (forget_each gone sets) ssid ≡ cond (is_among gone ssid) [] (index_in sets ssid)
index_purged [] sets ssid = refl
index_purged (one ∷ others) sets ssid =
    index_purged others (forget sets one) ssid
    ∙ ap (λ (x : List IndexEntry). cond (is_among others ssid) [] x) (index_forgotten sets one ssid)
    ∙ forgotten_or (one.0 == ssid) (is_among others ssid) (index_in sets ssid)

-- behind a record no other has its number
none_behind : (row : Record) (rows : List Record) (ssid : ℕ) → Ascends nat_cmp ssid_of (row ∷ rows) → eq_by_cmp nat_cmp row.ssid.0 ssid ≡ true → find_record ssid rows ≡ None
none_behind row rows ssid ascend is = by (find_record ssid rows) refl
  where
    by : (found : Option Record) → find_record ssid rows ≡ found → found ≡ None
    by None found = refl
    by (Some other) found =
        let same : row.ssid.0 ≡ ssid = grind (arith, nat_tests, unsigned_ties row.ssid.0 ssid) in
        let below = lesser_number row.ssid.0 other.ssid.0 (each_found nat_cmp_total ssid_of (λ one. nat_cmp row.ssid.0 one.ssid.0 ≡ Less) ssid other rows (each_above nat_cmp_total ssid_of row.ssid.0 rows ascend) found) in
        let has = equal_numbers other.ssid.0 ssid (found_has_key nat_cmp_total ssid_of ssid other rows found) in
        absurd (omega arith)

-- the index of a record that goes is gone
module _ (volid ssid : ℕ) where
  row_forgotten : (row : Record) (sets : List SetIndex) → index_in (forget_row_off volid row sets) ssid ≡ cond (has_copy_if_complete (without_copies_on volid row)) (index_in sets ssid) (cond (row.ssid.0 == ssid) [] (index_in sets ssid))
  row_forgotten row sets = by (has_copy_if_complete (without_copies_on volid row))
    where
      by : (stays : Bool) → index_in (cond stays sets (forget sets row.ssid)) ssid ≡ cond stays (index_in sets ssid) (cond (row.ssid.0 == ssid) [] (index_in sets ssid))
      by true = refl
      by false = index_forgotten sets row.ssid ssid

  beside : (stays here : Bool) (old : List IndexEntry) → here ≡ false → cond stays old (cond here [] old) ≡ old
  beside true here old other = refl
  beside false true old other = absurd (true≢false other)
  beside false false old other = refl

  -- no record of the set: its index stays
  other_stays : (rows : List Record) (sets : List SetIndex) → find_record ssid rows ≡ None → index_in (forget_off volid rows sets) ssid ≡ index_in sets ssid
  other_stays [] sets none = refl
  other_stays (row ∷ rows) sets none = by (eq_by_cmp nat_cmp row.ssid.0 ssid) refl none (λ none. other_stays rows (forget_row_off volid row sets) none)
    where
      by : (here : Bool) → eq_by_cmp nat_cmp row.ssid.0 ssid ≡ here → cond here (Some row) (find_record ssid rows) ≡ None
          → (find_record ssid rows ≡ None → index_in (forget_off volid rows (forget_row_off volid row sets)) ssid ≡ index_in (forget_row_off volid row sets) ssid)
          → index_in (forget_off volid rows (forget_row_off volid row sets)) ssid ≡ index_in sets ssid
      by true is none rest = cc
      by false is none rest = rest none ∙ row_forgotten row sets ∙ beside (has_copy_if_complete (without_copies_on volid row)) (row.ssid.0 == ssid) (index_in sets ssid) (unsigned_ties row.ssid.0 ssid ∙ is)

  -- what is left of an index
  abbrev left : Option Record → List IndexEntry → List IndexEntry
  left None old = old
  left (Some row) old = index_of_row (row_off volid row) old

  goes : (row : Record) (stays : Bool) (old : List IndexEntry) → cond stays old (cond true [] old) ≡ index_of_row (cond stays (Some row) None) old
  goes row true old = refl
  goes row false old = refl

  pub left_off : (rows : List Record) (sets : List SetIndex) → Ascends nat_cmp ssid_of rows → index_in (forget_off volid rows sets) ssid ≡ left (find_record ssid rows) (index_in sets ssid)
  left_off [] sets ascend = refl
  left_off (row ∷ rows) sets ascend = by (eq_by_cmp nat_cmp row.ssid.0 ssid) refl (left_off rows (forget_row_off volid row sets) (ascend_rest nat_cmp_total ssid_of row rows ascend))
    where
      by : (here : Bool) → eq_by_cmp nat_cmp row.ssid.0 ssid ≡ here
          → index_in (forget_off volid rows (forget_row_off volid row sets)) ssid ≡ left (find_record ssid rows) (index_in (forget_row_off volid row sets) ssid)
          → index_in (forget_off volid rows (forget_row_off volid row sets)) ssid ≡ left (cond here (Some row) (find_record ssid rows)) (index_in sets ssid)
      by true is rest =
          let none = none_behind row rows ssid ascend is in
          other_stays rows (forget_row_off volid row sets) none ∙ row_forgotten row sets
          ∙ ap (λ (here : Bool). cond (has_copy_if_complete (without_copies_on volid row)) (index_in sets ssid) (cond here [] (index_in sets ssid))) (unsigned_ties row.ssid.0 ssid ∙ is)
          ∙ goes (without_copies_on volid row) (has_copy_if_complete (without_copies_on volid row)) (index_in sets ssid)
      by false is rest =
          rest ∙ ap (left (find_record ssid rows)) (row_forgotten row sets ∙ beside (has_copy_if_complete (without_copies_on volid row)) (row.ssid.0 == ssid) (index_in sets ssid) (unsigned_ties row.ssid.0 ssid ∙ is))

-- where a set without a record has no index
pub index_off : (gone : Option VolumeRec) (rows : List Record) (sets : List SetIndex) (ssid : ℕ) → Ascends nat_cmp ssid_of rows → (find_record ssid rows ≡ None → index_in sets ssid ≡ [])
    → index_in (sets_off gone rows sets) ssid ≡ index_of_row (row_off_gone gone (find_record ssid rows)) (index_in sets ssid)
index_off None rows sets ssid ascend none = by (find_record ssid rows) none
  where
    by : (found : Option Record) → (found ≡ None → index_in sets ssid ≡ []) → index_in sets ssid ≡ index_of_row found (index_in sets ssid)
    by None none = none refl
    by (Some row) none = refl
index_off (Some gone) rows sets ssid ascend none = left_off gone.volid.0 ssid rows sets ascend ∙ by (find_record ssid rows) none
  where
    by : (found : Option Record) → (found ≡ None → index_in sets ssid ≡ []) → left gone.volid.0 ssid found (index_in sets ssid) ≡ index_of_row (option_and_then (row_off gone.volid.0) found) (index_in sets ssid)
    by None none = none refl
    by (Some row) none = refl
