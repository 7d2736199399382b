-- Changes: what is read is spelled so and allowed, and what is allowed is read.
use Rattle.std.proofs.Common.{◌≡◌, ℕ, ◌≤◌, ◌<◌, ◌^◌, List, [], ◌∷◌, ◌++◌, length, Ok, refl, arith}
use Rattle.std.specs.Prelude.{IfSome}
use Rattle.std.specs.List.{AllByRecursion}
use Rattle.std.specs.Ordering.{nat_cmp}
use Rattle.std.specs.declared.cmp.Ordering.TheVariants.{Less}
use Rattle.room_base.specs.Numbers.{max_moment}
use Rattle.room_base.specs.Ordered.{Ascends}
use Rattle.room_base.specs.declared.numbers.Ssid.{Ssid}
use Rattle.save_stream.specs.Standing.{AreBytes}
use Rattle.catalog_change.specs.Changes.{IsChange, IsCount, ssid_number}
use Rattle.catalog_change.specs.Resources.{IsResource}
use Rattle.catalog_change.specs.declared.change.Change.{Change}
use Rattle.catalog_change.specs.declared.change.Change.TheVariants.{Defined, Dropped, Loaded, Ejected, Labelled, Begun, Finished, Aborted, Amended, Deleted, Purged, CopyBegun, CopyDone, IndexPart, FinishedParts}
use Rattle.catalog_change.specs.declared.resource.Resource.{Resource}
use Rattle.catalog_spelling.specs.Spelled.{Took, Judged, Reads}
use Rattle.catalog_spelling.specs.Lists.{last_item}
use Rattle.catalog_spelling.specs.Kinds.{chosen}
use Rattle.catalog_spelling.specs.Resources.{resource_text, FitsResource}
use Rattle.catalog_spelling.specs.Changes.{max_count, resources_at, resources_text, ssid_text, is_next_ssid, ssid_at, ssids_at, ssids_text, change_byte, fields_text, defined_at, dropped_at, loaded_at, ejected_at, labelled_at, begun_at, finished_at, aborted_at, amended_at, deleted_at, purged_at, copy_begun_at, copy_done_at, index_part_at, finished_parts_at, change_readers, change_alone_at, change_alone_text, Stamped, change_at, change_text, FitsChange}
use Rattle.catalog_spelling.proofs.Steps.{start, begin, took, after, then-found, checked-reads, reads-as}
use Rattle.catalog_spelling.proofs.Fields.{byte-reads, bytes-reads, u32-reads, u64-reads, u32-within, u64-above, number-empty, moment-reads, flag-reads, name-reads}
use Rattle.catalog_spelling.proofs.Lists.{list-reads}
use Rattle.catalog_spelling.proofs.Behind.{each-is, each-behind, Rises, rising-is, rising-behind, above-is, above-again}
use Rattle.catalog_spelling.proofs.SectionLaws.{sections-read}
use Rattle.catalog_spelling.proofs.EntryLaws.{index-reads}
use Rattle.catalog_spelling.proofs.ResourceLaws.{resource_kind-reads, resource-reads, IsFittingResource}
use Rattle.catalog_spelling.proofs.HeadLaws.{head-reads}
use Rattle.catalog_spelling.proofs.KindLaws.{by_kind-reads}

-- ---- resources and save sets

abbrev AreResources : List Resource → Type 0
AreResources resources = (IsCount (length resources) × AllByRecursion IsResource resources) × AllByRecursion FitsResource resources

resources-apart : (resources : List Resource) → AllByRecursion IsFittingResource resources → AllByRecursion IsResource resources × AllByRecursion FitsResource resources
resources-apart [] each = (tt, tt)
resources-apart (resource ∷ resources) each = let more = resources-apart resources each.1 in ((each.0.0, more.0), (each.0.1, more.1))

resources-both : (resources : List Resource) → AllByRecursion IsResource resources → AllByRecursion FitsResource resources → AllByRecursion IsFittingResource resources
resources-both [] is fits = tt
resources-both (resource ∷ resources) is fits = ((is.0, fits.0), resources-both resources is.1 fits.1)

resources-read : Reads resources_at resources_text AreResources
resources-read =
    reads-as (list-reads (u32-within 0 max_count (omega arith)) _ resource_text (λ before. IsFittingResource) (λ before. resource-reads)) AreResources
    (λ resources is.
    let each = resources-apart resources (each-is IsFittingResource [] resources is.1) in
    ((omega (arith, is.0.1), each.0), each.1))
    (λ resources is. ((omega arith, omega (arith, is.0.0)), each-behind IsFittingResource [] resources (resources-both resources is.0.1 is.1)))

-- a number of eight bytes
abbrev IsWide : Ssid → Type 0
IsWide ssid = ssid.0 < 2 ^ 64

-- one that stands above the last one
abbrev IsNext : List Ssid → Ssid → Type 0
IsNext before ssid = Rises nat_cmp ssid_number IsWide before ssid

abbrev IsNextNumber : List Ssid → ℕ → Type 0
IsNextNumber before number = (number < 2 ^ 64) × IfSome (last_item before) (λ last. nat_cmp (ssid_number last) number ≡ Less)

ssid-reads : (before : List Ssid) → Reads (ssid_at before) ssid_text (IsNext before)
unfolding ssid_at
ssid-reads before =
    let number-reads = reads-as (checked-reads u64-reads (is_next_ssid before) (number-empty 8 (omega arith))) (IsNextNumber before)
    (λ number is. (is.0, above-is ssid_number (last_item before) number is.1)) (λ number is. (is.0, above-again ssid_number (last_item before) number is.1)) in
    record {
      found = λ bytes are. then-found number-reads _ _ (begin (ssid_at before) bytes are) (λ number rest number-is goes. (took _ goes, number-is));
      again = λ ssid rest is. (after number-reads _ ssid.0 is (start (ssid_at before))).goes rest;
    }

abbrev AreSsids : List Ssid → Type 0
AreSsids ssids = (IsCount (length ssids) × Ascends nat_cmp ssid_number ssids) × AllByRecursion IsWide ssids

ssids-read : Reads ssids_at ssids_text AreSsids
ssids-read =
    reads-as (list-reads (u32-within 0 max_count (omega arith)) ssid_at ssid_text IsNext ssid-reads) AreSsids
    (λ ssids is.
    let parts = rising-is nat_cmp ssid_number IsWide ssids is.1 in
    ((omega (arith, is.0.1), parts.1), parts.0))
    (λ ssids is. ((omega arith, omega (arith, is.0.0)), rising-behind nat_cmp ssid_number IsWide ssids is.1 is.0.1))

-- ---- the fields of each kind

-- a change that is allowed, whose numbers fit
abbrev pub IsFitting : Change → Type 0
IsFitting change = IsChange change × FitsChange change

-- what is read as the fields of this kind
abbrev FoundAs : ℕ → List ℕ → Change → List ℕ → Type 0
FoundAs kind bytes change rest = Took bytes (fields_text change) rest × (IsFitting change × (change_byte change ≡ kind))

defined-found : (bytes : List ℕ) → AreBytes bytes → Judged defined_at bytes (defined_at bytes) (FoundAs 1 bytes)
unfolding defined_at
defined-found bytes are =
    then-found resources-read _ _ (begin defined_at bytes are) (λ resources rest resources-is goes.
    (took _ goes, ((resources-is.0, resources-is.1), refl)))

dropped-found : (bytes : List ℕ) → AreBytes bytes → Judged dropped_at bytes (dropped_at bytes) (FoundAs 2 bytes)
unfolding dropped_at
dropped-found bytes are =
    then-found resource_kind-reads _ _ (begin dropped_at bytes are) (λ kind rest kind-is goes.
    then-found (name-reads 64 (omega arith)) _ _ goes (λ name rest name-is goes.
    (took _ goes, ((name-is, tt), refl))))

loaded-found : (bytes : List ℕ) → AreBytes bytes → Judged loaded_at bytes (loaded_at bytes) (FoundAs 3 bytes)
unfolding loaded_at
loaded-found bytes are =
    then-found byte-reads _ _ (begin loaded_at bytes are) (λ slot rest slot-is goes.
    then-found u32-reads _ _ goes (λ cart rest cart-is goes.
    (took _ goes, ((tt, (slot-is, cart-is)), refl))))

ejected-found : (bytes : List ℕ) → AreBytes bytes → Judged ejected_at bytes (ejected_at bytes) (FoundAs 4 bytes)
unfolding ejected_at
ejected-found bytes are =
    then-found byte-reads _ _ (begin ejected_at bytes are) (λ slot rest slot-is goes.
    (took _ goes, ((tt, slot-is), refl)))

labelled-found : (bytes : List ℕ) → AreBytes bytes → Judged labelled_at bytes (labelled_at bytes) (FoundAs 5 bytes)
unfolding labelled_at
labelled-found bytes are =
    then-found (u64-above 0) _ _ (begin labelled_at bytes are) (λ volid rest volid-is goes.
    then-found u32-reads _ _ goes (λ cart rest cart-is goes.
    then-found (name-reads 64 (omega arith)) _ _ goes (λ pool rest pool-is goes.
    then-found (u32-within 67 1000000 (omega arith)) _ _ goes (λ capacity rest capacity-is goes.
    then-found u64-reads _ _ goes (λ was rest was-is goes.
    (took _ goes, (((volid-is.1, pool-is, capacity-is), (volid-is.0, cart-is, was-is)), refl)))))))

begun-found : (bytes : List ℕ) → AreBytes bytes → Judged begun_at bytes (begun_at bytes) (FoundAs 6 bytes)
unfolding begun_at
begun-found bytes are =
    then-found head-reads _ _ (begin begun_at bytes are) (λ head rest head-is goes.
    (took _ goes, ((head-is, tt), refl)))

finished-found : (bytes : List ℕ) → AreBytes bytes → Judged finished_at bytes (finished_at bytes) (FoundAs 7 bytes)
unfolding finished_at
finished-found bytes are =
    then-found u64-reads _ _ (begin finished_at bytes are) (λ ssid rest ssid-is goes.
    then-found u32-reads _ _ goes (λ files rest files-is goes.
    then-found u64-reads _ _ goes (λ size rest size-is goes.
    then-found (bytes-reads 32 (omega arith)) _ _ goes (λ digest rest digest-is goes.
    then-found sections-read _ _ goes (λ sections rest sections-is goes.
    then-found (index-reads 0 max_count (omega arith)) _ _ goes (λ index rest index-is goes.
    (took _ goes, (((sections-is.0, index-is.0), (record { of_ssid = ssid-is; of_files = files-is; of_bytes = size-is; of_digest = digest-is; of_sections = sections-is.1 }, index-is.2)), refl))))))))

aborted-found : (bytes : List ℕ) → AreBytes bytes → Judged aborted_at bytes (aborted_at bytes) (FoundAs 8 bytes)
unfolding aborted_at
aborted-found bytes are =
    then-found u64-reads _ _ (begin aborted_at bytes are) (λ ssid rest ssid-is goes.
    (took _ goes, ((tt, ssid-is), refl)))

amended-found : (bytes : List ℕ) → AreBytes bytes → Judged amended_at bytes (amended_at bytes) (FoundAs 9 bytes)
unfolding amended_at
amended-found bytes are =
    then-found u64-reads _ _ (begin amended_at bytes are) (λ ssid rest ssid-is goes.
    then-found u64-reads _ _ goes (λ browse rest browse-is goes.
    then-found u64-reads _ _ goes (λ retain rest retain-is goes.
    then-found flag-reads _ _ goes (λ hold rest hold-is goes.
    (took _ goes, ((tt, (ssid-is, browse-is, retain-is)), refl))))))

deleted-found : (bytes : List ℕ) → AreBytes bytes → Judged deleted_at bytes (deleted_at bytes) (FoundAs 10 bytes)
unfolding deleted_at
deleted-found bytes are =
    then-found u64-reads _ _ (begin deleted_at bytes are) (λ ssid rest ssid-is goes.
    (took _ goes, ((tt, ssid-is), refl)))

purged-found : (bytes : List ℕ) → AreBytes bytes → Judged purged_at bytes (purged_at bytes) (FoundAs 11 bytes)
unfolding purged_at
purged-found bytes are =
    then-found ssids-read _ _ (begin purged_at bytes are) (λ ssids rest ssids-is goes.
    (took _ goes, ((ssids-is.0, ssids-is.1), refl)))

copy_begun-found : (bytes : List ℕ) → AreBytes bytes → Judged copy_begun_at bytes (copy_begun_at bytes) (FoundAs 12 bytes)
unfolding copy_begun_at
copy_begun-found bytes are =
    then-found u64-reads _ _ (begin copy_begun_at bytes are) (λ ssid rest ssid-is goes.
    then-found u32-reads _ _ goes (λ copy rest copy-is goes.
    (took _ goes, ((tt, (ssid-is, copy-is)), refl))))

copy_done-found : (bytes : List ℕ) → AreBytes bytes → Judged copy_done_at bytes (copy_done_at bytes) (FoundAs 13 bytes)
unfolding copy_done_at
copy_done-found bytes are =
    then-found u64-reads _ _ (begin copy_done_at bytes are) (λ ssid rest ssid-is goes.
    then-found u32-reads _ _ goes (λ copy rest copy-is goes.
    then-found sections-read _ _ goes (λ sections rest sections-is goes.
    then-found u32-reads _ _ goes (λ removed rest removed-is goes.
    (took _ goes, ((sections-is.0, (ssid-is, copy-is, sections-is.1, removed-is)), refl))))))

index_part-found : (bytes : List ℕ) → AreBytes bytes → Judged index_part_at bytes (index_part_at bytes) (FoundAs 14 bytes)
unfolding index_part_at
index_part-found bytes are =
    then-found u64-reads _ _ (begin index_part_at bytes are) (λ ssid rest ssid-is goes.
    then-found u32-reads _ _ goes (λ part rest part-is goes.
    then-found (index-reads 1 10000 (omega arith)) _ _ goes (λ index rest index-is goes.
    (took _ goes, (((index-is.0, index-is.1.0, index-is.1.1), (ssid-is, part-is, index-is.2)), refl)))))

finished_parts-found : (bytes : List ℕ) → AreBytes bytes → Judged finished_parts_at bytes (finished_parts_at bytes) (FoundAs 15 bytes)
unfolding finished_parts_at
finished_parts-found bytes are =
    then-found u64-reads _ _ (begin finished_parts_at bytes are) (λ ssid rest ssid-is goes.
    then-found (u32-within 10001 max_count (omega arith)) _ _ goes (λ files rest files-is goes.
    then-found u64-reads _ _ goes (λ size rest size-is goes.
    then-found (bytes-reads 32 (omega arith)) _ _ goes (λ digest rest digest-is goes.
    then-found sections-read _ _ goes (λ sections rest sections-is goes.
    (took _ goes, (((omega (arith, files-is.0), sections-is.0), record { of_ssid = ssid-is; of_files = omega (arith, files-is.1); of_bytes = size-is; of_digest = digest-is; of_sections = sections-is.1 }), refl)))))))

-- what is allowed is read by the reader of its kind
change-again : (change : Change) (behind : ℕ) (rest : List ℕ) → IsFitting change → chosen change_readers (change_byte change) behind (fields_text change ++ rest) ≡ Ok (change, rest)
unfolding defined_at dropped_at loaded_at ejected_at labelled_at begun_at finished_at aborted_at amended_at deleted_at purged_at copy_begun_at copy_done_at index_part_at finished_parts_at
change-again (Defined resources) behind rest both =
    let is = both.0 in
    let fits = both.1 in
    (after resources-read _ resources (is, fits) (start defined_at)).goes rest
change-again (Dropped kind name) behind rest both =
    let is = both.0 in
    let fits = both.1 in
    (after (name-reads 64 (omega arith)) _ name is
    (after resource_kind-reads _ kind tt (start dropped_at))).goes rest
change-again (Loaded slot cart) behind rest both =
    let is = both.0 in
    let fits = both.1 in
    (after u32-reads _ cart.0 fits.1
    (after byte-reads _ slot fits.0 (start loaded_at))).goes rest
change-again (Ejected slot) behind rest both =
    let is = both.0 in
    let fits = both.1 in
    (after byte-reads _ slot fits (start ejected_at)).goes rest
change-again (Labelled volid cart pool capacity was) behind rest both =
    let is = both.0 in
    let fits = both.1 in
    (after u64-reads _ was.0 fits.2
    (after (u32-within 67 1000000 (omega arith)) _ capacity is.2
    (after (name-reads 64 (omega arith)) _ pool is.1
    (after u32-reads _ cart.0 fits.1
    (after (u64-above 0) _ volid.0 (fits.0, is.0) (start labelled_at)))))).goes rest
change-again (Begun head) behind rest both =
    let is = both.0 in
    let fits = both.1 in
    (after head-reads _ head is (start begun_at)).goes rest
change-again (Finished ssid files bytes digest sections index) behind rest both =
    let is = both.0 in
    let fits = both.1 in
    (after (index-reads 0 max_count (omega arith)) _ index (is.1, (omega arith, omega (arith, is.1.count)), fits.1)
    (after sections-read _ sections (is.0, fits.0.of_sections)
    (after (bytes-reads 32 (omega arith)) _ digest fits.0.of_digest
    (after u64-reads _ bytes fits.0.of_bytes
    (after u32-reads _ files fits.0.of_files
    (after u64-reads _ ssid.0 fits.0.of_ssid (start finished_at))))))).goes rest
change-again (Aborted ssid) behind rest both =
    let is = both.0 in
    let fits = both.1 in
    (after u64-reads _ ssid.0 fits (start aborted_at)).goes rest
change-again (Amended ssid browse retain hold) behind rest both =
    let is = both.0 in
    let fits = both.1 in
    (after flag-reads _ hold tt
    (after u64-reads _ retain.0 fits.2
    (after u64-reads _ browse.0 fits.1
    (after u64-reads _ ssid.0 fits.0 (start amended_at))))).goes rest
change-again (Deleted ssid) behind rest both =
    let is = both.0 in
    let fits = both.1 in
    (after u64-reads _ ssid.0 fits (start deleted_at)).goes rest
change-again (Purged ssids) behind rest both =
    let is = both.0 in
    let fits = both.1 in
    (after ssids-read _ ssids (is, fits) (start purged_at)).goes rest
change-again (CopyBegun ssid copy) behind rest both =
    let is = both.0 in
    let fits = both.1 in
    (after u32-reads _ copy.0 fits.1
    (after u64-reads _ ssid.0 fits.0 (start copy_begun_at))).goes rest
change-again (CopyDone ssid copy sections removed) behind rest both =
    let is = both.0 in
    let fits = both.1 in
    (after u32-reads _ removed.0 fits.3
    (after sections-read _ sections (is, fits.2)
    (after u32-reads _ copy.0 fits.1
    (after u64-reads _ ssid.0 fits.0 (start copy_done_at))))).goes rest
change-again (IndexPart ssid part index) behind rest both =
    let is = both.0 in
    let fits = both.1 in
    (after (index-reads 1 10000 (omega arith)) _ index (is.0, (is.1, is.2), fits.2)
    (after u32-reads _ part fits.1
    (after u64-reads _ ssid.0 fits.0 (start index_part_at)))).goes rest
change-again (FinishedParts ssid files bytes digest sections) behind rest both =
    let is = both.0 in
    let fits = both.1 in
    (after sections-read _ sections (is.1, fits.of_sections)
    (after (bytes-reads 32 (omega arith)) _ digest fits.of_digest
    (after u64-reads _ bytes fits.of_bytes
    (after (u32-within 10001 max_count (omega arith)) _ files (omega (arith, is.0), omega (arith, fits.of_files))
    (after u64-reads _ ssid.0 fits.of_ssid (start finished_parts_at)))))).goes rest

change_alone-reads : Reads change_alone_at change_alone_text IsFitting
change_alone-reads =
    by_kind-reads change_readers change_byte fields_text IsFitting
    (defined-found, (dropped-found, (loaded-found, (ejected-found, (labelled-found, (begun-found, (finished-found, (aborted-found, (amended-found, (deleted-found, (purged-found, (copy_begun-found, (copy_done-found, (index_part-found, (finished_parts-found, tt)))))))))))))))
    change-again

-- ---- behind a moment

abbrev stamped_text : Stamped → List ℕ
stamped_text stamped = change_text stamped.moment stamped.change

abbrev pub IsStampedFitting : Stamped → Type 0
IsStampedFitting stamped = (stamped.moment ≤ max_moment) × IsFitting stamped.change

pub change-reads : Reads change_at stamped_text IsStampedFitting
unfolding change_at
change-reads = record {
  found = λ bytes are.
      then-found moment-reads _ _ (begin change_at bytes are) (λ moment rest moment-is goes.
      then-found change_alone-reads _ _ goes (λ change rest change-is goes. (took _ goes, (moment-is, change-is))));
  again = λ stamped rest is.
      (after change_alone-reads _ stamped.change is.1
      (after moment-reads _ stamped.moment is.0 (start change_at))).goes rest;
}
