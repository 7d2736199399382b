-- What is found among the entries of a set, and what stands above a path.
use Rattle.std.specs.List.{find}
use Rattle.std.proofs.Common.{◌≡◌, ℕ, Bool, zero, suc, ◌+◌, ◌-◌, List, [], ◌∷◌, length, get_or, take, drop, Ok, Err, refl, sym, ap, ◌∙◌, arith, add-one}
use Rattle.std.specs.Prelude.{Some, None, nat_eq}
use Rattle.std.specs.Cmp.Lexicographic.{slice_cmp, pointwise, nat_list_cmp_total, texts_ties}
use Rattle.std.specs.Ordering.{nat_cmp, is_eq, is_gt}
use Rattle.std.specs.declared.cmp.Ordering.TheVariants.{Equal}
use Rattle.std.proofs.lemmas.Bool.{cond-false}
use Rattle.std.proofs.lemmas.Cmp.{tied_back}
use Rattle.std.proofs.lemmas.List.{length-drop}
use Rattle.std.proofs.Math.Seq.{take-length}
use Rattle.save_stream.specs.declared.entry.IndexEntry.{IndexEntry}
use Rattle.save_stream.specs.Spelling.{IsBelow}
use Rattle.room_base.specs.Ordered.{IsPlace, find_by}
use Rattle.save_stream.specs.Spelling.{path_of, PathsAscend}
use Rattle.client_index.specs.View.{entry_of}
use Rattle.client_index.specs.Walk.{AreAbove}
use Rattle.room_base.proofs.OrderedLists.{from_lower, greater_back, before_place, ascend_rest, tail_place, tail_gap}
use Rattle.room_base.proofs.OrderedSearch.{found_read, none_at}

-- an entry is found by its path
entry_is : (entries : List IndexEntry) (path : List ℕ) → entry_of entries path ≡ find_by (slice_cmp nat_cmp) path_of path entries
entry_is entries path = ap (λ (test : IndexEntry → Bool). find test entries) (λ i e. texts_ties e.path path i)

pub entry_at : (entries : List IndexEntry) (path : List ℕ) (at : ℕ) (entry : IndexEntry) → PathsAscend entries → IsPlace (slice_cmp nat_cmp) path_of path entries (Ok at) → entry ≡ get_or entries at entry → Some entry ≡ entry_of entries path
entry_at entries path at entry ascend place is =
    sym (entry_is entries path ∙ found_read nat_list_cmp_total path_of path entries ascend at place entry is)

pub no_entry : (entries : List IndexEntry) (path : List ℕ) (at : ℕ) → PathsAscend entries → IsPlace (slice_cmp nat_cmp) path_of path entries (Err at) → None ≡ entry_of entries path
no_entry entries path at ascend place =
    sym (entry_is entries path ∙ none_at nat_list_cmp_total path_of path entries at place)

-- an entry below a path doesn't have it
pub skips : (entry : IndexEntry) (entries : List IndexEntry) (path : List ℕ) → IsBelow entry.path path → entry_of (entry ∷ entries) path ≡ entry_of entries path
skips entry entries path below = cond-false (pointwise nat_eq entry.path path) (Some entry) (entry_of entries path) (texts_ties entry.path path ∙ ap is_eq below)

above_found : (entries : List IndexEntry) (after : List ℕ) (at : ℕ) → PathsAscend entries → IsPlace (slice_cmp nat_cmp) path_of after entries (Ok at) → AreAbove after entries (drop (suc at) entries)
above_found [] after at ascend place = absurd (omega (arith, place.0))
above_found (entry ∷ entries) after zero ascend place =
    let same : slice_cmp nat_cmp entry.path after ≡ Equal = place.1 entry in
    record {
      ascend = from_lower nat_list_cmp_total path_of entry.path after entries (ap is_gt (tied_back nat_list_cmp_total entry.path after same)) ascend;
      same = λ path below. sym (skips entry entries path (nat_list_cmp_total.congr entry.path after path same ∙ below));
    }
above_found (entry ∷ entries) after (suc at) ascend place =
    let tail : IsPlace (slice_cmp nat_cmp) path_of after entries (Ok at) = tail_place nat_list_cmp_total path_of after entry entries at place in
    let rest = above_found entries after at (ascend_rest nat_list_cmp_total path_of entry entries ascend) tail in
    let head = before_place nat_list_cmp_total path_of entry.path after entries ascend at tail in
    record {
      ascend = rest.ascend;
      same = λ path below. rest.same path below ∙ sym (skips entry entries path (nat_list_cmp_total.trans entry.path after path head below));
    }

above_gap : (entries : List IndexEntry) (after : List ℕ) (at : ℕ) → PathsAscend entries → IsPlace (slice_cmp nat_cmp) path_of after entries (Err at) → AreAbove after entries (drop at entries)
above_gap [] after zero ascend place = record { ascend = tt; same = λ path below. refl }
above_gap (entry ∷ entries) after zero ascend place =
    record {
      ascend = (greater_back nat_list_cmp_total entry.path after (place.2 zero entry (omega arith) (omega arith)), ascend);
      same = λ path below. refl;
    }
above_gap [] after (suc at) ascend place = absurd (omega (arith, place.0))
above_gap (entry ∷ entries) after (suc at) ascend place =
    let tail : IsPlace (slice_cmp nat_cmp) path_of after entries (Err at) = tail_gap nat_list_cmp_total path_of after entry entries at place in
    let rest = above_gap entries after at (ascend_rest nat_list_cmp_total path_of entry entries ascend) tail in
    let head : IsBelow entry.path after = place.1 zero entry (omega arith) (omega arith) in
    record {
      ascend = rest.ascend;
      same = λ path below. rest.same path below ∙ sym (skips entry entries path (nat_list_cmp_total.trans entry.path after path head below));
    }

whole_range : {X : Type 0} (xs : List X) (from : ℕ) → take (length xs - from) (drop from xs) ≡ drop from xs
whole_range xs from = ap (λ n. take n (drop from xs)) (sym (length-drop from xs)) ∙ take-length (drop from xs)

-- the entries behind the place of a path, as a range of a slice has them
pub above_at : (entries : List IndexEntry) (after : List ℕ) (at : ℕ) → PathsAscend entries → IsPlace (slice_cmp nat_cmp) path_of after entries (Ok at) → AreAbove after entries (take (length entries - (at + 1)) (drop (at + 1) entries))
above_at entries after at ascend place = rw (whole_range entries (at + 1), add-one) (above_found entries after at ascend place)

pub above_from : (entries : List IndexEntry) (after : List ℕ) (at : ℕ) → PathsAscend entries → IsPlace (slice_cmp nat_cmp) path_of after entries (Err at) → AreAbove after entries (take (length entries - at) (drop at entries))
above_from entries after at ascend place = rw (whole_range entries at) (above_gap entries after at ascend place)
