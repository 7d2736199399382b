-- What a walk does to the sets before it.
use Rattle.std.proofs.Common.{◌≡◌, ℕ, zero, suc, ◌+◌, ◌<◌, ◌≤◌, Bool, true, false, cond, List, [], ◌∷◌, ◌++◌, length, get_or, set, take, drop, refl, sym, ap, ◌∙◌, subst, arith}
use Rattle.std.specs.Prelude.{Option, Some, None, nat_eq, map, filter, not, ◌==◌}
use Rattle.std.specs.List.{AllByRecursion}
use Rattle.std.specs.Cmp.Lexicographic.{slice_cmp, pointwise, nat_list_eq_equiv, texts_ties, same_text}
use Rattle.std.specs.Ordering.{nat_cmp, is_eq, is_gt}
use Rattle.std.specs.declared.cmp.Ordering.{Ordering}
use Rattle.std.specs.declared.cmp.Ordering.TheVariants.{Less, Equal, Greater}
use Rattle.std.proofs.lemmas.Bool.{true≢false, cond-false, cond_both, ne_eqb}
use Rattle.std.proofs.lemmas.List.{map-append, map-set, get_or-map, take_more, take_all, append-nil}
use Rattle.std.proofs.lemmas.List.Edits.{map_over_more}
use Rattle.std.proofs.Math.ListN.{drop_of_length-le}
use Rattle.room_base.specs.declared.numbers.Ssid.{Ssid}
use Rattle.save_stream.specs.declared.entry.IndexEntry.{IndexEntry}
use Rattle.save_stream.specs.Spelling.{IsBelow}
use Rattle.client_index.specs.declared.index.SetIndex.{SetIndex}
use Rattle.client_index.specs.declared.walk.Rest.{Rest}
use Rattle.save_stream.specs.Spelling.{PathsAscend, PathsAscendFrom}
use Rattle.client_index.specs.View.{entry_of, first_of, deciding}
use Rattle.client_index.specs.Walk.{EachAscends, EachAscendsFrom, BeginsFrom, past, past_in, has_entries, passed, rest_of, rests_of}
use Rattle.client_index.proofs.Paths.{skips}
use Rattle.client_index.proofs.Deciding.{none_from}

each-filter : {X : Type 0} (P : X → Type 0) (test : X → Bool) (xs : List X) → AllByRecursion P xs → AllByRecursion P (filter test xs)
each-filter P test [] each = tt
each-filter P test (x ∷ xs) each =
    let rest = each-filter P test xs each.1 in
    cond_both (test x) (x ∷ filter test xs) (filter test xs) (AllByRecursion P) (λ kept. (each.0, rest)) (λ dropped. rest)

-- ---- the loops

-- one more set is seen
pub seen_more : (rests : List Rest) (i : ℕ) (d : Rest) → i < length rests → rests_of (take (i + 1) rests) ≡ rests_of (take i rests) ++ rest_of (get_or rests i d) ∷ []
seen_more rests i d within = ap rests_of (take_more rests i d within) ∙ map-append rest_of (take i rests) (get_or rests i d ∷ [])

pub each-take : {X : Type 0} (P : X → Type 0) (xs : List X) (i : ℕ) → AllByRecursion P xs → AllByRecursion P (take i xs)
each-take P [] zero each = tt
each-take P (x ∷ xs) zero each = tt
each-take P [] (suc i) each = tt
each-take P (x ∷ xs) (suc i) each = (each.0, each-take P xs i each.1)

rests_of-take : (rests : List Rest) (i : ℕ) → rests_of (take i rests) ≡ take i (rests_of rests)
rests_of-take [] zero = refl
rests_of-take (rest ∷ rests) zero = refl
rests_of-take [] (suc i) = refl
rests_of-take (rest ∷ rests) (suc i) = ap (λ others. rest_of rest ∷ others) (rests_of-take rests i)

pub each-seen : (rests : List Rest) (i : ℕ) → EachAscends (rests_of rests) → EachAscends (rests_of (take i rests))
each-seen rests i each = rw (rests_of-take rests i) (each-take (λ set. PathsAscend set.entries) (rests_of rests) i each)

-- one more set is past the path
pub passed_more : (path : List ℕ) (start : List SetIndex) (rests : List Rest) (i : ℕ) (d new : Rest) → i < length rests → length rests ≡ length start
    → rests_of rests ≡ map (past_in path) (take i start) ++ drop i start → rest_of new ≡ past_in path (rest_of (get_or rests i d))
    → rests_of (set rests i new) ≡ map (past_in path) (take (i + 1) start) ++ drop (i + 1) start
passed_more path start rests i d new within long before is =
    let here : SetIndex = rest_of (get_or rests i d) in
    let read : here ≡ get_or (rests_of rests) i here = sym (get_or-map rest_of rests i d here within) in
    map-set rest_of rests i new
    ∙ ap (λ x. set (rests_of rests) i x) is
    ∙ map_over_more (past_in path) start (rests_of rests) i here (omega (arith, long, within)) before read

-- a rest with entries
abbrev pub is_left : Rest → Bool
is_left rest = has_entries (rest_of rest)

rests_of-filter : (rests : List Rest) → rests_of (filter is_left rests) ≡ filter has_entries (rests_of rests)
rests_of-filter [] = refl
rests_of-filter (rest ∷ rests) = by (is_left rest) (rests_of-filter rests)
  where
    by : (test : Bool) → rests_of (filter is_left rests) ≡ filter has_entries (rests_of rests)
        → rests_of (cond test (rest ∷ filter is_left rests) (filter is_left rests))
        ≡ cond test (rest_of rest ∷ filter has_entries (rests_of rests)) (filter has_entries (rests_of rests))
    by true others = ap (λ all. rest_of rest ∷ all) others
    by false others = others

-- all sets are past the path
pub passed_all : (path : List ℕ) (start : List SetIndex) (rests : List Rest) (i : ℕ) → length start ≤ i
    → rests_of rests ≡ map (past_in path) (take i start) ++ drop i start → rests_of rests ≡ map (past_in path) start
passed_all path start rests i all before =
    before ∙ ap (λ xs. map (past_in path) xs ++ drop i start) (take_all i start all) ∙ ap (λ xs. map (past_in path) start ++ xs) (drop_of_length-le start all) ∙ append-nil (map (past_in path) start)

-- what is left of a list, of which all items were written over
pub written_back : {X : Type 0} (new old : List X) (n : ℕ) → length new ≡ n → length old ≡ n → take n (new ++ drop (length new) old) ≡ new
written_back new old n long as_long =
    ap (λ xs. take n (new ++ xs)) (drop_of_length-le old (omega (arith, long, as_long))) ∙ ap (take n) (append-nil new) ∙ take_all n new (omega (arith, long))

-- those without entries are dropped
pub passed_left : (path : List ℕ) (start : List SetIndex) (rests kept : List Rest) → rests_of rests ≡ map (past_in path) start → kept ≡ filter is_left rests → rests_of kept ≡ passed path start
passed_left path start rests kept past is = ap rests_of is ∙ rests_of-filter rests ∙ ap (λ sets. filter has_entries sets) past

-- ---- what is past a path

-- above the path the entries are the same
past_same : (path other : List ℕ) (entries : List IndexEntry) → IsBelow path other → entry_of (past path entries) other ≡ entry_of entries other
past_same path other [] below = refl
past_same path other (entry ∷ entries) below =
    cond_both (pointwise nat_eq entry.path path) entries (entry ∷ entries) (λ left. entry_of left other ≡ entry_of (entry ∷ entries) other)
    (λ same. sym (skips entry entries other (subst (λ p. IsBelow p other) (sym (same_text entry.path path (sym same))) below)))
    (λ not_same. refl)

with_one : (set : SetIndex) (sets : List SetIndex) (path : List ℕ) → deciding (cond (has_entries set) (set ∷ sets) sets) path ≡ deciding (set ∷ sets) path
with_one set sets path = by set.entries refl
  where
    by : (entries : List IndexEntry) → set.entries ≡ entries → deciding (cond (not (length entries == 0)) (set ∷ sets) sets) path ≡ deciding (set ∷ sets) path
    by [] is = sym (ap (λ e. first_of set.ssid (entry_of e path) (deciding sets path)) is)
    by (entry ∷ entries) is = ap (λ b. deciding (cond b (set ∷ sets) sets) path) (ap not (ne_eqb (length (entry ∷ entries)) 0 (λ e. omega (arith, e))))

-- a set without entries decides on nothing
deciding-filter : (sets : List SetIndex) (path : List ℕ) → deciding (filter has_entries sets) path ≡ deciding sets path
deciding-filter [] path = refl
deciding-filter (set ∷ sets) path =
    with_one set (filter has_entries sets) path ∙ ap (λ rest. first_of set.ssid (entry_of set.entries path) rest) (deciding-filter sets path)

deciding-past : (path other : List ℕ) (sets : List SetIndex) → IsBelow path other → deciding (map (past_in path) sets) other ≡ deciding sets other
deciding-past path other [] below = refl
deciding-past path other (set ∷ sets) below =
    ap (λ o. first_of set.ssid o (deciding (map (past_in path) sets) other)) (past_same path other set.entries below)
    ∙ ap (λ rest. first_of set.ssid (entry_of set.entries other) rest) (deciding-past path other sets below)

-- above the path that is passed the sets decide as before
pub deciding-passed : (path other : List ℕ) (sets : List SetIndex) → IsBelow path other → deciding (passed path sets) other ≡ deciding sets other
deciding-passed path other sets below = deciding-filter (map (past_in path) sets) other ∙ deciding-past path other sets below

ordered_apart : (path other : List ℕ) (order : Ordering) → slice_cmp nat_cmp path other ≡ order → is_gt order ≡ false → is_eq order ≡ false → IsBelow path other
ordered_apart path other Less is low apart = is
ordered_apart path other Equal is low apart = absurd (true≢false apart)
ordered_apart path other Greater is low apart = absurd (true≢false low)

past_ascends : (path : List ℕ) (entries : List IndexEntry) → PathsAscend entries → BeginsFrom path entries → PathsAscendFrom path (past path entries)
past_ascends path [] ascend begins = tt
past_ascends path (entry ∷ entries) ascend begins =
    cond_both (pointwise nat_eq entry.path path) entries (entry ∷ entries) (PathsAscendFrom path)
    (λ same. subst (λ p. PathsAscendFrom p entries) (same_text entry.path path (sym same)) ascend)
    (λ not_same. (ordered_apart path entry.path (slice_cmp nat_cmp path entry.path) refl begins (apart not_same), ascend))
  where
    apart : pointwise nat_eq entry.path path ≡ false → is_eq (slice_cmp nat_cmp path entry.path) ≡ false
    apart not_same = sym (texts_ties path entry.path) ∙ nat_list_eq_equiv.symm path entry.path ∙ not_same

each-past : (path : List ℕ) (sets : List SetIndex) → EachAscends sets → AllByRecursion (λ set. BeginsFrom path set.entries) sets → EachAscendsFrom path (map (past_in path) sets)
each-past path [] each begin = tt
each-past path (set ∷ sets) each begin = (past_ascends path set.entries each.0 begin.0, each-past path sets each.1 begin.1)

-- what is past a path ascends from above it
pub passed_ascends : (path : List ℕ) (sets : List SetIndex) → EachAscends sets → AllByRecursion (λ set. BeginsFrom path set.entries) sets → EachAscendsFrom path (passed path sets)
passed_ascends path sets each begin = each-filter (λ set. PathsAscendFrom path set.entries) has_entries (map (past_in path) sets) (each-past path sets each begin)

-- ---- how much is left

-- how many entries sets have together
abbrev pub total : List SetIndex → ℕ
total [] = 0
total (set ∷ sets) = length set.entries + total sets

total-filter : (sets : List SetIndex) → total (filter has_entries sets) ≤ total sets
total-filter [] = omega arith
total-filter (set ∷ sets) =
    let rest = total-filter sets in
    cond_both (has_entries set) (set ∷ filter has_entries sets) (filter has_entries sets) (λ left. total left ≤ length set.entries + total sets)
    (λ kept. omega (arith, rest)) (λ dropped. omega (arith, rest))

length-past : (path : List ℕ) (entries : List IndexEntry) → length (past path entries) ≤ length entries
length-past path [] = omega arith
length-past path (entry ∷ entries) =
    cond_both (pointwise nat_eq entry.path path) entries (entry ∷ entries) (λ left. length left ≤ suc (length entries)) (λ same. omega arith) (λ not_same. omega arith)

total-past : (path : List ℕ) (sets : List SetIndex) → total (map (past_in path) sets) ≤ total sets
total-past path [] = omega arith
total-past path (set ∷ sets) = omega (arith, length-past path set.entries, total-past path sets)

-- what begins with a path has fewer entries past it
fewer_past : (path : List ℕ) (entries : List IndexEntry) (entry : IndexEntry) → PathsAscend entries → BeginsFrom path entries → entry_of entries path ≡ Some entry → length (past path entries) < length entries
fewer_past path [] entry ascend begins is = cc
fewer_past path (first ∷ entries) entry ascend begins is =
    cond_both (pointwise nat_eq first.path path) entries (first ∷ entries) (λ left. length left < suc (length entries))
    (λ same. omega arith)
    (λ not_same. absurd (nothing (sym (cond-false (pointwise nat_eq first.path path) (Some first) (entry_of entries path) not_same ∙ none_from first.path path entries begins ascend) ∙ is)))
  where
    nothing : None ≡ Some entry → ⊥
    nothing e = cc

fewer : (path : List ℕ) (sets : List SetIndex) (one : Ssid × IndexEntry) → EachAscends sets → AllByRecursion (λ set. BeginsFrom path set.entries) sets → deciding sets path ≡ Some one
    → total (map (past_in path) sets) < total sets
fewer path [] one each begin is = cc
fewer path (set ∷ sets) one each begin is = by (entry_of set.entries path) refl (λ e. fewer path sets one each.1 begin.1 e)
  where
    by : (o : Option IndexEntry) → entry_of set.entries path ≡ o → (deciding sets path ≡ Some one → total (map (past_in path) sets) < total sets) → length (past path set.entries) + total (map (past_in path) sets) < length set.entries + total sets
    by None none rest = omega (arith, rest (sym (ap (λ o. first_of set.ssid o (deciding sets path)) none) ∙ is), length-past path set.entries)
    by (Some entry) found rest = omega (arith, fewer_past path set.entries entry each.0 begin.0 found, total-past path sets)

-- past the least path there are fewer entries
pub fewer_left : (path : List ℕ) (sets : List SetIndex) (one : Ssid × IndexEntry) → EachAscends sets → AllByRecursion (λ set. BeginsFrom path set.entries) sets → deciding sets path ≡ Some one
    → total (passed path sets) < total sets
fewer_left path sets one each begin is = omega (arith, total-filter (map (past_in path) sets), fewer path sets one each begin is)
