-- The parts of an index.
use Rattle.std.proofs.Common.{◌≡◌, ℕ, ◌+◌, ◌-◌, ◌*◌, ◌≤◌, ◌<◌, List, [], ◌∷◌, ◌++◌, length, take, drop, min, sym, ap, ◌∙◌, subst, arith}
use Rattle.std.proofs.Math.Nat.{div-mul-le_self, lt-div-mul-add}
use Rattle.std.proofs.Math.Seq.{take-add}
use Rattle.std.proofs.lemmas.Grind.{flat_map-append}
use Rattle.std.proofs.lemmas.List.{drop-drop, length-append, length-drop, length-take, take-append-drop, take_all, take_min}
use Rattle.std.specs.List.{AllByRecursion, flat_map}
use Rattle.std.specs.Cmp.Lexicographic.{slice_cmp}
use Rattle.std.specs.Ordering.{nat_cmp}
use Rattle.std.specs.declared.cmp.Ordering.{Ordering}
use Rattle.room_base.specs.Ordered.{Ascends, AscendsFrom}
use Rattle.save_stream.specs.Spelling.{PathsAscend, path_of}
use Rattle.save_stream.specs.declared.entry.IndexEntry.{IndexEntry}
use Rattle.catalog_change.specs.Changes.{AreEntries, IsEntry, max_part}
use Rattle.save_finish.specs.Ending.{part_count, part_of}

-- ---- how many there are

count_below : (files : ℕ) → max_part * part_count files ≤ files + 9999
count_below files = omega (arith, div-mul-le_self (files + 9999) 10000)

count_above : (files : ℕ) → files ≤ max_part * part_count files
count_above files = omega (arith, lt-div-mul-add {a = files + 9999} {b = 10000} (omega arith))

pub some_parts : (files : ℕ) → 0 < files → 1 ≤ part_count files
some_parts files some = omega (arith, count_above files, some)

begins_within : (part files : ℕ) → part < part_count files → max_part * part < files
begins_within part files within = omega (arith, count_below files, within)

-- ---- how long they are

part_length : (part : ℕ) (index : List IndexEntry) → length (part_of part index) ≡ min max_part (length index - max_part * part)
part_length part index = length-take max_part (drop (max_part * part) index) ∙ ap (λ n. min max_part n) (length-drop (max_part * part) index)

pub part_some : (part : ℕ) (index : List IndexEntry) → part < part_count (length index) → 1 ≤ length (part_of part index)
part_some part index within = omega (arith, part_length part index, begins_within part (length index) within)

pub part_most : (part : ℕ) (index : List IndexEntry) → length (part_of part index) ≤ max_part
part_most part index = omega (arith, part_length part index)

pub part_within : (part : ℕ) (index : List IndexEntry) → part < part_count (length index) → max_part * part + length (part_of part index) ≤ length index
part_within part index within = omega (arith, part_length part index, begins_within part (length index) within)

-- the parts before it are full
pub before_full : (part : ℕ) (index : List IndexEntry) → part < part_count (length index) → length (take (max_part * part) index) ≡ max_part * part
before_full part index within = length-take (max_part * part) index ∙ omega (arith, begins_within part (length index) within)

-- ---- entries that are moved one by one

module _ {X : Type 0} (place : ℕ) (all list rest more next : List X) (listed : list ≡ take place all) (left : rest ≡ drop place all) where
  pub moved_one : more ≡ list ++ take 1 rest → more ≡ take (place + 1) all
  moved_one made = made ∙ ap (λ (xs : List X). xs ++ take 1 rest) listed ∙ ap (λ (xs : List X). take place all ++ take 1 xs) left ∙ sym (take-add place 1 all)

  pub left_one : next ≡ drop 1 rest → next ≡ drop (place + 1) all
  left_one made = made ∙ ap (λ (xs : List X). drop 1 xs) left ∙ drop-drop 1 place all

-- ---- the parts joined

-- with one part more
pub one_more : (part : ℕ) (index : List IndexEntry) → take (max_part * (part + 1)) index ≡ take (max_part * part) index ++ part_of part index
one_more part index =
    ap (λ n. take n index) (let e : max_part * (part + 1) ≡ max_part * part + max_part = omega arith in e) ∙ take-add (max_part * part) max_part index

-- all of them
pub all_parts : (index : List IndexEntry) → take (max_part * part_count (length index)) index ≡ index
all_parts index = take_all (max_part * part_count (length index)) index (count_above (length index))

-- an index is what is before a part, the part, and what is behind it
split : (part : ℕ) (index : List IndexEntry)
    → take (max_part * part) index ++ (part_of part index ++ drop max_part (drop (max_part * part) index)) ≡ index
split part index =
    ap (λ (rest : List IndexEntry). take (max_part * part) index ++ rest) (take-append-drop max_part (drop (max_part * part) index))
    ∙ take-append-drop (max_part * part) index

-- a part that is cut out of an index
pub cut_part : (part size : ℕ) (index : List IndexEntry) → let rest = take (length index - 10000 * part) (drop (10000 * part) index) in size ≡ min 10000 (length rest)
    → take size rest ≡ part_of part index
cut_part part size index is =
    let rest = take (length index - 10000 * part) (drop (10000 * part) index) in
    ap (λ n. take n rest) is ∙ take_min 10000 rest
    ∙ ap (λ (entries : List IndexEntry). take max_part entries)
    (take_all (length index - 10000 * part) (drop (10000 * part) index) (let e = length-drop (10000 * part) index in omega (arith, e)))

-- ---- what holds of the front and the back of a list

module _ {X : Type 0} (P : X → Type 0) where
  each_front : (xs ys : List X) → AllByRecursion P (xs ++ ys) → AllByRecursion P xs
  each_front [] ys each = tt
  each_front (x ∷ xs) ys each = (each.0, each_front xs ys each.1)

  each_back : (xs ys : List X) → AllByRecursion P (xs ++ ys) → AllByRecursion P ys
  each_back [] ys each = each
  each_back (x ∷ xs) ys each = each_back xs ys each.1

-- the last item is taken away
pub popped : {X : Type 0} (P : X → Type 0) (all rest : List X) (last : X) → all ≡ rest ++ last ∷ [] → AllByRecursion P all → P last × AllByRecursion P rest
popped {X} P all rest last is each =
    let A : List X → Type 0 = λ xs. AllByRecursion P xs in
    let both = subst A is each in
    ((each_back P rest (last ∷ []) both).0, each_front P rest (last ∷ []) both)

pub one_less : {X : Type 0} (all rest : List X) (last : X) → all ≡ rest ++ last ∷ [] → length all ≡ length rest + 1
one_less all rest last is = ap (λ xs. length xs) is ∙ length-append rest (last ∷ [])

-- the entries behind a part
pub behind_part : {X : Type 0} (part : ℕ) (all rest next : List X) → rest ≡ drop (max_part * part) all → next ≡ drop max_part rest → next ≡ drop (max_part * (part + 1)) all
behind_part {X} part all rest next left made =
    made ∙ ap (λ (xs : List X). drop max_part xs) left ∙ drop-drop max_part (max_part * part) all
    ∙ ap (λ n. drop n all) (let e : max_part * part + max_part ≡ max_part * (part + 1) = omega arith in e)

module _ {X K : Type 0} (R : K → K → Ordering) (key : X → K) where
  from_front : (low : K) (xs ys : List X) → AscendsFrom R key low (xs ++ ys) → AscendsFrom R key low xs
  from_front low [] ys ascend = tt
  from_front low (x ∷ xs) ys ascend = (ascend.0, from_front (key x) xs ys ascend.1)

  ascends_front : (xs ys : List X) → Ascends R key (xs ++ ys) → Ascends R key xs
  ascends_front [] ys ascend = tt
  ascends_front (x ∷ xs) ys ascend = from_front (key x) xs ys ascend

  from_any : (low : K) (xs : List X) → AscendsFrom R key low xs → Ascends R key xs
  from_any low [] ascend = tt
  from_any low (x ∷ xs) ascend = ascend.1

  from_back : (low : K) (xs ys : List X) → AscendsFrom R key low (xs ++ ys) → Ascends R key ys
  from_back low [] ys ascend = from_any low ys ascend
  from_back low (x ∷ xs) ys ascend = from_back (key x) xs ys ascend.1

  ascends_back : (xs ys : List X) → Ascends R key (xs ++ ys) → Ascends R key ys
  ascends_back [] ys ascend = ascend
  ascends_back (x ∷ xs) ys ascend = from_back (key x) xs ys ascend

-- ---- a part

module _ (part : ℕ) (index : List IndexEntry) (are : AreEntries index) where
  abbrev before : List IndexEntry
  before = take (max_part * part) index

  abbrev behind : List IndexEntry
  behind = drop max_part (drop (max_part * part) index)

  pub part_entries : AreEntries (part_of part index)
  part_entries =
      let E : List IndexEntry → Type 0 = λ entries. AllByRecursion IsEntry entries in
      let A : List IndexEntry → Type 0 = λ entries. PathsAscend entries in
      record {
        each = each_front IsEntry (part_of part index) behind (each_back IsEntry before (part_of part index ++ behind) (subst E (sym (split part index)) are.each));
        order = ascends_front (slice_cmp nat_cmp) path_of (part_of part index) behind (ascends_back (slice_cmp nat_cmp) path_of before (part_of part index ++ behind) (subst A (sym (split part index)) are.order));
        count = omega (arith, part_most part index);
      }

  -- the paths of a part ascend from those before
  pub part_ascends : PathsAscend (take (max_part * part) index ++ part_of part index)
  part_ascends =
      let A : List IndexEntry → Type 0 = λ entries. PathsAscend entries in
      let upto = take (max_part * (part + 1)) index in
      subst A (one_more part index)
      (ascends_front (slice_cmp nat_cmp) path_of upto (drop (max_part * (part + 1)) index) (subst A (sym (take-append-drop (max_part * (part + 1)) index)) are.order))

-- ---- their texts

pub shorter : (text : IndexEntry → List ℕ) (part : ℕ) (index : List IndexEntry) → length (flat_map text (part_of part index)) ≤ length (flat_map text index)
shorter text part index =
    let first = take (max_part * part) index in
    let last = drop max_part (drop (max_part * part) index) in
    let whole = ap (λ (entries : List IndexEntry). length (flat_map text entries)) (split part index) in
    omega (
      arith,
      whole,
      ap (λ (t : List ℕ). length t) (flat_map-append text first (part_of part index ++ last)),
      ap (λ (t : List ℕ). length t) (flat_map-append text (part_of part index) last),
      length-append (flat_map text first) (flat_map text (part_of part index ++ last)),
      length-append (flat_map text (part_of part index)) (flat_map text last),
    )
