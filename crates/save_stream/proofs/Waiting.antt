-- An entry whose path was judged waits for the numbers behind it.
use Rattle.std.proofs.Common.{◌≡◌, ℕ, suc, ◌+◌, ◌-◌, ◌≤◌, ◌<◌, Bool, true, false, cond, nat_lt, nat_le, ◌==◌, ◌&&◌, List, [], ◌∷◌, ◌++◌, length, take, drop, Option, Some, None, Ok, Err, refl, sym, ap, subst, ◌∙◌, arith, inl, inr, zero}
use Rattle.std.specs.Prelude.{IsSome}
use Rattle.std.proofs.lemmas.Bool.{cases_lt, cases_eq, lt-ltb, le-ltb, ne_eqb}
use Rattle.std.proofs.lemmas.List.{length-append, length-take, length-drop, take_all, take-append-drop}
use Rattle.byteorder.specs.Endian.{big_number}
use Rattle.byteorder.specs.Numbers.{big_from-append}
use Rattle.save_stream.specs.declared.entry.EntryKind.{EntryKind}
use Rattle.save_stream.specs.declared.entry.EntryKind.TheVariants as kinds
use Rattle.save_stream.specs.declared.entry.IndexEntry.{IndexEntry}
use Rattle.save_stream.specs.declared.head.SetHead.{SetHead}
use Rattle.save_stream.specs.declared.stop.Stop.{Stop}
use Rattle.save_stream.specs.declared.stop.Stop.TheVariants as stops
use Rattle.save_stream.specs.Spelling.{max_entries, max_size}
use Rattle.save_stream.specs.Items.{Item, Entry, as_item, rest_at, item_at, WantsNumbers, numbers_size}
use Rattle.save_stream.specs.Reading.{Part, ◌>>=◌, Front, checked, number_at, bytes_at, is_path, is_below, kind_of, kind_among, kind_at, path_at, mtime_at, size_at, front_at, begins_end, last_path}
use Rattle.save_stream.proofs.Growing.{Grown, Extends, path-grows}

-- ---- the path

passed-same : {X : Type 0} (test : Bool) (x y : X) (stop : Stop) → cond test (Ok x) (Err stop) ≡ Ok y → x ≡ y
passed-same true x y stop is = cc
passed-same false x y stop is = absurd cc

never-more : {X : Type 0} (test : Bool) (x : X) (behind : ℕ) → cond test (Ok x) (Err (stops.Wrong behind)) ≡ Err stops.More → ⊥
never-more true x behind is = cc
never-more false x behind is = cc

field-length : (allows : List ℕ → Bool) (size : ℕ) (bytes field rest : List ℕ) → checked allows bytes (bytes_at size bytes) ≡ Ok (field, rest)
    → size + length rest ≡ length bytes
unfolding bytes_at
field-length allows size bytes field rest is =
    elim (cases_lt (length bytes) size) [
      | inl short ↦ (let test : nat_lt (length bytes) size ≡ true = lt-ltb _ _ short in let none = rw test at is in absurd cc)
      | inr long ↦
          (let test : nat_lt (length bytes) size ≡ false = le-ltb _ _ long in
          let same = passed-same (allows (take size bytes)) (take size bytes, drop size bytes) (field, rest) (stops.Wrong (length bytes)) (rw test at is) in
          let ends : drop size bytes ≡ rest = ap (λ (x : List ℕ × List ℕ). x.1) same in
          omega (arith, long, length-drop size bytes, ap (λ (x : List ℕ). length x) ends))
    ]

field-short : (allows : List ℕ → Bool) (size : ℕ) (bytes : List ℕ) → checked allows bytes (bytes_at size bytes) ≡ Err stops.More → length bytes < size
unfolding bytes_at
field-short allows size bytes is =
    elim (cases_lt (length bytes) size) [
      | inl short ↦ short
      | inr long ↦
          (let test : nat_lt (length bytes) size ≡ false = le-ltb _ _ long in
          absurd (never-more (allows (take size bytes)) (take size bytes, drop size bytes) (length bytes) (rw test at is)))
    ]

abbrev behind_size : Bool → (List ℕ → Bool) → ℕ → ℕ → List ℕ → Part (List ℕ)
behind_size test allows behind size rest = ◌>>=◌ {A = ℕ × List ℕ} (cond test (Ok (size, rest)) (Err (stops.Wrong behind))) (λ x. checked allows x.1 (bytes_at x.0 x.1))

behind_size-length : (test : Bool) (allows : List ℕ → Bool) (behind size : ℕ) (bytes field rest : List ℕ) → behind_size test allows behind size bytes ≡ Ok (field, rest)
    → size + length rest ≡ length bytes
behind_size-length true allows behind size bytes field rest is = field-length allows size bytes field rest is
behind_size-length false allows behind size bytes field rest is = absurd cc

behind_size-short : (test : Bool) (allows : List ℕ → Bool) (behind size : ℕ) (bytes : List ℕ) → behind_size test allows behind size bytes ≡ Err stops.More → length bytes < size
behind_size-short true allows behind size bytes is = field-short allows size bytes is
behind_size-short false allows behind size bytes is = absurd cc

path-parts : (last bytes : List ℕ) → 2 ≤ length bytes
    → path_at last bytes ≡ behind_size (nat_lt 0 (big_number 2 bytes) && nat_le (big_number 2 bytes) 1024) (λ path. is_path path && is_below last path) (length bytes) (big_number 2 bytes) (drop 2 bytes)
unfolding path_at number_at
path-parts last bytes two = let test : nat_lt (length bytes) 2 ≡ false = le-ltb _ _ two in rw test refl

path-length : (last bytes path rest : List ℕ) → 2 ≤ length bytes → path_at last bytes ≡ Ok (path, rest) → 2 + big_number 2 bytes + length rest ≡ length bytes
path-length last bytes path rest two is =
    let ends = behind_size-length (nat_lt 0 (big_number 2 bytes) && nat_le (big_number 2 bytes) 1024) (λ path. is_path path && is_below last path) (length bytes) (big_number 2 bytes) (drop 2 bytes) path rest
    (sym (path-parts last bytes two) ∙ is) in
    omega (arith, ends, two, length-drop 2 bytes)

path-short : (last bytes : List ℕ) → 2 ≤ length bytes → path_at last bytes ≡ Err stops.More → length bytes < 2 + big_number 2 bytes
path-short last bytes two is =
    let short = behind_size-short (nat_lt 0 (big_number 2 bytes) && nat_le (big_number 2 bytes) 1024) (λ path. is_path path && is_below last path) (length bytes) (big_number 2 bytes) (drop 2 bytes)
    (sym (path-parts last bytes two) ∙ is) in
    omega (arith, short, two, length-drop 2 bytes)

-- ---- the numbers

number-short : (size : ℕ) (bytes : List ℕ) → length bytes < size → number_at size bytes ≡ Err stops.More
unfolding number_at
number-short size bytes short = let test : nat_lt (length bytes) size ≡ true = lt-ltb _ _ short in rw test refl

number-long : (size : ℕ) (bytes : List ℕ) → size ≤ length bytes → number_at size bytes ≡ Ok (big_number size bytes, drop size bytes)
unfolding number_at
number-long size bytes long = let test : nat_lt (length bytes) size ≡ false = le-ltb _ _ long in rw test refl

abbrev numbers_behind : EntryKind → List ℕ → List ℕ → Part Front
numbers_behind kind path bytes =
    mtime_at kind bytes >>= λ mtime. size_at kind mtime.1 >>= λ size. Ok (record { kind = kind; path = path; mtime = mtime.0; size = size.0 }, size.1)

file-waits : (path bytes : List ℕ) → length bytes < 16 → numbers_behind kinds.File path bytes ≡ Err stops.More
file-waits path bytes short =
    elim (cases_lt (length bytes) 8) [
      | inl none ↦ rw (number-short 8 bytes none) refl
      | inr long ↦
          (let next : number_at 8 (drop 8 bytes) ≡ Err stops.More = number-short 8 (drop 8 bytes) (omega (arith, long, short, length-drop 8 bytes)) in
          rw (number-long 8 bytes long, next) refl)
    ]

folder-waits : (path bytes : List ℕ) → length bytes < 8 → numbers_behind kinds.Folder path bytes ≡ Err stops.More
folder-waits path bytes short = rw (number-short 8 bytes short) refl

-- ---- an entry

abbrev behind_kind : List ℕ → EntryKind → List ℕ → Part Front
behind_kind last kind bytes = path_at last bytes >>= λ path. numbers_behind kind path.0 path.1

abbrev among_kind : Bool → List ℕ → EntryKind → List ℕ → Part Front
among_kind room last kind bytes = ◌>>=◌ {A = EntryKind × List ℕ} (cond room (Ok (kind, bytes)) (Err stops.Full)) (λ x. behind_kind last x.0 x.1)

path-goes-on : (last judged more : List ℕ) (kind : EntryKind) (size : ℕ) (part : Part (List ℕ)) → path_at last judged ≡ part
    → (part >>= λ path. numbers_behind kind path.0 path.1) ≡ Err stops.More → 2 ≤ length judged → 2 + big_number 2 judged ≤ length judged
    → length (judged ++ more) < 2 + big_number 2 judged + size
    → ((path rest : List ℕ) → length rest < size → numbers_behind kind path rest ≡ Err stops.More) → Extends more part (path_at last (judged ++ more))
    → behind_kind last kind (judged ++ more) ≡ Err stops.More
path-goes-on last judged more kind size (Ok x) found is two path missing waits grown =
    let ends = path-length last judged x.0 x.1 two found in
    rw grown (waits x.0 (x.1 ++ more) (omega (arith, ends, missing, length-append judged more, length-append x.1 more)))
path-goes-on last judged more kind size (Err stops.More) found is two path missing waits grown = absurd (omega (arith, path, path-short last judged two found))
path-goes-on last judged more kind size (Err (stops.Wrong behind)) found is two path missing waits grown = absurd cc
path-goes-on last judged more kind size (Err stops.Full) found is two path missing waits grown = absurd cc
path-goes-on last judged more kind size (Err stops.Memory) found is two path missing waits grown = absurd cc

among-goes-on : (room : Bool) (last judged more : List ℕ) (kind : EntryKind) (size : ℕ)
    → among_kind room last kind judged ≡ Err stops.More → 2 ≤ length judged → 2 + big_number 2 judged ≤ length judged
    → length (judged ++ more) < 2 + big_number 2 judged + size
    → ((path rest : List ℕ) → length rest < size → numbers_behind kind path rest ≡ Err stops.More)
    → among_kind room last kind (judged ++ more) ≡ Err stops.More
among-goes-on true last judged more kind size is two path missing waits =
    path-goes-on last judged more kind size (path_at last judged) refl is two path missing waits ((path-grows last judged more).extends)
among-goes-on false last judged more kind size is two path missing waits = absurd cc

front-goes-on : (count byte : ℕ) (last judged more : List ℕ) → front_at count last (byte ∷ judged) ≡ Err stops.More → 2 ≤ length judged
    → 2 + big_number 2 judged ≤ length judged → length (judged ++ more) < 2 + big_number 2 judged + numbers_size byte
    → front_at count last (byte ∷ judged ++ more) ≡ Err stops.More
unfolding front_at kind_at
front-goes-on count byte last judged more is two path missing =
    elim (cases_eq byte 0x46) [
      | inl file ↦
          subst (λ (b : ℕ). front_at count last (b ∷ judged ++ more) ≡ Err stops.More) (sym file)
          (among-goes-on (nat_lt count max_entries) last judged more kinds.File 16 (subst (λ (b : ℕ). front_at count last (b ∷ judged) ≡ Err stops.More) file is) two path
          (subst (λ (b : ℕ). length (judged ++ more) < 2 + big_number 2 judged + numbers_size b) file missing) file-waits)
      | inr other ↦
          elim (cases_eq byte 0x44) [
            | inl folder ↦
                subst (λ (b : ℕ). front_at count last (b ∷ judged ++ more) ≡ Err stops.More) (sym folder)
                (among-goes-on (nat_lt count max_entries) last judged more kinds.Folder 8 (subst (λ (b : ℕ). front_at count last (b ∷ judged) ≡ Err stops.More) folder is) two path
                (subst (λ (b : ℕ). length (judged ++ more) < 2 + big_number 2 judged + numbers_size b) folder missing) folder-waits)
            | inr neither ↦
                (let none : numbers_size byte ≡ 0 = rw (ne_eqb byte 0x46 other, ne_eqb byte 0x44 neither) refl in
                absurd (omega (arith, none, path, missing, length-append judged more)))
          ]
    ]

as-entry-more : (part : Part Front) → as_item Entry part ≡ Err stops.More → part ≡ Err stops.More
as-entry-more (Ok x) is = absurd cc
as-entry-more (Err stop) is = cc

begins-no-end : (byte : ℕ) → 0 < numbers_size byte → (byte == 0x45) ≡ false
begins-no-end byte some = elim (cases_eq byte 0x45) [ inl end ↦ absurd (omega (arith, subst (λ (b : ℕ). 0 < numbers_size b) end some)) | inr other ↦ ne_eqb byte 0x45 other ]

entry-goes-on : (byte : ℕ) (entries : List IndexEntry) (judged more : List ℕ) → rest_at (byte == 0x45) entries (byte ∷ judged) ≡ Err stops.More → 2 ≤ length judged
    → 2 + big_number 2 judged ≤ length judged → length (judged ++ more) < 2 + big_number 2 judged + numbers_size byte
    → rest_at (byte == 0x45) entries (byte ∷ judged ++ more) ≡ Err stops.More
entry-goes-on byte entries judged more is two path missing =
    let no_end : (byte == 0x45) ≡ false = begins-no-end byte (omega (arith, path, missing, length-append judged more)) in
    let front = as-entry-more (front_at (length entries) (last_path entries) (byte ∷ judged)) (rw no_end at is) in
    rw (no_end, front-goes-on (length entries) byte (last_path entries) judged more front two path missing) refl

big_number-take : (bytes : List ℕ) (count : ℕ) → 2 ≤ count → count ≤ length bytes → big_number 2 (take count bytes) ≡ big_number 2 bytes
big_number-take bytes count two within =
    sym (big_from-append 2 (take count bytes) (drop count bytes) (omega (arith, two, within, length-take count bytes))) ∙ ap (big_number 2) (take-append-drop count bytes)

first-goes-on : (byte : ℕ) (entries : List IndexEntry) (count : ℕ) (bytes : List ℕ) → 2 ≤ length bytes → 2 + big_number 2 bytes ≤ count → count < length bytes
    → length bytes < 2 + big_number 2 bytes + numbers_size byte → rest_at (byte == 0x45) entries (byte ∷ take count bytes) ≡ Err stops.More
    → rest_at (byte == 0x45) entries (byte ∷ bytes) ≡ Err stops.More
first-goes-on byte entries count bytes two path within missing is =
    let size : length (take count bytes) ≡ count = omega (arith, within, length-take count bytes) in
    let same : big_number 2 (take count bytes) ≡ big_number 2 bytes = big_number-take bytes count (omega (arith, path)) (omega (arith, within)) in
    let parts : take count bytes ++ drop count bytes ≡ bytes = take-append-drop count bytes in
    subst (λ (all : List ℕ). rest_at (byte == 0x45) entries (byte ∷ all) ≡ Err stops.More) parts
    (entry-goes-on byte entries (take count bytes) (drop count bytes) is (omega (arith, size, path)) (omega (arith, size, same, path))
    (omega (arith, ap (λ (all : List ℕ). length all) parts, same, missing)))

-- The first `judged` bytes waited for more, a whole path among them: all of them wait for its numbers.
pub entry-waits : (entries : List IndexEntry) (judged : ℕ) (bytes : List ℕ) → WantsNumbers judged bytes
    → rest_at (begins_end (take judged bytes)) entries (take judged bytes) ≡ Err stops.More → rest_at (begins_end bytes) entries bytes ≡ Err stops.More
entry-waits entries judged [] wants is = absurd wants
entry-waits entries zero (byte ∷ bytes) wants is = absurd (omega (arith, wants.1))
entry-waits entries (suc count) (byte ∷ bytes) wants is =
    elim (cases_lt count (length bytes)) [
      | inl within ↦ first-goes-on byte entries count bytes wants.0 (omega (arith, wants.1)) within wants.2 is
      | inr all ↦ subst (λ (same : List ℕ). rest_at (byte == 0x45) entries (byte ∷ same) ≡ Err stops.More) (take_all count bytes all) is
    ]

pub item-waits-on : (head : Option SetHead) (entries : List IndexEntry) (judged : ℕ) (bytes : List ℕ) → IsSome head → WantsNumbers judged bytes
    → item_at head entries (take judged bytes) ≡ Err stops.More → item_at head entries bytes ≡ Err stops.More
item-waits-on None entries judged bytes some wants is = absurd cc
item-waits-on (Some head) entries judged bytes some wants is = entry-waits entries judged bytes wants is
