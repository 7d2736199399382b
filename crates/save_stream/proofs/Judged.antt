-- The first field that isn't allowed is the one that reading stops at.
use Rattle.std.proofs.Common.{◌≡◌, ◌↔◌, ℕ, ◌≤◌, ◌<◌, Bool, true, false, cond, eqb, nat_lt, nat_le, List, [], ◌∷◌, ◌++◌, length, take, Option, Some, None, Ok, Err, refl, sym, ap, subst, ◌∙◌, append_assoc, eq-eqb, arith, inl, inr}
use Rattle.std.specs.Prelude.{◌&&◌, slice_index}
use Rattle.std.proofs.lemmas.Bool.{cases_lt, lt-ltb, le-ltb, ltb-true, leb-true, le-leb, eqb-true}
use Rattle.std.proofs.lemmas.List.{length-take, take-append-drop}
use Rattle.byteorder.specs.Endian.{big_number}
use Rattle.byteorder.specs.Numbers.{big_from-take}
use Rattle.room_base.specs.Numbers.{max_moment}
use Rattle.room_base.specs.Text.{IsName, IsPathText}
use Rattle.save_stream.specs.declared.entry.EntryKind.{EntryKind}
use Rattle.save_stream.specs.declared.entry.EntryKind.TheVariants as kinds
use Rattle.save_stream.specs.declared.head.SetHead.{SetHead}
use Rattle.save_stream.specs.declared.head_reading.HeadNumbers.{HeadNumbers}
use Rattle.save_stream.specs.declared.stop.Stop.TheVariants as stops
use Rattle.save_stream.specs.Spelling.{max_entries, max_size, IsBelow}
use Rattle.save_stream.specs.Reading.{Part, ◌>>=◌, HeadNames, Front, head_from, begins_end, checked, byte_at, number_at, bytes_at, is_name, text_at, given_byte_at, ssid_at, base_at, is_level, level_at, moment_at, numbers_at, names_at, head_at, kind_of, kind_among, kind_at, is_path, is_below, path_at, mtime_at, size_at, front_at, end_at}
use Rattle.save_stream.specs.BadField.{FieldRules, no_field, field, byte, number, text, name, names, head_fields, times, entry_fields, fields_behind, Begins, item_fields}
use Rattle.save_stream.proofs.Again.{is_name-again, is_level-again, is_path-again, is_below-again, both}
use Rattle.save_stream.proofs.Sound.{is_name-is, is_level-is, is_path-is, is_below-is, both-true}

-- a first field among these bytes isn't allowed, and so many bytes come from its first one on
abbrev pub BadIn : List ℕ → FieldRules → ℕ → Type 0
BadIn bytes Bad behind =
    (before : List ℕ) × ((bad : List ℕ) × ((rest : List ℕ) × (bytes ≡ before ++ (bad ++ rest)) × (behind ≡ length (bad ++ rest)) × Bad before bad))

-- What is read is the front of these fields, and behind it the next ones are those that the value read says.
-- Where reading stops at a field, that is the first bad one.
abbrev pub Follows : {X : Type 0} → List ℕ → FieldRules → Part X → (X → FieldRules) → Type 0
Follows bytes Bad (Ok x) Next = (front : List ℕ) × (bytes ≡ front ++ x.1) × ((before bad : List ℕ) → Next x.0 before bad → Bad (front ++ before) bad)
Follows bytes Bad (Err stops.More) Next = Unit {0}
Follows bytes Bad (Err (stops.Wrong behind)) Next = BadIn bytes Bad behind
Follows bytes Bad (Err stops.Full) Next = Unit {0}
Follows bytes Bad (Err stops.Memory) Next = Unit {0}

behind-follows : {Y : Type 0} (bytes front rest : List ℕ) (Bad Mid : FieldRules) (part : Part Y) (Next : Y → FieldRules) → bytes ≡ front ++ rest
    → ((before bad : List ℕ) → Mid before bad → Bad (front ++ before) bad) → Follows rest Mid part Next → Follows bytes Bad part Next
behind-follows bytes front rest Bad Mid (Ok y) Next parts lift is = (
  front ++ is.0,
  parts ∙ ap (λ (t : List ℕ). front ++ t) is.1 ∙ sym (append_assoc front is.0 y.1),
  λ before bad next. subst (λ (t : List ℕ). Bad t bad) (sym (append_assoc front is.0 before)) (lift (is.0 ++ before) bad (is.2 before bad next)),
)
behind-follows bytes front rest Bad Mid (Err stops.More) Next parts lift is = tt
behind-follows bytes front rest Bad Mid (Err (stops.Wrong behind)) Next parts lift is = (
  front ++ is.0,
  (
    is.1.0,
    (
      is.1.1.0,
      parts ∙ ap (λ (t : List ℕ). front ++ t) is.1.1.1 ∙ sym (append_assoc front is.0 (is.1.0 ++ is.1.1.0)),
      is.1.1.2,
      lift is.0 is.1.0 is.1.1.3,
    ),
  ),
)
behind-follows bytes front rest Bad Mid (Err stops.Full) Next parts lift is = tt
behind-follows bytes front rest Bad Mid (Err stops.Memory) Next parts lift is = tt

pub then-follows : {X Y : Type 0} (bytes : List ℕ) (Bad : FieldRules) (part : Part X) (Mid : X → FieldRules) (next : X × List ℕ → Part Y) (Next : Y → FieldRules)
    → Follows bytes Bad part Mid → ((x : X) (rest : List ℕ) → Follows rest (Mid x) (next (x, rest)) Next) → Follows bytes Bad (part >>= next) Next
then-follows bytes Bad (Ok x) Mid next Next is more = behind-follows bytes is.0 x.1 Bad (Mid x.0) (next x) Next is.1 is.2 (more x.0 x.1)
then-follows bytes Bad (Err stops.More) Mid next Next is more = tt
then-follows bytes Bad (Err (stops.Wrong behind)) Mid next Next is more = is
then-follows bytes Bad (Err stops.Full) Mid next Next is more = tt
then-follows bytes Bad (Err stops.Memory) Mid next Next is more = tt

done-follows : {Y : Type 0} (bytes : List ℕ) (y : Y) (Next : Y → FieldRules) → Follows bytes (Next y) (Ok (y, bytes)) Next
done-follows bytes y Next = ([], refl, λ before bad next. next)

-- ---- one field

-- so many bytes are read, as a value
abbrev pub Raw : {V : Type 0} → ℕ → (List ℕ → V) → List ℕ → Part V → Type 0
Raw size value bytes (Ok x) = (front : List ℕ) × (bytes ≡ front ++ x.1) × (length front ≡ size) × (x.0 ≡ value front)
Raw size value bytes (Err stops.More) = Unit {0}
Raw size value bytes (Err (stops.Wrong behind)) = ⊥
Raw size value bytes (Err stops.Full) = Unit {0}
Raw size value bytes (Err stops.Memory) = Unit {0}

-- a test decides
pub record Decides {V : Type 0} (test : V → Bool) (Allowed : V → Type 0) : Type 0 where
  pub sound : (v : V) → test v ≡ true → Allowed v
  pub full : (v : V) → Allowed v → test v ≡ true

pub true-is-false : (test : Bool) → test ≡ true → test ≡ false → ⊥
true-is-false test first second = absurd cc

judged-follows : {V : Type 0} (size : ℕ) (value : List ℕ → V) (test : V → Bool) (Allowed : V → Type 0) (behind : V → FieldRules) (bytes front rest : List ℕ) (allowed : Bool)
    → Decides test Allowed → bytes ≡ front ++ rest → length front ≡ size → test (value front) ≡ allowed
    → Follows bytes (field size value Allowed behind) (cond allowed (Ok (value front, rest)) (Err (stops.Wrong (length bytes)))) behind
judged-follows size value test Allowed behind bytes front rest true decides parts sized is =
    (front, parts, λ before bad next. inr (front, (before, refl, sized, decides.sound (value front) is, next)))
judged-follows size value test Allowed behind bytes front rest false decides parts sized is =
    ([], (front, (rest, parts, ap (λ (t : List ℕ). length t) parts, inl (refl, sized, λ a. true-is-false (test (value front)) (decides.full (value front) a) is))))

pub field-follows : {V : Type 0} (size : ℕ) (value : List ℕ → V) (test : V → Bool) (Allowed : V → Type 0) (behind : V → FieldRules) (bytes : List ℕ) (part : Part V)
    → Decides test Allowed → Raw size value bytes part → Follows bytes (field size value Allowed behind) (checked test bytes part) behind
field-follows {V = V} size value test Allowed behind bytes (Ok x) decides raw =
    subst (λ (v : V). Follows bytes (field size value Allowed behind) (cond (test v) (Ok (v, x.1)) (Err (stops.Wrong (length bytes)))) behind) (sym raw.3)
    (judged-follows size value test Allowed behind bytes raw.0 x.1 (test (value raw.0)) decides raw.1 raw.2 refl)
field-follows size value test Allowed behind bytes (Err stops.More) decides raw = tt
field-follows size value test Allowed behind bytes (Err (stops.Wrong at)) decides raw = absurd raw
field-follows size value test Allowed behind bytes (Err stops.Full) decides raw = tt
field-follows size value test Allowed behind bytes (Err stops.Memory) decides raw = tt

-- a field that is never judged
any-follows : {V : Type 0} (size : ℕ) (value : List ℕ → V) (behind : V → FieldRules) (bytes : List ℕ) (part : Part V) → Raw size value bytes part
    → Follows bytes (field size value (λ _. Unit {0}) behind) part behind
any-follows {V = V} size value behind bytes (Ok x) raw =
    (raw.0, raw.1, λ before bad next. inr (raw.0, (before, refl, raw.2, tt, subst (λ (v : V). behind v before bad) raw.3 next)))
any-follows size value behind bytes (Err stops.More) raw = tt
any-follows size value behind bytes (Err (stops.Wrong at)) raw = absurd raw
any-follows size value behind bytes (Err stops.Full) raw = tt
any-follows size value behind bytes (Err stops.Memory) raw = tt

byte-raw : (bytes : List ℕ) → Raw 1 (λ bytes. slice_index bytes 0) bytes (byte_at bytes)
byte-raw [] = tt
byte-raw (first ∷ bytes) = (first ∷ [], refl, refl, refl)

number-raw : (size : ℕ) (bytes : List ℕ) → Raw size (big_number size) bytes (number_at size bytes)
unfolding number_at
number-raw size bytes =
    elim (cases_lt (length bytes) size) [
      | inl short ↦ (let test : nat_lt (length bytes) size ≡ true = lt-ltb _ _ short in rw test tt)
      | inr long ↦
          (let test : nat_lt (length bytes) size ≡ false = le-ltb _ _ long in
          rw test (take size bytes, sym (take-append-drop size bytes), omega (arith, length-take size bytes), sym (big_from-take 0 size size bytes (omega arith))))
    ]

bytes-raw : (size : ℕ) (bytes : List ℕ) → Raw size (λ bytes. bytes) bytes (bytes_at size bytes)
unfolding bytes_at
bytes-raw size bytes =
    elim (cases_lt (length bytes) size) [
      | inl short ↦ (let test : nat_lt (length bytes) size ≡ true = lt-ltb _ _ short in rw test tt)
      | inr long ↦
          (let test : nat_lt (length bytes) size ≡ false = le-ltb _ _ long in
          rw test (take size bytes, sym (take-append-drop size bytes), omega (arith, length-take size bytes), refl))
    ]

-- ---- the tests

pub at-most-decides : (most : ℕ) → Decides (λ n. nat_le n most) (λ n. n ≤ most)
at-most-decides most = record { sound = λ n is. leb-true n most is; full = λ n is. le-leb n most is }

pub between-decides : (least most : ℕ) → Decides (λ n. nat_le least n && nat_le n most) (λ n. (least ≤ n) × (n ≤ most))
between-decides least most = record {
  sound = λ n is. let parts = both-true (nat_le least n) (nat_le n most) is in (leb-true least n parts.0, leb-true n most parts.1);
  full = λ n is. both _ _ (le-leb least n is.0) (le-leb n most is.1);
}

pub same-decides : (other : ℕ) → Decides (λ n. eqb n other) (λ n. n ≡ other)
same-decides other = record { sound = λ n is. eqb-true n other is; full = λ n is. subst (λ (m : ℕ). eqb m other ≡ true) (sym is) (eq-eqb other other refl) }

pub name-decides : Decides is_name IsName
name-decides = record { sound = is_name-is; full = is_name-again }

pub level-decides : (base : ℕ) → Decides (is_level base) (λ level. (level ≤ 10) × ((base ≡ 0) ↔ (level ≡ 0)))
level-decides base = record { sound = λ level is. is_level-is base level is; full = λ level is. is_level-again base level is.0 is.1 }

pub size-decides : Decides (λ n. nat_lt 0 n && nat_le n 1024) (λ n. (0 < n) × (n ≤ 1024))
size-decides = record {
  sound = λ n is. let parts = both-true (nat_lt 0 n) (nat_le n 1024) is in (ltb-true 0 n parts.0, leb-true n 1024 parts.1);
  full = λ n is. both _ _ (lt-ltb 0 n is.0) (le-leb n 1024 is.1);
}

pub path-decides : (last : List ℕ) → Decides (λ path. is_path path && is_below last path) (λ path. IsPathText path × IsBelow last path)
path-decides last = record {
  sound = λ path is. let parts = both-true (is_path path) (is_below last path) is in (is_path-is path parts.0, is_below-is last path parts.1);
  full = λ path is. both _ _ (is_path-again path is.0) (is_below-again last path is.1);
}

pub some-decides : Decides (λ ssid. nat_lt 0 ssid) (λ ssid. 1 ≤ ssid)
some-decides = record { sound = λ n is. omega (arith, ltb-true 0 n is); full = λ n is. lt-ltb 0 n (omega (arith, is)) }

pub base-decides : (ssid : ℕ) → Decides (λ base. nat_lt base ssid) (λ base. base < ssid)
base-decides ssid = record { sound = λ n is. ltb-true n ssid is; full = λ n is. lt-ltb n ssid is }

pub least-decides : Decides (λ n. nat_le 0 n && nat_le n max_moment) (λ n. n ≤ max_moment)
least-decides = record {
  sound = λ n is. leb-true n max_moment (both-true (nat_le 0 n) (nat_le n max_moment) is).1;
  full = λ n is. both _ _ (le-leb 0 n (omega arith)) (le-leb n max_moment is);
}

-- ---- the head

name-follows : (least most : ℕ) (behind : FieldRules) (bytes : List ℕ) → Follows bytes (name least most behind) (text_at least most bytes) (λ _. behind)
unfolding text_at
name-follows least most behind bytes =
    then-follows bytes (name least most behind) (checked (λ n. nat_le least n && nat_le n most) bytes (byte_at bytes)) (λ size. text size IsName behind)
    (λ size. checked is_name size.1 (bytes_at size.0 size.1)) (λ _. behind)
    (field-follows 1 (λ bytes. slice_index bytes 0) (λ n. nat_le least n && nat_le n most) (λ size. (least ≤ size) × (size ≤ most)) (λ size. text size IsName behind) bytes (byte_at bytes) (between-decides least most) (byte-raw bytes))
    (λ size rest. field-follows size (λ bytes. bytes) is_name IsName (λ _. behind) rest (bytes_at size rest) name-decides (bytes-raw size rest))

pub names-follow : (bytes : List ℕ) → Follows bytes names (names_at bytes) (λ _. no_field)
unfolding names_at names
names-follow bytes =
    let pool = name 1 64 no_field in
    let group = name 0 64 pool in
    let set = name 1 255 group in
    then-follows bytes (name 1 64 set) (text_at 1 64 bytes) (λ _. set) _ (λ _. no_field) (name-follows 1 64 set bytes)
    (λ one rest. then-follows rest set (text_at 1 255 rest) (λ _. group) _ (λ _. no_field) (name-follows 1 255 group rest)
    (λ two rest. then-follows rest group (text_at 0 64 rest) (λ _. pool) _ (λ _. no_field) (name-follows 0 64 pool rest)
    (λ three rest. then-follows rest pool (text_at 1 64 rest) (λ _. no_field) _ (λ _. no_field) (name-follows 1 64 no_field rest)
    (λ four rest. done-follows {Y = HeadNames} rest (record { client = one; set = two; group = three; pool = four }) (λ _. no_field)))))

-- the fields of a head from one on
abbrev pub retain_fields : ℕ → FieldRules
retain_fields browse = number 8 (λ retain. (browse ≤ retain) × (retain ≤ max_moment)) (λ _. names)

abbrev pub browse_fields : FieldRules
browse_fields = number 8 (λ browse. browse ≤ max_moment) retain_fields

abbrev pub saved_fields : FieldRules
saved_fields = number 8 (λ saved. saved ≤ max_moment) (λ _. browse_fields)

abbrev pub level_fields : ℕ → FieldRules
level_fields base = byte (λ level. (level ≤ 10) × ((base ≡ 0) ↔ (level ≡ 0))) (λ _. saved_fields)

abbrev pub base_fields : ℕ → FieldRules
base_fields ssid = number 8 (λ base. base < ssid) level_fields

abbrev pub ssid_fields : FieldRules
ssid_fields = number 8 (λ ssid. 1 ≤ ssid) base_fields

numbers-follow : (bytes : List ℕ) → Follows bytes head_fields (numbers_at bytes) (λ _. names)
unfolding numbers_at head_fields given_byte_at ssid_at base_at level_at moment_at
numbers-follow bytes =
    then-follows bytes head_fields (given_byte_at 0x48 bytes) (λ _. ssid_fields) _ (λ _. names)
    (field-follows 1 (λ bytes. slice_index bytes 0) (λ kind_byte. eqb kind_byte 0x48) (λ kind_byte. kind_byte ≡ 0x48) (λ _. ssid_fields) bytes (byte_at bytes) (same-decides 0x48) (byte-raw bytes))
    (λ kind_byte rest. then-follows rest ssid_fields (ssid_at rest) base_fields _ (λ _. names)
    (field-follows 8 (big_number 8) (λ ssid. nat_lt 0 ssid) (λ ssid. 1 ≤ ssid) base_fields rest (number_at 8 rest) some-decides (number-raw 8 rest))
    (λ ssid rest. then-follows rest (base_fields ssid) (base_at ssid rest) level_fields _ (λ _. names)
    (field-follows 8 (big_number 8) (λ base. nat_lt base ssid) (λ base. base < ssid) level_fields rest (number_at 8 rest) (base-decides ssid) (number-raw 8 rest))
    (λ base rest. then-follows rest (level_fields base) (level_at base rest) (λ _. saved_fields) _ (λ _. names)
    (field-follows 1 (λ bytes. slice_index bytes 0) (is_level base) (λ level. (level ≤ 10) × ((base ≡ 0) ↔ (level ≡ 0))) (λ _. saved_fields) rest (byte_at rest) (level-decides base) (byte-raw rest))
    (λ level rest. then-follows rest saved_fields (moment_at 0 rest) (λ _. browse_fields) _ (λ _. names)
    (field-follows 8 (big_number 8) (λ n. nat_le 0 n && nat_le n max_moment) (λ n. n ≤ max_moment) (λ _. browse_fields) rest (number_at 8 rest) least-decides (number-raw 8 rest))
    (λ saved rest. then-follows rest browse_fields (moment_at 0 rest) retain_fields _ (λ _. names)
    (field-follows 8 (big_number 8) (λ n. nat_le 0 n && nat_le n max_moment) (λ n. n ≤ max_moment) retain_fields rest (number_at 8 rest) least-decides (number-raw 8 rest))
    (λ browse rest. then-follows rest (retain_fields browse) (moment_at browse rest) (λ _. names) _ (λ _. names)
    (field-follows 8 (big_number 8) (λ n. nat_le browse n && nat_le n max_moment) (λ n. (browse ≤ n) × (n ≤ max_moment)) (λ _. names) rest (number_at 8 rest) (between-decides browse max_moment) (number-raw 8 rest))
    (λ retain rest. done-follows {Y = HeadNumbers} rest (record {
      ssid = record { 0 = ssid };
      base = record { 0 = base };
      rank = level;
      saved = record { 0 = saved };
      browse = record { 0 = browse };
      retain = record { 0 = retain };
    }) (λ _. names))))))))

pub head-follows : (bytes : List ℕ) → Follows bytes head_fields (head_at bytes) (λ _. no_field)
unfolding head_at
head-follows bytes =
    then-follows bytes head_fields (numbers_at bytes) (λ _. names) _ (λ _. no_field) (numbers-follow bytes)
    (λ numbers rest. then-follows rest names (names_at rest) (λ _. no_field) _ (λ _. no_field) (names-follow rest)
    (λ texts rest. done-follows {Y = SetHead} rest (head_from numbers texts) (λ _. no_field)))

-- ---- an entry

pick-follows : (room : Bool) (count : ℕ) (last : List ℕ) (kind_byte : ℕ) (rest : List ℕ) (kind : EntryKind) → kind_of kind_byte ≡ Some kind → nat_lt count max_entries ≡ room
    → Follows (kind_byte ∷ rest) (item_fields count last) (cond room (Ok (kind, rest)) (Err stops.Full)) (entry_fields last)
unfolding item_fields
pick-follows true count last kind_byte rest kind is room = (
  kind_byte ∷ [],
  refl,
  λ before bad next. inr (
    kind_byte ∷ [],
    (
      before,
      refl,
      refl,
      subst (λ (k : Option EntryKind). Begins k kind_byte) (sym is) tt,
      subst (λ (k : Option EntryKind). fields_behind count last k before bad) (sym is) (ltb-true count max_entries room, next),
    ),
  ),
)
pick-follows false count last kind_byte rest kind is room = tt

among-follows : (count : ℕ) (last : List ℕ) (kind_byte : ℕ) (rest : List ℕ) (kind : Option EntryKind) → kind_of kind_byte ≡ kind → eqb kind_byte 0x45 ≡ false
    → Follows (kind_byte ∷ rest) (item_fields count last) (kind_among count (length (kind_byte ∷ rest)) kind rest) (entry_fields last)
unfolding item_fields
among-follows count last kind_byte rest None is other = (
  [],
  (
    kind_byte ∷ [],
    (
      rest,
      refl,
      refl,
      inl (
        refl,
        refl,
        λ begins. true-is-false (eqb kind_byte 0x45) (subst (λ (m : ℕ). eqb m 0x45 ≡ true) (sym (subst (λ (k : Option EntryKind). Begins k kind_byte) is begins)) refl) other,
      ),
    ),
  ),
)
among-follows count last kind_byte rest (Some kind) is other = pick-follows (nat_lt count max_entries) count last kind_byte rest kind is refl

path-follows : (last : List ℕ) (kind : EntryKind) (bytes : List ℕ) → Follows bytes (entry_fields last kind) (path_at last bytes) (λ _. times kind)
unfolding path_at entry_fields
path-follows last kind bytes =
    let behind : ℕ → FieldRules = λ size. text size (λ path. IsPathText path × IsBelow last path) (times kind) in
    then-follows bytes (entry_fields last kind) (checked (λ n. nat_lt 0 n && nat_le n 1024) bytes (number_at 2 bytes)) behind _ (λ _. times kind)
    (field-follows 2 (big_number 2) (λ n. nat_lt 0 n && nat_le n 1024) (λ n. (0 < n) × (n ≤ 1024)) behind bytes (number_at 2 bytes) size-decides (number-raw 2 bytes))
    (λ size rest. field-follows size (λ bytes. bytes) (λ path. is_path path && is_below last path) (λ path. IsPathText path × IsBelow last path) (λ _. times kind) rest (bytes_at size rest) (path-decides last) (bytes-raw size rest))

times-follow : (kind : EntryKind) (path start : List ℕ)
    → Follows {X = Front} start (times kind) (mtime_at kind start >>= λ mtime. size_at kind mtime.1 >>= λ size. Ok (record { kind = kind; path = path; mtime = mtime.0; size = size.0 }, size.1)) (λ _. no_field)
times-follow kinds.File path start =
    let size_fields : FieldRules = number 8 (λ size. size ≤ max_size) (λ _. no_field) in
    then-follows start (times kinds.File) (number_at 8 start) (λ _. size_fields) _ (λ _. no_field) (any-follows 8 (big_number 8) (λ _. size_fields) start (number_at 8 start) (number-raw 8 start))
    (λ mtime rest. then-follows rest size_fields (checked (λ size. nat_le size max_size) rest (number_at 8 rest)) (λ _. no_field) _ (λ _. no_field)
    (field-follows 8 (big_number 8) (λ size. nat_le size max_size) (λ size. size ≤ max_size) (λ _. no_field) rest (number_at 8 rest) (at-most-decides max_size) (number-raw 8 rest))
    (λ size rest. done-follows {Y = Front} rest (record { kind = kinds.File; path = path; mtime = mtime; size = size }) (λ _. no_field)))
times-follow kinds.Folder path start =
    then-follows start (times kinds.Folder) (number_at 8 start) (λ _. no_field) _ (λ _. no_field) (any-follows 8 (big_number 8) (λ _. no_field) start (number_at 8 start) (number-raw 8 start))
    (λ mtime rest. done-follows {Y = Front} rest (record { kind = kinds.Folder; path = path; mtime = mtime; size = 0 }) (λ _. no_field))
times-follow kinds.Gone path start = done-follows {Y = Front} start (record { kind = kinds.Gone; path = path; mtime = 0; size = 0 }) (λ _. no_field)

pub front-follows : (count : ℕ) (last bytes : List ℕ) → begins_end bytes ≡ false → Follows bytes (item_fields count last) (front_at count last bytes) (λ _. no_field)
unfolding front_at kind_at
front-follows count last [] other = tt
front-follows count last (kind_byte ∷ bytes) other =
    then-follows (kind_byte ∷ bytes) (item_fields count last) (kind_at count (kind_byte ∷ bytes)) (entry_fields last) _ (λ _. no_field) (among-follows count last kind_byte bytes (kind_of kind_byte) refl other)
    (λ kind rest. then-follows rest (entry_fields last kind) (path_at last rest) (λ _. times kind) _ (λ _. no_field) (path-follows last kind rest)
    (λ path rest. times-follow kind path rest))

-- ---- the end

count-follows : (count : ℕ) (last bytes : List ℕ) → Follows (0x45 ∷ bytes) (item_fields count last) (end_at count (0x45 ∷ bytes)) (λ _. no_field)
unfolding end_at given_byte_at item_fields
count-follows count last bytes =
    behind-follows (0x45 ∷ bytes) (0x45 ∷ []) bytes (item_fields count last) (number 8 (λ n. n ≡ count) (λ _. no_field)) (checked (λ n. eqb n count) bytes (number_at 8 bytes)) (λ _. no_field) refl
    (λ before bad next. inr (0x45 ∷ [], (before, refl, refl, refl, next)))
    (field-follows 8 (big_number 8) (λ n. eqb n count) (λ n. n ≡ count) (λ _. no_field) bytes (number_at 8 bytes) (same-decides count) (number-raw 8 bytes))

pub end-follows : (count : ℕ) (last bytes : List ℕ) → begins_end bytes ≡ true → Follows bytes (item_fields count last) (end_at count bytes) (λ _. no_field)
end-follows count last [] is = absurd cc
end-follows count last (kind_byte ∷ bytes) is =
    subst (λ (m : ℕ). Follows (m ∷ bytes) (item_fields count last) (end_at count (m ∷ bytes)) (λ _. no_field)) (sym (eqb-true kind_byte 0x45 is)) (count-follows count last bytes)
