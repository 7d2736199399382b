-- Reading stops at the first field that isn't allowed.
use Rattle.std.proofs.Common.{◌≡◌, ◌↔◌, ℕ, ◌+◌, ◌≤◌, ◌<◌, Bool, true, false, cond, eqb, nat_lt, nat_le, List, [], ◌∷◌, ◌++◌, length, Option, Some, None, Result, Ok, Err, refl, sym, ap, subst, ◌∙◌, append_assoc, arith, inl, inr}
use Rattle.std.specs.Prelude.{◌&&◌, ◌⊎◌, IsSome, slice_index}
use Rattle.std.proofs.lemmas.Bool.{lt-ltb, eqb-true}
use Rattle.std.proofs.lemmas.List.{length-append, append-nil}
use Rattle.byteorder.specs.Endian.{big_number}
use Rattle.byteorder.specs.Numbers.{big_from-append}
use Rattle.room_base.specs.Numbers.{max_moment}
use Rattle.room_base.specs.Text.{IsName, IsPathText}
use Rattle.save_stream.specs.declared.entry.EntryKind.{EntryKind}
use Rattle.save_stream.specs.declared.entry.EntryKind.TheVariants as kinds
use Rattle.save_stream.specs.declared.entry.IndexEntry.{IndexEntry}
use Rattle.save_stream.specs.declared.fault.StreamFault.{StreamFault}
use Rattle.save_stream.specs.declared.fault.StreamFault.TheVariants as faults
use Rattle.save_stream.specs.declared.head.SetHead.{SetHead}
use Rattle.save_stream.specs.declared.stop.Stop.{Stop}
use Rattle.save_stream.specs.declared.stop.Stop.TheVariants as stops
use Rattle.save_stream.specs.Spelling.{max_entries, max_size, IsBelow}
use Rattle.save_stream.specs.Reading.{Part, ◌>>=◌, Front, Reading, start, reads, then_reads, settle, settle_from, settle_by, settled, read_alone, with_head, with_entry, with_end, last_path, begins_end, checked, byte_at, number_at, bytes_at, is_name, text_at, given_byte_at, ssid_at, base_at, is_level, level_at, moment_at, numbers_at, names_at, head_at, kind_of, kind_among, kind_at, is_path, is_below, path_at, mtime_at, size_at, front_at, end_at}
use Rattle.save_stream.specs.BadField.{FieldRules, no_field, field, byte, number, text, name, names, head_fields, times, entry_fields, fields_behind, Begins, item_fields, next_fields, HasBadField, HasEntryTooMany}
use Rattle.save_stream.proofs.Again.{sized-again, bytes-again}
use Rattle.save_stream.proofs.Filling.{full-front}
use Rattle.save_stream.proofs.Growing.{Extends, head-grows, front-grows, end-grows}
use Rattle.save_stream.proofs.Judged.{Decides, true-is-false, retain_fields, browse_fields, saved_fields, level_fields, base_fields, ssid_fields, at-most-decides, between-decides, same-decides, name-decides, level-decides, size-decides, path-decides, some-decides, base-decides, least-decides}
use Rattle.save_stream.proofs.OneSpelling.{reads-append}
use Rattle.save_stream.proofs.Faults.{read-length}
use Rattle.save_stream.proofs.Taking.{reads-ended}
use Rattle.save_stream.proofs.Whole.{Settles, held, held-more, next-byte}

-- What is read leads to the first of the next fields that isn't allowed, or stops there.
abbrev pub Leads : {X : Type 0} → Part X → List ℕ → List ℕ → (X → FieldRules) → Type 0
Leads (Ok x) tail bad Next = (before : List ℕ) × (x.1 ≡ before ++ tail) × Next x.0 before bad
Leads (Err stops.More) tail bad Next = ⊥
Leads (Err (stops.Wrong behind)) tail bad Next = behind ≡ length tail
Leads (Err stops.Full) tail bad Next = ⊥
Leads (Err stops.Memory) tail bad Next = ⊥

then-leads : {X Y : Type 0} (part : Part X) (tail bad : List ℕ) (Mid : X → FieldRules) (next : X × List ℕ → Part Y) (Next : Y → FieldRules) → Leads part tail bad Mid
    → ((x : X) (before : List ℕ) → Mid x before bad → Leads (next (x, before ++ tail)) tail bad Next) → Leads (part >>= next) tail bad Next
then-leads (Ok x) tail bad Mid next Next is more = subst (λ (t : List ℕ). Leads (next (x.0, t)) tail bad Next) (sym is.1) (more x.0 is.0 is.2)
then-leads (Err stops.More) tail bad Mid next Next is more = absurd is
then-leads (Err (stops.Wrong behind)) tail bad Mid next Next is more = is
then-leads (Err stops.Full) tail bad Mid next Next is more = absurd is
then-leads (Err stops.Memory) tail bad Mid next Next is more = absurd is

-- ---- one field

-- so many bytes are read as a value
abbrev ReadsField : {V : Type 0} → ℕ → (List ℕ → V) → (List ℕ → Part V) → Type 0
ReadsField size value raw = (front rest : List ℕ) → length front ≡ size → raw (front ++ rest) ≡ Ok (value front, rest)

stops-there : {V : Type 0} (test : V → Bool) (bytes : List ℕ) (part : Part V) (v : V) (rest tail bad : List ℕ) (Next : V → FieldRules) → part ≡ Ok (v, rest) → test v ≡ false
    → bytes ≡ tail → Leads (checked test bytes part) tail bad Next
stops-there test bytes part v rest tail bad Next is fails same = rw (is, fails) (ap (λ (t : List ℕ). length t) same)

goes-on : {V : Type 0} (test : V → Bool) (bytes : List ℕ) (part : Part V) (v : V) (before tail bad : List ℕ) (Next : V → FieldRules) → part ≡ Ok (v, before ++ tail) → test v ≡ true
    → Next v before bad → Leads (checked test bytes part) tail bad Next
goes-on test bytes part v before tail bad Next is holds next = rw (is, holds) (before, refl, next)

fails : (test : Bool) → (test ≡ true → ⊥) → test ≡ false
fails true other = absurd (other refl)
fails false other = refl

field-leads : {V : Type 0} (size : ℕ) (value : List ℕ → V) (test : V → Bool) (Allowed : V → Type 0) (behind : V → FieldRules) (raw : List ℕ → Part V) → Decides test Allowed → ReadsField size value raw
    → (before bad rest : List ℕ) → field size value Allowed behind before bad
    → Leads (checked test (before ++ (bad ++ rest)) (raw (before ++ (bad ++ rest)))) (bad ++ rest) bad behind
field-leads size value test Allowed behind raw decides reads before bad rest is = elim is [
  | inl here ↦
      (let same : before ++ (bad ++ rest) ≡ bad ++ rest = ap (λ (t : List ℕ). t ++ (bad ++ rest)) here.0 in
      stops-there test _ _ (value bad) rest (bad ++ rest) bad behind (ap raw same ∙ reads bad rest here.1)
      (fails (test (value bad)) (λ holds. here.2 (decides.sound (value bad) holds))) same)
  | inr on ↦
      (let front = on.0 in
      let next = on.1.0 in
      goes-on test _ _ (value front) next (bad ++ rest) bad behind
      (ap raw (ap (λ (t : List ℕ). t ++ (bad ++ rest)) on.1.1 ∙ append_assoc front next (bad ++ rest)) ∙ reads front (next ++ (bad ++ rest)) on.1.2)
      (decides.full (value front) on.1.3) on.1.4)
]

-- a field that is never judged
any-leads : {V : Type 0} (size : ℕ) (value : List ℕ → V) (behind : V → FieldRules) (raw : List ℕ → Part V) → ReadsField size value raw
    → (before bad rest : List ℕ) → field size value (λ _. Unit {0}) behind before bad → Leads (raw (before ++ (bad ++ rest))) (bad ++ rest) bad behind
any-leads size value behind raw reads before bad rest is = elim is [
  | inl here ↦ absurd (here.2 tt)
  | inr on ↦
      (let same = ap raw (ap (λ (t : List ℕ). t ++ (bad ++ rest)) on.1.1 ∙ append_assoc on.0 on.1.0 (bad ++ rest)) ∙ reads on.0 (on.1.0 ++ (bad ++ rest)) on.1.2 in
      rw same (on.1.0, refl, on.1.4))
]

reads-byte : ReadsField 1 (λ bytes. slice_index bytes 0) byte_at
reads-byte [] rest is = absurd (omega (arith, is))
reads-byte (only ∷ []) rest is = refl
reads-byte (one ∷ other ∷ front) rest is = absurd (omega (arith, is))

reads-number : (size : ℕ) → ReadsField size (big_number size) (number_at size)
reads-number size front rest is = sized-again size front rest (big_number size front) is (big_from-append size front rest (omega (arith, is)))

reads-bytes : (size : ℕ) → ReadsField size (λ bytes. bytes) (bytes_at size)
reads-bytes size front rest is = ap (λ (n : ℕ). bytes_at n (front ++ rest)) (sym is) ∙ bytes-again front rest

-- ---- the head

name-leads : (least most : ℕ) (behind : FieldRules) (before bad rest : List ℕ) → name least most behind before bad
    → Leads (text_at least most (before ++ (bad ++ rest))) (bad ++ rest) bad (λ _. behind)
unfolding text_at
name-leads least most behind before bad rest is =
    then-leads _ (bad ++ rest) bad (λ size. text size IsName behind) (λ size. checked is_name size.1 (bytes_at size.0 size.1)) (λ _. behind)
    (field-leads 1 (λ bytes. slice_index bytes 0) (λ n. nat_le least n && nat_le n most) (λ size. (least ≤ size) × (size ≤ most)) (λ size. text size IsName behind) byte_at (between-decides least most) reads-byte before bad rest is)
    (λ size front next. field-leads size (λ bytes. bytes) is_name IsName (λ _. behind) (bytes_at size) name-decides (reads-bytes size) front bad rest next)

names-lead : (before bad rest : List ℕ) → names before bad → Leads (names_at (before ++ (bad ++ rest))) (bad ++ rest) bad (λ _. no_field)
unfolding names_at names
names-lead before bad rest is =
    let pool = name 1 64 no_field in
    let group = name 0 64 pool in
    let set = name 1 255 group in
    let tail = bad ++ rest in
    then-leads (text_at 1 64 (before ++ tail)) tail bad (λ _. set) _ (λ _. no_field) (name-leads 1 64 set before bad rest is)
    (λ one a na. then-leads (text_at 1 255 (a ++ tail)) tail bad (λ _. group) _ (λ _. no_field) (name-leads 1 255 group a bad rest na)
    (λ two b nb. then-leads (text_at 0 64 (b ++ tail)) tail bad (λ _. pool) _ (λ _. no_field) (name-leads 0 64 pool b bad rest nb)
    (λ three c nc. then-leads (text_at 1 64 (c ++ tail)) tail bad (λ _. no_field) _ (λ _. no_field) (name-leads 1 64 no_field c bad rest nc)
    (λ four d nd. absurd nd))))

numbers-lead : (before bad rest : List ℕ) → head_fields before bad → Leads (numbers_at (before ++ (bad ++ rest))) (bad ++ rest) bad (λ _. names)
unfolding numbers_at head_fields given_byte_at ssid_at base_at level_at moment_at
numbers-lead before bad rest is =
    let tail = bad ++ rest in
    then-leads (given_byte_at 0x48 (before ++ tail)) tail bad (λ _. ssid_fields) _ (λ _. names)
    (field-leads 1 (λ bytes. slice_index bytes 0) (λ kind_byte. eqb kind_byte 0x48) (λ kind_byte. kind_byte ≡ 0x48) (λ _. ssid_fields) byte_at (same-decides 0x48) reads-byte before bad rest is)
    (λ kind_byte a na. then-leads (ssid_at (a ++ tail)) tail bad base_fields _ (λ _. names)
    (field-leads 8 (big_number 8) (λ ssid. nat_lt 0 ssid) (λ ssid. 1 ≤ ssid) base_fields (number_at 8) some-decides (reads-number 8) a bad rest na)
    (λ ssid b nb. then-leads (base_at ssid (b ++ tail)) tail bad level_fields _ (λ _. names)
    (field-leads 8 (big_number 8) (λ base. nat_lt base ssid) (λ base. base < ssid) level_fields (number_at 8) (base-decides ssid) (reads-number 8) b bad rest nb)
    (λ base c nc. then-leads (level_at base (c ++ tail)) tail bad (λ _. saved_fields) _ (λ _. names)
    (field-leads 1 (λ bytes. slice_index bytes 0) (is_level base) (λ level. (level ≤ 10) × ((base ≡ 0) ↔ (level ≡ 0))) (λ _. saved_fields) byte_at (level-decides base) reads-byte c bad rest nc)
    (λ level d nd. then-leads (moment_at 0 (d ++ tail)) tail bad (λ _. browse_fields) _ (λ _. names)
    (field-leads 8 (big_number 8) (λ n. nat_le 0 n && nat_le n max_moment) (λ n. n ≤ max_moment) (λ _. browse_fields) (number_at 8) least-decides (reads-number 8) d bad rest nd)
    (λ saved e ne. then-leads (moment_at 0 (e ++ tail)) tail bad retain_fields _ (λ _. names)
    (field-leads 8 (big_number 8) (λ n. nat_le 0 n && nat_le n max_moment) (λ n. n ≤ max_moment) retain_fields (number_at 8) least-decides (reads-number 8) e bad rest ne)
    (λ browse f nf. then-leads (moment_at browse (f ++ tail)) tail bad (λ _. names) _ (λ _. names)
    (field-leads 8 (big_number 8) (λ n. nat_le browse n && nat_le n max_moment) (λ n. (browse ≤ n) × (n ≤ max_moment)) (λ _. names) (number_at 8) (between-decides browse max_moment) (reads-number 8) f bad rest nf)
    (λ retain g ng. (g, refl, ng))))))))

pub head-leads : (before bad rest : List ℕ) → head_fields before bad → Leads (head_at (before ++ (bad ++ rest))) (bad ++ rest) bad (λ _. no_field)
unfolding head_at
head-leads before bad rest is =
    let tail = bad ++ rest in
    then-leads (numbers_at (before ++ tail)) tail bad (λ _. names) _ (λ _. no_field) (numbers-lead before bad rest is)
    (λ numbers a na. then-leads (names_at (a ++ tail)) tail bad (λ _. no_field) _ (λ _. no_field) (names-lead a bad rest na)
    (λ texts b nb. absurd nb))

-- ---- an entry or the end

path-leads : (last : List ℕ) (kind : EntryKind) (before bad rest : List ℕ) → entry_fields last kind before bad
    → Leads (path_at last (before ++ (bad ++ rest))) (bad ++ rest) bad (λ _. times kind)
unfolding path_at entry_fields
path-leads last kind before bad rest is =
    let tail = bad ++ rest in
    let behind : ℕ → FieldRules = λ size. text size (λ path. IsPathText path × IsBelow last path) (times kind) in
    then-leads (checked (λ n. nat_lt 0 n && nat_le n 1024) (before ++ tail) (number_at 2 (before ++ tail))) tail bad behind _ (λ _. times kind)
    (field-leads 2 (big_number 2) (λ n. nat_lt 0 n && nat_le n 1024) (λ n. (0 < n) × (n ≤ 1024)) behind (number_at 2) size-decides (reads-number 2) before bad rest is)
    (λ size a na. field-leads size (λ bytes. bytes) (λ path. is_path path && is_below last path) (λ path. IsPathText path × IsBelow last path) (λ _. times kind) (bytes_at size) (path-decides last) (reads-bytes size) a bad rest na)

times-lead : (kind : EntryKind) (path before bad rest : List ℕ) → times kind before bad
    → Leads {X = Front} (mtime_at kind (before ++ (bad ++ rest)) >>= λ mtime. size_at kind mtime.1 >>= λ size. Ok (record { kind = kind; path = path; mtime = mtime.0; size = size.0 }, size.1)) (bad ++ rest) bad (λ _. no_field)
times-lead kinds.File path before bad rest is =
    let tail = bad ++ rest in
    let size_fields : FieldRules = number 8 (λ size. size ≤ max_size) (λ _. no_field) in
    then-leads (number_at 8 (before ++ tail)) tail bad (λ _. size_fields) _ (λ _. no_field) (any-leads 8 (big_number 8) (λ _. size_fields) (number_at 8) (reads-number 8) before bad rest is)
    (λ mtime a na. then-leads (checked (λ size. nat_le size max_size) (a ++ tail) (number_at 8 (a ++ tail))) tail bad (λ _. no_field) _ (λ _. no_field)
    (field-leads 8 (big_number 8) (λ size. nat_le size max_size) (λ size. size ≤ max_size) (λ _. no_field) (number_at 8) (at-most-decides max_size) (reads-number 8) a bad rest na)
    (λ size b nb. absurd nb))
times-lead kinds.Folder path before bad rest is =
    then-leads (number_at 8 (before ++ (bad ++ rest))) (bad ++ rest) bad (λ _. no_field) _ (λ _. no_field) (any-leads 8 (big_number 8) (λ _. no_field) (number_at 8) (reads-number 8) before bad rest is)
    (λ mtime a na. absurd na)
times-lead kinds.Gone path before bad rest is = absurd is

room-leads : (room : Bool) (count : ℕ) (last : List ℕ) (kind : EntryKind) (before bad rest : List ℕ) → nat_lt count max_entries ≡ room → count < max_entries → entry_fields last kind before bad
    → Leads (cond room (Ok (kind, before ++ (bad ++ rest))) (Err stops.Full)) (bad ++ rest) bad (entry_fields last)
room-leads true count last kind before bad rest is room next = (before, refl, next)
room-leads false count last kind before bad rest is room next = absurd (true-is-false (nat_lt count max_entries) (lt-ltb count max_entries room) is)

entry-leads : (count : ℕ) (last : List ℕ) (kind_byte : ℕ) (kind : EntryKind) (before bad rest : List ℕ) → kind_of kind_byte ≡ Some kind → count < max_entries → entry_fields last kind before bad
    → Leads (front_at count last (kind_byte ∷ (before ++ (bad ++ rest)))) (bad ++ rest) bad (λ _. no_field)
unfolding front_at kind_at
entry-leads count last kind_byte kind before bad rest is room next =
    let tail = bad ++ rest in
    let behind = length (kind_byte ∷ (before ++ tail)) in
    then-leads (kind_among count behind (kind_of kind_byte) (before ++ tail)) tail bad (entry_fields last) _ (λ _. no_field)
    (subst (λ (k : Option EntryKind). Leads (kind_among count behind k (before ++ tail)) tail bad (entry_fields last)) (sym is) (room-leads (nat_lt count max_entries) count last kind before bad rest refl room next))
    (λ kind a na. then-leads (path_at last (a ++ tail)) tail bad (λ _. times kind) _ (λ _. no_field) (path-leads last kind a bad rest na)
    (λ path b nb. times-lead kind path b bad rest nb))

unknown-leads : (count : ℕ) (last : List ℕ) (kind_byte : ℕ) (rest bad : List ℕ) → kind_of kind_byte ≡ None → Leads (front_at count last (kind_byte ∷ rest)) (kind_byte ∷ rest) bad (λ _. no_field)
unfolding front_at kind_at
unknown-leads count last kind_byte rest bad is =
    then-leads (kind_among count (length (kind_byte ∷ rest)) (kind_of kind_byte) rest) (kind_byte ∷ rest) bad (λ _. no_field) _ (λ _. no_field)
    (subst (λ (k : Option EntryKind). Leads (kind_among count (length (kind_byte ∷ rest)) k rest) (kind_byte ∷ rest) bad (λ _. no_field)) (sym is) refl)
    (λ kind a na. absurd na)

count-leads : (count : ℕ) (before bad rest : List ℕ) → number 8 (λ n. n ≡ count) (λ _. no_field) before bad
    → Leads (end_at count (0x45 ∷ (before ++ (bad ++ rest)))) (bad ++ rest) bad (λ _. no_field)
unfolding end_at given_byte_at
count-leads count before bad rest is = field-leads 8 (big_number 8) (λ n. eqb n count) (λ n. n ≡ count) (λ _. no_field) (number_at 8) (same-decides count) (reads-number 8) before bad rest is

pub leads-nowhere : {X : Type 0} (part : Part X) (tail bad : List ℕ) → Leads part tail bad (λ _. no_field) → part ≡ Err (stops.Wrong (length tail))
leads-nowhere (Ok x) tail bad is = absurd is.2
leads-nowhere (Err stops.More) tail bad is = absurd is
leads-nowhere (Err (stops.Wrong behind)) tail bad is = ap (λ (n : ℕ). Err (stops.Wrong n)) is
leads-nowhere (Err stops.Full) tail bad is = absurd is
leads-nowhere (Err stops.Memory) tail bad is = absurd is

-- an end or an entry is read up to a field that isn't allowed
abbrev ItemStops : ℕ → List ℕ → List ℕ → ℕ → Type 0
ItemStops count last bytes behind =
    ((begins_end bytes ≡ true) × (end_at count bytes ≡ Err (stops.Wrong behind))) ⊎ ((begins_end bytes ≡ false) × (front_at count last bytes ≡ Err (stops.Wrong behind)))

abbrev no_kind : Option EntryKind
no_kind = None

abbrev some_kind : EntryKind → Option EntryKind
some_kind kind = Some kind

none-no-kind : (kind : EntryKind) → no_kind ≡ some_kind kind → ⊥
none-no-kind kind is = cc

is-no-end : (kind_byte : ℕ) → (Begins (kind_of kind_byte) kind_byte → ⊥) → eqb kind_byte 0x45 ≡ false
is-no-end kind_byte other = fails (eqb kind_byte 0x45) (λ is. other (subst (λ (m : ℕ). Begins (kind_of m) m) (sym (eqb-true kind_byte 0x45 is)) refl))

some-is-no-end : (kind_byte : ℕ) (kind : EntryKind) → kind_of kind_byte ≡ Some kind → eqb kind_byte 0x45 ≡ false
some-is-no-end kind_byte kind is = fails (eqb kind_byte 0x45) (λ same. none-no-kind kind (sym (ap kind_of (eqb-true kind_byte 0x45 same)) ∙ is))

kind_byte-stops : (count : ℕ) (last : List ℕ) (kind_byte : ℕ) (rest : List ℕ) (kind : Option EntryKind) → kind_of kind_byte ≡ kind → (Begins (kind_of kind_byte) kind_byte → ⊥)
    → ItemStops count last (kind_byte ∷ rest) (length (kind_byte ∷ rest))
kind_byte-stops count last kind_byte rest None is other = inr (is-no-end kind_byte other, leads-nowhere (front_at count last (kind_byte ∷ rest)) (kind_byte ∷ rest) [] (unknown-leads count last kind_byte rest [] is))
kind_byte-stops count last kind_byte rest (Some kind) is other = absurd (other (subst (λ (k : Option EntryKind). Begins k kind_byte) (sym is) tt))

bad-kind_byte-stops : (count : ℕ) (last bad rest : List ℕ) → length bad ≡ 1 → (Begins (kind_of (slice_index bad 0)) (slice_index bad 0) → ⊥) → ItemStops count last (bad ++ rest) (length (bad ++ rest))
bad-kind_byte-stops count last [] rest one other = absurd (omega (arith, one))
bad-kind_byte-stops count last (kind_byte ∷ []) rest one other = kind_byte-stops count last kind_byte rest (kind_of kind_byte) refl other
bad-kind_byte-stops count last (kind_byte ∷ next ∷ bad) rest one other = absurd (omega (arith, one))

behind-kind_byte-stops : (count : ℕ) (last : List ℕ) (kind_byte : ℕ) (before bad rest : List ℕ) (kind : Option EntryKind) → kind_of kind_byte ≡ kind → Begins kind kind_byte → fields_behind count last kind before bad
    → ItemStops count last (kind_byte ∷ (before ++ (bad ++ rest))) (length (bad ++ rest))
behind-kind_byte-stops count last kind_byte before bad rest None is begins next =
    subst (λ (m : ℕ). ItemStops count last (m ∷ (before ++ (bad ++ rest))) (length (bad ++ rest))) (sym begins)
    (inl (refl, leads-nowhere (end_at count (0x45 ∷ (before ++ (bad ++ rest)))) (bad ++ rest) bad (count-leads count before bad rest next)))
behind-kind_byte-stops count last kind_byte before bad rest (Some kind) is begins next =
    inr (some-is-no-end kind_byte kind is, leads-nowhere (front_at count last (kind_byte ∷ (before ++ (bad ++ rest)))) (bad ++ rest) bad (entry-leads count last kind_byte kind before bad rest is next.0 next.1))

marked-stops : (count : ℕ) (last front before bad rest : List ℕ) → length front ≡ 1 → Begins (kind_of (slice_index front 0)) (slice_index front 0)
    → fields_behind count last (kind_of (slice_index front 0)) before bad → ItemStops count last (front ++ (before ++ (bad ++ rest))) (length (bad ++ rest))
marked-stops count last [] before bad rest one begins next = absurd (omega (arith, one))
marked-stops count last (kind_byte ∷ []) before bad rest one begins next = behind-kind_byte-stops count last kind_byte before bad rest (kind_of kind_byte) refl begins next
marked-stops count last (kind_byte ∷ other ∷ front) before bad rest one begins next = absurd (omega (arith, one))

item-stops : (count : ℕ) (last before bad rest : List ℕ) → item_fields count last before bad → ItemStops count last (before ++ (bad ++ rest)) (length (bad ++ rest))
unfolding item_fields
item-stops count last before bad rest is = elim is [
  | inl here ↦
      subst (λ (t : List ℕ). ItemStops count last (t ++ (bad ++ rest)) (length (bad ++ rest))) (sym here.0) (bad-kind_byte-stops count last bad rest here.1 here.2)
  | inr on ↦
      subst (λ (t : List ℕ). ItemStops count last t (length (bad ++ rest)))
      (sym (ap (λ (t : List ℕ). t ++ (bad ++ rest)) on.1.1 ∙ append_assoc on.0 on.1.0 (bad ++ rest)))
      (marked-stops count last on.0 on.1.0 bad rest on.1.2 on.1.3 on.1.4)
]

-- ---- the stream

abbrev wrong : {X : Type 0} → ℕ → Part X
wrong behind = Err (stops.Wrong behind)

abbrev read_of : {X : Type 0} → X → List ℕ → Part X
read_of x rest = Ok (x, rest)

abbrev stopped : {X : Type 0} → Stop → Part X
stopped stop = Err stop

ok-no-wrong : {X : Type 0} (x : X) (rest : List ℕ) (behind : ℕ) → read_of x rest ≡ wrong behind → ⊥
ok-no-wrong x rest behind is = cc

more-no-wrong : {X : Type 0} (behind : ℕ) → stopped {X = X} stops.More ≡ wrong behind → ⊥
more-no-wrong behind is = cc

full-no-wrong : {X : Type 0} (behind : ℕ) → stopped {X = X} stops.Full ≡ wrong behind → ⊥
full-no-wrong behind is = cc

memory-no-wrong : {X : Type 0} (behind : ℕ) → stopped {X = X} stops.Memory ≡ wrong behind → ⊥
memory-no-wrong behind is = cc

same-wrong : {X : Type 0} (one other : ℕ) → wrong {X = X} one ≡ wrong other → one ≡ other
same-wrong one other is = cc

-- what was read so far of what stops
still : {X : Type 0} (now : Reading) (made : X → Reading) (part longer : Part X) (more : List ℕ) (behind offset : ℕ) → Extends more part longer → longer ≡ Err (stops.Wrong behind)
    → offset + behind ≡ now.read + length more → (part ≡ Err stops.More → reads now more ≡ Err (faults.Bad offset))
    → then_reads (settled made now (read_alone part)) (λ next. reads next more) ≡ Err (faults.Bad offset)
still now made (Ok x) longer more behind offset extends is places waits = absurd (ok-no-wrong x.0 (x.1 ++ more) behind (sym extends ∙ is))
still now made (Err stops.More) longer more behind offset extends is places waits = waits refl
still {X = X} now made (Err (stops.Wrong near)) longer more behind offset extends is places waits =
    let same : near + length more ≡ behind = same-wrong {X = X} (near + length more) behind (sym extends ∙ is) in
    ap (λ (n : ℕ). Err (faults.Bad n)) (omega (arith, places, same))
still now made (Err stops.Full) longer more behind offset extends is places waits = absurd (full-no-wrong behind (sym extends ∙ is))
still now made (Err stops.Memory) longer more behind offset extends is places waits = absurd (memory-no-wrong behind (sym extends ∙ is))

wrong-on : {X : Type 0} (base : Reading) (first : ℕ) (parse : List ℕ → Part X) (made : Reading → X → Reading) → Settles base first parse made → (more pending : List ℕ) (behind offset : ℕ)
    → parse (first ∷ (pending ++ more)) ≡ Err (stops.Wrong behind) → offset + behind ≡ base.read + length (first ∷ pending) + length more
    → then_reads (settle (held base (first ∷ pending))) (λ next. reads next more) ≡ Err (faults.Bad offset)
wrong-on base first parse made settles [] pending behind offset is places =
    let now = held base (first ∷ pending) in
    ap (λ (r : Result Reading StreamFault). then_reads r (λ next. reads next [])) (settles.settles pending)
    ∙ still now (made now) (parse (first ∷ pending)) (parse (first ∷ (pending ++ []))) [] behind offset (settles.grows (first ∷ pending) []).extends is places
    (λ waits. absurd (more-no-wrong behind (sym waits ∙ ap (λ (p : List ℕ). parse (first ∷ p)) (sym (append-nil pending)) ∙ is)))
wrong-on base first parse made settles (byte ∷ more) pending behind offset is places =
    let now = held base (first ∷ pending) in
    let group : (pending ++ byte ∷ []) ++ more ≡ pending ++ byte ∷ more = append_assoc pending (byte ∷ []) more in
    ap (λ (r : Result Reading StreamFault). then_reads r (λ next. reads next (byte ∷ more))) (settles.settles pending)
    ∙ still now (made now) (parse (first ∷ pending)) (parse (first ∷ (pending ++ byte ∷ more))) (byte ∷ more) behind offset (settles.grows (first ∷ pending) (byte ∷ more)).extends is places
    (λ waits. ap (λ (r : Result Reading StreamFault). then_reads r (λ next. reads next more)) (next-byte now byte settles.going settles.left ∙ ap settle (held-more base (first ∷ pending) byte))
    ∙ wrong-on base first parse made settles more (pending ++ byte ∷ []) behind offset (ap (λ (p : List ℕ). parse (first ∷ p)) group ∙ is)
    (omega (arith, places, length-append pending (byte ∷ []))))

wrong-whole : {X : Type 0} (base : Reading) (first : ℕ) (parse : List ℕ → Part X) (made : Reading → X → Reading) → Settles base first parse made → (more : List ℕ) (behind offset : ℕ)
    → parse (first ∷ more) ≡ Err (stops.Wrong behind) → offset + behind ≡ base.read + length (first ∷ more) → reads base (first ∷ more) ≡ Err (faults.Bad offset)
wrong-whole base first parse made settles more behind offset is places =
    ap (λ (r : Result Reading StreamFault). then_reads r (λ next. reads next more))
    (next-byte base first settles.going settles.left ∙ ap (λ (p : List ℕ). settle (record base { read = base.read + 1; pending = p ++ first ∷ [] })) settles.none)
    ∙ wrong-on base first parse made settles more [] behind offset is (omega (arith, places))

head-waits : head_at [] ≡ Err stops.More
unfolding head_at numbers_at given_byte_at
head-waits = refl

front-waits : (count : ℕ) (last : List ℕ) → front_at count last [] ≡ Err stops.More
unfolding front_at kind_at
front-waits count last = refl

head-stops : (base : Reading) (bytes : List ℕ) (behind offset : ℕ) → base.head ≡ None → base.ended ≡ false → base.left ≡ 0 → base.pending ≡ []
    → head_at bytes ≡ Err (stops.Wrong behind) → offset + behind ≡ base.read + length bytes → reads base bytes ≡ Err (faults.Bad offset)
unfolding settle
head-stops base [] behind offset head going left none is places = absurd (more-no-wrong behind (sym head-waits ∙ is))
head-stops base (first ∷ more) behind offset head going left none is places =
    wrong-whole base first head_at with_head (record { going = going; left = left; none = none; grows = head-grows; settles = λ pending. ap (λ (h : Option SetHead). settle_from h (held base (first ∷ pending))) head })
    more behind offset is places

end-stops : (base : Reading) (head : SetHead) (bytes : List ℕ) (behind offset : ℕ) → base.head ≡ Some head → base.ended ≡ false → base.left ≡ 0 → base.pending ≡ []
    → begins_end bytes ≡ true → end_at (length base.entries) bytes ≡ Err (stops.Wrong behind) → offset + behind ≡ base.read + length bytes → reads base bytes ≡ Err (faults.Bad offset)
unfolding settle
end-stops base head [] behind offset is-head going left none ends is places = absurd cc
end-stops base head (first ∷ more) behind offset is-head going left none ends is places =
    wrong-whole base first (end_at (length base.entries)) with_end (record {
      going = going;
      left = left;
      none = none;
      grows = end-grows (length base.entries);
      settles = λ pending. ap (λ (h : Option SetHead). settle_from h (held base (first ∷ pending))) is-head ∙ ap (λ (test : Bool). settle_by test (held base (first ∷ pending))) ends;
    }) more behind offset is places

front-stops : (base : Reading) (head : SetHead) (bytes : List ℕ) (behind offset : ℕ) → base.head ≡ Some head → base.ended ≡ false → base.left ≡ 0 → base.pending ≡ []
    → begins_end bytes ≡ false → front_at (length base.entries) (last_path base.entries) bytes ≡ Err (stops.Wrong behind) → offset + behind ≡ base.read + length bytes
    → reads base bytes ≡ Err (faults.Bad offset)
unfolding settle
front-stops base head [] behind offset is-head going left none ends is places = absurd (more-no-wrong behind (sym (front-waits (length base.entries) (last_path base.entries)) ∙ is))
front-stops base head (first ∷ more) behind offset is-head going left none ends is places =
    wrong-whole base first (front_at (length base.entries) (last_path base.entries)) with_entry (record {
      going = going;
      left = left;
      none = none;
      grows = front-grows (length base.entries) (last_path base.entries);
      settles = λ pending. ap (λ (h : Option SetHead). settle_from h (held base (first ∷ pending))) is-head ∙ ap (λ (test : Bool). settle_by test (held base (first ∷ pending))) ends;
    }) more behind offset is places

places-are : (read offset : ℕ) (before bad rest : List ℕ) → offset ≡ read + length before → offset + length (bad ++ rest) ≡ read + length (before ++ (bad ++ rest))
places-are read offset before bad rest is = omega (arith, is, length-append before (bad ++ rest))

next-stops : (read left : ℕ) (ended : Bool) (head : Option SetHead) (entries : List IndexEntry) (pending before bad rest : List ℕ) (offset : ℕ)
    → pending ≡ [] → left ≡ 0 → next_fields ended head entries before bad → offset ≡ read + length before
    → reads (record { read = read; left = left; ended = ended; head = head; entries = entries; pending = pending }) (before ++ (bad ++ rest)) ≡ Err (faults.Bad offset)
next-stops read left true head entries pending before bad rest offset none idle is place = elim is [
  | inl here ↦
      (let same : before ++ (bad ++ rest) ≡ bad ++ rest = ap (λ (t : List ℕ). t ++ (bad ++ rest)) here.0 in
      ap (reads (record { read = read; left = left; ended = true; head = head; entries = entries; pending = pending })) same
      ∙ reads-ended (record { read = read; left = left; ended = true; head = head; entries = entries; pending = pending }) (bad ++ rest) refl (omega (arith, here.1, length-append bad rest))
      ∙ ap (λ (n : ℕ). Err (faults.Bad n)) (omega (arith, place, ap (λ (t : List ℕ). length t) here.0)))
  | inr on ↦ absurd on.1.3
]
next-stops read left false None entries pending before bad rest offset none idle is place =
    head-stops (record { read = read; left = left; ended = false; head = None; entries = entries; pending = pending }) (before ++ (bad ++ rest)) (length (bad ++ rest)) offset refl refl idle none
    (leads-nowhere (head_at (before ++ (bad ++ rest))) (bad ++ rest) bad (head-leads before bad rest is)) (places-are read offset before bad rest place)
next-stops read left false (Some head) entries pending before bad rest offset none idle is place =
    let base : Reading = record { read = read; left = left; ended = false; head = Some head; entries = entries; pending = pending } in
    let places = places-are read offset before bad rest place in
    elim (item-stops (length entries) (last_path entries) before bad rest is) [
      | inl ends ↦ end-stops base head (before ++ (bad ++ rest)) (length (bad ++ rest)) offset refl refl idle none ends.0 ends.1 places
      | inr goes ↦ front-stops base head (before ++ (bad ++ rest)) (length (bad ++ rest)) offset refl refl idle none goes.0 goes.1 places
    ]

pub bad-is-fault : (stream : List ℕ) (offset : ℕ) → HasBadField stream offset → reads start stream ≡ Err (faults.Bad offset)
bad-is-fault stream offset has =
    let reading = has.reading in
    let tail = has.before ++ (has.bad ++ has.rest) in
    ap (reads start) has.parts ∙ reads-append has.whole start tail ∙ ap (λ (r : Result Reading StreamFault). then_reads r (λ next. reads next tail)) has.read
    ∙ next-stops reading.read reading.left reading.ended reading.head reading.entries reading.pending has.before has.bad has.rest offset has.idle.0 has.idle.1 has.first_bad
    (has.offset_is ∙ ap (λ (n : ℕ). n + length has.before) (sym (read-length has.whole reading has.read)))

-- ---- an entry too many

over-settles : (test : Bool) (now : Reading) → test ≡ false → front_at (length now.entries) (last_path now.entries) now.pending ≡ Err stops.Full
    → settle_by test now ≡ Err (faults.TooMany max_entries)
over-settles true now other is = absurd cc
over-settles false now other is = ap (λ (p : Part Front). settled (with_entry now) now (read_alone p)) is

some-kind_byte : (kind_byte : ℕ) (kind : Option EntryKind) → kind_of kind_byte ≡ kind → IsSome kind → eqb kind_byte 0x45 ≡ false
some-kind_byte kind_byte None is some = absurd cc
some-kind_byte kind_byte (Some kind) is some = some-is-no-end kind_byte kind is

over-stops : (read left : ℕ) (head : Option SetHead) (entries : List IndexEntry) (pending : List ℕ) (kind_byte : ℕ) (rest : List ℕ) → pending ≡ [] → left ≡ 0 → IsSome head
    → max_entries ≤ length entries → IsSome (kind_of kind_byte)
    → reads (record { read = read; left = left; ended = false; head = head; entries = entries; pending = pending }) (kind_byte ∷ rest) ≡ Err (faults.TooMany max_entries)
unfolding settle
over-stops read left None entries pending kind_byte rest none idle some full begins = absurd cc
over-stops read left (Some head) entries pending kind_byte rest none idle some full begins =
    let reading : Reading = record { read = read; left = left; ended = false; head = Some head; entries = entries; pending = pending } in
    ap (λ (r : Result Reading StreamFault). then_reads r (λ next. reads next rest))
    (next-byte reading kind_byte refl idle
    ∙ ap (λ (p : List ℕ). settle (record reading { read = read + 1; pending = p ++ kind_byte ∷ [] })) none
    ∙ over-settles (eqb kind_byte 0x45) (record reading { read = read + 1; pending = kind_byte ∷ [] }) (some-kind_byte kind_byte (kind_of kind_byte) refl begins)
    (full-front (length entries) (last_path entries) kind_byte [] begins full))

pub many-is-fault : (stream : List ℕ) (limit offset : ℕ) → limit ≡ max_entries → HasEntryTooMany stream offset → reads start stream ≡ Err (faults.TooMany limit)
many-is-fault stream limit offset is has =
    let reading = has.reading in
    let tail = has.kind_byte ∷ has.rest in
    ap (reads start) has.parts ∙ reads-append has.whole start tail ∙ ap (λ (r : Result Reading StreamFault). then_reads r (λ next. reads next tail)) has.read
    ∙ ap (λ (ended : Bool). reads (record reading { ended = ended }) tail) has.going.0
    ∙ over-stops reading.read reading.left reading.head reading.entries reading.pending has.kind_byte has.rest has.idle.0 has.idle.1 has.going.1 has.full has.begins
    ∙ ap (λ (n : ℕ). Err (faults.TooMany n)) (sym is)
