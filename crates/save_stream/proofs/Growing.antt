-- What is read of bytes is read of them too where more bytes follow.
use Rattle.std.proofs.Common.{◌≡◌, ℕ, ◌+◌, Bool, true, false, cond, nat_lt, List, [], ◌∷◌, ◌++◌, length, Option, Some, None, Ok, Err, refl, ap, arith, inl, inr}
use Rattle.std.proofs.lemmas.Bool.{cases_lt, lt-ltb, le-ltb}
use Rattle.std.proofs.lemmas.List.{length-append, take-append-le, drop-append-le}
use Rattle.byteorder.specs.Numbers.{big_from-append}
use Rattle.save_stream.specs.declared.entry.EntryKind.{EntryKind}
use Rattle.save_stream.specs.declared.entry.EntryKind.TheVariants as kinds
use Rattle.save_stream.specs.declared.stop.Stop.TheVariants as stops
use Rattle.save_stream.specs.Spelling.{max_entries}
use Rattle.save_stream.specs.Reading.{Part, ◌>>=◌, checked, byte_at, number_at, bytes_at, is_name, text_at, given_byte_at, ssid_at, base_at, level_at, moment_at, numbers_at, names_at, head_at, kind_of, kind_among, kind_at, path_at, mtime_at, size_at, front_at, end_at}

abbrev pub Extends : {X : Type 0} → List ℕ → Part X → Part X → Type 0
Extends more (Ok x) part = part ≡ Ok (x.0, x.1 ++ more)
Extends more (Err stops.More) part = Unit {0}
Extends more (Err (stops.Wrong behind)) part = part ≡ Err (stops.Wrong (behind + length more))
Extends more (Err stops.Full) part = part ≡ Err stops.Full
Extends more (Err stops.Memory) part = part ≡ Err stops.Memory

-- `part` was read of some bytes, and `longer` of them with more bytes behind them
pub record Grown {X : Type 0} (more : List ℕ) (part longer : Part X) : Type 0 where
  pub extends : Extends more part longer

abbrev pub Grows : {X : Type 0} → (List ℕ → Part X) → Type 0
Grows parse = (bytes more : List ℕ) → Grown more (parse bytes) (parse (bytes ++ more))

then_extends : {X Y : Type 0} (more : List ℕ) (part longer : Part X) (next : X × List ℕ → Part Y) → Extends more part longer
    → ((x : X) (rest : List ℕ) → Grown more (next (x, rest)) (next (x, rest ++ more))) → Extends more (part >>= next) (longer >>= next)
then_extends more (Ok x) longer next is grows = rw is ((grows x.0 x.1).extends)
then_extends more (Err stops.More) longer next is grows = tt
then_extends more (Err (stops.Wrong behind)) longer next is grows = rw is refl
then_extends more (Err stops.Full) longer next is grows = rw is refl
then_extends more (Err stops.Memory) longer next is grows = rw is refl

pub then-grows : {X Y : Type 0} (more : List ℕ) (part longer : Part X) (next : X × List ℕ → Part Y) → Grown more part longer
    → ((x : X) (rest : List ℕ) → Grown more (next (x, rest)) (next (x, rest ++ more))) → Grown more (part >>= next) (longer >>= next)
then-grows more part longer next is grows = record { extends = then_extends more part longer next is.extends grows }

pub done-grows : {X : Type 0} (more : List ℕ) (x : X) (rest : List ℕ) → Grown more (Ok (x, rest)) (Ok (x, rest ++ more))
done-grows more x rest = record { extends = refl }

judged : {X : Type 0} (more bytes : List ℕ) (allowed : Bool) (x : X) (rest : List ℕ)
    → Extends more (cond allowed (Ok (x, rest)) (Err (stops.Wrong (length bytes)))) (cond allowed (Ok (x, rest ++ more)) (Err (stops.Wrong (length (bytes ++ more)))))
judged more bytes true x rest = refl
judged more bytes false x rest = ap (λ (n : ℕ). Err (stops.Wrong n)) (length-append bytes more)

checked_extends : {X : Type 0} (allows : X → Bool) (bytes more : List ℕ) (part longer : Part X) → Extends more part longer
    → Extends more (checked allows bytes part) (checked allows (bytes ++ more) longer)
checked_extends allows bytes more (Ok x) longer is = rw is (judged more bytes (allows x.0) x.0 x.1)
checked_extends allows bytes more (Err stops.More) longer is = tt
checked_extends allows bytes more (Err (stops.Wrong behind)) longer is = rw is refl
checked_extends allows bytes more (Err stops.Full) longer is = rw is refl
checked_extends allows bytes more (Err stops.Memory) longer is = rw is refl

pub checked-grows : {X : Type 0} (allows : X → Bool) (bytes more : List ℕ) (part longer : Part X) → Grown more part longer
    → Grown more (checked allows bytes part) (checked allows (bytes ++ more) longer)
checked-grows allows bytes more part longer is = record { extends = checked_extends allows bytes more part longer is.extends }

-- ---- fields

byte_extends : (bytes more : List ℕ) → Extends more (byte_at bytes) (byte_at (bytes ++ more))
byte_extends [] more = tt
byte_extends (byte ∷ bytes) more = refl

pub byte-grows : Grows byte_at
byte-grows bytes more = record { extends = byte_extends bytes more }

number_extends : (size : ℕ) (bytes more : List ℕ) → Extends more (number_at size bytes) (number_at size (bytes ++ more))
unfolding number_at
number_extends size bytes more =
    elim (cases_lt (length bytes) size) [
      | inl short ↦ (let is : nat_lt (length bytes) size ≡ true = lt-ltb _ _ short in rw is tt)
      | inr long ↦
          (let is : nat_lt (length bytes) size ≡ false = le-ltb _ _ long in
          let longer : nat_lt (length (bytes ++ more)) size ≡ false = le-ltb _ _ (omega (arith, length-append bytes more)) in
          rw (is, longer, drop-append-le size bytes more long, big_from-append size bytes more long) refl)
    ]

pub number-grows : (size : ℕ) → Grows (number_at size)
number-grows size bytes more = record { extends = number_extends size bytes more }

bytes_extends : (size : ℕ) (bytes more : List ℕ) → Extends more (bytes_at size bytes) (bytes_at size (bytes ++ more))
unfolding bytes_at
bytes_extends size bytes more =
    elim (cases_lt (length bytes) size) [
      | inl short ↦ (let is : nat_lt (length bytes) size ≡ true = lt-ltb _ _ short in rw is tt)
      | inr long ↦
          (let is : nat_lt (length bytes) size ≡ false = le-ltb _ _ long in
          let longer : nat_lt (length (bytes ++ more)) size ≡ false = le-ltb _ _ (omega (arith, length-append bytes more)) in
          rw (is, longer, drop-append-le size bytes more long, take-append-le size bytes more long) refl)
    ]

pub bytes-grows : (size : ℕ) → Grows (bytes_at size)
bytes-grows size bytes more = record { extends = bytes_extends size bytes more }

pub text-grows : (least most : ℕ) → Grows (text_at least most)
unfolding text_at
text-grows least most bytes more =
    then-grows more _ _ _ (checked-grows _ bytes more _ _ (byte-grows bytes more))
    (λ size rest. checked-grows is_name rest more _ _ (bytes-grows size rest more))

pub given_byte-grows : (kind_byte : ℕ) → Grows (given_byte_at kind_byte)
unfolding given_byte_at
given_byte-grows kind_byte bytes more = checked-grows _ bytes more _ _ (byte-grows bytes more)

-- ---- the head

ssid-grows : Grows ssid_at
unfolding ssid_at
ssid-grows bytes more = checked-grows _ bytes more _ _ (number-grows 8 bytes more)

base-grows : (ssid : ℕ) → Grows (base_at ssid)
unfolding base_at
base-grows ssid bytes more = checked-grows _ bytes more _ _ (number-grows 8 bytes more)

level-grows : (base : ℕ) → Grows (level_at base)
unfolding level_at
level-grows base bytes more = checked-grows _ bytes more _ _ (byte-grows bytes more)

moment-grows : (least : ℕ) → Grows (moment_at least)
unfolding moment_at
moment-grows least bytes more = checked-grows _ bytes more _ _ (number-grows 8 bytes more)

numbers-grows : Grows numbers_at
unfolding numbers_at
numbers-grows bytes more =
    then-grows more _ _ _ (given_byte-grows 0x48 bytes more)
    (λ kind_byte rest. then-grows more _ _ _ (ssid-grows rest more)
    (λ ssid rest. then-grows more _ _ _ (base-grows ssid rest more)
    (λ base rest. then-grows more _ _ _ (level-grows base rest more)
    (λ level rest. then-grows more _ _ _ (moment-grows 0 rest more)
    (λ saved rest. then-grows more _ _ _ (moment-grows 0 rest more)
    (λ browse rest. then-grows more _ _ _ (moment-grows browse rest more)
    (λ retain rest. done-grows more _ rest)))))))

names-grows : Grows names_at
unfolding names_at
names-grows bytes more =
    then-grows more _ _ _ (text-grows 1 64 bytes more)
    (λ client rest. then-grows more _ _ _ (text-grows 1 255 rest more)
    (λ set rest. then-grows more _ _ _ (text-grows 0 64 rest more)
    (λ group rest. then-grows more _ _ _ (text-grows 1 64 rest more)
    (λ pool rest. done-grows more _ rest))))

pub head-grows : Grows head_at
unfolding head_at
head-grows bytes more =
    then-grows more _ _ _ (numbers-grows bytes more)
    (λ numbers rest. then-grows more _ _ _ (names-grows rest more)
    (λ names rest. done-grows more _ rest))

-- ---- entries and the end

among_extends : (room : Bool) (kind : EntryKind) (rest more : List ℕ)
    → Extends more (cond room (Ok (kind, rest)) (Err stops.Full)) (cond room (Ok (kind, rest ++ more)) (Err stops.Full))
among_extends true kind rest more = refl
among_extends false kind rest more = refl

kind_extends : (count : ℕ) (bytes : List ℕ) (kind : Option EntryKind) (rest more : List ℕ)
    → Extends more (kind_among count (length bytes) kind rest) (kind_among count (length (bytes ++ more)) kind (rest ++ more))
kind_extends count bytes None rest more = ap (λ (n : ℕ). Err (stops.Wrong n)) (length-append bytes more)
kind_extends count bytes (Some kind) rest more = among_extends (nat_lt count max_entries) kind rest more

first_kind_extends : (count : ℕ) (bytes more : List ℕ) → Extends more (kind_at count bytes) (kind_at count (bytes ++ more))
unfolding kind_at
first_kind_extends count [] more = tt
first_kind_extends count (byte ∷ bytes) more = kind_extends count (byte ∷ bytes) (kind_of byte) bytes more

kind-grows : (count : ℕ) → Grows (kind_at count)
kind-grows count bytes more = record { extends = first_kind_extends count bytes more }

pub path-grows : (last : List ℕ) → Grows (path_at last)
unfolding path_at
path-grows last bytes more =
    then-grows more _ _ _ (checked-grows _ bytes more _ _ (number-grows 2 bytes more))
    (λ size rest. checked-grows _ rest more _ _ (bytes-grows size rest more))

mtime-grows : (kind : EntryKind) → Grows (mtime_at kind)
mtime-grows kinds.File bytes more = number-grows 8 bytes more
mtime-grows kinds.Folder bytes more = number-grows 8 bytes more
mtime-grows kinds.Gone bytes more = done-grows more 0 bytes

size-grows : (kind : EntryKind) → Grows (size_at kind)
size-grows kinds.File bytes more = checked-grows _ bytes more _ _ (number-grows 8 bytes more)
size-grows kinds.Folder bytes more = done-grows more 0 bytes
size-grows kinds.Gone bytes more = done-grows more 0 bytes

pub front-grows : (count : ℕ) (last : List ℕ) → Grows (front_at count last)
unfolding front_at
front-grows count last bytes more =
    then-grows more _ _ _ (kind-grows count bytes more)
    (λ kind rest. then-grows more _ _ _ (path-grows last rest more)
    (λ path rest. then-grows more _ _ _ (mtime-grows kind rest more)
    (λ mtime rest. then-grows more _ _ _ (size-grows kind rest more)
    (λ size rest. done-grows more _ rest))))

pub end-grows : (count : ℕ) → Grows (end_at count)
unfolding end_at
end-grows count bytes more =
    then-grows more _ _ _ (given_byte-grows 0x45 bytes more)
    (λ kind_byte rest. checked-grows _ rest more _ _ (number-grows 8 rest more))
