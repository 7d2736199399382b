-- One entry too many.
use Rattle.std.proofs.Common.{◌≡◌, ℕ, ◌≤◌, Bool, true, false, cond, nat_lt, List, [], ◌∷◌, length, Option, Some, None, Ok, Err, refl, sym, subst}
use Rattle.std.specs.Prelude.{IsSome}
use Rattle.std.proofs.lemmas.Bool.{le-ltb, ltb-false}
use Rattle.save_stream.specs.declared.entry.EntryKind.{EntryKind}
use Rattle.save_stream.specs.declared.entry.EntryKind.TheVariants as kinds
use Rattle.save_stream.specs.declared.stop.Stop.TheVariants as stops
use Rattle.save_stream.specs.Spelling.{max_entries}
use Rattle.save_stream.specs.Reading.{Part, ◌>>=◌, checked, byte_at, number_at, bytes_at, is_name, text_at, given_byte_at, ssid_at, base_at, level_at, moment_at, numbers_at, names_at, head_at, kind_of, kind_among, kind_at, path_at, mtime_at, size_at, front_at, end_at}

-- reading doesn't find an entry too many, and takes no memory
abbrev pub NotFull : {X : Type 0} → Part X → Type 0
NotFull (Ok x) = Unit {0}
NotFull (Err stops.More) = Unit {0}
NotFull (Err (stops.Wrong behind)) = Unit {0}
NotFull (Err stops.Full) = ⊥
NotFull (Err stops.Memory) = ⊥

then-fits : {X Y : Type 0} (part : Part X) (next : X × List ℕ → Part Y) → NotFull part → ((x : X × List ℕ) → NotFull (next x)) → NotFull (part >>= next)
then-fits (Ok x) next fits more = more x
then-fits (Err stops.More) next fits more = tt
then-fits (Err (stops.Wrong behind)) next fits more = tt
then-fits (Err stops.Full) next fits more = fits
then-fits (Err stops.Memory) next fits more = fits

judged-fits : {X : Type 0} (allowed : Bool) (x : X × List ℕ) (behind : ℕ) → NotFull (cond allowed (Ok x) (Err (stops.Wrong behind)))
judged-fits true x behind = tt
judged-fits false x behind = tt

checked-fits : {X : Type 0} (allows : X → Bool) (bytes : List ℕ) (part : Part X) → NotFull part → NotFull (checked allows bytes part)
checked-fits allows bytes part fits = then-fits part _ fits (λ x. judged-fits (allows x.0) x (length bytes))

byte-fits : (bytes : List ℕ) → NotFull (byte_at bytes)
byte-fits [] = tt
byte-fits (byte ∷ bytes) = tt

sized-fits : {X : Type 0} (short : Bool) (x : X × List ℕ) → NotFull (cond short (Err stops.More) (Ok x))
sized-fits true x = tt
sized-fits false x = tt

number-fits : (size : ℕ) (bytes : List ℕ) → NotFull (number_at size bytes)
unfolding number_at
number-fits size bytes = sized-fits (nat_lt (length bytes) size) _

bytes-fit : (size : ℕ) (bytes : List ℕ) → NotFull (bytes_at size bytes)
unfolding bytes_at
bytes-fit size bytes = sized-fits (nat_lt (length bytes) size) _

text-fits : (least most : ℕ) (bytes : List ℕ) → NotFull (text_at least most bytes)
unfolding text_at
text-fits least most bytes = then-fits _ _ (checked-fits _ bytes _ (byte-fits bytes)) (λ size. checked-fits is_name size.1 _ (bytes-fit size.0 size.1))

given_byte-fits : (kind_byte : ℕ) (bytes : List ℕ) → NotFull (given_byte_at kind_byte bytes)
unfolding given_byte_at
given_byte-fits kind_byte bytes = checked-fits _ bytes _ (byte-fits bytes)

numbers-fit : (bytes : List ℕ) → NotFull (numbers_at bytes)
unfolding numbers_at ssid_at base_at level_at moment_at
numbers-fit bytes =
    then-fits _ _ (given_byte-fits 0x48 bytes)
    (λ kind_byte. then-fits _ _ (checked-fits _ kind_byte.1 _ (number-fits 8 kind_byte.1))
    (λ ssid. then-fits _ _ (checked-fits _ ssid.1 _ (number-fits 8 ssid.1))
    (λ base. then-fits _ _ (checked-fits _ base.1 _ (byte-fits base.1))
    (λ level. then-fits _ _ (checked-fits _ level.1 _ (number-fits 8 level.1))
    (λ saved. then-fits _ _ (checked-fits _ saved.1 _ (number-fits 8 saved.1))
    (λ browse. then-fits _ _ (checked-fits _ browse.1 _ (number-fits 8 browse.1)) (λ retain. tt)))))))

names-fit : (bytes : List ℕ) → NotFull (names_at bytes)
unfolding names_at
names-fit bytes =
    then-fits _ _ (text-fits 1 64 bytes)
    (λ client. then-fits _ _ (text-fits 1 255 client.1)
    (λ set. then-fits _ _ (text-fits 0 64 set.1)
    (λ group. then-fits _ _ (text-fits 1 64 group.1) (λ pool. tt))))

pub head-fits : (bytes : List ℕ) → NotFull (head_at bytes)
unfolding head_at
head-fits bytes = then-fits _ _ (numbers-fit bytes) (λ numbers. then-fits _ _ (names-fit numbers.1) (λ names. tt))

pub end-fits : (count : ℕ) (bytes : List ℕ) → NotFull (end_at count bytes)
unfolding end_at
end-fits count bytes = then-fits _ _ (given_byte-fits 0x45 bytes) (λ kind_byte. checked-fits _ kind_byte.1 _ (number-fits 8 kind_byte.1))

path-fits : (last bytes : List ℕ) → NotFull (path_at last bytes)
unfolding path_at
path-fits last bytes = then-fits _ _ (checked-fits _ bytes _ (number-fits 2 bytes)) (λ size. checked-fits _ size.1 _ (bytes-fit size.0 size.1))

mtime-fits : (kind : EntryKind) (bytes : List ℕ) → NotFull (mtime_at kind bytes)
mtime-fits kinds.File bytes = number-fits 8 bytes
mtime-fits kinds.Folder bytes = number-fits 8 bytes
mtime-fits kinds.Gone bytes = tt

size-fits : (kind : EntryKind) (bytes : List ℕ) → NotFull (size_at kind bytes)
size-fits kinds.File bytes = checked-fits _ bytes _ (number-fits 8 bytes)
size-fits kinds.Folder bytes = tt
size-fits kinds.Gone bytes = tt

-- an entry is one too many
abbrev pub Fills : ℕ → List ℕ → Type 0
Fills count bytes = (kind_byte : ℕ) × ((rest : List ℕ) × (bytes ≡ kind_byte ∷ rest) × IsSome (kind_of kind_byte) × (max_entries ≤ count))

-- where reading finds an entry too many, this holds; it takes no memory
abbrev pub Finds : {X : Type 0} → Type 0 → Part X → Type 0
Finds Over (Ok x) = Unit {0}
Finds Over (Err stops.More) = Unit {0}
Finds Over (Err (stops.Wrong behind)) = Unit {0}
Finds Over (Err stops.Full) = Over
Finds Over (Err stops.Memory) = ⊥

pub fits-finds : {X : Type 0} (Over : Type 0) (part : Part X) → NotFull part → Finds Over part
fits-finds Over (Ok x) fits = tt
fits-finds Over (Err stops.More) fits = tt
fits-finds Over (Err (stops.Wrong behind)) fits = tt
fits-finds Over (Err stops.Full) fits = absurd fits
fits-finds Over (Err stops.Memory) fits = fits

then-finds : {X Y : Type 0} (Over : Type 0) (part : Part X) (next : X × List ℕ → Part Y) → Finds Over part → ((x : X × List ℕ) → NotFull (next x)) → Finds Over (part >>= next)
then-finds Over (Ok x) next finds more = fits-finds Over (next x) (more x)
then-finds Over (Err stops.More) next finds more = tt
then-finds Over (Err (stops.Wrong behind)) next finds more = tt
then-finds Over (Err stops.Full) next finds more = finds
then-finds Over (Err stops.Memory) next finds more = finds

room-finds : (room : Bool) (count kind_byte : ℕ) (rest : List ℕ) (kind : EntryKind) → nat_lt count max_entries ≡ room → kind_of kind_byte ≡ Some kind
    → Finds (Fills count (kind_byte ∷ rest)) (cond room (Ok (kind, rest)) (Err stops.Full))
room-finds true count kind_byte rest kind room is = tt
room-finds false count kind_byte rest kind room is =
    (kind_byte, (rest, refl, subst (λ (k : Option EntryKind). IsSome k) (sym is) refl, ltb-false count max_entries room))

among-finds : (count kind_byte : ℕ) (rest : List ℕ) (kind : Option EntryKind) → kind_of kind_byte ≡ kind → Finds (Fills count (kind_byte ∷ rest)) (kind_among count (length (kind_byte ∷ rest)) kind rest)
among-finds count kind_byte rest None is = tt
among-finds count kind_byte rest (Some kind) is = room-finds (nat_lt count max_entries) count kind_byte rest kind refl is

pub front-finds : (count : ℕ) (last bytes : List ℕ) → Finds (Fills count bytes) (front_at count last bytes)
unfolding front_at kind_at
front-finds count last [] = tt
front-finds count last (kind_byte ∷ bytes) =
    then-finds (Fills count (kind_byte ∷ bytes)) (kind_at count (kind_byte ∷ bytes)) _ (among-finds count kind_byte bytes (kind_of kind_byte) refl)
    (λ kind. then-fits _ _ (path-fits last kind.1) (λ path. then-fits _ _ (mtime-fits kind.0 path.1) (λ mtime. then-fits _ _ (size-fits kind.0 mtime.1) (λ size. tt))))

some-fills : (count kind_byte : ℕ) (rest : List ℕ) (kind : Option EntryKind) → kind_of kind_byte ≡ kind → IsSome kind → max_entries ≤ count
    → kind_among count (length (kind_byte ∷ rest)) kind rest ≡ Err stops.Full
some-fills count kind_byte rest None is some full = absurd cc
some-fills count kind_byte rest (Some kind) is some full = let over : nat_lt count max_entries ≡ false = le-ltb count max_entries full in rw over refl

pub full-front : (count : ℕ) (last : List ℕ) (kind_byte : ℕ) (rest : List ℕ) → IsSome (kind_of kind_byte) → max_entries ≤ count → front_at count last (kind_byte ∷ rest) ≡ Err stops.Full
unfolding front_at kind_at
full-front count last kind_byte rest some full = rw (some-fills count kind_byte rest (kind_of kind_byte) refl some full) refl
