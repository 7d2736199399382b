-- What was written is read again.
use Rattle.std.proofs.Common.{◌≡◌, ◌↔◌, ℕ, zero, suc, ◌≤◌, ◌<◌, ◌^◌, Bool, true, false, eqb, nat_lt, nat_le, List, [], ◌∷◌, ◌++◌, length, get_or, Ok, refl, sym, ap, ◌∙◌, append_assoc, eq-eqb, arith}
use Rattle.std.specs.Prelude.{◌&&◌, slice_index, slice_get, Some}
use Rattle.std.proofs.lemmas.Str.{is_utf8-from_IsUtf8}
use Rattle.std.proofs.lemmas.Bool.{ne_eqb, lt-ltb, le-ltb, le-leb}
use Rattle.std.proofs.lemmas.List.{length-append, take_at, drop_at}
use Rattle.std.proofs.lemmas.List.Sums.{list_all-from_AllPass}
use Rattle.byteorder.specs.Endian.{big_number, big_bytes}
use Rattle.byteorder.specs.Numbers.{big_number-reads_back}
use Rattle.room_base.specs.Numbers.{max_moment}
use Rattle.room_base.specs.Text.{HasLength, IsName, IsPrintable, IsPathText}
use Rattle.save_stream.specs.declared.entry.EntryKind.{EntryKind}
use Rattle.save_stream.specs.declared.entry.EntryKind.TheVariants as kinds
use Rattle.save_stream.specs.declared.head_reading.HeadNumbers.{HeadNumbers}
use Rattle.std.specs.Ordering.{is_lt}
use Rattle.save_stream.specs.declared.head.SetHead.{SetHead}
use Rattle.save_stream.specs.Spelling.{max_entries, max_size, IsHead, IsBelow, number_text, short_number_text, short_text, long_text, head_numbers, head_text, entry_front, end_text}
use Rattle.save_stream.specs.Reading.{Part, ◌>>=◌, checked, number_at, bytes_at, is_printable, is_name, text_at, given_byte_at, ssid_at, base_at, is_level, level_at, moment_at, numbers_at, names_at, head_at, kind_at, is_path, is_below, path_at, front_at, end_at, HeadNames}

-- ---- fields

pub sized-again : (size : ℕ) (text rest : List ℕ) (number : ℕ) → length text ≡ size → big_number size (text ++ rest) ≡ number
    → number_at size (text ++ rest) ≡ Ok (number, rest)
unfolding number_at
sized-again size text rest number is back =
    let long : nat_lt (length (text ++ rest)) size ≡ false = le-ltb _ _ (omega (arith, length-append text rest)) in
    rw (long, back, drop_at text rest size is) refl

pub number-again : (number : ℕ) (rest : List ℕ) → number < 2 ^ 64 → number_at 8 (number_text number ++ rest) ≡ Ok (number, rest)
unfolding number_text
number-again number rest fits = sized-again 8 (big_bytes 8 number) rest number refl (big_number-reads_back 8 number rest fits)

pub short_number-again : (number : ℕ) (rest : List ℕ) → number < 2 ^ 16 → number_at 2 (short_number_text number ++ rest) ≡ Ok (number, rest)
unfolding short_number_text
short_number-again number rest fits = sized-again 2 (big_bytes 2 number) rest number refl (big_number-reads_back 2 number rest fits)

pub bytes-again : (text rest : List ℕ) → bytes_at (length text) (text ++ rest) ≡ Ok (text, rest)
unfolding bytes_at
bytes-again text rest =
    let long : nat_lt (length (text ++ rest)) (length text) ≡ false = le-ltb _ _ (omega (arith, length-append text rest)) in
    rw (long, take_at text rest (length text) refl, drop_at text rest (length text) refl) refl

-- a field that is allowed
pub allowed-again : {X : Type 0} (allows : X → Bool) (bytes : List ℕ) (part : Part X) (x : X) (rest : List ℕ) → part ≡ Ok (x, rest) → allows x ≡ true
    → checked allows bytes part ≡ Ok (x, rest)
allowed-again allows bytes part x rest is allowed = rw (is, allowed) refl

-- one part behind the other
then-again : {X Y : Type 0} (part : Part X) (x : X) (rest : List ℕ) (next : X × List ℕ → Part Y) (end : Part Y) → part ≡ Ok (x, rest) → next (x, rest) ≡ end
    → (part >>= next) ≡ end
then-again {X = X} part x rest next end first second = ap (λ (p : Part X). p >>= next) first ∙ second

pub both : (one other : Bool) → one ≡ true → other ≡ true → one && other ≡ true
both one other first second = rw (first, second) refl

is_printable-again : (byte : ℕ) → IsPrintable byte → is_printable byte ≡ true
is_printable-again byte is = let other : eqb byte 0x7F ≡ false = ne_eqb byte 0x7F is.1 in both _ _ (le-leb 0x20 byte is.0) (rw other refl)

pub is_name-again : (text : List ℕ) → IsName text → is_name text ≡ true
unfolding is_name
is_name-again text is = both _ _ (is_utf8-from_IsUtf8 text is.0) (list_all-from_AllPass is_printable text (λ k d lt. is_printable-again (get_or text k d) (is.1 k d lt)))

pub text-again : (least most : ℕ) (text rest : List ℕ) → least ≤ length text → length text ≤ most → IsName text
    → text_at least most (short_text text ++ rest) ≡ Ok (text, rest)
unfolding text_at
text-again least most text rest low high is =
    ap (λ (part : Part ℕ). part >>= λ size. checked is_name size.1 (bytes_at size.0 size.1))
    (allowed-again (λ n. nat_le least n && nat_le n most) (short_text text ++ rest) (Ok (length text, text ++ rest)) (length text) (text ++ rest) refl
    (both _ _ (le-leb least (length text) low) (le-leb (length text) most high)))
    ∙ allowed-again is_name (text ++ rest) (bytes_at (length text) (text ++ rest)) text rest (bytes-again text rest) (is_name-again text is)

pub given_byte-again : (given : ℕ) (rest : List ℕ) → given_byte_at given (given ∷ rest) ≡ Ok (given, rest)
unfolding given_byte_at
given_byte-again given rest = allowed-again (λ byte. eqb byte given) (given ∷ rest) (Ok (given, rest)) given rest refl (eq-eqb given given refl)

-- ---- the head

ssid-again : (ssid : ℕ) (rest : List ℕ) → 0 < ssid → ssid < 2 ^ 64 → ssid_at (number_text ssid ++ rest) ≡ Ok (ssid, rest)
unfolding ssid_at
ssid-again ssid rest some fits = allowed-again _ _ _ ssid rest (number-again ssid rest fits) (lt-ltb 0 ssid some)

base-again : (ssid base : ℕ) (rest : List ℕ) → base < ssid → ssid < 2 ^ 64 → base_at ssid (number_text base ++ rest) ≡ Ok (base, rest)
unfolding base_at
base-again ssid base rest below fits = allowed-again _ _ _ base rest (number-again base rest (omega arith)) (lt-ltb base ssid below)

pub is_level-again : (base level : ℕ) → level ≤ 10 → (base ≡ 0) ↔ (level ≡ 0) → is_level base level ≡ true
is_level-again zero zero most full = refl
is_level-again zero (suc level) most full = absurd (omega (arith, full.0 refl))
is_level-again (suc base) zero most full = absurd (omega (arith, full.1 refl))
is_level-again (suc base) (suc level) most full =
    let some : eqb (suc base) 0 ≡ false = ne_eqb (suc base) 0 (λ is. omega (arith, is)) in
    rw some (both _ _ (lt-ltb 0 (suc level) (omega arith)) (le-leb (suc level) 10 most))

level-again : (base level : ℕ) (rest : List ℕ) → level ≤ 10 → (base ≡ 0) ↔ (level ≡ 0) → level_at base (level ∷ rest) ≡ Ok (level, rest)
unfolding level_at
level-again base level rest most full = allowed-again (is_level base) (level ∷ rest) (Ok (level, rest)) level rest refl (is_level-again base level most full)

moment-again : (least moment : ℕ) (rest : List ℕ) → least ≤ moment → moment ≤ max_moment → moment_at least (number_text moment ++ rest) ≡ Ok (moment, rest)
unfolding moment_at
moment-again least moment rest low high =
    allowed-again _ _ _ moment rest (number-again moment rest (omega arith)) (both _ _ (le-leb least moment low) (le-leb moment max_moment high))

numbers_of : SetHead → HeadNumbers
numbers_of head = record { ssid = head.ssid; base = head.base; rank = head.level; saved = head.saved; browse = head.browse; retain = head.retain }

-- a head's numbers, one behind the other
regrouped : (a b c d e f g rest : List ℕ) → ((((((a ++ b) ++ c) ++ d) ++ e) ++ f) ++ g) ++ rest ≡ a ++ (b ++ (c ++ (d ++ (e ++ (f ++ (g ++ rest))))))
regrouped a b c d e f g rest = simp append_assoc

numbers-again : (head : SetHead) (rest : List ℕ) → IsHead head → numbers_at (head_numbers head ++ rest) ≡ Ok (numbers_of head, rest)
unfolding numbers_at numbers_of
numbers-again head rest is =
    let retain = rest in
    let at-retain = number_text head.retain.0 ++ rest in
    let at-browse = number_text head.browse.0 ++ at-retain in
    let at-saved = number_text head.saved.0 ++ at-browse in
    let at-level = head.level ∷ at-saved in
    let at-base = number_text head.base.0 ++ at-level in
    let at-ssid = number_text head.ssid.0 ++ at-base in
    ap numbers_at (regrouped (0x48 ∷ []) (number_text head.ssid.0) (number_text head.base.0) (head.level ∷ []) (number_text head.saved.0) (number_text head.browse.0) (number_text head.retain.0) rest)
    ∙ then-again _ _ _ _ _ (given_byte-again 0x48 at-ssid)
    (then-again _ _ _ _ _ (ssid-again head.ssid.0 at-base is.ssid.0 is.ssid.1)
    (then-again _ _ _ _ _ (base-again head.ssid.0 head.base.0 at-level is.base is.ssid.1)
    (then-again _ _ _ _ _ (level-again head.base.0 head.level at-saved is.level is.full)
    (then-again _ _ _ _ _ (moment-again 0 head.saved.0 at-browse (omega arith) is.saved)
    (then-again _ _ _ _ _ (moment-again 0 head.browse.0 at-retain (omega arith) is.browse)
    (then-again _ _ _ _ _ (moment-again head.browse.0 head.retain.0 rest is.retain.0 is.retain.1) refl))))))

names_in : SetHead → HeadNames
names_in head = record { client = head.client; set = head.set; group = head.group; pool = head.pool }

names-again : (head : SetHead) (rest : List ℕ) → IsHead head
    → names_at (short_text head.client ++ (short_text head.set ++ (short_text head.group ++ (short_text head.pool ++ rest)))) ≡ Ok (names_in head, rest)
unfolding names_at names_in
names-again head rest is =
    then-again _ _ _ _ _ (text-again 1 64 head.client _ is.client.0.0 is.client.0.1 is.client.1)
    (then-again _ _ _ _ _ (text-again 1 255 head.set _ is.set.0.0 is.set.0.1 is.set.1)
    (then-again _ _ _ _ _ (text-again 0 64 head.group _ (omega arith) is.group.0 is.group.1)
    (then-again _ _ _ _ _ (text-again 1 64 head.pool rest is.pool.0.0 is.pool.0.1 is.pool.1) refl)))

with_texts : (numbers a b c d rest : List ℕ) → ((((numbers ++ a) ++ b) ++ c) ++ d) ++ rest ≡ numbers ++ (a ++ (b ++ (c ++ (d ++ rest))))
with_texts numbers a b c d rest = simp append_assoc

pub head-again : (head : SetHead) (rest : List ℕ) → IsHead head → head_at (head_text head ++ rest) ≡ Ok (head, rest)
unfolding head_at numbers_of names_in
head-again head rest is =
    ap head_at (with_texts (head_numbers head) (short_text head.client) (short_text head.set) (short_text head.group) (short_text head.pool) rest)
    ∙ then-again _ _ _ _ _ (numbers-again head _ is) (then-again _ _ _ _ _ (names-again head rest is) refl)

-- ---- entries and the end

first-is : (text : List ℕ) (byte : ℕ) → slice_get text 0 ≡ Some byte → slice_index text 0 ≡ byte
first-is [] byte is = absurd cc
first-is (first ∷ rest) byte is = cc

byte_of_kind : EntryKind → ℕ
byte_of_kind kinds.File = 0x46
byte_of_kind kinds.Folder = 0x44
byte_of_kind kinds.Gone = 0x47

pub is_path-again : (text : List ℕ) → IsPathText text → is_path text ≡ true
unfolding is_path
is_path-again text is = both _ _ (is_utf8-from_IsUtf8 text is.0) (eq-eqb _ 0x2F (first-is text 0x2F is.1))

pub is_below-again : (one other : List ℕ) → IsBelow one other → is_below one other ≡ true
unfolding is_below
is_below-again one other is = ap is_lt is

path-again : (last path rest : List ℕ) → HasLength 1024 path → IsPathText path → IsBelow last path → path_at last (long_text path ++ rest) ≡ Ok (path, rest)
unfolding path_at
path-again last path rest fits is below =
    ap (path_at last) (append_assoc (short_number_text (length path)) path rest)
    ∙ then-again _ _ _ _ _ (allowed-again (λ n. nat_lt 0 n && nat_le n 1024) (short_number_text (length path) ++ (path ++ rest)) _ (length path) (path ++ rest) (short_number-again (length path) (path ++ rest) (omega (arith, fits.1)))
    (both _ _ (lt-ltb 0 (length path) fits.0) (le-leb (length path) 1024 fits.1)))
    (allowed-again (λ p. is_path p && is_below last p) (path ++ rest) _ path rest (bytes-again path rest) (both _ _ (is_path-again path is) (is_below-again last path below)))

kind-again : (count : ℕ) (kind : EntryKind) (rest : List ℕ) → count < max_entries → kind_at count (byte_of_kind kind ∷ rest) ≡ Ok (kind, rest)
unfolding kind_at byte_of_kind
kind-again count kinds.File rest room = let is : nat_lt count max_entries ≡ true = lt-ltb _ _ room in rw is refl
kind-again count kinds.Folder rest room = let is : nat_lt count max_entries ≡ true = lt-ltb _ _ room in rw is refl
kind-again count kinds.Gone rest room = let is : nat_lt count max_entries ≡ true = lt-ltb _ _ room in rw is refl

pub end-again : (count : ℕ) (rest : List ℕ) → count < 2 ^ 64 → end_at count (end_text count ++ rest) ≡ Ok (count, rest)
unfolding end_at
end-again count rest fits =
    then-again _ _ _ _ _ (given_byte-again 0x45 (number_text count ++ rest))
    (allowed-again (λ n. eqb n count) _ _ count rest (number-again count rest fits) (eq-eqb count count refl))

-- what an entry of a kind may have before its file's bytes
abbrev pub FitsKind : EntryKind → ℕ → ℕ → Type 0
FitsKind kinds.File mtime size = (mtime < 2 ^ 64) × (size ≤ max_size)
FitsKind kinds.Folder mtime size = (mtime < 2 ^ 64) × (size ≡ 0)
FitsKind kinds.Gone mtime size = (mtime ≡ 0) × (size ≡ 0)

file_parts : (a b c d rest : List ℕ) → (((a ++ b) ++ c) ++ d) ++ rest ≡ a ++ (b ++ (c ++ (d ++ rest)))
file_parts a b c d rest = simp append_assoc

pub front-again : (count : ℕ) (last : List ℕ) (kind : EntryKind) (path : List ℕ) (mtime size : ℕ) (rest : List ℕ) → count < max_entries
    → HasLength 1024 path → IsPathText path → IsBelow last path → FitsKind kind mtime size
    → front_at count last (entry_front kind path mtime size ++ rest) ≡ Ok (record { kind = kind; path = path; mtime = mtime; size = size }, rest)
unfolding front_at byte_of_kind
front-again count last kinds.File path mtime size rest room fits is below fields =
    ap (front_at count last) (file_parts (0x46 ∷ []) (long_text path) (number_text mtime) (number_text size) rest)
    ∙ then-again _ _ _ _ _ (kind-again count kinds.File _ room)
    (then-again _ _ _ _ _ (path-again last path _ fits is below)
    (then-again _ _ _ _ _ (number-again mtime (number_text size ++ rest) fields.0)
    (then-again _ _ _ _ _ (allowed-again (λ n. nat_le n max_size) _ _ size rest (number-again size rest (omega (arith, fields.1))) (le-leb size max_size fields.1)) refl)))
front-again count last kinds.Folder path mtime size rest room fits is below fields =
    ap (front_at count last) (ap (λ (t : List ℕ). t ++ rest) (append_assoc (0x44 ∷ []) (long_text path) (number_text mtime)) ∙ ap (λ (t : List ℕ). 0x44 ∷ t) (append_assoc (long_text path) (number_text mtime) rest))
    ∙ then-again _ _ _ _ _ (kind-again count kinds.Folder _ room)
    (then-again _ _ _ _ _ (path-again last path _ fits is below)
    (then-again _ _ _ _ _ (number-again mtime rest fields.0) (ap (λ (n : ℕ). Ok (record { kind = kinds.Folder; path = path; mtime = mtime; size = n }, rest)) (sym fields.1))))
front-again count last kinds.Gone path mtime size rest room fits is below fields =
    then-again _ _ _ _ _ (kind-again count kinds.Gone _ room)
    (then-again _ _ _ _ _ (path-again last path rest fits is below)
    (rw (fields.0, fields.1) refl))
