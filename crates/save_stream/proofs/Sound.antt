-- What is read is spelled so, each byte of it, and is allowed.
use Rattle.std.proofs.Common.{◌≡◌, ◌↔◌, ℕ, zero, suc, ◌+◌, ◌≤◌, ◌<◌, ◌^◌, Bool, true, false, cond, eqb, nat_lt, nat_le, List, [], ◌∷◌, ◌++◌, length, drop, take, get_or, Option, Some, None, Ok, Err, refl, sym, ap, subst, ◌∙◌, append_assoc, arith, inl, inr}
use Rattle.std.specs.Prelude.{◌&&◌, not, slice_index, slice_get}
use Rattle.std.specs.Int.{w16, w64, from_be_bytes}
use Rattle.std.specs.List.{list_all}
use Rattle.std.specs.Str.{is_utf8}
use Rattle.std.specs.Ordering.{is_lt, nat_cmp}
use Rattle.std.specs.Cmp.Lexicographic.{slice_cmp}
use Rattle.std.specs.declared.cmp.Ordering.{Ordering}
use Rattle.std.specs.declared.cmp.Ordering.TheVariants.{Less, Equal, Greater}
use Rattle.std.proofs.lemmas.Str.{IsUtf8-from_is_utf8}
use Rattle.std.proofs.lemmas.Bool.{cases_lt, lt-ltb, le-ltb, ltb-true, leb-true, eqb-true, eqb-false, ne_eqb}
use Rattle.std.proofs.lemmas.Nat.{be_bytes_2, be_bytes_8}
use Rattle.std.proofs.lemmas.List.{length-take, take-append-drop, get_or-drop, get_or-take, get_or_past}
use Rattle.std.proofs.lemmas.List.Sums.{AllPass-from_list_all}
use Rattle.byteorder.specs.Endian.{big_number, big_bytes, big_from}
use Rattle.byteorder.specs.Numbers.{big_from-take, big_from-lt}
use Rattle.room_base.specs.Numbers.{max_moment}
use Rattle.room_base.specs.Text.{HasLength, IsName, IsPrintable, IsPathText}
use Rattle.save_stream.specs.declared.entry.EntryKind.{EntryKind}
use Rattle.save_stream.specs.declared.entry.EntryKind.TheVariants as kinds
use Rattle.save_stream.specs.declared.head_reading.HeadNumbers.{HeadNumbers}
use Rattle.save_stream.specs.declared.stop.Stop.TheVariants as stops
use Rattle.save_stream.specs.Spelling.{max_entries, max_size, IsNameTo, IsHead, IsBelow, number_text, short_number_text, short_text, long_text, head_text, entry_front, end_text}
use Rattle.save_stream.specs.Reading.{Part, ◌>>=◌, checked, byte_at, number_at, bytes_at, is_printable, is_name, text_at, given_byte_at, ssid_at, base_at, is_level, level_at, moment_at, numbers_at, names_at, head_at, kind_of, kind_among, kind_at, is_path, is_below, path_at, mtime_at, size_at, front_at, end_at, Front, HeadNames}
use Rattle.save_stream.proofs.Again.{FitsKind}

-- ---- bytes

abbrev pub IsBytes : List ℕ → Type 0
IsBytes bytes = (i : ℕ) → get_or bytes i 0 < 256

IsBytes-drop : (n : ℕ) (bytes : List ℕ) → IsBytes bytes → IsBytes (drop n bytes)
IsBytes-drop n bytes is i = rw get_or-drop (is (n + i))

pub IsBytes-take : (n : ℕ) (bytes : List ℕ) → IsBytes bytes → IsBytes (take n bytes)
IsBytes-take n bytes is i =
    elim (cases_lt i n) [
      | inl below ↦ rw (get_or-take n bytes i 0 below) (is i)
      | inr past ↦ rw (get_or_past (take n bytes) i 0 (omega (arith, length-take n bytes))) (omega arith)
    ]

-- the bytes begin with a text, and these follow
pub record FollowsReading (bytes text rest : List ℕ) : Type 0 where
  pub parts : bytes ≡ text ++ rest
  pub rest_fits : IsBytes rest

Takes-then : (a x b y c : List ℕ) → FollowsReading a x b → FollowsReading b y c → FollowsReading a (x ++ y) c
Takes-then a x b y c first second =
    record { parts = first.parts ∙ ap (λ (t : List ℕ). x ++ t) second.parts ∙ sym (append_assoc x y c); rest_fits = second.rest_fits }

-- what holds of a part, where one was read
abbrev pub When : {X : Type 0} → Part X → (X → List ℕ → Type 0) → Type 0
When (Ok x) P = P x.0 x.1
When (Err stop) P = Unit {0}

then-when : {X Y : Type 0} (part : Part X) (next : X × List ℕ → Part Y) (P : X → List ℕ → Type 0) (Q : Y → List ℕ → Type 0) → When part P
    → ((x : X) (rest : List ℕ) → P x rest → When (next (x, rest)) Q) → When (part >>= next) Q
then-when (Ok x) next P Q is more = more x.0 x.1 is
then-when (Err stop) next P Q is more = tt

judged-when : {X : Type 0} (allowed : Bool) (x : X) (rest bytes : List ℕ) (P : X → List ℕ → Type 0) → P x rest
    → When (cond allowed (Ok (x, rest)) (Err (stops.Wrong (length bytes)))) (λ y rest. P y rest × (allowed ≡ true))
judged-when true x rest bytes P is = (is, refl)
judged-when false x rest bytes P is = tt

when-weaker : {X : Type 0} (part : Part X) (P Q : X → List ℕ → Type 0) → When part P → ((x : X) (rest : List ℕ) → P x rest → Q x rest) → When part Q
when-weaker (Ok x) P Q is weaker = weaker x.0 x.1 is
when-weaker (Err stop) P Q is weaker = tt

allowed-is : {X : Type 0} (allows : X → Bool) (test : Bool) (x : X) (rest bytes : List ℕ) (P : X → List ℕ → Type 0) → allows x ≡ test → P x rest
    → When (cond test (Ok (x, rest)) (Err (stops.Wrong (length bytes)))) (λ y rest. P y rest × (allows y ≡ true))
allowed-is allows true x rest bytes P test is = (is, test)
allowed-is allows false x rest bytes P test is = tt

checked-when : {X : Type 0} (allows : X → Bool) (bytes : List ℕ) (part : Part X) (P : X → List ℕ → Type 0) → When part P
    → When (checked allows bytes part) (λ x rest. P x rest × (allows x ≡ true))
checked-when allows bytes (Ok x) P is = allowed-is allows (allows x.0) x.0 x.1 bytes P refl is
checked-when allows bytes (Err stop) P is = tt

pub both-true : (one other : Bool) → one && other ≡ true → (one ≡ true) × (other ≡ true)
both-true true other is = (refl, is)
both-true false other is = absurd cc

-- ---- fields

same_8 : (bytes : List ℕ) → big_from 0 8 bytes ≡ from_be_bytes w64 bytes
same_8 bytes = omega arith

same_2 : (bytes : List ℕ) → big_from 0 2 bytes ≡ from_be_bytes w16 bytes
same_2 bytes = omega arith

byte-takes : (bytes : List ℕ) → IsBytes bytes → When (byte_at bytes) (λ byte rest. FollowsReading bytes (byte ∷ []) rest)
byte-takes [] is = tt
byte-takes (byte ∷ bytes) is = record { parts = refl; rest_fits = λ i. is (suc i) }

number-takes : (bytes : List ℕ) → IsBytes bytes → When (number_at 8 bytes) (λ number rest. FollowsReading bytes (number_text number) rest × (number < 2 ^ 64))
unfolding number_at number_text
number-takes bytes is =
    elim (cases_lt (length bytes) 8) [
      | inl short ↦ (let test : nat_lt (length bytes) 8 ≡ true = lt-ltb _ _ short in rw test tt)
      | inr long ↦
          (let test : nat_lt (length bytes) 8 ≡ false = le-ltb _ _ long in
          let text : big_bytes 8 (big_number 8 bytes) ≡ take 8 bytes =
          be_bytes_8 (take 8 bytes) (big_number 8 bytes) (omega (arith, length-take 8 bytes)) (IsBytes-take 8 bytes is) (sym (big_from-take 0 8 8 bytes (omega arith)) ∙ same_8 (take 8 bytes)) in
          rw test (record { parts = sym (ap (λ (t : List ℕ). t ++ drop 8 bytes) text ∙ take-append-drop 8 bytes); rest_fits = IsBytes-drop 8 bytes is }, big_from-lt 0 8 bytes is))
    ]

short_number-takes : (bytes : List ℕ) → IsBytes bytes → When (number_at 2 bytes) (λ number rest. FollowsReading bytes (short_number_text number) rest)
unfolding number_at short_number_text
short_number-takes bytes is =
    elim (cases_lt (length bytes) 2) [
      | inl short ↦ (let test : nat_lt (length bytes) 2 ≡ true = lt-ltb _ _ short in rw test tt)
      | inr long ↦
          (let test : nat_lt (length bytes) 2 ≡ false = le-ltb _ _ long in
          let text : big_bytes 2 (big_number 2 bytes) ≡ take 2 bytes =
          be_bytes_2 (take 2 bytes) (big_number 2 bytes) (omega (arith, length-take 2 bytes)) (IsBytes-take 2 bytes is) (sym (big_from-take 0 2 2 bytes (omega arith)) ∙ same_2 (take 2 bytes)) in
          rw test (record { parts = sym (ap (λ (t : List ℕ). t ++ drop 2 bytes) text ∙ take-append-drop 2 bytes); rest_fits = IsBytes-drop 2 bytes is }))
    ]

bytes-takes : (size : ℕ) (bytes : List ℕ) → IsBytes bytes → When (bytes_at size bytes) (λ text rest. FollowsReading bytes text rest × (length text ≡ size))
unfolding bytes_at
bytes-takes size bytes is =
    elim (cases_lt (length bytes) size) [
      | inl short ↦ (let test : nat_lt (length bytes) size ≡ true = lt-ltb _ _ short in rw test tt)
      | inr long ↦
          (let test : nat_lt (length bytes) size ≡ false = le-ltb _ _ long in
          rw test (record { parts = sym (take-append-drop size bytes); rest_fits = IsBytes-drop size bytes is }, omega (arith, length-take size bytes)))
    ]

not-true : (test : Bool) → not test ≡ true → test ≡ false
not-true true is = absurd cc
not-true false is = refl

printable-is : (byte : ℕ) → is_printable byte ≡ true → IsPrintable byte
printable-is byte is =
    let parts = both-true (nat_le 0x20 byte) (not (eqb byte 0x7F)) is in
    (leb-true 0x20 byte parts.0, eqb-false byte 0x7F (not-true (eqb byte 0x7F) parts.1))

pub is_name-is : (text : List ℕ) → is_name text ≡ true → IsName text
unfolding is_name
is_name-is text is =
    let parts = both-true (is_utf8 text) (list_all is_printable text) is in
    (IsUtf8-from_is_utf8 text parts.0, λ k d below. printable-is (get_or text k d) (AllPass-from_list_all is_printable text parts.1 k d below))

text-takes : (least most : ℕ) (bytes : List ℕ) → IsBytes bytes
    → When (text_at least most bytes) (λ text rest. FollowsReading bytes (short_text text) rest × (least ≤ length text) × (length text ≤ most) × IsName text)
unfolding text_at
text-takes least most bytes is =
    let allows : ℕ → Bool = λ n. nat_le least n && nat_le n most in
    then-when (checked allows bytes (byte_at bytes)) _ (λ byte rest. FollowsReading bytes (byte ∷ []) rest × (allows byte ≡ true)) _
    (checked-when allows bytes (byte_at bytes) (λ byte rest. FollowsReading bytes (byte ∷ []) rest) (byte-takes bytes is))
    (λ size start first.
    let bounds = both-true (nat_le least size) (nat_le size most) first.1 in
    when-weaker (checked is_name start (bytes_at size start)) (λ text rest. (FollowsReading start text rest × (length text ≡ size)) × (is_name text ≡ true)) _
    (checked-when is_name start (bytes_at size start) (λ text rest. FollowsReading start text rest × (length text ≡ size)) (bytes-takes size start first.0.rest_fits))
    (λ text rest second.
    let count = second.0.1 in (
      subst (λ (n : ℕ). FollowsReading bytes (n ∷ text) rest) (sym count) (Takes-then bytes (size ∷ []) start text rest first.0 second.0.0),
      omega (arith, count, leb-true least size bounds.0),
      omega (arith, count, leb-true size most bounds.1),
      is_name-is text second.1,
    )))

given_byte-takes : (kind_byte : ℕ) (bytes : List ℕ) → IsBytes bytes → When (given_byte_at kind_byte bytes) (λ byte rest. FollowsReading bytes (kind_byte ∷ []) rest)
unfolding given_byte_at
given_byte-takes kind_byte bytes is =
    when-weaker (checked (λ byte. eqb byte kind_byte) bytes (byte_at bytes)) (λ byte rest. FollowsReading bytes (byte ∷ []) rest × (eqb byte kind_byte ≡ true)) (λ byte rest. FollowsReading bytes (kind_byte ∷ []) rest)
    (checked-when (λ byte. eqb byte kind_byte) bytes (byte_at bytes) (λ byte rest. FollowsReading bytes (byte ∷ []) rest) (byte-takes bytes is))
    (λ byte rest took. subst (λ (m : ℕ). FollowsReading bytes (m ∷ []) rest) (eqb-true byte kind_byte took.1) took.0)

-- ---- the head

-- a number of eight bytes that is allowed
checked_number-takes : (allows : ℕ → Bool) (bytes : List ℕ) → IsBytes bytes
    → When (checked allows bytes (number_at 8 bytes)) (λ number rest. (FollowsReading bytes (number_text number) rest × (number < 2 ^ 64)) × (allows number ≡ true))
checked_number-takes allows bytes is = checked-when allows bytes (number_at 8 bytes) (λ number rest. FollowsReading bytes (number_text number) rest × (number < 2 ^ 64)) (number-takes bytes is)

ssid-takes : (bytes : List ℕ) → IsBytes bytes → When (ssid_at bytes) (λ ssid rest. FollowsReading bytes (number_text ssid) rest × (1 ≤ ssid) × (ssid < 2 ^ 64))
unfolding ssid_at
ssid-takes bytes is =
    when-weaker (checked (λ ssid. nat_lt 0 ssid) bytes (number_at 8 bytes)) _ _ (checked_number-takes (λ ssid. nat_lt 0 ssid) bytes is)
    (λ ssid rest took. (took.0.0, omega (arith, ltb-true 0 ssid took.1), took.0.1))

base-takes : (ssid : ℕ) (bytes : List ℕ) → IsBytes bytes → When (base_at ssid bytes) (λ base rest. FollowsReading bytes (number_text base) rest × (base < ssid))
unfolding base_at
base-takes ssid bytes is =
    when-weaker (checked (λ base. nat_lt base ssid) bytes (number_at 8 bytes)) _ _ (checked_number-takes (λ base. nat_lt base ssid) bytes is)
    (λ base rest took. (took.0.0, ltb-true base ssid took.1))

pub is_level-is : (base level : ℕ) → is_level base level ≡ true → (level ≤ 10) × ((base ≡ 0) ↔ (level ≡ 0))
is_level-is zero level is =
    let none : level ≡ 0 = eqb-true level 0 is in
    (omega (arith, none), (λ _. none, λ _. refl))
is_level-is (suc base) level is =
    let some : eqb (suc base) 0 ≡ false = ne_eqb (suc base) 0 (λ e. omega (arith, e)) in
    let picked = rw some at is in
    let parts = both-true (nat_lt 0 level) (nat_le level 10) picked in
    let above : 0 < level = ltb-true 0 level parts.0 in
    (leb-true level 10 parts.1, (λ e. absurd (omega (arith, e)), λ e. absurd (omega (arith, e, above))))

level-takes : (base : ℕ) (bytes : List ℕ) → IsBytes bytes → When (level_at base bytes) (λ level rest. FollowsReading bytes (level ∷ []) rest × (level ≤ 10) × ((base ≡ 0) ↔ (level ≡ 0)))
unfolding level_at
level-takes base bytes is =
    when-weaker (checked (is_level base) bytes (byte_at bytes)) _ _ (checked-when (is_level base) bytes (byte_at bytes) (λ level rest. FollowsReading bytes (level ∷ []) rest) (byte-takes bytes is))
    (λ level rest took. let allowed = is_level-is base level took.1 in (took.0, allowed.0, allowed.1))

moment-takes : (least : ℕ) (bytes : List ℕ) → IsBytes bytes → When (moment_at least bytes) (λ moment rest. FollowsReading bytes (number_text moment) rest × (least ≤ moment) × (moment ≤ max_moment))
unfolding moment_at
moment-takes least bytes is =
    let allows : ℕ → Bool = λ moment. nat_le least moment && nat_le moment max_moment in
    when-weaker (checked allows bytes (number_at 8 bytes)) _ _ (checked_number-takes allows bytes is)
    (λ moment rest took. let bounds = both-true (nat_le least moment) (nat_le moment max_moment) took.1 in
    (took.0.0, leb-true least moment bounds.0, leb-true moment max_moment bounds.1))

-- numbers of a head that are allowed, as they are spelled
pub record AreNumbers (numbers : HeadNumbers) : Type 0 where
  pub ssid : (1 ≤ numbers.ssid.0) × (numbers.ssid.0 < 2 ^ 64)
  pub base : numbers.base.0 < numbers.ssid.0
  pub level : numbers.rank ≤ 10
  pub full : (numbers.base.0 ≡ 0) ↔ (numbers.rank ≡ 0)
  pub saved : numbers.saved.0 ≤ max_moment
  pub browse : numbers.browse.0 ≤ max_moment
  pub retain : (numbers.browse.0 ≤ numbers.retain.0) × (numbers.retain.0 ≤ max_moment)

abbrev numbers_text : HeadNumbers → List ℕ
numbers_text numbers = (0x48 ∷ []) ++ number_text numbers.ssid.0 ++ number_text numbers.base.0 ++ (numbers.rank ∷ [])
    ++ number_text numbers.saved.0 ++ number_text numbers.browse.0 ++ number_text numbers.retain.0

numbers-takes : (bytes : List ℕ) → IsBytes bytes → When (numbers_at bytes) (λ numbers rest. FollowsReading bytes (numbers_text numbers) rest × AreNumbers numbers)
unfolding numbers_at
numbers-takes bytes is =
    then-when (given_byte_at 0x48 bytes) _ _ _ (given_byte-takes 0x48 bytes is)
    (λ kind_byte after-kind_byte a. then-when (ssid_at after-kind_byte) _ _ _ (ssid-takes after-kind_byte a.rest_fits)
    (λ ssid after-ssid b. then-when (base_at ssid after-ssid) _ _ _ (base-takes ssid after-ssid b.0.rest_fits)
    (λ base after-base c. then-when (level_at base after-base) _ _ _ (level-takes base after-base c.0.rest_fits)
    (λ level after-level d. then-when (moment_at 0 after-level) _ _ _ (moment-takes 0 after-level d.0.rest_fits)
    (λ saved after-saved e. then-when (moment_at 0 after-saved) _ _ _ (moment-takes 0 after-saved e.0.rest_fits)
    (λ browse after-browse f. then-when (moment_at browse after-browse) _ _ _ (moment-takes browse after-browse f.0.rest_fits)
    (λ retain rest g.
    let ab = Takes-then _ _ _ _ _ a b.0 in
    let ac = Takes-then _ _ _ _ _ ab c.0 in
    let ad = Takes-then _ _ _ _ _ ac d.0 in
    let ae = Takes-then _ _ _ _ _ ad e.0 in
    let af = Takes-then _ _ _ _ _ ae f.0 in
    let ag = Takes-then _ _ _ _ _ af g.0 in
    (ag, record { ssid = (b.1, b.2); base = c.1; level = d.1; full = d.2; saved = e.2; browse = f.2; retain = (g.1, g.2) }))))))))

abbrev names_text : HeadNames → List ℕ
names_text names = short_text names.client ++ short_text names.set ++ short_text names.group ++ short_text names.pool

pub record AreNames (names : HeadNames) : Type 0 where
  pub client : IsNameTo 64 names.client
  pub set : IsNameTo 255 names.set
  pub group : (length names.group ≤ 64) × IsName names.group
  pub pool : IsNameTo 64 names.pool

names-takes : (bytes : List ℕ) → IsBytes bytes → When (names_at bytes) (λ names rest. FollowsReading bytes (names_text names) rest × AreNames names)
unfolding names_at
names-takes bytes is =
    then-when (text_at 1 64 bytes) _ _ _ (text-takes 1 64 bytes is)
    (λ client after-client a. then-when (text_at 1 255 after-client) _ _ _ (text-takes 1 255 after-client a.0.rest_fits)
    (λ set after-set b. then-when (text_at 0 64 after-set) _ _ _ (text-takes 0 64 after-set b.0.rest_fits)
    (λ group after-group c. then-when (text_at 1 64 after-group) _ _ _ (text-takes 1 64 after-group c.0.rest_fits)
    (λ pool rest d.
    let ab = Takes-then _ _ _ _ _ a.0 b.0 in
    let ac = Takes-then _ _ _ _ _ ab c.0 in
    let ad = Takes-then _ _ _ _ _ ac d.0 in
    (ad, record { client = ((a.1, a.2), a.3); set = ((b.1, b.2), b.3); group = (c.2, c.3); pool = ((d.1, d.2), d.3) })))))

one_behind_other : (a b c d e : List ℕ) → a ++ (((b ++ c) ++ d) ++ e) ≡ (((a ++ b) ++ c) ++ d) ++ e
one_behind_other a b c d e = simp append_assoc

pub head-takes : (bytes : List ℕ) → IsBytes bytes → When (head_at bytes) (λ head rest. FollowsReading bytes (head_text head) rest × IsHead head)
unfolding head_at
head-takes bytes is =
    then-when (numbers_at bytes) _ _ _ (numbers-takes bytes is)
    (λ numbers after-numbers a. then-when (names_at after-numbers) _ _ _ (names-takes after-numbers a.0.rest_fits)
    (λ names rest b.
    let both = Takes-then _ _ _ _ _ a.0 b.0 in (
      subst (λ (text : List ℕ). FollowsReading bytes text rest) (one_behind_other (numbers_text numbers) (short_text names.client) (short_text names.set) (short_text names.group) (short_text names.pool)) both,
      record {
        ssid = a.1.ssid;
        base = a.1.base;
        level = a.1.level;
        full = a.1.full;
        saved = a.1.saved;
        browse = a.1.browse;
        retain = a.1.retain;
        client = b.1.client;
        set = b.1.set;
        group = b.1.group;
        pool = b.1.pool;
      },
    )))

-- ---- entries and the end

abbrev pub entry_mark : EntryKind → ℕ
entry_mark kinds.File = 0x46
entry_mark kinds.Folder = 0x44
entry_mark kinds.Gone = 0x47

abbrev HasMark : ℕ → Option EntryKind → Type 0
HasMark byte None = Unit {0}
HasMark byte (Some kind) = byte ≡ entry_mark kind

picked_mark : (byte : ℕ) (one two three : Bool) → eqb byte 0x46 ≡ one → eqb byte 0x44 ≡ two → eqb byte 0x47 ≡ three
    → HasMark byte (cond one (Some kinds.File) (cond two (Some kinds.Folder) (cond three (Some kinds.Gone) None)))
picked_mark byte true two three a b c = eqb-true byte 0x46 a
picked_mark byte false true three a b c = eqb-true byte 0x44 b
picked_mark byte false false true a b c = eqb-true byte 0x47 c
picked_mark byte false false false a b c = tt

among-takes : (room : Bool) (kind : EntryKind) (bytes rest : List ℕ) (count : ℕ) → nat_lt count max_entries ≡ room → FollowsReading bytes (entry_mark kind ∷ []) rest
    → When (cond room (Ok (kind, rest)) (Err stops.Full)) (λ kind rest. FollowsReading bytes (entry_mark kind ∷ []) rest × (count < max_entries))
among-takes true kind bytes rest count room took = (took, ltb-true count max_entries room)
among-takes false kind bytes rest count room took = tt

kind_among-takes : (count behind byte : ℕ) (kind : Option EntryKind) (bytes rest : List ℕ) → HasMark byte kind → FollowsReading bytes (byte ∷ []) rest
    → When (kind_among count behind kind rest) (λ kind rest. FollowsReading bytes (entry_mark kind ∷ []) rest × (count < max_entries))
kind_among-takes count behind byte None bytes rest is took = tt
kind_among-takes count behind byte (Some kind) bytes rest is took =
    among-takes (nat_lt count max_entries) kind bytes rest count refl (subst (λ (m : ℕ). FollowsReading bytes (m ∷ []) rest) is took)

kind-takes : (count : ℕ) (bytes : List ℕ) → IsBytes bytes → When (kind_at count bytes) (λ kind rest. FollowsReading bytes (entry_mark kind ∷ []) rest × (count < max_entries))
unfolding kind_at
kind-takes count bytes is =
    then-when (byte_at bytes) _ _ _ (byte-takes bytes is)
    (λ byte rest took. kind_among-takes count (length bytes) byte (kind_of byte) bytes rest (picked_mark byte (eqb byte 0x46) (eqb byte 0x44) (eqb byte 0x47) refl refl refl) took)

first-get : (text : List ℕ) → slice_index text 0 ≡ 0x2F → slice_get text 0 ≡ Some 0x2F
first-get [] is = absurd cc
first-get (first ∷ rest) is = ap (λ (n : ℕ). Some n) is

pub is_path-is : (text : List ℕ) → is_path text ≡ true → IsPathText text
unfolding is_path
is_path-is text is =
    let parts = both-true (is_utf8 text) (eqb (slice_index text 0) 0x2F) is in
    (IsUtf8-from_is_utf8 text parts.0, first-get text (eqb-true (slice_index text 0) 0x2F parts.1))

less-is : (order : Ordering) → is_lt order ≡ true → order ≡ Less
less-is Less is = refl
less-is Equal is = absurd cc
less-is Greater is = absurd cc

pub is_below-is : (one other : List ℕ) → is_below one other ≡ true → IsBelow one other
unfolding is_below
is_below-is one other is = less-is (slice_cmp nat_cmp one other) is

path-takes : (last bytes : List ℕ) → IsBytes bytes
    → When (path_at last bytes) (λ path rest. FollowsReading bytes (long_text path) rest × HasLength 1024 path × IsPathText path × IsBelow last path)
unfolding path_at
path-takes last bytes is =
    let allows : ℕ → Bool = λ n. nat_lt 0 n && nat_le n 1024 in
    then-when (checked allows bytes (number_at 2 bytes)) _ (λ size start. FollowsReading bytes (short_number_text size) start × (allows size ≡ true)) _
    (checked-when allows bytes (number_at 2 bytes) (λ size start. FollowsReading bytes (short_number_text size) start) (short_number-takes bytes is))
    (λ size start first.
    let bounds = both-true (nat_lt 0 size) (nat_le size 1024) first.1 in
    let fits : List ℕ → Bool = λ path. is_path path && is_below last path in
    when-weaker (checked fits start (bytes_at size start)) (λ path rest. (FollowsReading start path rest × (length path ≡ size)) × (fits path ≡ true)) _
    (checked-when fits start (bytes_at size start) (λ path rest. FollowsReading start path rest × (length path ≡ size)) (bytes-takes size start first.0.rest_fits))
    (λ path rest second.
    let count = second.0.1 in
    let tests = both-true (is_path path) (is_below last path) second.1 in (
      subst (λ (n : ℕ). FollowsReading bytes (short_number_text n ++ path) rest) (sym count) (Takes-then bytes (short_number_text size) start path rest first.0 second.0.0),
      (omega (arith, count, ltb-true 0 size bounds.0), omega (arith, count, leb-true size 1024 bounds.1)),
      is_path-is path tests.0,
      is_below-is last path tests.1,
    )))

-- an entry that begins these bytes, and is allowed
pub record FrontIs (count : ℕ) (last bytes : List ℕ) (front : Front) (rest : List ℕ) : Type 0 where
  pub took : FollowsReading bytes (entry_front front.kind front.path front.mtime front.size) rest
  pub room : count < max_entries
  pub length : HasLength 1024 front.path
  pub path : IsPathText front.path
  pub below : IsBelow last front.path
  pub fields : FitsKind front.kind front.mtime front.size

fields-take : (count : ℕ) (last bytes : List ℕ) (kind : EntryKind) (path start : List ℕ) → FollowsReading bytes ((entry_mark kind ∷ []) ++ long_text path) start → count < max_entries
    → HasLength 1024 path → IsPathText path → IsBelow last path
    → When (mtime_at kind start >>= λ mtime. size_at kind mtime.1 >>= λ size. Ok (record { kind = kind; path = path; mtime = mtime.0; size = size.0 }, size.1)) (FrontIs count last bytes)
fields-take count last bytes kinds.File path start took room fits is below =
    then-when (number_at 8 start) _ _ _ (number-takes start took.rest_fits)
    (λ mtime after-mtime a. then-when (checked (λ size. nat_le size max_size) after-mtime (number_at 8 after-mtime)) _ _ _ (checked_number-takes (λ size. nat_le size max_size) after-mtime a.0.rest_fits)
    (λ size rest b.
    record { took = Takes-then _ _ _ _ _ (Takes-then _ _ _ _ _ took a.0) b.0.0; room = room; length = fits; path = is; below = below; fields = (a.1, leb-true size max_size b.1) }))
fields-take count last bytes kinds.Folder path start took room fits is below =
    then-when (number_at 8 start) _ _ _ (number-takes start took.rest_fits)
    (λ mtime rest a. record { took = Takes-then _ _ _ _ _ took a.0; room = room; length = fits; path = is; below = below; fields = (a.1, refl) })
fields-take count last bytes kinds.Gone path start took room fits is below =
    record { took = took; room = room; length = fits; path = is; below = below; fields = (refl, refl) }

pub front-takes : (count : ℕ) (last bytes : List ℕ) → IsBytes bytes → When (front_at count last bytes) (FrontIs count last bytes)
unfolding front_at
front-takes count last bytes is =
    then-when (kind_at count bytes) _ _ _ (kind-takes count bytes is)
    (λ kind after-kind a. then-when (path_at last after-kind) _ _ _ (path-takes last after-kind a.0.rest_fits)
    (λ path start b. fields-take count last bytes kind path start (Takes-then _ _ _ _ _ a.0 b.0) a.1 b.1 b.2 b.3))

pub end-takes : (count : ℕ) (bytes : List ℕ) → IsBytes bytes → When (end_at count bytes) (λ number rest. FollowsReading bytes (end_text count) rest)
unfolding end_at
end-takes count bytes is =
    then-when (given_byte_at 0x45 bytes) _ _ _ (given_byte-takes 0x45 bytes is)
    (λ kind_byte start a. when-weaker (checked (λ n. eqb n count) start (number_at 8 start)) _ _ (checked_number-takes (λ n. eqb n count) start a.rest_fits)
    (λ number rest b. subst (λ (n : ℕ). FollowsReading bytes ((0x45 ∷ []) ++ number_text n) rest) (eqb-true number count b.1) (Takes-then _ _ _ _ _ a b.0.0)))
