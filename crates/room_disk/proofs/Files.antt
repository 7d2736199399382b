-- The files of a store in memory, found by their numbers.
use Rattle.std.proofs.Common.{◌≡◌, ◌≢◌, ◌==◌, ℕ, zero, suc, ◌<◌, ◌≤◌, if◌then◌else◌, List, [], ◌∷◌, ◌++◌, length, set, get_or, refl, sym, ap, subst, ◌∙◌, arith, inl, inr}
use Rattle.std.proofs.lemmas.Bool.Decides.{eqb_tells}
use Rattle.room_disk.specs.declared.mem_file.MemFile.{MemFile}
use Rattle.room_disk.specs.Laws.{if_other, if_same}
use Rattle.room_disk.specs.Past.{listed}
use Rattle.room_disk.specs.Kept.{blank_file, kept_file, with_bytes, first_bytes, IsFirst, NoneHas, HasSameFiles, HasGrown, HasGrownFiles, HasRoomBehind, IsDistinct}

later_first : (file : ℕ) (one : MemFile) (rest : List MemFile) (index : ℕ) → IsFirst file (one ∷ rest) (suc index) → IsFirst file rest index
later_first file one rest index first = record {
  below = omega (arith, first.below);
  number = λ other. first.number other;
  before = λ earlier other less. first.before (suc earlier) other (omega (arith, less));
}

pub file_at : (file : ℕ) (files : List MemFile) (index : ℕ) (other : MemFile) → IsFirst file files index → kept_file file files ≡ get_or files index other
file_at file [] index other first = absurd (omega (arith, first.below))
file_at file (one ∷ rest) zero other first = if_same one.number file one (kept_file file rest) (first.number one)
file_at file (one ∷ rest) (suc index) other first =
    if_other one.number file one (kept_file file rest) (first.before 0 one (omega arith))
    ∙ file_at file rest index other (later_first file one rest index first)

pub file_none : (file : ℕ) (files : List MemFile) → NoneHas file files → kept_file file files ≡ blank_file file
file_none file [] none = refl
file_none file (one ∷ rest) none =
    if_other one.number file one (kept_file file rest) (none 0 one (omega arith))
    ∙ file_none file rest (λ index other below. none (suc index) other (omega (arith, below)))

pub file_set : (file : ℕ) (files : List MemFile) (index : ℕ) (new : MemFile) → IsFirst file files index → new.number ≡ file
    → kept_file file (set files index new) ≡ new
file_set file [] index new first is = absurd (omega (arith, first.below))
file_set file (one ∷ rest) zero new first is = if_same new.number file new (kept_file file rest) is
file_set file (one ∷ rest) (suc index) new first is =
    if_other one.number file one (kept_file file (set rest index new)) (first.before 0 one (omega arith))
    ∙ file_set file rest index new (later_first file one rest index first) is

pub file_set_other : (file other : ℕ) (files : List MemFile) (index : ℕ) (new : MemFile) → IsFirst file files index → new.number ≡ file
    → other ≢ file → kept_file other (set files index new) ≡ kept_file other files
file_set_other file other [] index new first is apart = absurd (omega (arith, first.below))
file_set_other file other (one ∷ rest) zero new first is apart =
    if_other new.number other new (kept_file other rest) (λ same. apart (sym same ∙ is))
    ∙ sym (if_other one.number other one (kept_file other rest) (λ same. apart (sym same ∙ first.number one)))
file_set_other file other (one ∷ rest) (suc index) new first is apart =
    ap (λ (found : MemFile). if one.number == other then one else found)
    (file_set_other file other rest index new (later_first file one rest index first) is apart)

pub first_set : (files : List MemFile) (index : ℕ) (new : MemFile)
    → ((other : MemFile) → new.number ≡ (get_or files index other).number)
    → ((other : MemFile) → new.first.bytes ≡ (get_or files index other).first.bytes)
    → first_bytes (set files index new) ≡ first_bytes files
first_set [] index new number first = refl
first_set (one ∷ rest) zero new number first = cc (number one, first one)
first_set (one ∷ rest) (suc index) new number first =
    ap (λ (l : List (ℕ × List ℕ)). with_bytes one.number one.first.bytes l) (first_set rest index new number first)

-- a blank file more changes nothing
file_push : (number file : ℕ) (files : List MemFile) → kept_file number (files ++ blank_file file ∷ []) ≡ kept_file number files
file_push number file [] =
    elim (eqb_tells file number) [
      | inl is ↦ if_same file number (blank_file file) (blank_file number) is.1 ∙ ap blank_file is.1
      | inr isnt ↦ if_other file number (blank_file file) (blank_file number) isnt.1
    ]
file_push number file (one ∷ rest) = ap (λ (found : MemFile). if one.number == number then one else found) (file_push number file rest)

first_push : (file : ℕ) (files : List MemFile) → first_bytes (files ++ blank_file file ∷ []) ≡ first_bytes files
first_push file [] = refl
first_push file (one ∷ rest) = ap (λ (l : List (ℕ × List ℕ)). with_bytes one.number one.first.bytes l) (first_push file rest)

pub pushed : (file : ℕ) (files : List MemFile) → HasSameFiles files (files ++ blank_file file ∷ [])
pushed file files = record { each = λ number. file_push number file files; first = first_push file files }

unchanged : (file : MemFile) → file.now.room ≤ file.first.room → HasGrown file file
unchanged file behind = record { number = refl; first = refl; now = refl; more = omega arith; room = behind }

-- the same files
pub same_files : (old new : List MemFile) → HasRoomBehind old → HasSameFiles old new → HasGrownFiles old new
same_files old new behind same = record {
  each = λ number. let P : MemFile → Type 0 = λ f. HasGrown (kept_file number old) f in
      subst P (sym (same.each number)) (unchanged (kept_file number old) (behind number));
  first = same.first;
}

-- the same files, of which one has grown
pub grown_set : (old mid : List MemFile) (file index : ℕ) (before after : MemFile) → HasRoomBehind old → HasSameFiles old mid
    → IsFirst file mid index → before ≡ get_or mid index before → HasGrown before after → HasGrownFiles old (set mid index after)
grown_set old mid file index before after behind same is value has =
    let found : kept_file file mid ≡ before = file_at file mid index before is ∙ sym value in
    let number : before.number ≡ file = ap (λ (f : MemFile). f.number) value ∙ is.number before in
    record {
      each = λ other. elim (eqb_tells other file) [
        | inl here ↦
            let P : ℕ → Type 0 = λ n. HasGrown (kept_file n old) (kept_file n (set mid index after)) in
            let Q : MemFile → Type 0 = λ f. HasGrown f (kept_file file (set mid index after)) in
            let R : MemFile → Type 0 = λ f. HasGrown before f in
            subst P (sym here.1) (subst Q (sym found ∙ same.each file)
            (subst R (sym (file_set file mid index after is (has.number ∙ number))) has))
        | inr elsewhere ↦
            let R : MemFile → Type 0 = λ f. HasGrown (kept_file other old) f in
            subst R (sym (file_set_other file other mid index after is (has.number ∙ number) elsewhere.1 ∙ same.each other))
            (unchanged (kept_file other old) (behind other))
      ];
      first = first_set mid index after
          (λ other. has.number ∙ number ∙ sym (is.number other))
          (λ other. has.first ∙ ap (λ (f : MemFile). f.first.bytes) (sym found ∙ file_at file mid index other is))
          ∙ same.first;
    }

-- what the first file with a number is, the file at its index is
pub room_at : (file index : ℕ) (files : List MemFile) (one : MemFile) → IsFirst file files index → one ≡ get_or files index one
    → one ≡ kept_file file files
room_at file index files one is value = value ∙ sym (file_at file files index one is)

pub found_room : (old mid : List MemFile) (file index : ℕ) (before : MemFile) → HasRoomBehind old → HasSameFiles old mid
    → IsFirst file mid index → before ≡ get_or mid index before → before.now.room ≤ before.first.room
found_room old mid file index before behind same is value =
    let P : MemFile → Type 0 = λ f. f.now.room ≤ f.first.room in
    subst P (sym (room_at file index mid before is value ∙ same.each file)) (behind file)

pub set_room : (files : List MemFile) (file index room : ℕ) (before after : MemFile) → IsFirst file files index
    → before ≡ get_or files index before → HasGrown before after → room ≤ after.now.room → room ≤ (kept_file file (set files index after)).now.room
set_room files file index room before after is value has enough =
    let P : MemFile → Type 0 = λ f. room ≤ f.now.room in
    let number : after.number ≡ file = has.number ∙ ap (λ (f : MemFile). f.number) value ∙ is.number before in
    subst P (sym (file_set file files index after is number)) enough

pub has_room : (file index room : ℕ) (files : List MemFile) (one : MemFile) → IsFirst file files index → one ≡ get_or files index one
    → room ≤ (kept_file file files).now.room → room ≤ one.now.room
has_room file index room files one is value enough =
    let P : MemFile → Type 0 = λ f. room ≤ f.now.room in subst P (sym (room_at file index files one is value)) enough

none_set : (number : ℕ) (files : List MemFile) (place : ℕ) (new : MemFile) → ((other : MemFile) → new.number ≡ (get_or files place other).number)
    → NoneHas number files → (index : ℕ) (other : MemFile) → index < length (set files place new) → (get_or (set files place new) index other).number ≢ number
none_set number [] place new same none index other below = absurd (omega (arith, below))
none_set number (one ∷ rest) zero new same none zero other below = λ is. none zero other (omega (arith, below)) (sym (same other) ∙ is)
none_set number (one ∷ rest) zero new same none (suc index) other below = none (suc index) other (omega (arith, below))
none_set number (one ∷ rest) (suc place) new same none zero other below = none zero other (omega arith)
none_set number (one ∷ rest) (suc place) new same none (suc index) other below =
    none_set number rest place new same (λ k o b. none (suc k) o (omega (arith, b))) index other (omega (arith, below))

pub distinct_set : (files : List MemFile) (place : ℕ) (new : MemFile) → ((other : MemFile) → new.number ≡ (get_or files place other).number)
    → IsDistinct files → IsDistinct (set files place new)
distinct_set [] place new same distinct = tt
distinct_set (one ∷ rest) zero new same distinct =
    ((λ index other below is. distinct.0 index other below (is ∙ same one)), distinct.1)
distinct_set (one ∷ rest) (suc place) new same distinct =
    (none_set one.number rest place new same distinct.0, distinct_set rest place new same distinct.1)

none_push : (number added : ℕ) (files : List MemFile) → added ≢ number → NoneHas number files
    → (index : ℕ) (other : MemFile) → index < length (files ++ blank_file added ∷ []) → (get_or (files ++ blank_file added ∷ []) index other).number ≢ number
none_push number added [] apart none zero other below = apart
none_push number added [] apart none (suc index) other below = absurd (omega (arith, below))
none_push number added (one ∷ rest) apart none zero other below = none zero other (omega arith)
none_push number added (one ∷ rest) apart none (suc index) other below =
    none_push number added rest apart (λ k o b. none (suc k) o (omega (arith, b))) index other (omega (arith, below))

pub distinct_push : (added : ℕ) (files : List MemFile) → NoneHas added files → IsDistinct files → IsDistinct (files ++ blank_file added ∷ [])
distinct_push added [] none distinct = ((λ index other below. absurd (omega (arith, below))), tt)
distinct_push added (one ∷ rest) none distinct = (
  none_push one.number added rest (λ is. none zero one (omega arith) (sym is)) distinct.0,
  distinct_push added rest (λ index other below. none (suc index) other (omega (arith, below))) distinct.1,
)

pub first_at : (files : List MemFile) (index : ℕ) (one : MemFile) → IsDistinct files → index < length files
    → one ≡ get_or files index one → kept_file one.number files ≡ one
first_at [] index one distinct below value = absurd (omega (arith, below))
first_at (head ∷ rest) zero one distinct below value =
    if_same head.number one.number head (kept_file one.number rest) (ap (λ (f : MemFile). f.number) (sym value)) ∙ sym value
first_at (head ∷ rest) (suc index) one distinct below value =
    if_other head.number one.number head (kept_file one.number rest)
    (λ is. distinct.0 index one (omega (arith, below)) (ap (λ (f : MemFile). f.number) (sym value) ∙ sym is))
    ∙ first_at rest index one distinct.1 (omega (arith, below)) value

here_listed : (number file : ℕ) (bytes : List ℕ) (rest : List (ℕ × List ℕ)) → number ≡ file → listed rest file ≡ []
    → listed (with_bytes number bytes rest) file ≡ bytes
here_listed number file [] rest is none = none
here_listed number file (byte ∷ bytes) rest is none = if_same number file (byte ∷ bytes) (listed rest file) is

elsewhere_listed : (number file : ℕ) (bytes : List ℕ) (rest : List (ℕ × List ℕ)) → number ≢ file
    → listed (with_bytes number bytes rest) file ≡ listed rest file
elsewhere_listed number file [] rest apart = refl
elsewhere_listed number file (byte ∷ bytes) rest apart = if_other number file (byte ∷ bytes) (listed rest file) apart

pub listed_first : (files : List MemFile) (file : ℕ) → IsDistinct files → listed (first_bytes files) file ≡ (kept_file file files).first.bytes
listed_first [] file distinct = refl
listed_first (one ∷ rest) file distinct =
    elim (eqb_tells one.number file) [
      | inl is ↦
          (let none : NoneHas file rest = (let P : ℕ → Type 0 = λ n. NoneHas n rest in subst P is.1 distinct.0) in
          let ends : listed (first_bytes rest) file ≡ [] =
          listed_first rest file distinct.1 ∙ ap (λ (f : MemFile). f.first.bytes) (file_none file rest none) in
          here_listed one.number file one.first.bytes (first_bytes rest) is.1 ends)
          ∙ ap (λ (f : MemFile). f.first.bytes) (sym (if_same one.number file one (kept_file file rest) is.1))
      | inr isnt ↦
          elsewhere_listed one.number file one.first.bytes (first_bytes rest) isnt.1
          ∙ listed_first rest file distinct.1
          ∙ ap (λ (f : MemFile). f.first.bytes) (sym (if_other one.number file one (kept_file file rest) isnt.1))
    ]

pub distinct_grown : (files : List MemFile) (file index : ℕ) (before after : MemFile) → IsFirst file files index
    → before ≡ get_or files index before → HasGrown before after → IsDistinct files → IsDistinct (set files index after)
distinct_grown files file index before after is value has distinct =
    distinct_set files index after
    (λ other. has.number ∙ ap (λ (f : MemFile). f.number) value ∙ is.number before ∙ sym (is.number other)) distinct
