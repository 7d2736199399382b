-- A walk over the marks of a cartridge, mark by mark.
use Rattle.std.proofs.Common.{◌≡◌, ◌≢◌, ◌⊎◌, ℕ, zero, suc, ◌+◌, ◌*◌, ◌<◌, ◌≤◌, ◌^◌, List, [], ◌∷◌, ◌++◌, length, get_or, Option, Some, None, refl, sym, ap, subst, ◌∙◌, append_assoc, arith, inl, inr}
use Rattle.std.proofs.lemmas.List.{append-nil, length-append}
use Rattle.std.proofs.Math.Decide.{ℕ_discrete}
use Rattle.volume_block.specs.Chunks.{ChunkText}
use Rattle.volume_block.specs.Valid.{ValidBlock, HoldsChunks}
use Rattle.volume_block.specs.declared.block.Block.TheVariants as kinds
use Rattle.volume_block.specs.Layout.{IsUnits}
use Rattle.volume_block.proofs.Deciding.{is_data}
use Rattle.volume_block.proofs.Forms.{units_times}
use Rattle.volume_store.specs.Committed.{block_at, data_at, DataPlace, Whole, Damaged, AreDataPlaces, CommittedFile, End, Closed, Stop, EndsAt, FilesFrom}
use Rattle.volume_store.specs.Reads.{IsFile, IsWanted, HasWalked, WalksOver, StopsAt, IsBadMark, IsWithin, HasRange}
use Rattle.std.specs.Prelude.{MatchOption}
use Rattle.volume_store.specs.declared.marks.FilePlace.{FilePlace}
use Rattle.volume_store.specs.declared.marks.MarkWalk.{MarkWalk}
use Rattle.volume_store.proofs.Finding.{first_byte, block_none}

-- ---- each data place is whole or damaged

pub record HasPlaces (bytes : List ℕ) (volid units first count : ℕ) : Type 0 where
  pub places : List DataPlace
  pub counted : length places ≡ count
  pub are : AreDataPlaces bytes volid units first places

one_more : (bytes : List ℕ) (volid units first count : ℕ) → Dec ((chunks : List ChunkText) × HoldsChunks (data_at units bytes first) volid first units chunks)
    → HasPlaces bytes volid units (first + units) count → HasPlaces bytes volid units first (suc count)
one_more bytes volid units first count (yes held) rest =
    record { places = Whole held.0 ∷ rest.places; counted = ap suc rest.counted; are = (held.1, rest.are) }
one_more bytes volid units first count (no none) rest =
    record { places = Damaged ∷ rest.places; counted = ap suc rest.counted; are = (λ chunks held. none (chunks, held), rest.are) }

pub places_from : (bytes : List ℕ) (volid units first count : ℕ) → HasPlaces bytes volid units first count
places_from bytes volid units first zero = record { places = []; counted = refl; are = tt }
places_from bytes volid units first (suc count) =
    one_more bytes volid units first count (is_data (data_at units bytes first) volid first units) (places_from bytes volid units (first + units) count)

-- ---- the file that is looked for

-- it is this one, which comes behind the others
wanted_here : (files : List CommittedFile) (file : CommittedFile) (number : ℕ) (place : FilePlace) → length files + 1 ≡ number
    → place.mark ≡ file.mark → place.count ≡ length file.places → IsFile (files ++ file ∷ []) number place
wanted_here files file number place counted mark count =
    record { before = files; file = file; after = []; among = refl; counted = counted; mark = mark; count = count }

-- it stays, or isn't there yet
wanted_before : (files : List CommittedFile) (file : CommittedFile) (number : ℕ) (place : Option FilePlace) → length files + 1 ≢ number
    → IsWanted files number place → IsWanted (files ++ file ∷ []) number place
wanted_before files file number None other (inl none) = inl none
wanted_before files file number None other (inr fewer) = inr (omega (arith, length-append files (file ∷ []), fewer, other))
wanted_before files file number (Some place) other is = record {
  before = is.before;
  file = is.file;
  after = is.after ++ file ∷ [];
  among = ap (λ (front : List CommittedFile). front ++ file ∷ []) is.among ∙ append_assoc is.before (is.file ∷ is.after) (file ∷ []);
  counted = is.counted;
  mark = is.mark;
  count = is.count;
}

wanted_then : (files : List CommittedFile) (file : CommittedFile) (number : ℕ) (before after : Option FilePlace) (place : FilePlace)
    → Dec (length files + 1 ≡ number) → (length files + 1 ≡ number → after ≡ Some place) → (length files + 1 ≢ number → after ≡ before)
    → place.mark ≡ file.mark → place.count ≡ length file.places → IsWanted files number before → IsWanted (files ++ file ∷ []) number after
wanted_then files file number before after place (yes here) this other mark count is =
    let P : Option FilePlace → Type 0 = IsWanted (files ++ file ∷ []) number in
    subst P (sym (this here)) (wanted_here files file number place here mark count)
wanted_then files file number before after place (no not) this other mark count is =
    let P : Option FilePlace → Type 0 = IsWanted (files ++ file ∷ []) number in
    subst P (sym (other not)) (wanted_before files file number before not is)

first_wanted : (number : ℕ) → IsWanted [] number None
first_wanted zero = inl refl
first_wanted (suc number) = inr (omega arith)

-- ---- the walk

pub begins : (bytes : List ℕ) (volid units number : ℕ) → HasWalked bytes volid units number (record { files = 0; end = 1; wanted = None })
begins bytes volid units number = record {
  files = [];
  counted = refl;
  wanted = first_wanted number;
  onward = λ rest end are. are;
}

-- behind one file more
pub goes_on : (bytes : List ℕ) (volid units number count : ℕ) (walk next : MarkWalk) → HasWalked bytes volid units number walk
    → ValidBlock (block_at bytes walk.end) volid walk.end (kinds.Mark count units)
    → next.files ≡ walk.files + 1 → next.end ≡ walk.end + units * count + 1
    → (walk.files + 1 ≡ number → next.wanted ≡ Some (record { mark = walk.end; count = count }))
    → (walk.files + 1 ≢ number → next.wanted ≡ walk.wanted) → HasWalked bytes volid units number next
goes_on bytes volid units number count walk next walked valid files-is end-is this other =
    let found = places_from bytes volid units (walk.end + 1) count in
    let file : CommittedFile = record { mark = walk.end; places = found.places } in
    let before = walked.files in
    let Valid : ℕ → Type 0 = λ (n : ℕ). ValidBlock (block_at bytes walk.end) volid walk.end (kinds.Mark n units) in
    let Wanted : ℕ → Type 0 = λ (n : ℕ). n + 1 ≡ number → next.wanted ≡ Some (record { mark = walk.end; count = count }) in
    let Other : ℕ → Type 0 = λ (n : ℕ). n + 1 ≢ number → next.wanted ≡ walk.wanted in
    record {
      files = before ++ file ∷ [];
      counted = omega (arith, length-append before (file ∷ []), files-is, walked.counted);
      wanted = wanted_then before file number walk.wanted next.wanted (record { mark = walk.end; count = count }) (ℕ_discrete (length before + 1) number)
          (subst Wanted walked.counted this) (subst Other walked.counted other) refl (sym found.counted) walked.wanted;
      onward = λ rest end are.
          let From : ℕ → Type 0 = λ (place : ℕ). FilesFrom bytes volid units place rest end in
          let behind : next.end ≡ walk.end + units * length found.places + 1 =
          end-is ∙ ap (λ (n : ℕ). walk.end + units * n + 1) (sym found.counted) in
          let P : List CommittedFile → Type 0 = λ (all : List CommittedFile). FilesFrom bytes volid units 1 all end in
          subst P (sym (append_assoc before (file ∷ []) rest))
          (walked.onward (file ∷ rest) end (refl, subst Valid (sym found.counted) valid, found.are, subst From behind are));
    }

-- the walk has come to the end
ends : (bytes : List ℕ) (volid units number : ℕ) (walk : MarkWalk) (end : End) (walked : HasWalked bytes volid units number walk)
    → EndsAt bytes volid units walk.end end → FilesFrom bytes volid units 1 walked.files end
ends bytes volid units number walk end walked at =
    let P : List CommittedFile → Type 0 = λ (all : List CommittedFile). FilesFrom bytes volid units 1 all end in
    subst P (append-nil walked.files) (walked.onward [] end at)

-- at a closed mark place
pub ends_closed : (bytes : List ℕ) (volid units number : ℕ) (walk : MarkWalk) → HasWalked bytes volid units number walk
    → 4096 * walk.end < length bytes → get_or (block_at bytes walk.end) 0 0 ≢ 0x46 → WalksOver bytes volid units number walk
ends_closed bytes volid units number walk walked inside closed = record {
  files = walked.files;
  counted = walked.counted;
  wanted = walked.wanted;
  are = ends bytes volid units number walk (Closed walk.end) walked (refl, inside, λ opens. closed (first_byte walk.end bytes ∙ opens));
}

-- at an invalid mark
pub ends_bad : (bytes : List ℕ) (volid units number : ℕ) (walk : MarkWalk) → HasWalked bytes volid units number walk
    → IsBadMark (block_at bytes walk.end) volid units walk.end → StopsAt bytes volid units walk.end
ends_bad bytes volid units number walk walked bad =
    (walked.files, ends bytes volid units number walk (Stop walk.end) walked (refl, inr (sym (first_byte walk.end bytes) ∙ bad.opens, λ count valid. bad.no_mark count valid)))

-- where the file has ended
pub ends_short : (bytes : List ℕ) (volid units number : ℕ) (walk : MarkWalk) → HasWalked bytes volid units number walk
    → length bytes ≤ 4096 * walk.end → StopsAt bytes volid units walk.end
ends_short bytes volid units number walk walked short =
    (walked.files, ends bytes volid units number walk (Stop walk.end) walked (refl, inl short))

-- at a mark that is invalid or isn't there
pub ends_bad_or_short : (bytes : List ℕ) (volid units number : ℕ) (walk : MarkWalk) → HasWalked bytes volid units number walk
    → (length (block_at bytes walk.end) ≡ 0) ⊎ IsBadMark (block_at bytes walk.end) volid units walk.end → StopsAt bytes volid units walk.end
ends_bad_or_short bytes volid units number walk walked (inl none) = ends_short bytes volid units number walk walked (block_none walk.end bytes none)
ends_bad_or_short bytes volid units number walk walked (inr bad) = ends_bad bytes volid units number walk walked bad

-- ---- the numbers of a walk

within_next : (units : ℕ) (place : FilePlace) (end next : ℕ) → end ≤ next → IsWithin units place end → IsWithin units place next
within_next units place end next later is = (is.0, is.1, is.2, omega (arith, is.3, later))

wanted_range : (units end next number files count : ℕ) (before after : Option FilePlace) → Dec (files + 1 ≡ number)
    → (files + 1 ≡ number → after ≡ Some (record { mark = end; count = count })) → (files + 1 ≢ number → after ≡ before)
    → 1 ≤ end → (1 ≤ count) × (count ≤ 64) → next ≡ end + units * count + 1 → MatchOption before (Unit {0}) (λ place. IsWithin units place end)
    → MatchOption after (Unit {0}) (λ place. IsWithin units place next)
wanted_range units end next number files count before after (yes here) this other some counted later is =
    let P : Option FilePlace → Type 0 = λ place. MatchOption place (Unit {0}) (λ found. IsWithin units found next) in
    subst P (sym (this here)) (some, counted.0, counted.1, omega (arith, later))
wanted_range units end next number files count None after (no not) this other some counted later is =
    let P : Option FilePlace → Type 0 = λ place. MatchOption place (Unit {0}) (λ found. IsWithin units found next) in
    subst P (sym (other not)) tt
wanted_range units end next number files count (Some place) after (no not) this other some counted later is =
    let P : Option FilePlace → Type 0 = λ found. MatchOption found (Unit {0}) (λ shown. IsWithin units shown next) in
    subst P (sym (other not)) (within_next units place end next (omega (arith, later)) is)

pub range_past : (units count : ℕ) (walk next : MarkWalk) (number : ℕ) → walk.end < 2 ^ 52 → IsUnits units → HasRange (2 ^ 52 + 1026) units walk → (1 ≤ count) × (count ≤ 64)
    → next.files ≡ walk.files + 1 → next.end ≡ walk.end + units * count + 1
    → (walk.files + 1 ≡ number → next.wanted ≡ Some (record { mark = walk.end; count = count }))
    → (walk.files + 1 ≢ number → next.wanted ≡ walk.wanted) → HasRange (2 ^ 52 + 1026) units next
range_past units count walk next number inside is range counted files end this other = record {
  end = (omega (arith, end), omega (arith, end, inside, units_times units count is counted.1));
  files = omega (arith, files, end, range.files, counted.0);
  wanted = wanted_range units walk.end next.end number walk.files count walk.wanted next.wanted (ℕ_discrete (walk.files + 1) number) this other
      range.end.0 counted end range.wanted;
}
