-- Reading the bytes of a file, block by block.
use Rattle.std.proofs.Common.{◌≡◌, ◌≢◌, ℕ, suc, ◌+◌, ◌*◌, ◌<◌, List, [], ◌∷◌, ◌++◌, length, map, Err, refl, sym, ap, subst, ◌∙◌, append_assoc, arith, inl, inr}
use Rattle.std.proofs.lemmas.List.{append-nil, length-append, length-map, map-append}
use Rattle.std.proofs.lemmas.Grind.{flat_map-append}
use Rattle.room_base.specs.Outside.{ClockView}
use Rattle.volume_block.specs.Chunks.{ChunkText, chunks_text, all_chunks, joined}
use Rattle.volume_block.specs.Valid.{HoldsChunks, IsRaw}
use Rattle.volume_block.specs.declared.block.Block.{Block}
use Rattle.volume_block.specs.declared.block.Block.TheVariants as kinds
use Rattle.volume_block.specs.declared.block.Reason.{Reason}
use Rattle.volume_block.proofs.Appending.{joined_bytes}
use Rattle.volume_store.specs.Committed.{data_at, DataPlace, Whole, Damaged, IsDataPlace, AreDataPlaces, CommittedFile, Closed, FilesFrom, Contents, Unlabelled, BadLabel, Labelled}
use Rattle.volume_store.proofs.OneContents.{one_contents}
use Rattle.volume_store.specs.Reads.{IsBadAt, StandsAt}
use Rattle.volume_store.proofs.Finding.{one_stands}
use Rattle.volume_block.specs.declared.label.Label.{Label}
use Rattle.room_run.specs.Raw.{HasBytes, IsFirstDamaged, IsFileOn, GivesFile}
use Rattle.room_run.specs.Put.{HadFiles, HasOneFileMore}
use Rattle.room_run.specs.Stages.{IsDataRead, JudgesPlaces}
use Rattle.room_run.specs.declared.get.DataFault.{DataFault}
use Rattle.room_run.specs.declared.get.DataFault.TheVariants as faults

-- ---- what is no data block

-- another block than a data block of these units
pub other_is_damaged : (disk : List ℕ) (volid units number : ℕ) (read : Block) → StandsAt disk volid number read
    → ((used : ℕ) → read ≢ kinds.Data used units) → IsDataPlace disk volid units number Damaged
other_is_damaged disk volid units number read stands other = λ chunks held.
    let data_block : Block = kinds.Data (length (chunks_text chunks)) units in
    absurd (other (length (chunks_text chunks)) (one_stands disk volid number read data_block stands (chunks, held, refl)))

pub mark_is_damaged : (disk : List ℕ) (volid units number count told : ℕ) → StandsAt disk volid number (kinds.Mark count told)
    → IsDataPlace disk volid units number Damaged
mark_is_damaged disk volid units number count told stands =
    other_is_damaged disk volid units number (kinds.Mark count told) stands (λ used same. absurd (cc same))

pub units_are_damaged : (disk : List ℕ) (volid units number used told : ℕ) → StandsAt disk volid number (kinds.Data used told) → told ≢ units
    → IsDataPlace disk volid units number Damaged
units_are_damaged disk volid units number used told stands other =
    other_is_damaged disk volid units number (kinds.Data used told) stands
    (λ (more : ℕ) same. let is : told ≡ units = cc same in absurd (other is))

pub bad_is_damaged : (disk : List ℕ) (volid units number : ℕ) (why : Reason) → IsBadAt disk volid number why → IsDataPlace disk volid units number Damaged
bad_is_damaged disk volid units number why bad = λ chunks held.
    bad.invalid (kinds.Data (length (chunks_text chunks)) units) (chunks, held, refl)

-- ---- block by block

-- the first blocks of a file are whole, and these are their bytes
pub record HasRead (places : List DataPlace) (bytes : List ℕ) (index : ℕ) : Type 0 where
  pub whole : List (List ChunkText)
  pub rest : List DataPlace
  pub split : places ≡ map Whole whole ++ rest
  pub counted : length whole ≡ index
  pub are : bytes ≡ joined (all_chunks whole)

pub none_read : (places : List DataPlace) → HasRead places [] 0
none_read places = record { whole = []; rest = places; split = refl; counted = refl; are = refl }

-- one step more
step_more : (units first count : ℕ) → first + units + units * count ≡ first + units * suc count
step_more units first count = grind arith

-- the place behind whole ones
place_behind : (disk : List ℕ) (volid units first : ℕ) (whole : List (List ChunkText)) (place : DataPlace) (rest : List DataPlace)
    → AreDataPlaces disk volid units first (map Whole whole ++ place ∷ rest) → IsDataPlace disk volid units (first + units * length whole) place
place_behind disk volid units first [] place rest are =
    let P : ℕ → Type 0 = λ (number : ℕ). IsDataPlace disk volid units number place in
    subst P (let same : first ≡ first + units * 0 = grind arith in same) are.0
place_behind disk volid units first (chunks ∷ whole) place rest are =
    let P : ℕ → Type 0 = λ (number : ℕ). IsDataPlace disk volid units number place in
    subst P (step_more units first (length whole)) (place_behind disk volid units (first + units) whole place rest are.1)

all_more : (whole : List (List ChunkText)) (chunks : List ChunkText) → joined (all_chunks (whole ++ chunks ∷ [])) ≡ joined (all_chunks whole) ++ joined chunks
all_more [] chunks = ap joined (append-nil chunks)
all_more (first ∷ whole) chunks =
    flat_map-append (λ (one : ChunkText). one.bytes) first (all_chunks (whole ++ chunks ∷ []))
    ∙ ap (λ (t : List ℕ). joined first ++ t) (all_more whole chunks)
    ∙ sym (append_assoc (joined first) (joined (all_chunks whole)) (joined chunks))
    ∙ ap (λ (t : List ℕ). t ++ joined chunks) (sym (flat_map-append (λ (one : ChunkText). one.bytes) first (all_chunks whole)))

read_next : (disk : List ℕ) (volid units first index : ℕ) (bytes new : List ℕ) (places : List DataPlace) (whole : List (List ChunkText)) (rest : List DataPlace)
    → places ≡ map Whole whole ++ rest → length whole ≡ index → bytes ≡ joined (all_chunks whole) → index < length places
    → AreDataPlaces disk volid units first places → (held : (chunks : List ChunkText) × HoldsChunks (data_at units disk (first + units * index)) volid (first + units * index) units chunks)
    → ((chunks : List ChunkText) → HoldsChunks (data_at units disk (first + units * index)) volid (first + units * index) units chunks → new ≡ bytes ++ joined chunks)
    → HasRead places new (index + 1)
read_next disk volid units first index bytes new places whole [] split counted are inside places_are held added =
    absurd (omega (arith, inside, counted, ap length split, length-append (map Whole whole) [], length-map whole Whole))
read_next disk volid units first index bytes new places whole (Damaged ∷ rest) split counted are inside places_are held added =
    let P : List DataPlace → Type 0 = λ (all : List DataPlace). AreDataPlaces disk volid units first all in
    let here = place_behind disk volid units first whole Damaged rest (subst P split places_are) in
    let N : ℕ → Type 0 = λ (n : ℕ). IsDataPlace disk volid units (first + units * n) Damaged in
    absurd (subst N counted here held.0 held.1)
read_next disk volid units first index bytes new places whole (Whole chunks ∷ rest) split counted are inside places_are held added =
    let P : List DataPlace → Type 0 = λ (all : List DataPlace). AreDataPlaces disk volid units first all in
    let N : ℕ → Type 0 = λ (n : ℕ). IsDataPlace disk volid units (first + units * n) (Whole chunks) in
    let here = subst N counted (place_behind disk volid units first whole (Whole chunks) rest (subst P split places_are)) in
    record {
      whole = whole ++ chunks ∷ [];
      rest = rest;
      split = split ∙ sym (append_assoc (map Whole whole) (Whole chunks ∷ []) rest) ∙ ap (λ (l : List DataPlace). l ++ rest) (sym (map-append Whole whole (chunks ∷ [])));
      counted = omega (arith, length-append whole (chunks ∷ []), counted);
      are = added chunks here ∙ ap (λ (t : List ℕ). t ++ joined chunks) are ∙ sym (all_more whole chunks);
    }

pub read_more : (disk : List ℕ) (volid units first index : ℕ) (bytes new : List ℕ) (places : List DataPlace) → HasRead places bytes index → index < length places
    → AreDataPlaces disk volid units first places → (chunks : List ChunkText) × HoldsChunks (data_at units disk (first + units * index)) volid (first + units * index) units chunks
    → ((chunks : List ChunkText) → HoldsChunks (data_at units disk (first + units * index)) volid (first + units * index) units chunks → new ≡ bytes ++ joined chunks)
    → HasRead places new (index + 1)
read_more disk volid units first index bytes new places so_far inside are held added =
    read_next disk volid units first index bytes new places so_far.whole so_far.rest so_far.split so_far.counted so_far.are inside are held added

damaged_next : (disk : List ℕ) (volid units first index : ℕ) (bytes : List ℕ) (places : List DataPlace) (whole : List (List ChunkText)) (rest : List DataPlace)
    → places ≡ map Whole whole ++ rest → length whole ≡ index → index < length places → AreDataPlaces disk volid units first places
    → IsDataPlace disk volid units (first + units * index) Damaged → (more : List DataPlace) × (places ≡ map Whole whole ++ Damaged ∷ more)
damaged_next disk volid units first index bytes places whole [] split counted inside are bad =
    absurd (omega (arith, inside, counted, ap length split, length-append (map Whole whole) [], length-map whole Whole))
damaged_next disk volid units first index bytes places whole (Damaged ∷ rest) split counted inside are bad = (rest, split)
damaged_next disk volid units first index bytes places whole (Whole chunks ∷ rest) split counted inside are bad =
    let P : List DataPlace → Type 0 = λ (all : List DataPlace). AreDataPlaces disk volid units first all in
    let N : ℕ → Type 0 = λ (n : ℕ). IsDataPlace disk volid units (first + units * n) (Whole chunks) in
    absurd (bad chunks (subst N counted (place_behind disk volid units first whole (Whole chunks) rest (subst P split are))))

pub damaged_first : (disk : List ℕ) (volid units index : ℕ) (bytes : List ℕ) (file : CommittedFile) → HasRead file.places bytes index → index < length file.places
    → AreDataPlaces disk volid units (file.mark + 1) file.places → IsDataPlace disk volid units (file.mark + 1 + units * index) Damaged → IsFirstDamaged units file (file.mark + 1 + units * index)
damaged_first disk volid units index bytes file so_far within are bad =
    let found = damaged_next disk volid units (file.mark + 1) index bytes file.places so_far.whole so_far.rest so_far.split so_far.counted within are bad in
    (so_far.whole, (found.0, found.1, ap (λ (n : ℕ). file.mark + 1 + units * n) (sym so_far.counted)))

all_read : (bytes : List ℕ) (file : CommittedFile) (whole : List (List ChunkText)) (rest : List DataPlace) → file.places ≡ map Whole whole ++ rest
    → length whole ≡ length file.places → bytes ≡ joined (all_chunks whole) → HasBytes file bytes
all_read bytes file whole [] split counted are = (whole, split ∙ append-nil (map Whole whole), are)
all_read bytes file whole (place ∷ rest) split counted are =
    absurd (omega (arith, counted, ap length split, length-append (map Whole whole) (place ∷ rest), length-map whole Whole))

pub read_whole : (bytes : List ℕ) (file : CommittedFile) (index : ℕ) → HasRead file.places bytes index → index ≡ length file.places → HasBytes file bytes
read_whole bytes file index so_far ended = all_read bytes file so_far.whole so_far.rest so_far.split (so_far.counted ∙ ended) so_far.are

places_among : (disk : List ℕ) (volid units mark end : ℕ) (before : List CommittedFile) (file : CommittedFile) (after : List CommittedFile)
    → FilesFrom disk volid units mark (before ++ file ∷ after) (Closed end) → AreDataPlaces disk volid units (file.mark + 1) file.places
places_among disk volid units mark end [] file after are =
    let P : ℕ → Type 0 = λ (m : ℕ). AreDataPlaces disk volid units (m + 1) file.places in
    subst P (sym are.0) are.2
places_among disk volid units mark end (first ∷ before) file after are =
    places_among disk volid units (mark + units * length first.places + 1) end before file after are.3

-- ---- what is said of a file

pub data_given : (disk : List ℕ) (volid units index : ℕ) (bytes block : List ℕ) (file : CommittedFile) (fault : DataFault)
    → HasRead file.places bytes index → index < length file.places → AreDataPlaces disk volid units (file.mark + 1) file.places
    → IsDataRead disk volid units (file.mark + 1 + units * index) block (Err fault) → JudgesPlaces units file fault
data_given disk volid units index bytes block file faults.Memory so_far within are read = tt
data_given disk volid units index bytes block file faults.Failed so_far within are read = tt
data_given disk volid units index bytes block file (faults.Damaged bad) so_far within are read =
    let P : ℕ → Type 0 = λ (number : ℕ). IsFirstDamaged units file number in
    subst P (sym read.0) (damaged_first disk volid units index bytes file so_far within are read.1)

-- the data places of a file
pub places_of : (disk : List ℕ) (number : ℕ) (label : Label) (file : CommittedFile) → IsFileOn disk number label file
    → AreDataPlaces disk label.volid.0 label.units (file.mark + 1) file.places
places_of disk number label file on = places_among disk label.volid.0 label.units 1 on.mark on.before file on.after on.on.1.1

-- ---- what was put

had_raw : (clock : ClockView) (cart : ℕ) (before : List ℕ) (label : Label) (files : List CommittedFile) → HadFiles clock cart before label files → IsRaw label
had_raw clock cart before label files (inl fresh) =
    let P : Label → Type 0 = IsRaw in
    subst P (sym fresh.2.2) (omega arith)
had_raw clock cart before label files (inr old) = old.1.0

-- the file that was put is given back
pub one_more_gives : (clock : ClockView) (cart number : ℕ) (bytes before after : List ℕ) → HasOneFileMore clock cart bytes before number after → GivesFile after number bytes
one_more_gives clock cart number bytes before after more =
    let blocks = more.holds.0 in (
      more.label,
      (
        more.file,
        record {
          before = more.files;
          after = [];
          mark = more.end;
          on = (had_raw clock cart before more.label more.files more.had, more.stands);
          counted = sym more.counted;
        },
        (blocks, more.holds.1, sym (joined_bytes number 1 0 (all_chunks blocks) bytes more.holds.2)),
      ),
    )

-- ---- one file alone

-- the files of a cartridge
abbrev files_in : Contents → List CommittedFile
files_in (Labelled label files end) = files
files_in Unlabelled = []
files_in BadLabel = []

-- the file behind so many others
same_place : (before others : List CommittedFile) (file other : CommittedFile) (after more : List CommittedFile) → length before ≡ length others
    → before ++ file ∷ after ≡ others ++ other ∷ more → file ≡ other
same_place [] [] file other after more count same = cc same
same_place [] (second ∷ others) file other after more count same = absurd (omega (arith, count))
same_place (first ∷ before) [] file other after more count same = absurd (omega (arith, count))
same_place (first ∷ before) (second ∷ others) file other after more count same =
    same_place before others file other after more (omega (arith, count)) (cc same)

same_file : (disk : List ℕ) (number : ℕ) (label name : Label) (file other : CommittedFile) → IsFileOn disk number label file → IsFileOn disk number name other → file ≡ other
same_file disk number label name file other on is =
    let contents = one_contents disk (Labelled label (on.before ++ file ∷ on.after) (Closed on.mark)) (Labelled name (is.before ++ other ∷ is.after) (Closed is.mark)) on.on.1 is.on.1 in
    same_place on.before is.before file other on.after is.after (omega (arith, on.counted, is.counted)) (ap files_in contents)

same_blocks : (blocks others : List (List ChunkText)) → map Whole blocks ≡ map Whole others → blocks ≡ others
same_blocks [] [] same = refl
same_blocks [] (other ∷ others) same = absurd (omega (arith, ap length same))
same_blocks (block ∷ blocks) [] same = absurd (omega (arith, ap length same))
same_blocks (block ∷ blocks) (other ∷ others) same =
    ap (λ (b : List ChunkText). b ∷ blocks) (cc same) ∙ ap (λ (l : List (List ChunkText)). other ∷ l) (same_blocks blocks others (cc same))

pub gives_alone : (disk : List ℕ) (number : ℕ) (bytes others : List ℕ) → GivesFile disk number bytes → GivesFile disk number others → bytes ≡ others
gives_alone disk number bytes others one two =
    let file : one.1.0 ≡ two.1.0 = same_file disk number one.0 two.0 one.1.0 two.1.0 one.1.1 two.1.1 in
    let blocks = same_blocks one.1.2.0 two.1.2.0 (sym one.1.2.1 ∙ ap (λ (f : CommittedFile). f.places) file ∙ two.1.2.1) in
    one.1.2.2 ∙ ap (λ (b : List (List ChunkText)). joined (all_chunks b)) blocks ∙ sym two.1.2.2
