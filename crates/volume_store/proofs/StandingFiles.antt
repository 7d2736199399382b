-- The chunks that stand on a cartridge are those of its committed files.
use Rattle.std.proofs.Common.{◌≡◌, inl, inr, ℕ, zero, suc, ◌+◌, ◌*◌, ◌<◌, List, [], ◌∷◌, ◌++◌, length, drop, slice_index, refl, sym, subst, ap, ◌∙◌, arith}
use Rattle.std.specs.List.{Contains}
use Rattle.std.specs.Prelude.{◌↔◌}
use Rattle.std.proofs.lemmas.List.{length-take, length-drop}
use Rattle.volume_block.specs.Chunks.{ChunkText}
use Rattle.volume_block.specs.Standing.{Standing}
use Rattle.volume_block.specs.Valid.{ValidBlock, HoldsChunks}
use Rattle.volume_block.specs.declared.label.Label.{Label}
use Rattle.volume_block.specs.declared.block.Block.TheVariants as kinds
use Rattle.volume_block.proofs.Lengths.{length-valid, kind-block_text}
use Rattle.volume_block.proofs.OneBlock.{one_block, one_list_of_chunks}
use Rattle.volume_store.specs.Committed.{part_at, block_at, data_at, kind_byte_at, DataPlace, Whole, Damaged, IsDataPlace, AreDataPlaces, CommittedFile, End, Closed, Stop, EndsAt, FilesFrom, HasLabel, Unlabelled, BadLabel, Labelled, Committed}
use Rattle.volume_store.specs.Standing.{IsReached, first, next, StandsIn, InFiles}
use Rattle.volume_store.proofs.Finding.{first_byte}

-- ---- marks

mark_opens : (bytes : List ℕ) (volid units mark count : ℕ) → ValidBlock (block_at bytes mark) volid mark (kinds.Mark count units) → kind_byte_at bytes mark ≡ 0x46
mark_opens bytes volid units mark count valid =
    sym (first_byte mark bytes) ∙ ap (λ (block : List ℕ). slice_index block 0) valid.4 ∙ kind-block_text 0x46 units 4096 volid mark _

mark_inside : (bytes : List ℕ) (volid units mark count : ℕ) → ValidBlock (block_at bytes mark) volid mark (kinds.Mark count units) → 4096 * mark < length bytes
unfolding part_at
mark_inside bytes volid units mark count valid =
    omega (
      arith,
      length-valid (block_at bytes mark) volid mark (kinds.Mark count units) valid,
      length-take 4096 (drop (4096 * mark) bytes),
      length-drop (4096 * mark) bytes,
    )

same_count : (one other units : ℕ) → kinds.Mark one units ≡ kinds.Mark other units → one ≡ other
same_count one other units same = cc same

pub one_mark : (block : List ℕ) (volid units mark one other : ℕ) → ValidBlock block volid mark (kinds.Mark one units)
    → ValidBlock block volid mark (kinds.Mark other units) → one ≡ other
one_mark block volid units mark one other valid others =
    same_count one other units (one_block block volid mark volid mark (kinds.Mark one units) (kinds.Mark other units) valid others).2

-- a valid open mark is no end
no-end : (bytes : List ℕ) (volid units mark count : ℕ) (end : End) → ValidBlock (block_at bytes mark) volid mark (kinds.Mark count units) → EndsAt bytes volid units mark end → ⊥
no-end bytes volid units mark count (Closed place) valid ends = ends.2 (mark_opens bytes volid units mark count valid)
no-end bytes volid units mark count (Stop place) valid ends = elim ends.1 [
  | inl short ↦ let inside = mark_inside bytes volid units mark count valid in omega (arith, inside, short)
  | inr bad ↦ bad.1 count valid
]

-- ---- from marks to files

pub record Rest (bytes : List ℕ) (volid units mark : ℕ) (files : List CommittedFile) (end : End) : Type 0 where
  pub rest : List CommittedFile
  pub within : (file : CommittedFile) → Contains rest file → Contains files file
  pub from : FilesFrom bytes volid units mark rest end

behind-mark : (bytes : List ℕ) (volid units mark count : ℕ) (files rest : List CommittedFile) (end : End) → ValidBlock (block_at bytes mark) volid mark (kinds.Mark count units)
    → ((file : CommittedFile) → Contains rest file → Contains files file) → FilesFrom bytes volid units mark rest end
    → Rest bytes volid units (mark + units * count + 1) files end
behind-mark bytes volid units mark count files [] end valid within from = absurd (no-end bytes volid units mark count end valid from)
behind-mark bytes volid units mark count files (file ∷ rest) end valid within from =
    let same : length file.places ≡ count = one_mark (block_at bytes mark) volid units mark (length file.places) count from.1 valid in
    record {
      rest = rest;
      within = λ other there. within other (suc there.0, omega (arith, there.1), there.2);
      from = subst (λ (n : ℕ). FilesFrom bytes volid units (mark + units * n + 1) rest end) same from.3;
    }

reached-rest : (bytes : List ℕ) (volid units : ℕ) (files : List CommittedFile) (end : End) → FilesFrom bytes volid units 1 files end → (mark : ℕ)
    → IsReached bytes volid units mark → Rest bytes volid units mark files end
reached-rest bytes volid units files end from _ first = record { rest = files; within = λ file there. there; from = from }
reached-rest bytes volid units files end from _ (next mark count reached valid) =
    let up = reached-rest bytes volid units files end from mark reached in
    behind-mark bytes volid units mark count files up.rest end valid up.within up.from

-- this place of data places is a whole one with these chunks
pub record SplitsAt (places : List DataPlace) (index : ℕ) (chunks : List ChunkText) : Type 0 where
  pub earlier : List DataPlace
  pub later : List DataPlace
  pub parts : places ≡ earlier ++ Whole chunks ∷ later
  pub at : length earlier ≡ index

whole-place : (bytes : List ℕ) (volid units from : ℕ) (place : DataPlace) (chunks : List ChunkText) → IsDataPlace bytes volid units from place
    → HoldsChunks (data_at units bytes from) volid from units chunks → place ≡ Whole chunks
whole-place bytes volid units from (Whole others) chunks held holds =
    ap Whole (one_list_of_chunks (data_at units bytes from) volid from units volid from units others chunks held holds)
whole-place bytes volid units from Damaged chunks damaged holds = absurd (damaged chunks holds)

place-splits : (bytes : List ℕ) (volid units from : ℕ) (places : List DataPlace) (index : ℕ) (chunks : List ChunkText) → AreDataPlaces bytes volid units from places
    → index < length places → HoldsChunks (data_at units bytes (from + units * index)) volid (from + units * index) units chunks
    → SplitsAt places index chunks
place-splits bytes volid units from [] index chunks are below holds = absurd (omega (arith, below))
place-splits bytes volid units from (place ∷ places) zero chunks are below holds =
    let e : from + units * 0 ≡ from = omega arith in
    let is : place ≡ Whole chunks = whole-place bytes volid units from place chunks are.0
    (subst (λ (n : ℕ). HoldsChunks (data_at units bytes n) volid n units chunks) e holds) in
    record { earlier = []; later = places; parts = ap (λ (x : DataPlace). x ∷ places) is; at = refl }
place-splits bytes volid units from (place ∷ places) (suc index) chunks are below holds =
    let e : from + units * suc index ≡ from + units + units * index = omega arith in
    let more = place-splits bytes volid units (from + units) places index chunks are.1 (omega (arith, below))
    (subst (λ (n : ℕ). HoldsChunks (data_at units bytes n) volid n units chunks) e holds) in
    record { earlier = place ∷ more.earlier; later = more.later; parts = ap (λ (xs : List DataPlace). place ∷ xs) more.parts; at = ap suc more.at }

in-file : (bytes : List ℕ) (one : Standing) (files rest : List CommittedFile) (end : End) → (stands : StandsIn bytes one)
    → ((file : CommittedFile) → Contains rest file → Contains files file) → FilesFrom bytes one.volid stands.label.units one.mark rest end
    → InFiles one.volid stands.label.units files one
in-file bytes one files [] end stands within from =
    absurd (no-end bytes one.volid stands.label.units one.mark stands.count end stands.opened from)
in-file bytes one files (file ∷ rest) end stands within from =
    let units = stands.label.units in
    let same : length file.places ≡ stands.count = one_mark (block_at bytes one.mark) one.volid units one.mark (length file.places) stands.count from.1 stands.opened in
    let chunks = stands.before ++ one.chunk ∷ stands.after in
    let w = stands.within in
    let holds = subst (λ (n : ℕ). HoldsChunks (data_at units bytes n) one.volid n units chunks) stands.block stands.holds in
    let split = place-splits bytes one.volid units (one.mark + 1) file.places stands.index chunks from.2 (omega (arith, w, same)) holds in
    let at = from.0 in
    record {
      volume = refl;
      file = file;
      among = within file (0, omega arith, refl);
      mark = sym at;
      earlier = split.earlier;
      before = stands.before;
      after = stands.after;
      later = split.later;
      places = split.parts;
      block = stands.block ∙ ap (λ (n : ℕ). one.mark + 1 + units * n) (sym split.at) ∙ ap (λ (n : ℕ). n + 1 + units * length split.earlier) (sym at);
      start = stands.start;
    }

pub stands-in-files : (bytes : List ℕ) (one : Standing) (files : List CommittedFile) (end : End) → (stands : StandsIn bytes one)
    → FilesFrom bytes one.volid stands.label.units 1 files end → InFiles one.volid stands.label.units files one
stands-in-files bytes one files end stands from =
    let up = reached-rest bytes one.volid stands.label.units files end from one.mark stands.reached in
    in-file bytes one files up.rest end stands up.within up.from

-- ---- from files to marks

pub record FileAt (bytes : List ℕ) (volid units : ℕ) (file : CommittedFile) : Type 0 where
  pub reached : IsReached bytes volid units file.mark
  pub opened : ValidBlock (block_at bytes file.mark) volid file.mark (kinds.Mark (length file.places) units)
  pub places : AreDataPlaces bytes volid units (file.mark + 1) file.places

file-at : (bytes : List ℕ) (volid units mark : ℕ) (files : List CommittedFile) (end : End) → FilesFrom bytes volid units mark files end
    → IsReached bytes volid units mark → (file : CommittedFile) → Contains files file → FileAt bytes volid units file
file-at bytes volid units mark [] end from reached file (at, below, is) = absurd (omega (arith, below))
file-at bytes volid units mark (front ∷ files) end from reached file (zero, below, is) = subst (FileAt bytes volid units) is record {
  reached = subst (IsReached bytes volid units) (sym from.0) reached;
  opened = subst (λ (n : ℕ). ValidBlock (block_at bytes n) volid n (kinds.Mark (length front.places) units)) (sym from.0) from.1;
  places = subst (λ (n : ℕ). AreDataPlaces bytes volid units (n + 1) front.places) (sym from.0) from.2;
}
file-at bytes volid units mark (front ∷ files) end from reached file (suc at, below, is) =
    file-at bytes volid units (mark + units * length front.places + 1) files end from.3 (next mark (length front.places) reached from.1) file
    (at, omega (arith, below), is)

place-holds : (bytes : List ℕ) (volid units from : ℕ) (earlier later : List DataPlace) (chunks : List ChunkText)
    → AreDataPlaces bytes volid units from (earlier ++ Whole chunks ∷ later)
    → HoldsChunks (data_at units bytes (from + units * length earlier)) volid (from + units * length earlier) units chunks
place-holds bytes volid units from [] later chunks are =
    let e : from ≡ from + units * 0 = omega arith in subst (λ (n : ℕ). HoldsChunks (data_at units bytes n) volid n units chunks) e are.0
place-holds bytes volid units from (place ∷ earlier) later chunks are =
    let e : from + units + units * length earlier ≡ from + units * suc (length earlier) = omega arith in
    subst (λ (n : ℕ). HoldsChunks (data_at units bytes n) volid n units chunks) e (place-holds bytes volid units (from + units) earlier later chunks are.1)

length-split : (earlier later : List DataPlace) (chunks : List ChunkText) → length earlier < length (earlier ++ Whole chunks ∷ later)
length-split [] later chunks = omega arith
length-split (place ∷ earlier) later chunks = let e = length-split earlier later chunks in omega (arith, e)

pub files-stand : (bytes : List ℕ) (label : Label) (one : Standing) (files : List CommittedFile) (end : End) → HasLabel bytes label
    → FilesFrom bytes one.volid label.units 1 files end → InFiles label.volid.0 label.units files one → StandsIn bytes one
files-stand bytes label one files end labelled from inside =
    let units = label.units in
    let at = file-at bytes one.volid units 1 files end from first inside.file inside.among in
    let chunks = inside.before ++ one.chunk ∷ inside.after in
    let m = inside.mark in
    let size : length inside.file.places ≡ length (inside.earlier ++ Whole chunks ∷ inside.later) = ap length inside.places in
    let more = length-split inside.earlier inside.later chunks in
    let held = place-holds bytes one.volid units (inside.file.mark + 1) inside.earlier inside.later chunks
    (subst (AreDataPlaces bytes one.volid units (inside.file.mark + 1)) inside.places at.places) in
    record {
      label = label;
      labelled = labelled;
      volume = inside.volume;
      reached = subst (IsReached bytes one.volid units) (sym m) at.reached;
      count = length inside.file.places;
      opened = subst (λ (n : ℕ). ValidBlock (block_at bytes n) one.volid n (kinds.Mark (length inside.file.places) units)) (sym m) at.opened;
      index = length inside.earlier;
      within = omega (arith, size, more);
      block = inside.block ∙ ap (λ (n : ℕ). n + 1 + units * length inside.earlier) (sym m);
      before = inside.before;
      after = inside.after;
      holds = subst (λ (n : ℕ). HoldsChunks (data_at units bytes n) one.volid n units chunks) (sym inside.block) held;
      start = inside.start;
    }

-- ---- cartridges

same_label : (one other : Label) → kinds.Label one ≡ kinds.Label other → one ≡ other
same_label one other same = cc same

pub one-label : (bytes : List ℕ) (label : Label) (one : Standing) → HasLabel bytes label → (stands : StandsIn bytes one) → stands.label ≡ label
one-label bytes label one labelled stands =
    same_label stands.label label (one_block (block_at bytes 0) stands.label.volid.0 0 label.volid.0 0 (kinds.Label stands.label) (kinds.Label label)
    stands.labelled labelled).2

from-one : (bytes : List ℕ) (volid other units : ℕ) (files : List CommittedFile) (end : End) → volid ≡ other → FilesFrom bytes other units 1 files end
    → FilesFrom bytes volid units 1 files end
from-one bytes volid other units files end same from = subst (λ (n : ℕ). FilesFrom bytes n units 1 files end) (sym same) from

in-files-of : (bytes : List ℕ) (label : Label) (files : List CommittedFile) (end : End) (one : Standing) → HasLabel bytes label
    → FilesFrom bytes label.volid.0 label.units 1 files end → StandsIn bytes one → InFiles label.volid.0 label.units files one
in-files-of bytes label files end one labelled from stands =
    let same = one-label bytes label one labelled stands in
    let volid : one.volid ≡ label.volid.0 = stands.volume ∙ ap (λ (l : Label). l.volid.0) same in
    let units : stands.label.units ≡ label.units = ap (λ (l : Label). l.units) same in
    let here = from-one bytes one.volid label.volid.0 label.units files end volid from in
    let inside = stands-in-files bytes one files end stands (subst (λ (u : ℕ). FilesFrom bytes one.volid u 1 files end) (sym units) here) in
    subst (λ (v : ℕ). InFiles v label.units files one) volid (subst (λ (u : ℕ). InFiles one.volid u files one) units inside)

pub stand_in_files : (bytes : List ℕ) (label : Label) (files : List CommittedFile) (end : End) (one : Standing)
    → Committed bytes (Labelled label files end) → StandsIn bytes one ↔ InFiles label.volid.0 label.units files one
stand_in_files bytes label files end one held = (
  (λ stands. in-files-of bytes label files end one held.0 held.1 stands),
  (λ inside.
      files-stand bytes label one files end held.0 (from-one bytes one.volid label.volid.0 label.units files end inside.volume held.1) inside),
)

label_opens : (bytes : List ℕ) (label : Label) → HasLabel bytes label → slice_index bytes 0 ≡ 0x4C
label_opens bytes label valid =
    sym (first_byte 0 bytes) ∙ ap (λ (block : List ℕ). slice_index block 0) valid.3 ∙ kind-block_text 0x4C label.units 4096 label.volid.0 0 _

pub none_unlabelled : (bytes : List ℕ) (one : Standing) → Committed bytes Unlabelled → StandsIn bytes one → ⊥
none_unlabelled bytes one closed stands = closed (label_opens bytes stands.label stands.labelled)

pub none_bad : (bytes : List ℕ) (one : Standing) → Committed bytes BadLabel → StandsIn bytes one → ⊥
none_bad bytes one bad stands = bad.1 stands.label stands.labelled
