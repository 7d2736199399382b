-- The bytes of a cartridge have one meaning.
use Rattle.std.proofs.Common.{◌≡◌, ℕ, ◌+◌, ◌*◌, ◌<◌, List, [], ◌∷◌, length, drop, slice_index, refl, sym, ap, subst, ◌∙◌, arith, inl, inr}
use Rattle.std.proofs.lemmas.List.{length-take, length-drop}
use Rattle.volume_block.specs.Valid.{ValidBlock, label_payload}
use Rattle.volume_block.specs.declared.label.Label.{Label}
use Rattle.volume_block.specs.declared.block.Block.TheVariants as kinds
use Rattle.volume_block.proofs.Lengths.{length-valid, kind-block_text}
use Rattle.volume_block.proofs.OneBlock.{one_block, one_list_of_chunks}
use Rattle.volume_store.specs.Committed.{part_at, block_at, data_at, kind_byte_at, DataPlace, Whole, Damaged, IsDataPlace, AreDataPlaces, CommittedFile, End, Closed, Stop, EndsAt, FilesFrom, Contents, Unlabelled, BadLabel, Labelled, HasLabel, Committed}
use Rattle.volume_store.proofs.Finding.{first_byte}

-- ---- marks and labels

-- a valid mark has the kind byte of an open one, and stands in the file
mark_opens : (bytes : List ℕ) (volid units mark count : ℕ) → ValidBlock (block_at bytes mark) volid mark (kinds.Mark count units) → kind_byte_at bytes mark ≡ 0x46
mark_opens bytes volid units mark count valid =
    sym (first_byte mark bytes) ∙ ap (λ (block : List ℕ). slice_index block 0) valid.4 ∙ kind-block_text 0x46 units 4096 volid mark _

mark_inside : (bytes : List ℕ) (volid units mark count : ℕ) → ValidBlock (block_at bytes mark) volid mark (kinds.Mark count units) → 4096 * mark < length bytes
unfolding part_at
mark_inside bytes volid units mark count valid =
    omega (
      arith,
      length-valid (block_at bytes mark) volid mark (kinds.Mark count units) valid,
      length-take 4096 (drop (4096 * mark) bytes),
      length-drop (4096 * mark) bytes,
    )

label_opens : (bytes : List ℕ) (label : Label) → HasLabel bytes label → slice_index bytes 0 ≡ 0x4C
label_opens bytes label valid =
    sym (first_byte 0 bytes) ∙ ap (λ (block : List ℕ). slice_index block 0) valid.3 ∙ kind-block_text 0x4C label.units 4096 label.volid.0 0 (label_payload label)

same_count : (one other units : ℕ) → kinds.Mark one units ≡ kinds.Mark other units → one ≡ other
same_count one other units same = cc same

one_mark : (block : List ℕ) (volid units mark one other : ℕ) → ValidBlock block volid mark (kinds.Mark one units)
    → ValidBlock block volid mark (kinds.Mark other units) → one ≡ other
one_mark block volid units mark one other valid others =
    same_count one other units (one_block block volid mark volid mark (kinds.Mark one units) (kinds.Mark other units) valid others).2

same_label : (one other : Label) → kinds.Label one ≡ kinds.Label other → one ≡ other
same_label one other same = cc same

one_label : (bytes : List ℕ) (one other : Label) → HasLabel bytes one → HasLabel bytes other → one ≡ other
one_label bytes one other valid others =
    same_label one other (one_block (block_at bytes 0) one.volid.0 0 other.volid.0 0 (kinds.Label one) (kinds.Label other) valid others).2

-- ---- data places

one_place : (bytes : List ℕ) (volid units number : ℕ) (one other : DataPlace) → IsDataPlace bytes volid units number one → IsDataPlace bytes volid units number other → one ≡ other
one_place bytes volid units number (Whole chunks) (Whole others) held holds =
    ap Whole (one_list_of_chunks (data_at units bytes number) volid number units volid number units chunks others held holds)
one_place bytes volid units number (Whole chunks) Damaged held damaged = absurd (damaged chunks held)
one_place bytes volid units number Damaged (Whole chunks) damaged held = absurd (damaged chunks held)
one_place bytes volid units number Damaged Damaged damaged broken = refl

one_list_of_places : (bytes : List ℕ) (volid units first : ℕ) (ones others : List DataPlace) → length ones ≡ length others
    → AreDataPlaces bytes volid units first ones → AreDataPlaces bytes volid units first others → ones ≡ others
one_list_of_places bytes volid units first [] [] count are is = refl
one_list_of_places bytes volid units first [] (other ∷ others) count are is = absurd (omega (arith, count))
one_list_of_places bytes volid units first (one ∷ ones) [] count are is = absurd (omega (arith, count))
one_list_of_places bytes volid units first (one ∷ ones) (other ∷ others) count are is =
    let front = one_place bytes volid units first one other are.0 is.0 in
    let rest = one_list_of_places bytes volid units (first + units) ones others (omega (arith, count)) are.1 is.1 in
    ap (λ (place : DataPlace). place ∷ ones) front ∙ ap (λ (places : List DataPlace). other ∷ places) rest

-- ---- files

-- files don't end where a valid mark stands
no_end : (bytes : List ℕ) (volid units mark count : ℕ) (end : End) → ValidBlock (block_at bytes mark) volid mark (kinds.Mark count units)
    → EndsAt bytes volid units mark end → ⊥
no_end bytes volid units mark count (Closed place) valid ends = ends.2 (mark_opens bytes volid units mark count valid)
no_end bytes volid units mark count (Stop place) valid (is, inl short) = omega (arith, short, mark_inside bytes volid units mark count valid)
no_end bytes volid units mark count (Stop place) valid (is, inr bad) = bad.1 count valid

-- a mark place isn't closed and invalid
no_stop : (bytes : List ℕ) (volid units mark place stop : ℕ) → EndsAt bytes volid units mark (Closed place) → EndsAt bytes volid units mark (Stop stop) → ⊥
no_stop bytes volid units mark place stop ends (is, inl short) = omega (arith, short, ends.1)
no_stop bytes volid units mark place stop ends (is, inr bad) = ends.2 bad.0

one_end : (bytes : List ℕ) (volid units mark : ℕ) (one other : End) → EndsAt bytes volid units mark one → EndsAt bytes volid units mark other → one ≡ other
one_end bytes volid units mark (Closed place) (Closed other) ends is = ap Closed (ends.0 ∙ sym is.0)
one_end bytes volid units mark (Closed place) (Stop other) ends is = absurd (no_stop bytes volid units mark place other ends is)
one_end bytes volid units mark (Stop place) (Closed other) ends is = absurd (no_stop bytes volid units mark other place is ends)
one_end bytes volid units mark (Stop place) (Stop other) ends is = ap Stop (ends.0 ∙ sym is.0)

of_fields : ℕ → List DataPlace → CommittedFile
of_fields mark places = record { mark = mark; places = places }

has_fields : (file : CommittedFile) → of_fields file.mark file.places ≡ file
unfolding of_fields
has_fields file = refl

equal_files : (one other : CommittedFile) → one.mark ≡ other.mark → one.places ≡ other.places → one ≡ other
equal_files one other mark places =
    sym (has_fields one) ∙ ap (λ (n : ℕ). of_fields n one.places) mark ∙ ap (of_fields other.mark) places ∙ has_fields other

one_list_of_files : (bytes : List ℕ) (volid units mark : ℕ) (ones others : List CommittedFile) (one other : End)
    → FilesFrom bytes volid units mark ones one → FilesFrom bytes volid units mark others other → (ones ≡ others) × (one ≡ other)
one_list_of_files bytes volid units mark [] [] one other ends is = (refl, one_end bytes volid units mark one other ends is)
one_list_of_files bytes volid units mark [] (file ∷ others) one other ends is =
    absurd (no_end bytes volid units mark (length file.places) one is.1 ends)
one_list_of_files bytes volid units mark (file ∷ ones) [] one other are ends =
    absurd (no_end bytes volid units mark (length file.places) other are.1 ends)
one_list_of_files bytes volid units mark (file ∷ ones) (twin ∷ others) one other are is =
    let count : length file.places ≡ length twin.places =
    one_mark (block_at bytes mark) volid units mark (length file.places) (length twin.places) are.1 is.1 in
    let places = one_list_of_places bytes volid units (mark + 1) file.places twin.places count are.2 is.2 in
    let same : file ≡ twin = equal_files file twin (are.0 ∙ sym is.0) places in
    let From : ℕ → Type 0 = λ (n : ℕ). FilesFrom bytes volid units (mark + units * n + 1) others other in
    let rest = one_list_of_files bytes volid units (mark + units * length file.places + 1) ones others one other are.3 (subst From (sym count) is.3) in
    (ap (λ (f : CommittedFile). f ∷ ones) same ∙ ap (λ (files : List CommittedFile). twin ∷ files) rest.0, rest.1)

-- ---- cartridges

equal_contents : (label twin : Label) (ones others : List CommittedFile) (one other : End) → label ≡ twin → ones ≡ others → one ≡ other
    → Labelled label ones one ≡ Labelled twin others other
equal_contents label twin ones others one other labels files ends = cc

pub one_contents : (bytes : List ℕ) (one other : Contents) → Committed bytes one → Committed bytes other → one ≡ other
one_contents bytes Unlabelled Unlabelled is are = refl
one_contents bytes Unlabelled BadLabel closed bad = absurd (closed bad.0)
one_contents bytes Unlabelled (Labelled label files end) closed held = absurd (closed (label_opens bytes label held.0))
one_contents bytes BadLabel Unlabelled bad closed = absurd (closed bad.0)
one_contents bytes BadLabel BadLabel bad is = refl
one_contents bytes BadLabel (Labelled label files end) bad held = absurd (bad.1 label held.0)
one_contents bytes (Labelled label files end) Unlabelled held closed = absurd (closed (label_opens bytes label held.0))
one_contents bytes (Labelled label files end) BadLabel held bad = absurd (bad.1 label held.0)
one_contents bytes (Labelled label ones one) (Labelled twin others other) held holds =
    let same : label ≡ twin = one_label bytes label twin held.0 holds.0 in
    let From : Label → Type 0 = λ (l : Label). FilesFrom bytes l.volid.0 l.units 1 others other in
    let files = one_list_of_files bytes label.volid.0 label.units 1 ones others one other held.1 (subst From (sym same) holds.1) in
    equal_contents label twin ones others one other same files.0 files.1
