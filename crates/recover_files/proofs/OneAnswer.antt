-- Each place of a stream has one answer.
use Rattle.std.proofs.Common.{◌≡◌, ℕ, ◌<◌, List, [], ◌∷◌, length, Some, None, refl, sym, ap, subst, ◌∙◌, arith, inl, inr}
use Rattle.std.specs.Prelude.{Result, Ok, Err, Option}
use Rattle.std.proofs.lemmas.Bool.{cases_lt}
use Rattle.room_base.specs.declared.numbers.Volid.{Volid}
use Rattle.volume_block.specs.Chunks.{ChunkText, chunks_text}
use Rattle.volume_block.specs.Valid.{HoldsChunks}
use Rattle.volume_block.specs.declared.block.Block.TheVariants as kinds
use Rattle.volume_block.proofs.OneBlock.{one_list_of_chunks}
use Rattle.volume_store.specs.Committed.{data_at}
use Rattle.volume_store.proofs.Finding.{one_stands}
use Rattle.media_db.specs.declared.copies.Section.{Section}
use Rattle.media_db.specs.declared.copies.SetCopy.{SetCopy}
use Rattle.media_db.specs.declared.records.Record.{Record}
use Rattle.recover_files.specs.Bytes.{GiveByte, GiveNone}
use Rattle.recover_files.specs.Sections.{HasChunks, IsInvalid, BlockGives, BlockLacks, number_at, SectionGives, SectionLacks, IsFirstInvalid, AreValid, IsBlamed}
use Rattle.recover_files.specs.StreamAt.{Shelf, bytes_of, CopyGives, CopyLacks, CopiesGive, CopiesLack, first_spot, first_section, BlamesSpot, Blames, CopiesAnswer, copies_of, StreamAt}
use Rattle.recover_files.specs.declared.spots.Spot.{Spot}
use Rattle.recover_files.specs.declared.fault.RangeFault.{RangeFault}
use Rattle.recover_files.specs.declared.fault.RangeFault.TheVariants as faults
use Rattle.recover_files.proofs.Places.{one_units}

-- ---- chunks

one_byte : (ssid copy place : ℕ) (chunks : List ChunkText) (one other : ℕ) → GiveByte ssid copy place chunks one → GiveByte ssid copy place chunks other → one ≡ other
one_byte ssid copy place [] one other gives gave = absurd gives
one_byte ssid copy place (chunk ∷ chunks) one other (inl here) (inl there) = here.1 ∙ sym there.1
one_byte ssid copy place (chunk ∷ chunks) one other (inl here) (inr later) = absurd (later.0 here.0)
one_byte ssid copy place (chunk ∷ chunks) one other (inr later) (inl here) = absurd (later.0 here.0)
one_byte ssid copy place (chunk ∷ chunks) one other (inr later) (inr behind) = one_byte ssid copy place chunks one other later.1 behind.1

some_or_none : (ssid copy place : ℕ) (chunks : List ChunkText) (byte : ℕ) → GiveByte ssid copy place chunks byte → GiveNone ssid copy place chunks → ⊥
some_or_none ssid copy place [] byte gives none = gives
some_or_none ssid copy place (chunk ∷ chunks) byte (inl here) none = none.0 here.0
some_or_none ssid copy place (chunk ∷ chunks) byte (inr later) none = some_or_none ssid copy place chunks byte later.1 none.1

-- ---- blocks

same_units : (a b c d : ℕ) → kinds.Data a b ≡ kinds.Data c d → b ≡ d
same_units a b c d same = cc same

one_chunks : (bytes : List ℕ) (volid number : ℕ) (chunks others : List ChunkText) → HasChunks bytes volid number chunks → HasChunks bytes volid number others → chunks ≡ others
one_chunks bytes volid number chunks others has had =
    let same = same_units _ has.units _ had.units (one_stands bytes volid number (kinds.Data (length (chunks_text chunks)) has.units)
    (kinds.Data (length (chunks_text others)) had.units) (chunks, has.holds, refl) (others, had.holds, refl)) in
    let Holds : ℕ → Type 0 = λ (n : ℕ). HoldsChunks (data_at n bytes number) volid number n others in
    one_list_of_chunks (data_at has.units bytes number) volid number has.units volid number has.units chunks others has.holds
    (subst Holds (sym same) had.holds)

one_block_byte : (bytes : List ℕ) (volid number ssid copy place one other : ℕ) → BlockGives bytes volid number ssid copy place one
    → BlockGives bytes volid number ssid copy place other → one ≡ other
one_block_byte bytes volid number ssid copy place one other gives gave =
    let same = one_chunks bytes volid number gave.chunks gives.chunks gave.has gives.has in
    one_byte ssid copy place gives.chunks one other gives.gives (subst (λ (l : List ChunkText). GiveByte ssid copy place l other) same gave.gives)

block_or_none : (bytes : List ℕ) (volid number ssid copy place byte : ℕ) → BlockGives bytes volid number ssid copy place byte
    → BlockLacks bytes volid number ssid copy place → ⊥
block_or_none bytes volid number ssid copy place byte gives lacks =
    some_or_none ssid copy place gives.chunks byte gives.gives (lacks gives.chunks gives.has)

-- ---- sections

one_section_byte : (bytes : List ℕ) (section : Section) (ssid copy place one other : ℕ) → SectionGives bytes section ssid copy place one
    → SectionGives bytes section ssid copy place other → one ≡ other
one_section_byte bytes section ssid copy place one other gives gave =
    let volid = section.volid.0 in
    let same = one_units bytes section gave.units gives.units gave.told gives.told in
    let Gave : ℕ → Type 0 = λ (u : ℕ). BlockGives bytes volid (number_at section u gave.index) ssid copy place other in
    let First : ℕ → Type 0 = λ (u : ℕ). (earlier : ℕ) → earlier < gave.index → BlockLacks bytes volid (number_at section u earlier) ssid copy place in
    let there = subst Gave same gave.gives in
    let before = subst First same gave.first in
    elim (cases_lt gives.index gave.index) [
      | inl less ↦ absurd (block_or_none bytes volid (number_at section gives.units gives.index) ssid copy place one gives.gives (before gives.index less))
      | inr more ↦ elim (cases_lt gave.index gives.index) [
        | inl less ↦ absurd (block_or_none bytes volid (number_at section gives.units gave.index) ssid copy place other there (gives.first gave.index less))
        | inr most ↦ (
            let at : gave.index ≡ gives.index = omega (arith, more, most) in
            let At : ℕ → Type 0 = λ (i : ℕ). BlockGives bytes volid (number_at section gives.units i) ssid copy place other in
            one_block_byte bytes volid (number_at section gives.units gives.index) ssid copy place one other gives.gives (subst At at there))
      ]
    ]

section_or_none : (bytes : List ℕ) (section : Section) (ssid copy place byte : ℕ) → SectionGives bytes section ssid copy place byte
    → SectionLacks bytes section ssid copy place → ⊥
section_or_none bytes section ssid copy place byte gives lacks =
    block_or_none bytes section.volid.0 (number_at section gives.units gives.index) ssid copy place byte gives.gives
    (lacks gives.units gives.index gives.told gives.within)

-- ---- copies

same_spot : (one other : Spot) → Some one ≡ Some other → one ≡ other
same_spot one other same = cc same

one_copy_byte : (shelf : Shelf) (ssid place : ℕ) (copy : SetCopy) (one other : ℕ) → CopyGives shelf ssid copy place one → CopyGives shelf ssid copy place other → one ≡ other
one_copy_byte shelf ssid place copy one other gives gave =
    let same = same_spot gave.spot gives.spot (sym gave.at ∙ gives.at) in
    let Gave : Spot → Type 0 = λ (s : Spot). SectionGives (bytes_of shelf s) s.section ssid copy.no.0 place other in
    one_section_byte (bytes_of shelf gives.spot) gives.spot.section ssid copy.no.0 place one other gives.gives (subst Gave same gave.gives)

copy_or_none : (shelf : Shelf) (ssid place : ℕ) (copy : SetCopy) (byte : ℕ) → CopyGives shelf ssid copy place byte → CopyLacks shelf ssid copy place → ⊥
copy_or_none shelf ssid place copy byte gives lacks =
    section_or_none (bytes_of shelf gives.spot) gives.spot.section ssid copy.no.0 place byte gives.gives (lacks gives.spot gives.at)

one_copies_byte : (shelf : Shelf) (ssid : ℕ) (copies : List SetCopy) (place one other : ℕ) → CopiesGive shelf ssid copies place one → CopiesGive shelf ssid copies place other → one ≡ other
one_copies_byte shelf ssid [] place one other gives gave = absurd gives
one_copies_byte shelf ssid (copy ∷ copies) place one other (inl here) (inl there) = one_copy_byte shelf ssid place copy one other here there
one_copies_byte shelf ssid (copy ∷ copies) place one other (inl here) (inr later) = absurd (copy_or_none shelf ssid place copy one here later.0)
one_copies_byte shelf ssid (copy ∷ copies) place one other (inr later) (inl here) = absurd (copy_or_none shelf ssid place copy other here later.0)
one_copies_byte shelf ssid (copy ∷ copies) place one other (inr later) (inr behind) = one_copies_byte shelf ssid copies place one other later.1 behind.1

copies_or_none : (shelf : Shelf) (ssid : ℕ) (copies : List SetCopy) (place byte : ℕ) → CopiesGive shelf ssid copies place byte → CopiesLack shelf ssid copies place → ⊥
copies_or_none shelf ssid [] place byte gives lacks = gives
copies_or_none shelf ssid (copy ∷ copies) place byte (inl here) lacks = copy_or_none shelf ssid place copy byte here lacks.0
copies_or_none shelf ssid (copy ∷ copies) place byte (inr later) lacks = copies_or_none shelf ssid copies place byte later.1 lacks.1

-- ---- what is blamed

one_invalid : (bytes : List ℕ) (section : Section) (one other : ℕ) → IsFirstInvalid bytes section one → IsFirstInvalid bytes section other → one ≡ other
one_invalid bytes section one other is was =
    let volid = section.volid.0 in
    let same = one_units bytes section was.units is.units was.told is.told in
    let here : IsInvalid bytes volid (number_at section is.units is.index) = subst (λ (n : ℕ). IsInvalid bytes volid n) is.is is.invalid in
    let at : other ≡ number_at section is.units was.index = was.is ∙ ap (λ (u : ℕ). number_at section u was.index) same in
    let there : IsInvalid bytes volid (number_at section is.units was.index) = subst (λ (n : ℕ). IsInvalid bytes volid n) at was.invalid in
    let First : ℕ → Type 0 = λ (u : ℕ). (earlier : ℕ) → earlier < was.index → ¬ IsInvalid bytes volid (number_at section u earlier) in
    let before = subst First same was.first in
    elim (cases_lt is.index was.index) [
      | inl less ↦ absurd (before is.index less here)
      | inr more ↦ elim (cases_lt was.index is.index) [
        | inl less ↦ absurd (is.first was.index less there)
        | inr most ↦ (
            let index : is.index ≡ was.index = omega (arith, more, most) in
            is.is ∙ ap (λ (i : ℕ). number_at section is.units i) index ∙ sym at)
      ]
    ]

invalid_or_valid : (bytes : List ℕ) (section : Section) (number : ℕ) → IsFirstInvalid bytes section number → AreValid bytes section → ⊥
invalid_or_valid bytes section number is valid =
    valid is.units is.index is.told is.within (subst (λ (n : ℕ). IsInvalid bytes section.volid.0 n) is.is is.invalid)

one_blamed : (bytes : List ℕ) (section : Section) (one other : ℕ) → IsBlamed bytes section one → IsBlamed bytes section other → one ≡ other
one_blamed bytes section one other (inl is) (inl was) = one_invalid bytes section one other is was
one_blamed bytes section one other (inl is) (inr valid) = absurd (invalid_or_valid bytes section one is valid.0)
one_blamed bytes section one other (inr valid) (inl was) = absurd (invalid_or_valid bytes section other was valid.0)
one_blamed bytes section one other (inr valid) (inr sound) = valid.1 ∙ sym sound.1

volid_of_zero : (one other : Volid) → one.0 ≡ 0 → other.0 ≡ 0 → one ≡ other
volid_of_zero one other is was = let make : ℕ → Volid = λ (n : ℕ). record { 0 = n } in ap make (is ∙ sym was)

same_damaged : (volid other : Volid) (block number : ℕ) → volid ≡ other → block ≡ number → faults.Damaged volid block ≡ faults.Damaged other number
same_damaged volid other block number a b = cc (a, b)

one_damaged : (shelf : Shelf) (spot : Option Spot) (section : Option Section) (volid other : Volid) (block number : ℕ)
    → BlamesSpot shelf spot section volid block → BlamesSpot shelf spot section other number → faults.Damaged volid block ≡ faults.Damaged other number
one_damaged shelf (Some spot) section volid other block number is was =
    same_damaged volid other block number (is.0 ∙ sym was.0) (one_blamed (bytes_of shelf spot) spot.section block number is.1 was.1)
one_damaged shelf None section volid other block number is was =
    same_damaged volid other block number (volid_of_zero volid other is.1 was.1) (is.2 ∙ sym was.2)

-- where no section is in a slot, and there is one, no block is blamed
not_damaged : (shelf : Shelf) (spot : Option Spot) (found : Option Section) (section : Section) (volid : Volid) (block : ℕ) → spot ≡ None → found ≡ Some section
    → BlamesSpot shelf spot found volid block → ⊥
not_damaged shelf (Some spot) found section volid block none is blames = absurd (cc none)
not_damaged shelf None found section volid block none is blames = absurd (cc (sym blames.0 ∙ is))

same_section : (one other : Section) → Some one ≡ Some other → one ≡ other
same_section one other same = cc same

one_fault : (shelf : Shelf) (copies : List SetCopy) (place : ℕ) (one other : RangeFault) → Blames shelf copies place one → Blames shelf copies place other → one ≡ other
one_fault shelf copies place (faults.Offsite volid) (faults.Offsite other) is was =
    let same = same_section is.1.0 was.1.0 (sym is.1.1 ∙ was.1.1) in
    ap faults.Offsite (is.1.2 ∙ ap (λ (s : Section). s.volid) same ∙ sym was.1.2)
one_fault shelf copies place (faults.Offsite volid) (faults.Damaged other block) is was =
    absurd (not_damaged shelf (first_spot shelf.volumes shelf.home place copies) (first_section place copies) is.1.0 other block is.0 is.1.1 was)
one_fault shelf copies place (faults.Offsite volid) (faults.Failed file) is was = absurd was
one_fault shelf copies place (faults.Damaged volid block) (faults.Offsite other) is was =
    absurd (not_damaged shelf (first_spot shelf.volumes shelf.home place copies) (first_section place copies) was.1.0 volid block was.0 was.1.1 is)
one_fault shelf copies place (faults.Damaged volid block) (faults.Damaged other number) is was =
    one_damaged shelf (first_spot shelf.volumes shelf.home place copies) (first_section place copies) volid other block number is was
one_fault shelf copies place (faults.Damaged volid block) (faults.Failed file) is was = absurd was
one_fault shelf copies place (faults.Failed file) other is was = absurd is

-- ---- an answer

one_of_copies : (shelf : Shelf) (ssid : ℕ) (copies : List SetCopy) (place : ℕ) (one other : Result ℕ RangeFault) → CopiesAnswer shelf ssid copies place one
    → CopiesAnswer shelf ssid copies place other → one ≡ other
one_of_copies shelf ssid copies place (Ok one) (Ok other) is was = ap Ok (one_copies_byte shelf ssid copies place one other is was)
one_of_copies shelf ssid copies place (Ok one) (Err fault) is was = absurd (copies_or_none shelf ssid copies place one is was.0)
one_of_copies shelf ssid copies place (Err fault) (Ok other) is was = absurd (copies_or_none shelf ssid copies place other was is.0)
one_of_copies shelf ssid copies place (Err one) (Err other) is was = ap Err (one_fault shelf copies place one other is.1 was.1)

pub one_answer : (shelf : Shelf) (rows : List Record) (ssid place : ℕ) (one other : Result ℕ RangeFault) → StreamAt shelf rows ssid place one
    → StreamAt shelf rows ssid place other → one ≡ other
one_answer shelf rows ssid place one other is was = one_of_copies shelf ssid (copies_of ssid rows) place one other is was
