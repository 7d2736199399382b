-- A label and the closed block behind it, as they are written.
use Rattle.std.proofs.Common.{◌≡◌, ◌⊎◌, inl, inr, subst, ℕ, List, [], ◌∷◌, ◌++◌, length, drop, replicate, get_or, refl, sym, ap, ◌∙◌, arith}
use Rattle.std.proofs.lemmas.List.{append_assoc, length-append, drop-drop}
use Rattle.std.proofs.lemmas.Bool.{cases_eq}
use Rattle.volume_block.specs.Layout.{block_text}
use Rattle.volume_block.specs.Valid.{IsLabel, label_text}
use Rattle.volume_block.specs.Region.{closed_block}
use Rattle.volume_block.specs.declared.label.Label.{Label}
use Rattle.volume_block.proofs.Lengths.{length-label_text, length-closed_block}
use Rattle.room_disk.specs.Crash.{overlaid, Overlays, Torn, GatedTorn}
use Rattle.room_disk.specs.Writing.{Then, TornThen}
use Rattle.room_disk.proofs.Anew.{closing}
use Rattle.room_disk.proofs.Overlay.{letter_whole, overlaid_first}
use Rattle.volume_store.specs.Committed.{block_at, kind_byte_at, Committed, Unlabelled}
use Rattle.volume_store.specs.Writes.{labelled, without_files, Relabels, IsOpening, IsBeingLabelled}
use Rattle.volume_store.specs.Reads.{IsClosed}
use Rattle.volume_store.proofs.Blocks.{block_behind, byte_behind}
use Rattle.volume_store.proofs.Committing.{first_zero}

-- the gate letter in front of the rest
pub label_gate : (label : Label) (rest : List ℕ) → 0x4C ∷ drop 1 (label_text label ++ rest) ≡ label_text label ++ rest
unfolding block_text
label_gate label rest = refl

pub opens_labelled : (label : Label) (blocks rest old : List ℕ) → length (label_text label) ≡ 4096
    → blocks ≡ label_text label ++ closed_block → rest ≡ drop 1 blocks → overlaid 0 (0x4C ∷ rest) old ≡ labelled label old
opens_labelled label blocks rest old long whole behind =
    ap (λ text. overlaid 0 (0x4C ∷ text) old) (behind ∙ ap (drop 1) whole)
    ∙ ap (λ text. overlaid 0 text old) (label_gate label closed_block)
    ∙ overlaid_first (label_text label ++ closed_block) old 8192 (omega (arith, length-append (label_text label) closed_block, long, length-closed_block))

-- a labelled cartridge has the label and no file
pub labelled_empty : (label : Label) (old : List ℕ) → IsLabel label → Committed (labelled label old) (without_files label)
labelled_empty label old allowed =
    let text = label_text label in
    let long : length text ≡ 4096 = length-label_text label allowed in
    let split : labelled label old ≡ [] ++ text ++ (closed_block ++ drop 8192 old) = append_assoc text closed_block (drop 8192 old) in
    let next : labelled label old ≡ text ++ 0 ∷ (replicate 4095 0 ++ drop 8192 old) =
    append_assoc text closed_block (drop 8192 old) ∙ ap (λ zeros. text ++ (zeros ++ drop 8192 old)) (first_zero 4095) in (
      (allowed, refl, refl, ap (λ bytes. block_at bytes 0) split ∙ block_behind 4096 0 [] text (closed_block ++ drop 8192 old) refl long),
      (
        refl,
        rw next (omega (arith, long, length-append text (0 ∷ (replicate 4095 0 ++ drop 8192 old)))),
        λ opens. (let zero_byte : kind_byte_at (labelled label old) 1 ≡ 0 =
            ap (λ bytes. kind_byte_at bytes 1) next ∙ byte_behind 4096 0 text (replicate 4095 0 ++ drop 8192 old) long in
            absurd (omega (arith, sym zero_byte ∙ opens))),
      ),
    )

-- a cartridge whose first byte was written as zero is closed
pub cleared : (old new : List ℕ) → new ≡ overlaid 0 (0 ∷ []) old → IsClosed new
cleared old new is =
    let front : new ≡ 0 ∷ drop 1 old = is ∙ overlaid_first (0 ∷ []) old 1 refl in
    (rw front (omega arith), λ opens. (let first : get_or new 0 0 ≡ 0 = ap (λ bytes. get_or bytes 0 0) front in absurd (omega (arith, sym first ∙ opens))))

-- closing keeps what stands behind the first byte
pub labelled_closed : (label : Label) (old : List ℕ) → labelled label (overlaid 0 (0 ∷ []) old) ≡ labelled label old
labelled_closed label old =
    ap (λ bytes. label_text label ++ closed_block ++ bytes)
    (ap (drop 8192) (overlaid_first (0 ∷ []) old 1 refl) ∙ drop-drop 8191 1 old)

-- the images of closing a cartridge
pub closing_torn : (old new : List ℕ) → Torn 0 (0 ∷ []) old new → (new ≡ old) ⊎ Committed new Unlabelled
closing_torn old new torn = closing 0x4C old new (inr (inr (inl refl))) torn

-- the images of opening a label
pub opening_torn : (label : Label) (old new blocks rest : List ℕ) → IsLabel label → IsClosed old
    → blocks ≡ label_text label ++ closed_block → rest ≡ drop 1 blocks
    → GatedTorn 0 0x4C rest old new → Committed new Unlabelled ⊎ Committed new (without_files label)
opening_torn label old new blocks rest allowed closed whole behind (inl torn) =
    inl (λ opens. closed.1 (sym (torn.before 0 (omega arith) closed.0) ∙ opens))
opening_torn label old new blocks rest allowed closed whole behind (inr torn) =
    elim (cases_eq (get_or new 0 0) 0x4C) [
      | inr shut ↦ inl shut
      | inl opens ↦ inr (
          let P : List ℕ → Type 0 = λ bytes. Committed bytes (without_files label) in
          subst P (sym (letter_whole 0 0x4C rest old new torn opens
          ∙ opens_labelled label blocks rest old (length-label_text label allowed) whole behind))
          (labelled_empty label old allowed))
    ]

-- ---- closing a cartridge and opening its label

pub relabels : (label : Label) (old new : List ℕ) → Then (Overlays 0 (0 ∷ [])) (Relabels label) old new → Relabels label old new
relabels label old new both = record {
  bytes = both.2.bytes ∙ ap (labelled label) both.1 ∙ labelled_closed label old;
  empty = both.2.empty;
}

pub being_labelled : (label : Label) (old new : List ℕ)
    → TornThen (Torn 0 (0 ∷ [])) (Overlays 0 (0 ∷ [])) (IsOpening label) old new → IsBeingLabelled label old new
being_labelled label old new (inl torn) =
    elim (closing_torn old new torn) [ inl same ↦ inl same | inr shut ↦ inr (inl shut) ]
being_labelled label old new (inr both) = inr (both.2 (cleared old both.0 both.1))
