-- One chunk stands in one place.
use Rattle.std.proofs.Common.{◌≡◌, inl, inr, ℕ, zero, suc, ◌+◌, ◌*◌, ◌<◌, ◌≤◌, List, [], ◌∷◌, ◌++◌, length, refl, sym, subst, ap, ◌∙◌, arith}
use Rattle.std.proofs.lemmas.Bool.{cases_order}
use Rattle.volume_block.specs.Chunks.{ChunkText, chunks_text}
use Rattle.volume_block.specs.Standing.{Standing}
use Rattle.volume_block.specs.Valid.{ValidBlock, HoldsChunks}
use Rattle.volume_block.specs.declared.block.Block.TheVariants as kinds
use Rattle.volume_block.proofs.Lengths.{length-chunks_text}
use Rattle.volume_block.proofs.OneBlock.{one_list_of_chunks}
use Rattle.volume_block.proofs.Forms.{units_range}
use Rattle.std.proofs.Math.Nat.{mul-le-mul_left}
use Rattle.volume_block.specs.declared.label.Label.{Label}
use Rattle.volume_store.specs.Committed.{block_at, data_at}
use Rattle.volume_store.specs.Standing.{IsReached, first, next, StandsIn}
use Rattle.volume_store.proofs.StandingFiles.{one_mark, one-label}

-- ---- marks that are reached

reached_low : (bytes : List ℕ) (volid units mark : ℕ) → IsReached bytes volid units mark → 1 ≤ mark
reached_low bytes volid units _ first = omega arith
reached_low bytes volid units _ (next mark count reached valid) = omega (arith, reached_low bytes volid units mark reached)

-- a mark that is reached behind another one is behind its file
marks_apart : (limit : ℕ) (bytes : List ℕ) (volid units one other count : ℕ) → one + other ≤ limit → IsReached bytes volid units one
    → IsReached bytes volid units other → one < other → ValidBlock (block_at bytes one) volid one (kinds.Mark count units)
    → one + units * count + 1 ≤ other
marks_apart zero bytes volid units one other count few reached reaches before valid = absurd (omega (arith, few, before))
marks_apart (suc limit) bytes volid units one _ count few reached first before valid = absurd (omega (arith, reached_low bytes volid units one reached, before))
marks_apart (suc limit) bytes volid units one _ count few reached (next mark size reaches valid') before valid =
    elim (cases_order one mark) [
      | inl same ↦
          let counts : count ≡ size = one_mark (block_at bytes one) volid units one count size valid
          (subst (λ (n : ℕ). ValidBlock (block_at bytes n) volid n (kinds.Mark size units)) (sym same) valid') in
          let places : units * count ≡ units * size = ap (λ (n : ℕ). units * n) counts in
          omega (arith, same, places)
      | inr (inl less) ↦ omega (arith, less, marks_apart limit bytes volid units one mark count (omega (arith, few)) reached reaches less valid)
      | inr (inr more) ↦
          let behind = marks_apart limit bytes volid units mark one size (omega (arith, few)) reaches reached more valid' in
          absurd (omega (arith, before, behind))
    ]

-- ---- chunks of one block

same_chunk : (before others after rest : List ChunkText) (chunk other : ChunkText) → before ++ chunk ∷ after ≡ others ++ other ∷ rest
    → length (chunks_text before) ≡ length (chunks_text others) → chunk ≡ other
same_chunk [] [] after rest chunk other is long = let e : chunk ≡ other = cc in e
same_chunk [] (two ∷ others) after rest chunk other is long = absurd (omega (arith, long, length-chunks_text two others))
same_chunk (one ∷ before) [] after rest chunk other is long = absurd (omega (arith, long, length-chunks_text one before))
same_chunk (one ∷ before) (two ∷ others) after rest chunk other is long =
    let front : one ≡ two = cc in
    let tails : before ++ chunk ∷ after ≡ others ++ other ∷ rest = cc in
    let same : length one.bytes ≡ length two.bytes = ap (λ (c : ChunkText). length c.bytes) front in
    same_chunk before others after rest chunk other tails (omega (arith, long, length-chunks_text one before, length-chunks_text two others, same))

-- ---- standings

of_fields : ℕ → ℕ → ℕ → ℕ → ChunkText → Standing
of_fields volid mark block start chunk = record { volid = volid; mark = mark; block = block; start = start; chunk = chunk }

has_fields : (one : Standing) → of_fields one.volid one.mark one.block one.start one.chunk ≡ one
unfolding of_fields
has_fields one = refl

equal_standings : (one other : Standing) → one.volid ≡ other.volid → one.mark ≡ other.mark → one.block ≡ other.block → one.start ≡ other.start
    → one.chunk ≡ other.chunk → one ≡ other
equal_standings one other volids marks blocks starts chunks =
    sym (has_fields one) ∙ ap (λ (n : ℕ). of_fields n one.mark one.block one.start one.chunk) volids
    ∙ ap (λ (n : ℕ). of_fields other.volid n one.block one.start one.chunk) marks
    ∙ ap (λ (n : ℕ). of_fields other.volid other.mark n one.start one.chunk) blocks
    ∙ ap (λ (n : ℕ). of_fields other.volid other.mark other.block n one.chunk) starts
    ∙ ap (of_fields other.volid other.mark other.block other.start) chunks ∙ has_fields other

-- a data place is behind its mark, and before the next mark place
place_within : (units mark index count block : ℕ) → 1 ≤ units → index < count → block ≡ mark + 1 + units * index
    → (mark < block) × (block < mark + units * count + 1)
place_within units mark index count block some below is =
    let most : units * suc index ≤ units * count = mul-le-mul_left {m = suc index} {n = count} units below in
    (omega (arith, is), omega (arith, is, most, some))

one_labels : (bytes : List ℕ) (one other : Standing) → (stands : StandsIn bytes one) → (stood : StandsIn bytes other) → stands.label ≡ stood.label
one_labels bytes one other stands stood = one-label bytes stood.label one stood.labelled stands

same_mark : (bytes : List ℕ) (one other : Standing) → (stands : StandsIn bytes one) → (stood : StandsIn bytes other) → one.volid ≡ other.volid
    → one.block ≡ other.block → one.mark ≡ other.mark
same_mark bytes one other stands stood volids blocks =
    let units = stands.label.units in
    let same_units : stood.label.units ≡ units = sym (ap (λ (l : Label). l.units) (one_labels bytes one other stands stood)) in
    let some : 1 ≤ units = (units_range units stands.labelled.0.units).0 in
    let reaches : IsReached bytes one.volid units other.mark =
    subst (λ (n : ℕ). IsReached bytes n units other.mark) (sym volids) (subst (λ (u : ℕ). IsReached bytes other.volid u other.mark) same_units stood.reached) in
    let opened : ValidBlock (block_at bytes other.mark) one.volid other.mark (kinds.Mark stood.count units) =
    subst (λ (n : ℕ). ValidBlock (block_at bytes other.mark) n other.mark (kinds.Mark stood.count units)) (sym volids)
    (subst (λ (u : ℕ). ValidBlock (block_at bytes other.mark) other.volid other.mark (kinds.Mark stood.count u)) same_units stood.opened) in
    let w = place_within units one.mark stands.index stands.count one.block some stands.within stands.block in
    let v = place_within units other.mark stood.index stood.count other.block some stood.within
    (stood.block ∙ ap (λ (u : ℕ). other.mark + 1 + u * stood.index) same_units) in
    elim (cases_order one.mark other.mark) [
      | inl same ↦ same
      | inr (inl less) ↦
          let apart = marks_apart (one.mark + other.mark) bytes one.volid units one.mark other.mark stands.count (omega arith) stands.reached reaches less stands.opened in
          absurd (omega (arith, apart, w.1, v.0, blocks))
      | inr (inr more) ↦
          let apart = marks_apart (other.mark + one.mark) bytes one.volid units other.mark one.mark stood.count (omega arith) reaches stands.reached more opened in
          absurd (omega (arith, apart, w.0, v.1, blocks))
    ]

pub one_place : (bytes : List ℕ) (one other : Standing) → StandsIn bytes one → StandsIn bytes other → one.block ≡ other.block → one.start ≡ other.start
    → one ≡ other
one_place bytes one other stands stood blocks starts =
    let same = one_labels bytes one other stands stood in
    let units = stands.label.units in
    let same_units : stood.label.units ≡ units = sym (ap (λ (l : Label). l.units) same) in
    let volids : one.volid ≡ other.volid = stands.volume ∙ ap (λ (l : Label). l.volid.0) same ∙ sym stood.volume in
    let others = stood.before ++ other.chunk ∷ stood.after in
    let holds : HoldsChunks (data_at units bytes one.block) other.volid other.block units others =
    subst (λ (n : ℕ). HoldsChunks (data_at units bytes n) other.volid other.block units others) (sym blocks)
    (subst (λ (u : ℕ). HoldsChunks (data_at u bytes other.block) other.volid other.block u others) same_units stood.holds) in
    let lists : stands.before ++ one.chunk ∷ stands.after ≡ others =
    one_list_of_chunks (data_at units bytes one.block) one.volid one.block units other.volid other.block units _ _ stands.holds holds in
    let s = stands.start in
    let t = stood.start in
    let chunks : one.chunk ≡ other.chunk =
    same_chunk stands.before stood.before stands.after stood.after one.chunk other.chunk lists (omega (arith, starts, s, t)) in
    equal_standings one other volids (same_mark bytes one other stands stood volids blocks) blocks starts chunks
