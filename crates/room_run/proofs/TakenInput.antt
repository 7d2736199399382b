-- Taking an input piece by piece.
use Rattle.std.proofs.Common.{◌≡◌, ◌≤◌, ℕ, ◌+◌, List, [], ◌++◌, length, take, drop, sym, ap, ◌∙◌, arith}
use Rattle.std.proofs.lemmas.List.{length-drop, drop-drop, take_all, take-take, take-append-le, length-take-le}
use Rattle.std.proofs.Math.Seq.{take-add, take-append-add}
use Rattle.room_run.specs.Stages.{Fills}

-- the bytes of one take behind those so far
pub fills_more : (before mid after buffer space : List ℕ) (taken count : ℕ) → Fills before mid buffer taken → taken ≤ length buffer
    → count ≤ length mid → after ≡ drop count mid → take count space ≡ take count mid
    → Fills before after (take taken buffer ++ space) (taken + count)
fills_more before mid after buffer space taken count so_far inside enough left given = record {
  enough = omega (arith, so_far.enough, enough, ap length so_far.left, length-drop taken before);
  filled =
      (let front : length (take taken buffer) ≡ taken = length-take-le taken buffer inside in
      ap (λ n. take (n + count) (take taken buffer ++ space)) (sym front)
      ∙ take-append-add (take taken buffer) space count
      ∙ ap (λ f. f ++ take count space) so_far.filled
      ∙ ap (λ g. take taken before ++ g) (given ∙ ap (take count) so_far.left)
      ∙ sym (take-add taken count before));
  left = left ∙ ap (drop count) so_far.left ∙ drop-drop count taken before;
}

-- a buffer with all the bytes that were left
pub fills_all : (before after buffer : List ℕ) (taken : ℕ) → Fills before after buffer taken → after ≡ [] → take taken buffer ≡ before
fills_all before after buffer taken so_far ended =
    let none : length before ≤ taken = omega (arith, length-drop taken before, ap length so_far.left, ap length ended) in
    so_far.filled ∙ take_all taken before none

-- nothing taken, and nothing left
pub fills_none : (before after buffer : List ℕ) → Fills before after buffer 0 → after ≡ [] → before ≡ []
fills_none before after buffer so_far ended = sym so_far.left ∙ ended

-- a buffer that is cut to what was taken
pub buffer_cut : (buffer behind : List ℕ) (taken long : ℕ) → taken ≤ length buffer → taken ≤ long
    → take taken (take long (buffer ++ behind)) ≡ take taken buffer
buffer_cut buffer behind taken long inside shorter =
    take-take taken long (buffer ++ behind) shorter ∙ take-append-le taken buffer behind inside
