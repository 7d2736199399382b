-- With a file added there stand the chunks that stood, and those of the file.
use Rattle.std.proofs.Common.{◌≡◌, ◌⊎◌, inl, inr, ℕ, zero, suc, ◌+◌, ◌*◌, List, [], ◌∷◌, ◌++◌, length, map, refl, sym, ap, ◌∙◌, arith}
use Rattle.std.specs.List.{Contains}
use Rattle.std.specs.Prelude.{◌↔◌}
use Rattle.std.proofs.lemmas.List.Elements.{Contains-append_cases, Contains-append_left, Contains-push}
use Rattle.volume_block.specs.Chunks.{ChunkText}
use Rattle.volume_block.specs.Standing.{Standing, InBlocks}
use Rattle.volume_block.specs.declared.label.Label.{Label}
use Rattle.volume_store.specs.Committed.{DataPlace, Whole, CommittedFile, Closed, Labelled, Committed}
use Rattle.volume_store.specs.Standing.{StandsIn, InFiles}
use Rattle.volume_store.specs.Writes.{added_file, with_file}
use Rattle.volume_store.proofs.StandingFiles.{stand_in_files}

record Splits (blocks : List (List ChunkText)) (chunks : List ChunkText) (count : ℕ) : Type 0 where
  pub front : List (List ChunkText)
  pub back : List (List ChunkText)
  pub parts : blocks ≡ front ++ chunks ∷ back
  pub size : length front ≡ count

map-splits : (blocks : List (List ChunkText)) (earlier later : List DataPlace) (chunks : List ChunkText) → map Whole blocks ≡ earlier ++ Whole chunks ∷ later
    → Splits blocks chunks (length earlier)
map-splits [] [] later chunks is = cc
map-splits [] (place ∷ earlier) later chunks is = cc
map-splits (block ∷ blocks) [] later chunks is = record {
  front = [];
  back = blocks;
  parts = let e : block ≡ chunks = cc in ap (λ (x : List ChunkText). x ∷ blocks) e;
  size = refl;
}
map-splits (block ∷ blocks) (place ∷ earlier) later chunks is =
    let rest : map Whole blocks ≡ earlier ++ Whole chunks ∷ later = cc in
    let more = map-splits blocks earlier later chunks rest in
    record { front = block ∷ more.front; back = more.back; parts = ap (λ (xs : List (List ChunkText)). block ∷ xs) more.parts; size = ap suc more.size }

only-file : (one file : CommittedFile) → Contains (one ∷ []) file → one ≡ file
only-file one file (zero, below, is) = is
only-file one file (suc at, below, is) = absurd (omega (arith, below))

among-files : (volid units : ℕ) (files others : List CommittedFile) (one : Standing) → (inside : InFiles volid units files one) → Contains others inside.file
    → InFiles volid units others one
among-files volid units files others one inside among = record {
  volume = inside.volume;
  file = inside.file;
  among = among;
  mark = inside.mark;
  earlier = inside.earlier;
  before = inside.before;
  after = inside.after;
  later = inside.later;
  places = inside.places;
  block = inside.block;
  start = inside.start;
}

in-added : (volid mark units : ℕ) (blocks : List (List ChunkText)) (files : List CommittedFile) (one : Standing)
    → InFiles volid units (files ++ added_file mark blocks ∷ []) one → InFiles volid units files one ⊎ InBlocks volid mark units blocks one
in-added volid mark units blocks files one inside = elim (Contains-append_cases files (added_file mark blocks ∷ []) inside.file inside.among) [
  | inl before ↦ inl (among-files volid units (files ++ added_file mark blocks ∷ []) files one inside before)
  | inr last ↦
      let e : added_file mark blocks ≡ inside.file = only-file (added_file mark blocks) inside.file last in
      let at : mark ≡ inside.file.mark = ap (λ (file : CommittedFile). file.mark) e in
      let split = map-splits blocks inside.earlier inside.later (inside.before ++ one.chunk ∷ inside.after)
      (ap (λ (file : CommittedFile). file.places) e ∙ inside.places) in
      let b = inside.block in
      let size = split.size in
      inr record {
        volume = inside.volume;
        at = inside.mark ∙ sym at;
        earlier = split.front;
        before = inside.before;
        after = inside.after;
        later = split.back;
        parts = split.parts;
        block = b ∙ ap (λ (n : ℕ). n + 1 + units * length inside.earlier) (sym at) ∙ ap (λ (n : ℕ). mark + 1 + units * n) (sym size);
        start = inside.start;
      }
]

kept-file : (volid units : ℕ) (files : List CommittedFile) (added : CommittedFile) (one : Standing) → InFiles volid units files one
    → InFiles volid units (files ++ added ∷ []) one
kept-file volid units files added one inside =
    among-files volid units files (files ++ added ∷ []) one inside (Contains-append_left files (added ∷ []) inside.file inside.among)

whole-long : (blocks : List (List ChunkText)) → length (map Whole blocks) ≡ length blocks
whole-long [] = refl
whole-long (block ∷ blocks) = ap suc (whole-long blocks)

whole-append : (front back : List (List ChunkText)) → map Whole (front ++ back) ≡ map Whole front ++ map Whole back
whole-append [] back = refl
whole-append (block ∷ front) back = ap (λ (places : List DataPlace). Whole block ∷ places) (whole-append front back)

new-file : (volid mark units : ℕ) (blocks : List (List ChunkText)) (files : List CommittedFile) (one : Standing) → InBlocks volid mark units blocks one
    → InFiles volid units (files ++ added_file mark blocks ∷ []) one
new-file volid mark units blocks files one inside =
    let b = inside.block in
    let size : length (map Whole inside.earlier) ≡ length inside.earlier = whole-long inside.earlier in
    record {
      volume = inside.volume;
      file = added_file mark blocks;
      among = Contains-push files (added_file mark blocks);
      mark = inside.at;
      earlier = map Whole inside.earlier;
      before = inside.before;
      after = inside.after;
      later = map Whole inside.later;
      places = ap (map Whole) inside.parts ∙ whole-append inside.earlier ((inside.before ++ one.chunk ∷ inside.after) ∷ inside.later);
      block = b ∙ ap (λ (n : ℕ). mark + 1 + units * n) (sym size);
      start = inside.start;
    }

pub file_adds : (old new : List ℕ) (label : Label) (files : List CommittedFile) (mark : ℕ) (blocks : List (List ChunkText)) (one : Standing)
    → Committed old (Labelled label files (Closed mark)) → Committed new (with_file label files mark blocks)
    → StandsIn new one ↔ (StandsIn old one ⊎ InBlocks label.volid.0 mark label.units blocks one)
file_adds old new label files mark blocks one before now =
    let added = added_file mark blocks in
    let after = stand_in_files new label (files ++ added ∷ []) (Closed (mark + label.units * length blocks + 1)) one now in
    let earlier = stand_in_files old label files (Closed mark) one before in (
      (λ stands. elim (in-added label.volid.0 mark label.units blocks files one (after.0 stands)) [
        | inl kept ↦ inl (earlier.1 kept)
        | inr more ↦ inr more
      ]),
      (λ either. elim either [
        | inl kept ↦ after.1 (kept-file label.volid.0 label.units files added one (earlier.0 kept))
        | inr more ↦ after.1 (new-file label.volid.0 mark label.units blocks files one more)
      ]),
    )
