-- A push keeps blocks allowed.
use Rattle.std.proofs.Common.{◌≡◌, ℕ, zero, suc, ◌+◌, ◌^◌, ◌≤◌, ◌<◌, List, [], ◌∷◌, ◌++◌, length, take, drop, refl, sym, ap, subst, ◌∙◌, arith}
use Rattle.std.proofs.lemmas.List.{append-nil, length-append, length-take, length-drop}
use Rattle.std.proofs.lemmas.List.Concat.{flat_map-append}
use Rattle.std.proofs.lemmas.List.Elements.{All-append}
use Rattle.volume_block.specs.Chunks.{ChunkText, IsChunk, chunk_text, chunks_text}
use Rattle.volume_block.specs.Valid.{AreChunks}
use Rattle.volume_block.specs.Region.{AreBlocks}
use Rattle.volume_block.specs.Layout.{data_size}
use Rattle.chunk_mux.specs.Packing.{payload_size, chunk_size, room_behind, chunk_of, new_blocks, packed}
use Rattle.chunk_mux.proofs.Filling.{allowed-chunk_of}
use Rattle.chunk_mux.proofs.Packing.{length-chunk_of}

some-more : (units : ℕ) (last more : List ChunkText) → AreChunks units last → AreChunks units more
    → 56 + (length (chunks_text last) + length (chunks_text more)) ≤ data_size units → AreChunks units (last ++ more)
some-more units [] more are ones fits = absurd (are.some refl)
some-more units (chunk ∷ last) more are ones fits =
    let long : length (chunks_text ((chunk ∷ last) ++ more)) ≡ length (chunks_text (chunk ∷ last)) + length (chunks_text more) =
    ap length (flat_map-append chunk_text (chunk ∷ last) more) ∙ length-append (chunks_text (chunk ∷ last)) (chunks_text more) in
    record {
      some = λ none. cc;
      fit = omega (arith, long, fits);
      each = All-append IsChunk (chunk ∷ last) more are.each ones.each;
    }

new-allowed : (units most more ssid copy offset : ℕ) (bytes : List ℕ) → 80 + most ≤ data_size units → 1 ≤ most
    → (1 ≤ ssid) × (ssid < 2 ^ 64) → (1 ≤ copy) × (copy < 2 ^ 32)
    → (1 ≤ length bytes → offset + length bytes ≤ 2 ^ 36) → AreBlocks units (new_blocks most more ssid copy offset bytes)
new-allowed units most zero ssid copy offset bytes fits some s c ends = tt
new-allowed units most (suc more) ssid copy offset [] fits some s c ends = tt
new-allowed units most (suc more) ssid copy offset (byte ∷ bytes) fits some s c ends =
    let last : offset + length (byte ∷ bytes) ≤ 2 ^ 36 = ends (omega arith) in
    let front = length-take most (byte ∷ bytes) in (
      allowed-chunk_of units ssid copy offset (take most (byte ∷ bytes)) s.0 s.1 c.0 c.1 (omega (arith, front, some)) (omega (arith, front, fits))
          (omega (arith, front, last)),
      new-allowed units most more ssid copy (offset + most) (drop most (byte ∷ bytes)) fits some s c
          (λ has. omega (arith, has, length-drop most (byte ∷ bytes), last)),
    )

last-allowed : (units : ℕ) (last : List ChunkText) (ssid copy offset : ℕ) (bytes : List ℕ) → AreChunks units last
    → (1 ≤ ssid) × (ssid < 2 ^ 64) → (1 ≤ copy) × (copy < 2 ^ 32) → offset + length bytes ≤ 2 ^ 36
    → length bytes ≤ room_behind (payload_size units) last → AreChunks units (last ++ chunk_of ssid copy offset bytes)
last-allowed units last ssid copy offset [] are s c ends fits = subst (AreChunks units) (sym (append-nil last)) are
last-allowed units last ssid copy offset (byte ∷ more) are s c ends fits =
    some-more units last (chunk_of ssid copy offset (byte ∷ more)) are
    (allowed-chunk_of units ssid copy offset (byte ∷ more) s.0 s.1 c.0 c.1 (omega arith) (omega (arith, fits)) ends)
    (omega (arith, length-chunk_of ssid copy offset (byte ∷ more) (omega arith), fits))

pub packed_allowed : (units : ℕ) (blocks : List (List ChunkText)) (ssid copy offset : ℕ) (piece : List ℕ) → 1 ≤ units
    → (1 ≤ ssid) × (ssid < 2 ^ 64) → (1 ≤ copy) × (copy < 2 ^ 32) → offset + length piece ≤ 2 ^ 36
    → AreBlocks units blocks → AreBlocks units (packed (payload_size units) blocks ssid copy offset piece)
packed_allowed units [] ssid copy offset piece has s c ends are =
    new-allowed units (chunk_size (payload_size units)) (length piece) ssid copy offset piece (omega arith) (omega arith) s c (λ some. ends)
packed_allowed units (last ∷ []) ssid copy offset piece has s c ends are =
    let room = room_behind (payload_size units) last in (
      last-allowed units last ssid copy offset (take room piece) are.0 s c (omega (arith, length-take room piece, ends))
          (omega (arith, length-take room piece)),
      new-allowed units (chunk_size (payload_size units)) (length piece) ssid copy (offset + room) (drop room piece) (omega arith) (omega arith) s c
          (λ some. omega (arith, some, length-drop room piece, ends)),
    )
packed_allowed units (block ∷ next ∷ blocks) ssid copy offset piece has s c ends are =
    (are.0, packed_allowed units (next ∷ blocks) ssid copy offset piece has s c ends are.1)
