-- Where bytes lie that are pushed: from their first block on.
use Rattle.std.proofs.Common.{◌≡◌, ℕ, suc, ◌+◌, ◌-◌, ◌≤◌, List, [], ◌∷◌, ◌++◌, length, take, drop, refl, sym, subst, arith, inl, inr}
use Rattle.std.proofs.Math.Nat.{mul-le-mul_left}
use Rattle.std.proofs.lemmas.Bool.Decides.{eqb_tells}
use Rattle.volume_block.specs.Chunks.{ChunkText}
use Rattle.chunk_mux.specs.Packing.{chunk_of, chunk_size, first_in, new_blocks, pack, packed, payload_size, room_in}
use Rattle.slot_changer.specs.Drives.{DriveView}
use Rattle.save_session.specs.Parts.{IsSection}
use Rattle.room_effects.specs.Effects.{part_of}

no_fewer : (size : ℕ) (blocks : List (List ChunkText)) (ssid copy offset byte : ℕ) (bytes : List ℕ)
    → length blocks ≤ length (packed size blocks ssid copy offset (byte ∷ bytes))
no_fewer size [] ssid copy offset byte bytes = omega arith
no_fewer size (last ∷ []) ssid copy offset byte bytes = omega arith
no_fewer size (block ∷ next ∷ more) ssid copy offset byte bytes = omega (arith, no_fewer size (next ∷ more) ssid copy offset byte bytes)

-- where the last block has no room the bytes begin a new one
one_more : (size : ℕ) (blocks : List (List ChunkText)) (ssid copy offset byte : ℕ) (bytes : List ℕ) → room_in size blocks ≡ 0
    → length blocks + 1 ≤ length (packed size blocks ssid copy offset (byte ∷ bytes))
one_more size [] ssid copy offset byte bytes none = omega arith
one_more size (last ∷ []) ssid copy offset byte bytes none =
    let P : ℕ → Type 0 = λ room. 2 ≤ length ((last ++ chunk_of ssid copy offset (take room (byte ∷ bytes)))
    ∷ new_blocks (chunk_size size) (suc (length bytes)) ssid copy (offset + room) (drop room (byte ∷ bytes))) in
    subst P (sym none) (omega arith)
one_more size (block ∷ next ∷ more) ssid copy offset byte bytes none = omega (arith, one_more size (next ∷ more) ssid copy offset byte bytes none)

first_within : (size : ℕ) (blocks : List (List ChunkText)) (ssid copy offset byte : ℕ) (bytes : List ℕ)
    → first_in size blocks (byte ∷ bytes) + 1 ≤ length (packed size blocks ssid copy offset (byte ∷ bytes))
first_within size [] ssid copy offset byte bytes = one_more size [] ssid copy offset byte bytes refl
first_within size (block ∷ blocks) ssid copy offset byte bytes = elim (eqb_tells (room_in size (block ∷ blocks)) 0) [
  | inl none ↦ rw none.0 (one_more size (block ∷ blocks) ssid copy offset byte bytes none.1)
  | inr some ↦ rw some.0 (let fewer = no_fewer size (block ∷ blocks) ssid copy offset byte bytes in omega (arith, fewer))
]

pub part_is_section : (one : DriveView) (ssid copy offset : ℕ) (bytes : List ℕ) → 1 ≤ length bytes → IsSection (part_of one ssid copy offset bytes)
unfolding pack
part_is_section one ssid copy offset [] some = absurd (omega (arith, some))
part_is_section one ssid copy offset (byte ∷ bytes) some = record {
  bytes = omega arith;
  blocks = (let size = payload_size one.buffer.units in
      let within = first_within size one.buffer.blocks ssid copy offset byte bytes in
      let ordered : first_in size one.buffer.blocks (byte ∷ bytes) ≤ length (packed size one.buffer.blocks ssid copy offset (byte ∷ bytes)) - 1 = omega (arith, within) in
      omega (arith, mul-le-mul_left one.volume.label.units ordered));
}
