-- What a drive that takes a piece can do with it.
use Rattle.std.proofs.Common.{◌≡◌, ℕ, ◌+◌, ◌*◌, ◌≤◌, List, [], ◌∷◌, length, arith}
use Rattle.std.proofs.lemmas.Bool.Decides.{nat_tests}
use Rattle.std.specs.Prelude.{Bool, true, false, Option, Some, None, IsTrue, IsSomeAnd, IfSome, nat_le}
use Rattle.std.specs.Option.{option_map}
use Rattle.volume_block.specs.Chunks.{ChunkText}
use Rattle.chunk_mux.specs.Packing.{Fits, empty, fits_in}
use Rattle.slot_changer.specs.Drives.{DriveView, has_failed, after_commit}
use Rattle.slot_changer.specs.Taking.{fits, takes, has_file_room, CanPush, CanCommit}

not_true : IsTrue false → ⊥
not_true is = let no : ◌≡◌ {A = Bool} false true = is in cc

room_here : (mark blocks units capacity : ℕ) (fit : Bool) → IsTrue (has_file_room mark blocks units capacity fit) → IsTrue fit
    → mark + 64 * units + 2 ≤ capacity
room_here mark blocks units capacity true room fit = grind (arith, nat_tests)
room_here mark blocks units capacity false room fit = absurd (not_true fit)

room_behind : (mark blocks units capacity : ℕ) (fit : Bool) → IsTrue (has_file_room mark blocks units capacity fit) → fit ≡ false
    → mark + units * blocks + 1 + 64 * units + 2 ≤ capacity
room_behind mark blocks units capacity true room not = absurd (let no : ◌≡◌ {A = Bool} true false = not in cc)
room_behind mark blocks units capacity false room not = grind (arith, nat_tests)

-- where a piece fits the buffer it can be pushed
pub can_push : (held : Option DriveView) (count : ℕ) → has_failed held ≡ false → IsTrue (takes held count)
    → IsTrue (fits held count) → IsSomeAnd held (CanPush count)
can_push None count whole taken fit = absurd (not_true taken)
can_push (Some one) count whole taken fit = record {
  fits = grind (arith, nat_tests);
  room = room_here one.volume.mark (length one.buffer.blocks) one.volume.label.units one.volume.label.capacity
      (nat_le count (fits_in one.buffer)) taken fit;
  no_fault = whole;
}

-- a piece that would fit an empty buffer fits one without blocks
begun : (units : ℕ) (blocks : List (List ChunkText)) (count : ℕ) → nat_le count (fits_in (record { units = units; blocks = blocks })) ≡ false
    → Fits (empty units) count → 1 ≤ length blocks
begun units [] count not fit = absurd (grind (arith, nat_tests))
begun units (block ∷ more) count not fit = omega arith

-- where it doesn't, the buffer can be committed
pub can_commit : (held : Option DriveView) (count : ℕ) → has_failed held ≡ false → IsTrue (takes held count)
    → fits held count ≡ false → IfSome held (λ one. Fits (empty one.buffer.units) count) → IsSomeAnd held CanCommit
can_commit None count whole taken not fit = absurd (not_true taken)
can_commit (Some one) count whole taken not fit = record {
  some = begun one.buffer.units one.buffer.blocks count not fit;
  no_fault = whole;
}

room_after : (mark blocks units capacity : ℕ) (fit : Bool) → mark + 64 * units + 2 ≤ capacity → IsTrue fit
    → IsTrue (has_file_room mark blocks units capacity fit)
room_after mark blocks units capacity true room fit = grind (arith, nat_tests)
room_after mark blocks units capacity false room fit = absurd (not_true fit)

-- and then the piece can be pushed
pub can_push_behind : (held : Option DriveView) (count : ℕ) → has_failed held ≡ false → IsTrue (takes held count)
    → fits held count ≡ false → IfSome held (λ one. Fits (empty one.buffer.units) count)
    → IsTrue (takes (option_map after_commit held) count) × IsSomeAnd (option_map after_commit held) (CanPush count)
can_push_behind None count whole taken not fit = absurd (not_true taken)
can_push_behind (Some one) count whole taken not fit =
    let units = one.volume.label.units in
    let capacity = one.volume.label.capacity in
    let blocks = length one.buffer.blocks in
    let room : one.volume.mark + units * blocks + 1 + 64 * units + 2 ≤ capacity =
    room_behind one.volume.mark blocks units capacity (nat_le count (fits_in one.buffer)) taken not in (
      room_after (one.volume.mark + units * blocks + 1) 0 units capacity (nat_le count (fits_in (empty one.buffer.units))) room
          (grind (arith, nat_tests)),
      record { fits = fit; room = room; no_fault = whole },
    )

pub ruleset taken = (can_push, can_commit, can_push_behind)
