-- Slots can be counted in a byte.
use Rattle.std.proofs.Common.{ℕ, ◌+◌, ◌≤◌, ◌<◌, ◌^◌, List, [], ◌∷◌, length, arith}
use Rattle.std.specs.List.{AllByRecursion}
use Rattle.std.specs.Ordering.{nat_cmp}
use Rattle.room_base.specs.Ordered.{AscendsFrom}
use Rattle.room_base.proofs.OrderedNumbers.{lesser_number}
use Rattle.catalog_change.specs.declared.slot.FilledSlot.{FilledSlot}
use Rattle.catalog_change.specs.Catalogues.{AreSlots, IsFilled, slot_number}

count-from : (low : ℕ) (slots : List FilledSlot) → low ≤ 32 → AscendsFrom nat_cmp slot_number low slots → AllByRecursion IsFilled slots → low + length slots ≤ 32
count-from low [] within order each = omega (arith, within)
count-from low (filled ∷ slots) within order each =
    let rest = count-from filled.slot slots each.0.slot.1 order.1 each.1 in
    omega (arith, rest, lesser_number low filled.slot order.0)

pub slots_count : (slots : List FilledSlot) → AreSlots slots → length slots < 2 ^ 8
slots_count [] are = omega arith
slots_count (filled ∷ slots) are = omega (arith, count-from filled.slot slots are.each.0.slot.1 are.order are.each.1)
