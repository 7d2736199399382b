use Rattle.std.proofs.Common.{ℕ, ◌<◌, ◌≤◌, ◌^◌, length}
use Rattle.std.specs.List.{flat_map}
use Rattle.catalog_spelling.specs.Entries.{entry_text}
use Rattle.save_finish.specs.Ending.{part_of}
use Rattle.save_finish.proofs.lengths.longest_part.Given as goal

abbrev pub invariant-loop-part : goal.invariant-loop-part
invariant-loop-part l = record {
  most : (part : ℕ) → part < l.part → length (flat_map entry_text (part_of part l.entries)) ≤ l.longest;
  bound : l.longest < 2 ^ 56;
}
