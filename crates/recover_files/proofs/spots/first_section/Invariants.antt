use Rattle.std.proofs.Common.{◌≡◌, drop}
use Rattle.recover_files.specs.StreamAt.{first_section}
use Rattle.recover_files.proofs.spots.first_section.Given as goal

-- the copies before this one have none
abbrev pub invariant-loop-copy : goal.invariant-loop-copy
invariant-loop-copy l = first_section l.place l.copies ≡ first_section l.place (drop l.copy-index l.copies)
