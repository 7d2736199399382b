use Rattle.std.proofs.Common.{◌≡◌, drop}
use Rattle.recover_files.specs.StreamAt.{first_spot}
use Rattle.recover_files.proofs.spots.first_spot.Given as goal

-- the copies before this one have none
abbrev pub invariant-loop-copy : goal.invariant-loop-copy
invariant-loop-copy l = first_spot l.db.volumes l.home l.place l.copies ≡ first_spot l.db.volumes l.home l.place (drop l.copy-index l.copies)
