use Rattle.std.proofs.Common.{◌≡◌, map, take}
use Rattle.room_checks.specs.OpenSets.{volid_of}
use Rattle.room_checks.proofs.sessions.volids_in.Given as goal

abbrev pub invariant-loop-section : goal.invariant-loop-section
invariant-loop-section l = l.volids.items ≡ map volid_of (take l.section-index l.sections)
