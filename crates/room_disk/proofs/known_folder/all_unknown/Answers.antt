use Rattle.std.proofs.Common.{◌≡◌, ℕ, zero, suc, Some, slice_get}
use Rattle.std.specs.Prelude.{replicate}
use Rattle.room_disk.specs.declared.file_state.FileState.{FileState}
use Rattle.room_disk.specs.declared.file_state.FileState.TheVariants.{Unknown, Absent}
use Rattle.room_disk.proofs.known_folder.all_unknown.Goals as goal

none_absent : (count file : ℕ) → slice_get (replicate count Unknown) file ≡ Some Absent → ⊥
none_absent zero file is = cc
none_absent (suc count) zero is = cc
none_absent (suc count) (suc file) is = none_absent count file is

pub returns : goal.returns
returns c file is = none_absent 258 file is
