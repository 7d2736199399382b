use Rattle.std.proofs.Common.{◌≡◌}
use Rattle.volume_block.specs.declared.block.Block.TheVariants as kinds
use Rattle.volume_store.specs.Reads.{StandsAt}
use Rattle.volume_store.proofs.Finding.{one_stands}
use Rattle.recover_files.proofs.sections.mark_units.Goals as goal

pub returns-in-Some-Data : goal.returns-in-Some-Data
returns-in-Some-Data c = λ bytes volid number found count units stands.
    let stood : StandsAt bytes volid number c.in-Some-Data.field-0 = rw c.in-Some-Data.is at found in
    let is_data : c.in-Some-Data.field-0 ≡ kinds.Data c.in-Some-Data.field-0-0 c.in-Some-Data.field-0-1 =
    rw c.in-Some-Data.is at c.in-Some-Data.field-0-is in
    absurd (cc (one_stands bytes volid number (kinds.Data c.in-Some-Data.field-0-0 c.in-Some-Data.field-0-1) (kinds.Mark count units)
    (rw is_data at stood) stands))

pub returns-in-None : goal.returns-in-None
returns-in-None c = λ bytes volid number found count units stands. (rw c.in-None.is at found) (kinds.Mark count units) stands
