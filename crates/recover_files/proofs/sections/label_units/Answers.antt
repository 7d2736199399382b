use Rattle.volume_block.specs.declared.block.Block.TheVariants as kinds
use Rattle.recover_files.proofs.sections.label_units.Goals as goal

pub returns-in-None : goal.returns-in-None
returns-in-None c = λ bytes volid number found label stands. (rw c.in-None.is at found) (kinds.Label label) stands
