use Rattle.volume_store.proofs.Finding.{stands_read}
use Rattle.volume_block.specs.declared.block.Block.TheVariants as kinds
use Rattle.recover_files.proofs.Judging.{data_read, mark_is_invalid, bad_is_invalid}
use Rattle.recover_files.proofs.blocks.is_data.Goals as goal

pub returns-in-Ok-Data : goal.returns-in-Ok-Data
returns-in-Ok-Data c = record {
  judged = λ file begins is.
      data_read file c.args.bytes.now c.args.volid.0 c.args.number c.args.size _ _ is c.in-Ok-Data.ensures.whole
      (rw c.in-Ok-Data.field-0-is at c.in-Ok-Data.ensures.judged);
}

pub returns-in-Ok-Mark : goal.returns-in-Ok-Mark
returns-in-Ok-Mark c = record {
  judged = λ file begins is.
      mark_is_invalid file c.args.volid.0 c.args.number c.in-Ok-Mark.field-0-0 c.in-Ok-Mark.field-0-1
      (stands_read file c.args.bytes.now c.args.volid.0 c.args.number c.args.size (kinds.Mark c.in-Ok-Mark.field-0-0 c.in-Ok-Mark.field-0-1) is
      c.in-Ok-Mark.ensures.whole (rw c.in-Ok-Mark.field-0-is at c.in-Ok-Mark.ensures.judged));
}

pub returns-in-Err : goal.returns-in-Err
returns-in-Err c = record {
  judged = λ file begins is.
      bad_is_invalid file c.args.bytes.now c.args.volid.0 c.args.number c.args.size c.in-Err.field-0.why begins is
      c.in-Err.ensures.judged;
}
