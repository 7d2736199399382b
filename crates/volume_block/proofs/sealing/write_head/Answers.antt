use Rattle.std.proofs.Common.{refl, arith}
use Rattle.volume_block.specs.Layout.{form_text, fields_text}
use Rattle.volume_block.proofs.Whole.{placed_behind}
use Rattle.volume_block.proofs.sealing.write_head.Goals as goal

pub returns : goal.returns
returns c =
    placed_behind 4 20 c.args.block.now (form_text c.args.kind c.args.units) (fields_text c.args.used c.args.volid c.args.number)
    c.write_form.new.block c.write_fields.new.fields refl (omega (arith, c.requires.whole)) c.write_form.ensures c.write_fields.ensures
