use Rattle.std.proofs.Common.{◌∙◌, refl, sym, ap, arith}
use Rattle.room_catalog.specs.Changing.{forget_off, forget_row_off}
use Rattle.room_catalog.proofs.Stepping.{walk_more}
use Rattle.room_catalog.proofs.volumes.forget_lost.Goals as goal

pub loop-row-preserved : goal.loop-row-preserved
loop-row-preserved c =
    let more = walk_more (forget_row_off c.args.gone.0) (forget_off c.args.gone.0) (λ s. refl) (λ x xs s. refl) c.args.records.now c.loop-row.row-index c.row-item.result c.args.index.now.sets (omega arith) c.row-item.is in
    record {
      sets = c.forget_if_lost.ensures.sets ∙ ap (forget_row_off c.args.gone.0 c.row-item.result) c.loop-row.invariant.sets ∙ sym more;
      room = omega arith;
    }
