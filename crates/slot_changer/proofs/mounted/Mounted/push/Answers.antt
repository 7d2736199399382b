use Rattle.std.proofs.Common.{length, sym, subst}
use Rattle.chunk_mux.specs.Packing.{pack}
use Rattle.slot_changer.specs.Drives.{DriveView}
use Rattle.slot_changer.specs.Taking.{CanPush}
use Rattle.slot_changer.proofs.mounted.Mounted.push.Goals as goal

pub invariant_of-self : goal.invariant_of-self
unfolding pack
invariant_of-self c =
    let was = c.self.invariant in
    let Can : DriveView → Type 0 = λ one. CanPush (length c.args.piece.now) one in
    let can : Can _ = subst Can (sym c.self.view_is) c.requires.can in
    rw c.push.ensures.blocks (record {
      cart = was.cart;
      label = was.label;
      mark = was.mark;
      units = was.units;
      room = λ some. can.room;
    })
