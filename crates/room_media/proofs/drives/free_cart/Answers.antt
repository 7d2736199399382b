use Rattle.std.proofs.Common.{sym, ◌∙◌}
use Rattle.room_media.proofs.Finding.{cart_in_slot}
use Rattle.room_media.proofs.drives.free_cart.Goals as goal

pub returns-in-None-drive_with-clause-free : goal.returns-in-None-drive_with-clause-free
returns-in-None-drive_with-clause-free c = (
  cart_in_slot c.args.slot c.in-Some.cart c.catalogue-catalogue.result.now.lists c.number-number.ensures.held (sym c.cart_in.ensures ∙ c.in-Some.is),
  c.drive_with.ensures.none c.in-None-drive_with.is,
)
