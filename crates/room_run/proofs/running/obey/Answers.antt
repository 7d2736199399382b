use Rattle.std.proofs.Common.{inl, inr}
use Rattle.room_run.proofs.running.obey.Goals as goal

pub returns-in-Ok-Get : goal.returns-in-Ok-Get
returns-in-Ok-Get g c =
    let input = g.S.Source.view c.args.input.now in
    let clock = g.C.Clock.view c.args.clock.now in
    let words = rw c.in-Ok-Get.field-0-is at c.in-Ok-Get.ensures in
    inl (c.get.ensures.later input clock, inr (inr (c.in-Ok-Get.cart.0, (c.in-Ok-Get.number, words, c.get.ensures.ends input clock))))
