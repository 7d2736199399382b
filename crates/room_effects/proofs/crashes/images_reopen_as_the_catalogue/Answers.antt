use Rattle.room_effects.specs.Reopening.{IsSpelled}
use Rattle.room_effects.proofs.ReopeningDisks.{crashes_reopen, images_reopen}
use Rattle.room_effects.proofs.crashes.images_reopen_as_the_catalogue.Goals as goal

pub returns : goal.returns
returns g c =
    let before = g.D.Store.view c.args.before.now in
    let now = g.D.Store.view c.args.now.now in
    record {
      crashed = λ spelling known deeds old new. crashes_reopen (IsSpelled spelling) known deeds old new before now;
      ended = λ spelling known deeds old new. images_reopen (IsSpelled spelling) known deeds old new before now;
    }
