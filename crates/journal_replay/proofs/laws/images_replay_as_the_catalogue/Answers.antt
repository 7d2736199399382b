use Rattle.room_effects.proofs.ReopeningDisks.{crashes_reopen, images_reopen}
use Rattle.journal_files.specs.Files.{IsSnapshot}
use Rattle.journal_files.proofs.Snapshots.{have_snapshots}
use Rattle.journal_replay.proofs.laws.images_replay_as_the_catalogue.Goals as goal

pub returns : goal.returns
returns g c =
    let before = g.D.Store.view c.args.before.now in
    let now = g.D.Store.view c.args.now.now in
    record {
      crashed = λ known deeds old new is opens tells founded ready replays performed.
          crashes_reopen IsSnapshot known deeds old new before now is opens tells founded ready (have_snapshots deeds old performed.can) replays performed;
      ended = λ known deeds old new is opens still tells founded ready replays performed.
          images_reopen IsSnapshot known deeds old new before now is opens still tells founded ready (have_snapshots deeds old performed.can) replays performed;
    }
