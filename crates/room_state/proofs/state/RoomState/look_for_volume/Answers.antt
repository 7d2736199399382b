use Rattle.std.proofs.Common.{◌≡◌, Ok, Err, refl}
use Rattle.std.specs.Prelude.{Result}
use Rattle.volume_store.specs.declared.commit.Volume.{Volume}
use Rattle.volume_store.specs.declared.marks.MountFault.{MountFault}
use Rattle.volume_store.specs.declared.marks.MountFault.TheVariants as mounts
use Rattle.room_effects.proofs.Looking.{does_look_volume, does_look_volume_broken}
use Rattle.room_state.proofs.state.RoomState.look_for_volume.Goals as goal

pub returns-in-Ok-clause-seen : goal.returns-in-Ok-clause-seen
returns-in-Ok-clause-seen g c =
    let read = c.in-Ok.ensures in
    does_look_volume {T = Result Volume MountFault} c.args.cart.0 (Ok c.in-Ok.volume) (Ok c.in-Ok.volume) c.args.self.now.room
    (g.D.Store.view c.args.store.now) (g.D.Store.view c.mount.new.store) (record { opens = c.requires.opens; needs = c.requires.cart })
    (λ same. let no : ◌≡◌ {A = Result Volume MountFault} (Ok c.in-Ok.volume) (Err mounts.Failed) = same in cc)
    read.cause read.tells read.quiet read.settled read.mounted

pub returns-in-Err-Unlabelled-clause-seen : goal.returns-in-Err-Unlabelled-clause-seen
returns-in-Err-Unlabelled-clause-seen g c =
    let read = rw c.in-Err-Unlabelled.field-0-is at c.in-Err-Unlabelled.ensures in
    does_look_volume {T = Result Volume MountFault} c.args.cart.0 (Err mounts.Unlabelled) (Err mounts.Unlabelled) c.args.self.now.room
    (g.D.Store.view c.args.store.now) (g.D.Store.view c.mount.new.store) (record { opens = c.requires.opens; needs = c.requires.cart })
    (λ same. let no : ◌≡◌ {A = Result Volume MountFault} (Err mounts.Unlabelled) (Err mounts.Failed) = same in cc)
    read.cause read.tells read.quiet read.settled read.mounted

pub returns-in-Err-BadBlock-clause-seen : goal.returns-in-Err-BadBlock-clause-seen
returns-in-Err-BadBlock-clause-seen g c =
    let read = rw c.in-Err-BadBlock.field-0-is at c.in-Err-BadBlock.ensures in
    does_look_volume {T = Result Volume MountFault} c.args.cart.0 (Err (mounts.BadBlock c.in-Err-BadBlock.number)) (Err (mounts.BadBlock c.in-Err-BadBlock.number)) c.args.self.now.room
    (g.D.Store.view c.args.store.now) (g.D.Store.view c.mount.new.store) (record { opens = c.requires.opens; needs = c.requires.cart })
    (λ same. let no : ◌≡◌ {A = Result Volume MountFault} (Err (mounts.BadBlock c.in-Err-BadBlock.number)) (Err mounts.Failed) = same in cc)
    read.cause read.tells read.quiet read.settled read.mounted

pub returns-in-Err-Failed-clause-failed : goal.returns-in-Err-Failed-clause-failed
returns-in-Err-Failed-clause-failed g c seen =
    let read = rw c.in-Err-Failed.field-0-is at c.in-Err-Failed.ensures in
    rw c.fault_on.ensures (does_look_volume_broken {T = Result Volume MountFault} c.args.cart.0 seen (Err mounts.Failed) c.args.self.now.room
    (g.D.Store.view c.args.store.now) (g.D.Store.view c.mount.new.store) (record { opens = c.requires.opens; needs = c.requires.cart })
    refl read.cause read.tells read.quiet)
