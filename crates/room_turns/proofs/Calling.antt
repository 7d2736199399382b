-- The images of one call.
use Rattle.std.specs.Prelude.{IsTrue}
use Rattle.room_disk.specs.Disk.{DiskView, Image, Images, IsDisk, Leaves}
use Rattle.room_disk.proofs.Runs.{leaves_weaker}
use Rattle.room_effects.specs.View.{IsRoom, RoomView}
use Rattle.room_effects.specs.Reopening.{ReopensAfterSome}
use Rattle.room_effects.specs.Running.{nothing_known, trail}
use Rattle.room_effects.proofs.ReopeningDisks.{crashes_reopen, images_reopen}
use Rattle.journal_files.specs.Files.{IsSnapshot, ReplaysTo}
use Rattle.journal_files.proofs.Snapshots.{have_snapshots}
use Rattle.room_turns.specs.Calls.{ReopensWithin}
use Rattle.room_turns.specs.Served.{IsServable}
use Rattle.room_turns.specs.Steps.{Call, Turn}
use Rattle.room_turns.proofs.Deeds.{behind_some}
use Rattle.room_turns.proofs.Founding.{answer_enters, answer_founded}

pub call_moments : (call : Call) (old new : RoomView) (before now : DiskView) → IsDisk before → IsRoom old → IsTrue old.is_open → IsTrue before.tells
    → IsServable old before → (turn : Turn call old new before now) → Leaves before now (ReopensWithin (trail turn.deeds old) old.catalogue)
call_moments call old new before now is_disk is opens told servable turn =
    leaves_weaker before now (ReopensAfterSome IsSnapshot (trail turn.deeds old) old.catalogue) (ReopensWithin (trail turn.deeds old) old.catalogue)
    (crashes_reopen IsSnapshot nothing_known turn.deeds old new before now is opens told (answer_founded call old turn.deeds turn.answered) servable.ready
    (have_snapshots turn.deeds old turn.performed.can) (servable.reopens before.reads is_disk.reads_one) turn.performed)
    (λ image some. (answer_enters call old turn.deeds turn.answered, behind_some (trail turn.deeds old) old.catalogue image some))

pub call_ended : (call : Call) (old new : RoomView) (before now : DiskView) → IsDisk before → IsRoom old → IsTrue old.is_open → IsTrue before.tells
    → IsServable old before → Turn call old new before now → IsTrue new.is_open → (image : Image) → Images now image → ReplaysTo image new.catalogue
call_ended call old new before now is_disk is opens told servable turn still =
    images_reopen IsSnapshot nothing_known turn.deeds old new before now is opens still told (answer_founded call old turn.deeds turn.answered) servable.ready
    (have_snapshots turn.deeds old turn.performed.can) (servable.reopens before.reads is_disk.reads_one) turn.performed
