-- What one call leaves on the disk.
use Rattle.std.specs.Prelude.{◌≡◌, ◌⊎◌, ◌≤◌, List, length}
use Rattle.room_base.specs.Outside.{Told}
use Rattle.room_base.specs.declared.refusal.Refusal.TheVariants.{NoMemory}
use Rattle.room_disk.specs.Disk.{DiskView, Image, Quiet}
use Rattle.room_command.specs.declared.reply.Reply.{Reply}
use Rattle.room_command.specs.declared.reply.Reply.TheVariants.{Refused}
use Rattle.room_effects.specs.View.{RoomView}
use Rattle.room_effects.specs.Running.{Ready, nothing_known}
use Rattle.catalog_spelling.specs.Changes.{Stamped}
use Rattle.room_catalog.specs.Held.{CatalogueLists}
use Rattle.room_turns.specs.Served.{ReopensBehind}

-- The files reopen as the catalogue before a call, or as that after the first so many of the changes
-- that it entered, of which there are at most two.
abbrev pub ReopensWithin : List Stamped → CatalogueLists → Image → Type 0
ReopensWithin changes lists files = (length changes ≤ 2) × ReopensBehind changes lists files

-- It is answered so, or not at all for want of memory; the room is as it was, and so is what the disk
-- reads and what a crash leaves of it.
pub record AnswersIdly (planned reply : Reply) (old new : RoomView) (before now : DiskView) :
    Type 0 where
  pub answered : (reply ≡ planned) ⊎ (reply ≡ Refused NoMemory)
  pub room : new ≡ old
  pub disk : Told before.tells (Ready nothing_known old before → Quiet before now)
