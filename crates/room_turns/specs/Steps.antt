-- What each command is to do, and what a room answers.
use Rattle.std.specs.Prelude.{◌≡◌, ℕ, List}
use Rattle.room_base.specs.declared.numbers.Moment.{Moment}
use Rattle.room_disk.specs.Disk.{DiskView}
use Rattle.room_command.specs.declared.command.Command.{Command}
use Rattle.room_command.specs.declared.command.Command.TheVariants as commands
use Rattle.room_command.specs.declared.reply.Reply.{Reply}
use Rattle.room_effects.specs.View.{RoomView}
use Rattle.room_effects.specs.Effects.{Deed}
use Rattle.room_effects.specs.Running.{Performed}
use Rattle.room_effects.specs.Entering.{moment_of}
use Rattle.room_effects.specs.Plans.{Plan, IsTurn}
use Rattle.room_media.specs.Inventory.{inventory_plan}
use Rattle.room_media.specs.Labelling.{IsLabelPlan}
use Rattle.room_media.specs.Mounting.{IsMountPlan, unmount_plan}
use Rattle.room_media.specs.Slots.{eject_plan, load_plan}
use Rattle.room_resources.specs.Defining.{IsDefinePlan}
use Rattle.room_resources.specs.Dropping.{drop_plan}
use Rattle.save_append.specs.Appending.{IsAppendPlan}
use Rattle.save_begin.specs.Aborting.{abort_plan}
use Rattle.save_begin.specs.Beginning.{IsBeginPlan}
use Rattle.save_begin.specs.Grouping.{IsSavegrpPlan}
use Rattle.save_finish.specs.Finishing.{finish_plan}
use Rattle.room_records.specs.Amending.{amend_plan}
use Rattle.room_records.specs.Deleting.{IsDeletePlan}
use Rattle.room_records.specs.Purging.{IsNsrimPlan}
use Rattle.room_records.specs.Showing.{show_plan}

-- the plan of a command in this room, at this moment
abbrev pub IsPlanOf : Moment → Command → RoomView → Plan → Type 0
IsPlanOf m (commands.Define text) room plan = IsDefinePlan m text room plan
IsPlanOf m (commands.Drop kind name) room plan = plan ≡ drop_plan m kind name room
IsPlanOf m (commands.Load slot cart) room plan = plan ≡ load_plan m slot cart room
IsPlanOf m (commands.Eject slot) room plan = plan ≡ eject_plan m slot room
IsPlanOf m (commands.Label slot pool capacity block) room plan =
    IsLabelPlan m slot pool capacity block room plan
IsPlanOf m (commands.Mount slot drive) room plan = IsMountPlan slot drive room plan
IsPlanOf m (commands.Unmount drive) room plan = plan ≡ unmount_plan drive room
IsPlanOf m commands.Inventory room plan = plan ≡ inventory_plan room
IsPlanOf m (commands.Append ssid offset piece) room plan =
    IsAppendPlan ssid offset piece room plan
IsPlanOf m (commands.Amend ssid browse retain hold) room plan =
    plan ≡ amend_plan m ssid browse retain hold room
IsPlanOf m (commands.Delete ssid) room plan = IsDeletePlan m ssid room plan
IsPlanOf m commands.Nsrim room plan = IsNsrimPlan m room plan
IsPlanOf m (commands.Show ssid) room plan = plan ≡ show_plan ssid room
IsPlanOf m (commands.Savegrp group) room plan = IsSavegrpPlan m group room plan
IsPlanOf m (commands.Begin client set group level) room plan =
    IsBeginPlan m (record { client = client; set = set; group = group; level = level }) room plan
IsPlanOf m (commands.Finish ssid size sha256) room plan =
    plan ≡ finish_plan m ssid size sha256 room
IsPlanOf m (commands.Abort ssid) room plan = plan ≡ abort_plan m ssid room

-- a command that is asked of a room, at what the clock says, and what is answered
pub record Call : Type 0 where
  pub clock : ℕ
  pub command : Command
  pub reply : Reply

-- the reply, and what was done for it, are those of a plan of the command
abbrev pub IsAnswer : Call → RoomView → List Deed → Type 0
IsAnswer call room deeds =
    (plan : Plan) × IsPlanOf (moment_of call.clock room.catalogue) call.command room plan
    × IsTurn plan room call.reply deeds

-- the room and the disk after a call
pub record Turn (call : Call) (old new : RoomView) (before now : DiskView) : Type 0 where
  pub deeds : List Deed
  pub answered : IsAnswer call old deeds
  pub performed : Performed deeds old new before now
