-- The plans of all commands are orderly.
use Rattle.room_base.specs.declared.numbers.Moment.{Moment}
use Rattle.room_command.specs.declared.command.Command.{Command}
use Rattle.room_command.specs.declared.command.Command.TheVariants as commands
use Rattle.room_effects.specs.View.{RoomView}
use Rattle.room_effects.specs.Running.{nothing_known}
use Rattle.room_effects.specs.Plans.{Plan}
use Rattle.room_turns.specs.Orderly.{IsOrderly}
use Rattle.room_turns.specs.Steps.{IsPlanOf}
use Rattle.room_turns.proofs.AppendPlans.{append_orderly}
use Rattle.room_turns.proofs.BeginPlans.{abort_orderly, begin_orderly, savegrp_orderly}
use Rattle.room_turns.proofs.FinishPlans.{finish_orderly}
use Rattle.room_turns.proofs.RecordPlans.{amend_orderly, delete_orderly, nsrim_orderly, show_orderly}
use Rattle.room_turns.proofs.MediaPlans.{eject_orderly, inventory_orderly, label_orderly, load_orderly, mount_orderly, unmount_orderly}
use Rattle.room_turns.proofs.ResourcePlans.{define_orderly, drop_orderly}
use Rattle.room_turns.proofs.Placed.{same_plan}

pub plans_are_orderly : (m : Moment) (command : Command) (room : RoomView) (plan : Plan) → IsPlanOf m command room plan → IsOrderly nothing_known plan room
plans_are_orderly m (commands.Define text) room plan is = define_orderly m text room plan is
plans_are_orderly m (commands.Drop kind name) room plan is = same_plan room plan _ is (drop_orderly m kind name room)
plans_are_orderly m (commands.Load slot cart) room plan is = same_plan room plan _ is (load_orderly m slot cart room)
plans_are_orderly m (commands.Eject slot) room plan is = same_plan room plan _ is (eject_orderly m slot room)
plans_are_orderly m (commands.Label slot pool capacity block) room plan is = label_orderly m slot pool capacity block room plan is
plans_are_orderly m (commands.Mount slot drive) room plan is = mount_orderly slot drive room plan is
plans_are_orderly m (commands.Unmount drive) room plan is = same_plan room plan _ is (unmount_orderly drive room)
plans_are_orderly m commands.Inventory room plan is = same_plan room plan _ is (inventory_orderly room)
plans_are_orderly m (commands.Append ssid offset piece) room plan is = append_orderly ssid offset piece room plan is
plans_are_orderly m (commands.Amend ssid browse retain hold) room plan is = same_plan room plan _ is (amend_orderly m ssid browse retain hold room)
plans_are_orderly m (commands.Delete ssid) room plan is = delete_orderly m ssid room plan is
plans_are_orderly m commands.Nsrim room plan is = nsrim_orderly m room plan is
plans_are_orderly m (commands.Show ssid) room plan is = same_plan room plan _ is (show_orderly ssid room)
plans_are_orderly m (commands.Savegrp group) room plan is = savegrp_orderly m group room plan is
plans_are_orderly m (commands.Begin client set group level) room plan is = begin_orderly m (record { client = client; set = set; group = group; level = level }) room plan is
plans_are_orderly m (commands.Finish ssid size sha256) room plan is = same_plan room plan _ is (finish_orderly m ssid size sha256 room)
plans_are_orderly m (commands.Abort ssid) room plan is = same_plan room plan _ is (abort_orderly m ssid room)
