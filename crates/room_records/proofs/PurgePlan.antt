-- How the plan of purging is followed, where there is a set to purge.
use Rattle.std.specs.Prelude.{◌==◌}
use Rattle.std.proofs.Common.{◌≡◌, Bool, true, false, List, [], ◌∷◌, length, subst}
use Rattle.room_base.specs.declared.numbers.Moment.{Moment}
use Rattle.room_base.specs.declared.numbers.Ssid.{Ssid}
use Rattle.room_disk.specs.Disk.{DiskView}
use Rattle.catalog_change.specs.declared.change.Change.TheVariants as changes
use Rattle.room_command.specs.declared.answer.Answer.TheVariants.{Purged}
use Rattle.room_command.specs.declared.reply.Reply.{Reply}
use Rattle.room_command.specs.declared.reply.Reply.TheVariants.{Done}
use Rattle.room_effects.specs.View.{RoomView}
use Rattle.room_effects.specs.Effects.{Enter}
use Rattle.room_effects.specs.Entering.{entering}
use Rattle.room_effects.specs.Plans.{Follows}
use Rattle.room_records.specs.Purging.{purging}

pub follows_some : (m : Moment) (ssids copy : List Ssid) (answer : Reply) (room new : RoomView) (before now : DiskView) → copy ≡ ssids → (length ssids == 0) ≡ false
    → Follows (entering [] (Enter m (changes.Purged copy) ∷ []) (Done (Purged ssids)) room) answer room new before now
    → Follows (purging m ssids room) answer room new before now
follows_some m [] copy answer room new before now same some follows = absurd (let no : ◌≡◌ {A = Bool} true false = some in cc)
follows_some m (ssid ∷ ssids) copy answer room new before now same some follows =
    let F : List Ssid → Type 0 = λ list. Follows (entering [] (Enter m (changes.Purged list) ∷ []) (Done (Purged (ssid ∷ ssids))) room) answer room new before now in
    subst F same follows
