-- The plan of labelling.
use Rattle.std.specs.Prelude.{◌≡◌, ℕ, ◌-◌, ◌/◌, ◌==◌, ◌&&◌, ◌||◌, nat_le, Bool, true, false}
use Rattle.std.specs.Prelude.{List, [], ◌∷◌, ◌++◌, length, replicate, codes, MatchBool}
use Rattle.std.specs.Prelude.{Option, Some, None, IfSome, Result, Ok, Err}
use Rattle.std.specs.Option.{is_some}
use Rattle.room_base.specs.declared.numbers.Cart.{Cart}
use Rattle.room_base.specs.declared.numbers.Moment.{Moment}
use Rattle.room_base.specs.declared.numbers.Ssid.{Ssid}
use Rattle.room_base.specs.declared.numbers.Volid.{Volid}
use Rattle.room_base.specs.declared.refusal.Refusal.{Refusal}
use Rattle.room_base.specs.declared.refusal.Refusal.TheVariants as refusals
use Rattle.media_db.specs.Rows.{volume_on}
use Rattle.media_db.specs.declared.volumes.VolumeRec.{VolumeRec}
use Rattle.catalog_change.specs.Resources.{IsShortName, pool_name}
use Rattle.catalog_change.specs.declared.change.Change.TheVariants as changes
use Rattle.resource_lists.specs.Kinds.{find_named}
use Rattle.volume_block.specs.Valid.{least_capacity}
use Rattle.volume_block.specs.declared.label.Label.{Label}
use Rattle.volume_store.specs.declared.label.Found.{Found}
use Rattle.volume_store.specs.declared.label.Found.TheVariants as found
use Rattle.dep_chain.specs.Labelling.{IsLabelAnswer}
use Rattle.room_command.specs.declared.answer.Answer.TheVariants.{Labelled}
use Rattle.room_command.specs.declared.reply.Reply.TheVariants.{Done}
use Rattle.room_effects.specs.View.{RoomView}
use Rattle.room_effects.specs.Effects.{Enter, Look, SeenLabel, WriteLabel}
use Rattle.room_checks.specs.OpenSets.{open_sets}
use Rattle.room_effects.specs.Checked.{behind, behind_check, checked, unless}
use Rattle.room_effects.specs.Entering.{entering}
use Rattle.room_effects.specs.Plans.{Plan}
use Rattle.room_media.specs.declared.labelling.NewVolume.{NewVolume}
use Rattle.room_media.specs.Slots.{cart_in, free_cart, is_slot}

-- ---- before the cartridge is looked at

-- the sizes of data blocks that there are
abbrev pub is_block : Option ℕ → Bool
is_block None = true
is_block (Some block) =
    block == 4096 || block == 8192 || block == 16384 || block == 32768 || block == 65536

-- how many units a data block has
abbrev pub units_of : Option ℕ → ℕ
units_of None = 1
units_of (Some block) = block / 4096

abbrev pub is_capacity : ℕ → ℕ → Bool
is_capacity units capacity = nat_le (least_capacity units) capacity && nat_le capacity 1000000

abbrev pub has_pool : List ℕ → RoomView → Bool
has_pool pool room = is_some (find_named pool_name pool room.catalogue.resources.pools)

-- what the cartridge becomes, where `named` says whether the pool's name is allowed
abbrev pub label_checks : Bool → ℕ → List ℕ → ℕ → Option ℕ → RoomView → Result NewVolume Refusal
label_checks named slot pool capacity block room =
    unless (is_slot slot) (refusals.Malformed (codes "slot"))
    (unless named (refusals.Malformed (codes "pool"))
    (unless (is_block block) (refusals.Malformed (codes "block"))
    (unless (is_capacity (units_of block) capacity) (refusals.Malformed (codes "capacity"))
    (unless (has_pool pool room) (refusals.NoSuch (codes "pool") pool)
    (behind_check (free_cart slot room) (λ cart. Ok (record {
      cart = cart;
      pool = pool;
      capacity = capacity;
      units = units_of block;
    })))))))

-- ---- the label that the cartridge has

-- it is that of the volume on record, or of the one before
abbrev pub is_known_label : Option VolumeRec → Volid → Bool
is_known_label None volid = false
is_known_label (Some volume) volid = volid.0 == volume.volid.0 || volid.0 == volume.was.0

-- the volume that the label names, 0 where there is none
abbrev pub label_was : Option VolumeRec → Found → Result Volid Refusal
label_was volume found.Blank = Ok (record { 0 = 0 })
label_was volume found.Closed = Ok (record { 0 = 0 })
label_was None (found.Damaged bad) = Err (refusals.DamagedBlock (record { 0 = 0 }) 0)
label_was (Some volume) (found.Damaged bad) = Ok (record { 0 = 0 })
label_was volume (found.Labelled label) =
    unless (is_known_label volume label.volid) (refusals.Strange label.volid) (Ok label.volid)

-- Whether a set is still needed that lies on the volume alone. It isn't known where there is no
-- memory for the open sessions.
abbrev pub may_replace : Option VolumeRec → Option (Result (Unit {0}) Ssid)
    → Result (Unit {0}) Refusal
may_replace None asked = Ok tt
may_replace (Some volume) None = Err refusals.NoMemory
may_replace (Some volume) (Some (Ok done)) = Ok tt
may_replace (Some volume) (Some (Err ssid)) = Err (refusals.Needed ssid)

abbrev pub old_label : Option VolumeRec → Found → Option (Result (Unit {0}) Ssid)
    → Result Volid Refusal
old_label volume found asked = behind_check (label_was volume found)
    (λ was. behind_check (may_replace volume asked) (λ done. Ok was))

-- ---- labelling

abbrev pub label_of : Moment → Volid → NewVolume → Label
label_of m volid new = record {
  volid = volid;
  cart = new.cart;
  capacity = new.capacity;
  made = m;
  pool_length = length new.pool;
  pool = new.pool ++ replicate (64 - length new.pool) 0;
  units = new.units;
}

abbrev pub next_volid : RoomView → Volid
next_volid room = record { 0 = room.catalogue.next_volid }

-- the entry comes before the label
abbrev pub new_volume_plan : Moment → NewVolume → Volid → RoomView → Plan
new_volume_plan m new was room = entering []
    (Enter m (changes.Labelled (next_volid room) new.cart new.pool new.capacity was)
    ∷ WriteLabel (label_of m (next_volid room) new) ∷ [])
    (Done (Labelled new.cart (next_volid room))) room

abbrev pub relabel_plan : Moment → Found → Option (Result (Unit {0}) Ssid) → Option VolumeRec
    → RoomView → NewVolume → Plan
relabel_plan m found asked volume room new = behind (Look new.cart.0 (SeenLabel found))
    (checked (old_label volume found asked) (λ was. new_volume_plan m new was room))

-- what was asked of a volume has this answer
abbrev pub IsAsked : Moment → Option (Result (Unit {0}) Ssid) → RoomView → VolumeRec → Type 0
IsAsked m asked room volume =
    IfSome asked (IsLabelAnswer room.catalogue.records (open_sets room) volume.volid.0 m.0)

-- the volume on record of a cartridge, if there is one
abbrev pub volume_of : Option Cart → RoomView → Option VolumeRec
volume_of None room = None
volume_of (Some cart) room = volume_on cart.0 room.catalogue.volumes

-- The plan for some label, which is found on the cartridge where it is looked at, and the answer to
-- whether a set is still needed.
pub record IsLabelPlan (m : Moment) (slot : ℕ) (pool : List ℕ) (capacity : ℕ) (block : Option ℕ)
    (room : RoomView) (plan : Plan) : Type 0 where
  pub named : Bool
  pub is_named : MatchBool named (IsShortName pool) (¬ (IsShortName pool))
  pub found : Found
  pub asked : Option (Result (Unit {0}) Ssid)
  pub answer : IfSome (volume_of (cart_in slot room) room) (IsAsked m asked room)
  pub is : plan ≡ checked (label_checks named slot pool capacity block room)
      (λ new. relabel_plan m found asked (volume_on new.cart.0 room.catalogue.volumes) room new)
