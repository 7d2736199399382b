-- What a new volume's entry and label need, and the plan that they follow.
use Rattle.std.proofs.Common.{◌≡◌, ℕ, ◌-◌, ◌≤◌, ◌<◌, Bool, true, false, List, [], ◌∷◌, ◌++◌, length, replicate, sym, ap, ◌∙◌, subst, arith, rules}
use Rattle.std.proofs.Math.Seq.{take-append_seam, drop-append_seam}
use Rattle.std.proofs.lemmas.List.{length-append, length-replicate}
use Rattle.std.proofs.lemmas.Bool.Decides.{nat_tests}
use Rattle.std.specs.Prelude.{Option, Some, None, IsSome, IsTrue, Result, Ok, Err}
use Rattle.std.specs.Option.{is_some}
use Rattle.room_base.specs.Numbers.{max_moment}
use Rattle.room_base.specs.Text.{IsName}
use Rattle.room_base.specs.declared.numbers.Moment.{Moment}
use Rattle.room_base.specs.declared.numbers.Volid.{Volid}
use Rattle.room_base.specs.declared.refusal.Refusal.{Refusal}
use Rattle.room_disk.specs.Disk.{DiskView}
use Rattle.catalog_change.specs.Catalogues.{IsCatalogue, max_number}
use Rattle.catalog_change.specs.Changes.{IsChange}
use Rattle.catalog_change.specs.Resources.{pool_name}
use Rattle.catalog_change.specs.declared.change.Change.TheVariants as changes
use Rattle.resource_lists.specs.Kinds.{find_named}
use Rattle.volume_block.specs.Layout.{IsUnits}
use Rattle.volume_block.specs.Valid.{IsLabel, least_capacity}
use Rattle.volume_block.specs.declared.label.Label.{Label}
use Rattle.slot_changer.specs.Drives.{DriveView, IsDrive, in_drive}
use Rattle.room_catalog.specs.Held.{CatalogueLists, catalogue_of}
use Rattle.room_command.specs.declared.answer.Answer.TheVariants.{Labelled}
use Rattle.room_command.specs.declared.reply.Reply.TheVariants.{Done, Refused}
use Rattle.room_effects.specs.View.{RoomView}
use Rattle.room_effects.specs.Effects.{Effect, Enter, WriteLabel}
use Rattle.room_effects.specs.Needs.{CanDo, IsFitting, IsInNoDrive}
use Rattle.room_effects.specs.Running.{Does}
use Rattle.room_effects.proofs.Does.{does_append, does_stop}
use Rattle.room_entering.specs.Prepared.{IsEnteredFrom}
use Rattle.room_entering.proofs.Ceilings.{first_file_append, follows_below_ceiling}
use Rattle.room_effects.specs.Entering.{is_at_ceiling, with_first_file}
use Rattle.room_effects.specs.Plans.{Follows}
use Rattle.room_effects.proofs.Following.{follows_done, follows_fault}
use Rattle.room_media.specs.declared.labelling.NewVolume.{NewVolume}
use Rattle.room_media.specs.Labelling.{is_capacity, label_of, new_volume_plan, next_volid}
use Rattle.room_media.specs.NewVolumes.{IsNewVolume}

-- ---- numbers

capacity_is : (units capacity : ℕ) → is_capacity units capacity ≡ true → (least_capacity units ≤ capacity) × (capacity ≤ 1000000)
capacity_is units capacity is = grind (arith, nat_tests)

least_is : (units : ℕ) → IsUnits units → 67 ≤ least_capacity units
least_is units is = omega (arith, is)

below_is : (lists : CatalogueLists) → is_at_ceiling lists ≡ false → (lists.number < max_number) × (lists.next_volid < max_number)
below_is lists below = grind (arith, nat_tests)

some_is : {X : Type 0} (held : Option X) → is_some held ≡ true → IsSome held
some_is None is = absurd (let no : ◌≡◌ {A = Bool} false true = is in cc)
some_is (Some x) is = search rules

-- ---- what is needed

module _ (m : Moment) (new : NewVolume) (was : Volid) (room : RoomView) (is : IsNewVolume new room) (held : IsCatalogue (catalogue_of room.catalogue)) where
  pub label_is : m.0 ≤ max_moment → IsLabel (label_of m (next_volid room) new)
  label_is moment = record {
    volid = (held.next_volid.0, omega (arith, held.next_volid.1));
    cart = is.cart;
    units = is.units;
    capacity = capacity_is new.units new.capacity is.capacity;
    made = moment;
    pool_length = (omega (arith, is.pool.0.0), is.pool.0.1);
    room = length-append new.pool (replicate (64 - length new.pool) 0) ∙ omega (arith, length-replicate {A = ℕ} (64 - length new.pool) 0, is.pool.0.1);
    pool = (let N : List ℕ → Type 0 = λ text. IsName text in subst N (sym (take-append_seam new.pool (replicate (64 - length new.pool) 0))) is.pool.1);
    zeros = drop-append_seam new.pool (replicate (64 - length new.pool) 0);
  }

  pub change_is : IsChange (changes.Labelled (next_volid room) new.cart new.pool new.capacity was)
  change_is =
      let fits = capacity_is new.units new.capacity is.capacity in
      (held.next_volid.0, is.pool, (omega (arith, fits.0, least_is new.units is.units), fits.1))

  pub change_fits : is_at_ceiling room.catalogue ≡ false → IsFitting (changes.Labelled (next_volid room) new.cart new.pool new.capacity was) room
  change_fits below =
      let left = below_is room.catalogue below in
      record {
        allowed = change_is;
        fits = (left.0, (omega arith, left.1, is.cart, some_is (find_named pool_name new.pool room.catalogue.resources.pools) is.known));
        parts_fit = tt;
      }

pub can_write : (label : Label) (room mid : RoomView) → IsTrue room.is_open → IsLabel label → IsInNoDrive label.cart.0 room → IsEnteredFrom room mid → CanDo (WriteLabel label) mid
can_write label room mid opens allowed none entered =
    let O : Bool → Type 0 = λ open_so. IsTrue open_so in
    let N : List (Option DriveView) → Type 0 = λ drives. (drive : ℕ) (one : DriveView) → IsDrive drive → in_drive drives drive ≡ Some one → one.volume.cart.0 ≡ label.cart.0 → ⊥ in
    record {
      opens = subst O (sym entered.opens) opens;
      needs = record { allowed = allowed; in_no_drive = subst N (sym entered.drives) none };
    }

-- ---- the plan

module _ (m : Moment) (new : NewVolume) (was : Volid) (room : RoomView) (below : is_at_ceiling room.catalogue ≡ false) where
  -- the entry, as far as it came
  entered_as : {T : Type 0} (volid : Volid) (answer : Result T Refusal) (mid : RoomView) (before now : DiskView) → volid ≡ next_volid room
      → Does {T = T} (with_first_file room (Enter m (changes.Labelled volid new.cart new.pool new.capacity was) ∷ [])) answer room mid before now
      → Does {T = T} (with_first_file room (Enter m (changes.Labelled (next_volid room) new.cart new.pool new.capacity was) ∷ [])) answer room mid before now
  entered_as {T} volid answer mid before now is does =
      let D : Volid → Type 0 = λ v. Does {T = T} (with_first_file room (Enter m (changes.Labelled v new.cart new.pool new.capacity was) ∷ [])) answer room mid before now in
      subst D is does

  -- the entry and the label
  both : {T : Type 0} (label : Label) (answer : Result T Refusal) (mid : RoomView) (before middle now : DiskView) → label ≡ label_of m (next_volid room) new
      → Does {T = Unit {0}} (with_first_file room (Enter m (changes.Labelled (next_volid room) new.cart new.pool new.capacity was) ∷ [])) (Ok tt) room mid before middle
      → Does {T = T} (WriteLabel label ∷ []) answer mid mid middle now
      → Does {T = T} (with_first_file room (Enter m (changes.Labelled (next_volid room) new.cart new.pool new.capacity was) ∷ WriteLabel (label_of m (next_volid room) new) ∷ [])) answer room mid before now
  both {T} label answer mid before middle now is first second =
      let enter = Enter m (changes.Labelled (next_volid room) new.cart new.pool new.capacity was) ∷ [] in
      let write = WriteLabel (label_of m (next_volid room) new) ∷ [] in
      let W : Label → Type 0 = λ l. Does {T = T} (WriteLabel l ∷ []) answer mid mid middle now in
      let D : List Effect → Type 0 = λ effects. Does {T = T} effects answer room mid before now in
      subst D (sym (first_file_append room enter write))
      (does_append {T = Unit {0}} {U = T} (with_first_file room enter) write tt answer room mid mid before middle now first (subst W is second))

  pub follows_labelled : (volid : Volid) (label : Label) (mid : RoomView) (before middle now : DiskView) → volid ≡ next_volid room → label ≡ label_of m volid new
      → Does {T = Unit {0}} (with_first_file room (Enter m (changes.Labelled volid new.cart new.pool new.capacity was) ∷ [])) (Ok tt) room mid before middle
      → Does {T = Unit {0}} (WriteLabel label ∷ []) (Ok tt) mid mid middle now
      → Follows (new_volume_plan m new was room) (Done (Labelled new.cart volid)) room mid before now
  follows_labelled volid label mid before middle now is is_label first second =
      let effects = Enter m (changes.Labelled (next_volid room) new.cart new.pool new.capacity was) ∷ WriteLabel (label_of m (next_volid room) new) ∷ [] in
      let reply = Done (Labelled new.cart (next_volid room)) in
      let F : Volid → Type 0 = λ v. Follows (new_volume_plan m new was room) (Done (Labelled new.cart v)) room mid before now in
      subst F (sym is) (follows_below_ceiling [] effects reply reply room mid before now below (follows_done (with_first_file room effects) reply room mid before now
      (both {T = Unit {0}} label (Ok tt) mid before middle now (is_label ∙ ap (λ (v : Volid). label_of m v new) is)
      (entered_as {T = Unit {0}} volid (Ok tt) mid before middle is first) second)))

  pub follows_unlabelled : (volid : Volid) (label : Label) (fault : Refusal) (mid : RoomView) (before middle now : DiskView) → volid ≡ next_volid room → label ≡ label_of m volid new
      → Does {T = Unit {0}} (with_first_file room (Enter m (changes.Labelled volid new.cart new.pool new.capacity was) ∷ [])) (Ok tt) room mid before middle
      → Does {T = Unit {0}} (WriteLabel label ∷ []) (Err fault) mid mid middle now
      → Follows (new_volume_plan m new was room) (Refused fault) room mid before now
  follows_unlabelled volid label fault mid before middle now is is_label first second =
      let effects = Enter m (changes.Labelled (next_volid room) new.cart new.pool new.capacity was) ∷ WriteLabel (label_of m (next_volid room) new) ∷ [] in
      let reply = Done (Labelled new.cart (next_volid room)) in
      follows_below_ceiling [] effects reply (Refused fault) room mid before now below (follows_fault (with_first_file room effects) reply room mid before now fault
      (both {T = Unit {0}} label (Err fault) mid before middle now (is_label ∙ ap (λ (v : Volid). label_of m v new) is)
      (entered_as {T = Unit {0}} volid (Ok tt) mid before middle is first) second))

  pub follows_unentered : (volid : Volid) (fault : Refusal) (mid : RoomView) (before now : DiskView) → volid ≡ next_volid room
      → Does {T = Unit {0}} (with_first_file room (Enter m (changes.Labelled volid new.cart new.pool new.capacity was) ∷ [])) (Err fault) room mid before now
      → Follows (new_volume_plan m new was room) (Refused fault) room mid before now
  follows_unentered volid fault mid before now is first =
      let enter = Enter m (changes.Labelled (next_volid room) new.cart new.pool new.capacity was) ∷ [] in
      let write = WriteLabel (label_of m (next_volid room) new) ∷ [] in
      let reply = Done (Labelled new.cart (next_volid room)) in
      let D : List Effect → Type 0 = λ effects. Does {T = Unit {0}} effects (Err fault) room mid before now in
      follows_below_ceiling [] (enter ++ write) reply (Refused fault) room mid before now below (follows_fault (with_first_file room (enter ++ write)) reply room mid before now fault
      (subst D (sym (first_file_append room enter write)) (does_stop {T = Unit {0}} {U = Unit {0}} (with_first_file room enter) write fault room mid before now
      (entered_as {T = Unit {0}} volid (Err fault) mid before now is first))))
