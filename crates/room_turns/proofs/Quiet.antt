-- Plans that leave the open sessions what they have.
use Rattle.std.proofs.Common.{ℕ, List, [], ◌∷◌, ◌++◌, sym, subst, inl, inr}
use Rattle.std.proofs.lemmas.Bool.{cond_both}
use Rattle.std.specs.List.{AllByRecursion}
use Rattle.std.specs.Option.{is_some}
use Rattle.std.specs.Prelude.{Result, Ok, Err, Option, None, ◌==◌, true, length}
use Rattle.room_base.specs.declared.numbers.Cart.{Cart}
use Rattle.room_base.specs.declared.numbers.Moment.{Moment}
use Rattle.room_base.specs.declared.numbers.Volid.{Volid}
use Rattle.room_base.specs.declared.refusal.Refusal.{Refusal}
use Rattle.room_base.specs.declared.refusal.Refusal.TheVariants.{TooMany}
use Rattle.media_db.specs.Rows.{volume_on}
use Rattle.catalog_change.specs.declared.change.Change.TheVariants as changes
use Rattle.catalog_change.specs.declared.resource.Resource.{Resource}
use Rattle.catalog_change.specs.declared.resource.ResourceKind.{ResourceKind}
use Rattle.resource_text.specs.Reading.{Outcome}
use Rattle.catalog_spelling.specs.Snapshots.{snapshot_text}
use Rattle.room_catalog.specs.Held.{catalogue_of}
use Rattle.save_session.specs.Sessions.{SessionView}
use Rattle.slot_changer.specs.Drives.{blocks_in}
use Rattle.volume_store.specs.declared.commit.Volume.{Volume}
use Rattle.room_command.specs.declared.answer.Answer.TheVariants as answers
use Rattle.room_command.specs.declared.reply.Reply.{Reply}
use Rattle.room_command.specs.declared.reply.Reply.TheVariants as replies
use Rattle.room_effects.specs.View.{RoomView, held_in}
use Rattle.room_effects.specs.Effects.{Commit, Effect, Enter, Look, Seen, SeenLabel, SeenVolume, TakeOut, TurnOver, WriteLabel}
use Rattle.room_effects.specs.Checked.{behind, checked}
use Rattle.room_effects.specs.Entering.{ceiling, entering, is_at_ceiling, with_first_file}
use Rattle.room_effects.specs.Plans.{Do, Plan, Refuse}
use Rattle.room_between.specs.Quiet.{IsQuiet, IsQuietPlan}
use Rattle.room_media.specs.Labelling.{IsLabelPlan, label_checks, label_of, new_volume_plan, next_volid, old_label}
use Rattle.room_media.specs.Mounting.{IsMountPlan, found_own, mount_checks, mounted_own, put_in_plan, unmount_checks, unmount_plan, volume_plan}
use Rattle.room_media.specs.Slots.{eject_checks, eject_plan, load_checks, load_plan}
use Rattle.room_media.specs.declared.labelling.NewVolume.{NewVolume}
use Rattle.room_resources.specs.Defining.{IsDefinePlan, define_plan, may_define}
use Rattle.room_resources.specs.Dropping.{drop_plan, may_drop}

module _ (sessions : List SessionView) where
  quiet_checked : {X : Type 0} (checks : Result X Refusal) (next : X → Plan) → ((value : X) → IsQuietPlan sessions (next value)) → IsQuietPlan sessions (checked {X = X} checks next)
  quiet_checked (Ok value) next quiet = quiet value
  quiet_checked (Err refusal) next quiet = tt

  quiet_behind : (cart : ℕ) (seen : Seen) (plan : Plan) → IsQuietPlan sessions plan → IsQuietPlan sessions (behind (Look cart seen) plan)
  quiet_behind cart seen (Refuse refusal) quiet = (tt, tt)
  quiet_behind cart seen (Do effects reply) quiet = (tt, quiet)

  quiet_entering : (effects : List Effect) (reply : Reply) (room : RoomView) → AllByRecursion (IsQuiet sessions) effects → IsQuietPlan sessions (entering [] effects reply room)
  quiet_entering effects reply room quiet =
      let snapshot = snapshot_text true (catalogue_of room.catalogue) in
      cond_both (is_at_ceiling room.catalogue) (Refuse (TooMany ceiling)) (Do ([] ++ with_first_file room effects) reply) (λ (plan : Plan). IsQuietPlan sessions plan)
      (λ full. tt)
      (λ left. cond_both (is_some room.journal.current) effects (TurnOver snapshot ∷ effects) (λ (list : List Effect). AllByRecursion (IsQuiet sessions) list)
      (λ some. quiet) (λ none. (tt, quiet)))

  pub load_quiet : (m : Moment) (slot : ℕ) (cart : Cart) (room : RoomView) → IsQuietPlan sessions (load_plan m slot cart room)
  load_quiet m slot cart room =
      quiet_checked {X = Unit {0}} (load_checks slot cart.0 room) _ (λ done. quiet_entering (Enter m (changes.Loaded slot cart) ∷ []) (replies.Done answers.Empty) room (tt, tt))

  pub eject_quiet : (m : Moment) (slot : ℕ) (room : RoomView) → IsQuietPlan sessions (eject_plan m slot room)
  eject_quiet m slot room =
      quiet_checked {X = Cart} (eject_checks slot room) _ (λ cart. quiet_entering (Enter m (changes.Ejected slot) ∷ []) (replies.Done answers.Empty) room (tt, tt))

  pub unmount_quiet : (drive : ℕ) (room : RoomView) → IsQuietPlan sessions (unmount_plan drive room)
  unmount_quiet drive room =
      quiet_checked {X = Unit {0}} (unmount_checks drive room) _
      (λ done. cond_both (blocks_in (held_in room drive) == 0) [] (Commit drive None ∷ [])
      (λ (list : List Effect). AllByRecursion (IsQuiet sessions) (list ++ TakeOut drive ∷ [])) (λ none. (tt, tt)) (λ some. (tt, (tt, tt))))

  pub mount_quiet : (slot drive : ℕ) (room : RoomView) (plan : Plan) → IsMountPlan slot drive room plan → IsQuietPlan sessions plan
  mount_quiet slot drive room plan is =
      let P : Plan → Type 0 = λ one. IsQuietPlan sessions one in
      let found = is.0 in
      let answer = is.1 in
      subst P (sym is.3)
      (quiet_checked {X = Cart} (mount_checks slot drive room) _
      (λ cart. (let volume = volume_on cart.0 room.catalogue.volumes in
      quiet_behind cart.0 (SeenLabel found) (checked {X = Unit {0}} (found_own volume cart found) (λ done. volume_plan drive answer volume cart))
      (quiet_checked {X = Unit {0}} (found_own volume cart found) _
      (λ done. quiet_behind cart.0 (SeenVolume answer) (checked {X = Volume} (mounted_own volume cart answer) (put_in_plan drive))
      (quiet_checked {X = Volume} (mounted_own volume cart answer) (put_in_plan drive) (λ mounted. (tt, tt))))))))

  pub label_quiet : (m : Moment) (slot : ℕ) (pool : List ℕ) (capacity : ℕ) (block : Option ℕ) (room : RoomView) (plan : Plan)
      → IsLabelPlan m slot pool capacity block room plan → IsQuietPlan sessions plan
  label_quiet m slot pool capacity block room plan is =
      let P : Plan → Type 0 = λ one. IsQuietPlan sessions one in
      subst P (sym is.is)
      (quiet_checked {X = NewVolume} (label_checks is.named slot pool capacity block room) _
      (λ new. (let volume = volume_on new.cart.0 room.catalogue.volumes in
      quiet_behind new.cart.0 (SeenLabel is.found) (checked {X = Volid} (old_label volume is.found is.asked) (λ was. new_volume_plan m new was room))
      (quiet_checked {X = Volid} (old_label volume is.found is.asked) _
      (λ was. quiet_entering
      (Enter m (changes.Labelled (next_volid room) new.cart new.pool new.capacity was) ∷ WriteLabel (label_of m (next_volid room) new) ∷ [])
      (replies.Done (answers.Labelled new.cart (next_volid room))) room (tt, (tt, tt)))))))

  given_quiet : (m : Moment) (outcome : Outcome (List Resource)) (room : RoomView) → IsQuietPlan sessions (define_plan m outcome room)
  given_quiet m (Err field) room = tt
  given_quiet m (Ok new) room =
      quiet_checked {X = Unit {0}} (may_define room.catalogue.resources new) _
      (λ done. quiet_entering (Enter m (changes.Defined new) ∷ []) (replies.Done (answers.Defined (length new))) room (tt, tt))

  pub define_quiet : (m : Moment) (text : List ℕ) (room : RoomView) (plan : Plan) → IsDefinePlan m text room plan → IsQuietPlan sessions plan
  define_quiet m text room plan (inl given) =
      let P : Plan → Type 0 = λ one. IsQuietPlan sessions one in subst P (sym given.2) (given_quiet m given.0 room)
  define_quiet m text room plan (inr none) = let P : Plan → Type 0 = λ one. IsQuietPlan sessions one in subst P (sym none) tt

  pub drop_quiet : (m : Moment) (kind : ResourceKind) (name : List ℕ) (room : RoomView) → IsQuietPlan sessions (drop_plan m kind name room)
  drop_quiet m kind name room =
      quiet_checked {X = Unit {0}} (may_drop kind name room.catalogue) _
      (λ done. quiet_entering (Enter m (changes.Dropped kind name) ∷ []) (replies.Done answers.Empty) room (tt, tt))
