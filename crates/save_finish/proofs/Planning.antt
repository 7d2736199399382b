-- How finishing a save follows its plan.
use Rattle.std.proofs.Common.{◌≡◌, ℕ, Bool, true, false, List, [], if◌then◌else◌, sym, ap, subst, inl}
use Rattle.std.specs.Prelude.{Option, Some, None, IfSome, Result, Ok, Err}
use Rattle.std.specs.Option.{is_some}
use Rattle.room_base.specs.declared.numbers.Moment.{Moment}
use Rattle.room_base.specs.declared.numbers.Ssid.{Ssid}
use Rattle.room_base.specs.declared.refusal.Refusal.{Refusal}
use Rattle.room_base.specs.declared.refusal.Refusal.TheVariants.{NoMemory, TooMany}
use Rattle.room_disk.specs.Disk.{DiskView}
use Rattle.media_db.specs.Rows.{find_record}
use Rattle.save_session.specs.Sessions.{SessionView}
use Rattle.room_command.specs.declared.answer.Answer.{Answer}
use Rattle.room_command.specs.declared.reply.Reply.{Reply}
use Rattle.room_command.specs.declared.reply.Reply.TheVariants.{Done, Refused}
use Rattle.room_effects.specs.View.{RoomView}
use Rattle.room_effects.specs.Running.{Does}
use Rattle.room_effects.proofs.Does.{does_none}
use Rattle.room_effects.specs.Checked.{checked}
use Rattle.room_effects.specs.Entering.{ceiling, is_at_ceiling}
use Rattle.room_effects.specs.Plans.{Plan, Do, Refuse, Follows}
use Rattle.room_effects.proofs.Checking.{follows_checked, follows_checks}
use Rattle.room_effects.proofs.Following.{follows_done, follows_fault, follows_no_memory, follows_refusal}
use Rattle.save_finish.specs.Ending.{ending}
use Rattle.save_finish.specs.Finishing.{ending_plan, finished, finished_again, plan_for, session_checks, session_plan}

module _ (m : Moment) (ssid : Ssid) (size : ℕ) (digest : List ℕ) (room : RoomView) where
  -- ---- a set without a session

  again_plan : Plan
  again_plan = checked {X = Answer} (finished_again ssid size digest (find_record ssid.0 room.catalogue.records)) (λ answer. Do [] (Done answer))

  none_open : (found : Option SessionView) (answer : Reply) (disk : DiskView) → is_some found ≡ false
      → Follows (plan_for m ssid size digest room None) answer room room disk disk → Follows (plan_for m ssid size digest room found) answer room room disk disk
  none_open None answer disk none follows = follows
  none_open (Some session) answer disk none follows = absurd (let no : ◌≡◌ {A = Bool} true false = none in cc)

  pub answered_again : (found : Option SessionView) (answer : Answer) (disk : DiskView) → is_some found ≡ false
      → ◌≡◌ {A = Result Answer Refusal} (Ok answer) (finished_again ssid size digest (find_record ssid.0 room.catalogue.records))
      → Follows (plan_for m ssid size digest room found) (Done answer) room room disk disk
  answered_again found answer disk none is =
      none_open found (Done answer) disk none
      (follows_checked {X = Answer} (finished_again ssid size digest (find_record ssid.0 room.catalogue.records)) (λ one. Do [] (Done one)) answer (Done answer) room room disk disk is
      (follows_done [] (Done answer) room room disk disk (does_none {T = Unit {0}} tt room disk)))

  pub refused_again : (found : Option SessionView) (refusal : Refusal) (disk : DiskView) → is_some found ≡ false
      → ◌≡◌ {A = Result Answer Refusal} (Err refusal) (finished_again ssid size digest (find_record ssid.0 room.catalogue.records))
      → Follows (plan_for m ssid size digest room found) (Refused refusal) room room disk disk
  refused_again found refusal disk none is =
      none_open found (Refused refusal) disk none
      (follows_checks {X = Answer} (finished_again ssid size digest (find_record ssid.0 room.catalogue.records)) (λ one. Do [] (Done one)) refusal room disk (inl is))

  -- ---- a set with a session

  pub plan_open : (found : Option SessionView) (answer : Reply) (new : RoomView) (before now : DiskView) → is_some found ≡ true
      → IfSome found (λ session. Follows (session_plan m ssid size digest session room) answer room new before now)
      → Follows (plan_for m ssid size digest room found) answer room new before now
  plan_open None answer new before now some follows = absurd (let no : ◌≡◌ {A = Bool} false true = some in cc)
  plan_open (Some session) answer new before now some follows = follows

  pub checked_found : (found : Option SessionView) (answer : Reply) (new : RoomView) (before now : DiskView)
      → IfSome found (λ session. ◌≡◌ {A = Result (Unit {0}) Refusal} (Ok tt) (session_checks size digest session))
      → IfSome found (λ session. Follows (ending_plan m ssid session room) answer room new before now)
      → IfSome found (λ session. Follows (session_plan m ssid size digest session room) answer room new before now)
  checked_found None answer new before now checks follows = tt
  checked_found (Some session) answer new before now checks follows =
      follows_checked {X = Unit {0}} (session_checks size digest session) (λ done. ending_plan m ssid session room) tt answer room new before now checks follows

  pub refused_found : (found : Option SessionView) (refusal : Refusal) (disk : DiskView)
      → IfSome found (λ session. ◌≡◌ {A = Result (Unit {0}) Refusal} (Err refusal) (session_checks size digest session))
      → IfSome found (λ session. Follows (session_plan m ssid size digest session room) (Refused refusal) room room disk disk)
  refused_found None refusal disk checks = tt
  refused_found (Some session) refusal disk checks =
      follows_checks {X = Unit {0}} (session_checks size digest session) (λ done. ending_plan m ssid session room) refusal room disk (inl checks)

-- ---- the end of a session

module _ (m : Moment) (ssid : Ssid) (room : RoomView) where
  planned_by : (test : Bool) (session : SessionView) → is_at_ceiling room.catalogue ≡ test
      → (if test then Refuse (TooMany ceiling) else Do (ending m ssid session room) (finished ssid session)) ≡ ending_plan m ssid session room
  planned_by test session is = ap (λ (one : Bool). if one then Refuse (TooMany ceiling) else Do (ending m ssid session room) (finished ssid session)) (sym is)

  pub ceiling_found : (found : Option SessionView) (disk : DiskView) → is_at_ceiling room.catalogue ≡ true
      → IfSome found (λ session. Follows (ending_plan m ssid session room) (Refused (TooMany ceiling)) room room disk disk)
  ceiling_found None disk at = tt
  ceiling_found (Some session) disk at =
      let F : Plan → Type 0 = λ plan. Follows plan (Refused (TooMany ceiling)) room room disk disk in
      subst F (planned_by true session at) (follows_refusal (TooMany ceiling) room disk)

  pub below_found : (found : Option SessionView) (answer : Reply) (new : RoomView) (before now : DiskView) → is_at_ceiling room.catalogue ≡ false
      → IfSome found (λ session. Follows (Do (ending m ssid session room) (finished ssid session)) answer room new before now)
      → IfSome found (λ session. Follows (ending_plan m ssid session room) answer room new before now)
  below_found None answer new before now below follows = tt
  below_found (Some session) answer new before now below follows =
      let F : Plan → Type 0 = λ plan. Follows plan answer room new before now in
      subst F (planned_by false session below) follows

  -- all is done
  pub done_found : (found : Option SessionView) (answer : Reply) (new : RoomView) (before now : DiskView) → IfSome found (λ session. answer ≡ finished ssid session)
      → IfSome found (λ session. Does {T = Unit {0}} (ending m ssid session room) (Ok tt) room new before now)
      → IfSome found (λ session. Follows (Do (ending m ssid session room) (finished ssid session)) answer room new before now)
  done_found None answer new before now is does = tt
  done_found (Some session) answer new before now is does =
      let F : Reply → Type 0 = λ reply. Follows (Do (ending m ssid session room) (finished ssid session)) reply room new before now in
      subst F (sym is) (follows_done (ending m ssid session room) (finished ssid session) room new before now does)

  -- an effect failed
  pub fault_found : (found : Option SessionView) (fault : Refusal) (new : RoomView) (before now : DiskView)
      → IfSome found (λ session. Does {T = Unit {0}} (ending m ssid session room) (Err fault) room new before now)
      → IfSome found (λ session. Follows (Do (ending m ssid session room) (finished ssid session)) (Refused fault) room new before now)
  fault_found None fault new before now does = tt
  fault_found (Some session) fault new before now does = follows_fault (ending m ssid session room) (finished ssid session) room new before now fault does

  -- memory was wanting
  pub no_memory_found : (found : Option SessionView) (new : RoomView) (disk : DiskView) → new ≡ room
      → IfSome found (λ session. Follows (Do (ending m ssid session room) (finished ssid session)) (Refused NoMemory) room new disk disk)
  no_memory_found None new disk same = tt
  no_memory_found (Some session) new disk same =
      let F : RoomView → Type 0 = λ one. Follows (Do (ending m ssid session room) (finished ssid session)) (Refused NoMemory) room one disk disk in
      subst F (sym same) (follows_no_memory (Do (ending m ssid session room) (finished ssid session)) room disk)
