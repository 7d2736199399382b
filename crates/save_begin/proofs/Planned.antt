-- How the beginning of a save follows its plan.
use Rattle.std.proofs.Common.{◌≡◌, ℕ, Bool, true, false, List, [], ◌∷◌, length, if◌then◌else◌, refl, sym, ap, ◌∙◌, subst, inl, inr}
use Rattle.std.specs.Prelude.{◌⊎◌, Option, Some, None, Result, Ok, Err, MatchOption, MatchResult, codes}
use Rattle.room_base.specs.declared.numbers.Moment.{Moment}
use Rattle.room_base.specs.declared.refusal.Refusal.{Refusal}
use Rattle.room_base.specs.declared.refusal.Refusal.TheVariants.{NeedVolume, NoMemory, NoSuch, TooMany}
use Rattle.room_disk.specs.Disk.{DiskView}
use Rattle.room_rules.specs.declared.group.Group.{Group}
use Rattle.room_rules.specs.declared.group.Planned.{Planned}
use Rattle.save_stream.specs.declared.head.SetHead.{SetHead}
use Rattle.save_stream.specs.Spelling.{head_text}
use Rattle.catalog_change.specs.declared.change.Change.{Change}
use Rattle.catalog_change.specs.declared.change.Change.TheVariants as changes
use Rattle.sched_levels.specs.Plans.{IsPlan}
use Rattle.room_command.specs.declared.answer.Answer.TheVariants as answers
use Rattle.room_command.specs.declared.reply.Reply.{Reply}
use Rattle.room_command.specs.declared.reply.Reply.TheVariants.{Done, Refused}
use Rattle.room_effects.specs.View.{RoomView}
use Rattle.room_effects.specs.Effects.{Enter, Open, after_done}
use Rattle.room_effects.specs.Needs.{CanDo}
use Rattle.room_effects.specs.Running.{Does}
use Rattle.room_effects.proofs.Does.{does_none, does_then}
use Rattle.room_effects.proofs.Sending.{does_open}
use Rattle.room_effects.specs.Checked.{ComesTo, checked}
use Rattle.room_effects.specs.Entering.{ceiling, is_at_ceiling, with_first_file}
use Rattle.room_effects.specs.Plans.{Plan, Refuse, Do, Follows}
use Rattle.room_effects.proofs.Checking.{came_to, follows_checked, follows_checks}
use Rattle.room_effects.proofs.Following.{follows_done, follows_no_memory, follows_refusal}
use Rattle.room_placing.specs.Placing.{IsDriveFor, placing}
use Rattle.save_begin.specs.declared.asked.Allowed.{Allowed}
use Rattle.save_begin.specs.declared.asked.Asked.{Asked}
use Rattle.save_begin.specs.declared.choosing.Chosen.{Chosen}
use Rattle.save_begin.specs.declared.entering.Begun.{Begun}
use Rattle.save_begin.specs.Asking.{AnswersFor, AreAllowed, begin_checks, group_action, group_of}
use Rattle.save_begin.specs.Beginning.{IsBeginPlan, IsLevelPlan, begin_plan, chosen_plan, drive_check, entering_head}
use Rattle.save_begin.specs.Grouping.{IsGroupPlan, IsSavegrpPlan}
use Rattle.save_begin.specs.Heading.{IsHeadFor}
use Rattle.save_begin.specs.Writing.{IsMade}

-- ---- a group

module _ (m : Moment) (name : List ℕ) (room : RoomView) (disk : DiskView) where
  -- the plan that there is for the group that was found
  group_plan : (group : Group) (plan : Plan) → group_of name room ≡ Some group → IsGroupPlan m room plan group → IsSavegrpPlan m name room plan
  group_plan group plan found is =
      let M : Option Group → Type 0 = λ it. MatchOption it (plan ≡ Refuse (NoSuch (codes "group") name)) (IsGroupPlan m room plan) in
      subst M (sym found) is

  abbrev FollowsOne : Reply → Type 0
  FollowsOne answer = (plan : Plan) × IsSavegrpPlan m name room plan × Follows plan answer room room disk disk

  pub group_planned : (group : Group) (planned : List Planned) → group_of name room ≡ Some group
      → IsPlan room.catalogue.records (group_action m room group) group.members planned → FollowsOne (Done (answers.Plan planned))
  group_planned group planned found are =
      let reply = Done (answers.Plan planned) in (
        Do [] reply,
        group_plan group (Do [] reply) found (record { planned = Some planned; are = are; is = refl }),
        follows_done [] reply room room disk disk (does_none {T = Unit {0}} tt room disk),
      )

  pub group_unplanned : (group : Group) → group_of name room ≡ Some group → FollowsOne (Refused NoMemory)
  group_unplanned group found = (
    Refuse NoMemory,
    group_plan group (Refuse NoMemory) found (record { planned = None; are = tt; is = refl }),
    follows_refusal NoMemory room disk,
  )

  pub no_group : (made : Refusal) → group_of name room ≡ None → (made ≡ NoSuch (codes "group") name) ⊎ (made ≡ NoMemory) → FollowsOne (Refused made)
  no_group made none so =
      let refusal = NoSuch (codes "group") name in
      let M : Option Group → Type 0 = λ it. MatchOption it (Refuse refusal ≡ Refuse refusal) (IsGroupPlan m room (Refuse refusal)) in
      let F : Refusal → Type 0 = λ it. Follows (Refuse refusal) (Refused it) room room disk disk in (
        Refuse refusal,
        subst M (sym none) refl,
        elim so [
          | inl is ↦ subst F (sym is) (follows_refusal refusal room disk)
          | inr is ↦ subst F (sym is) (follows_no_memory (Refuse refusal) room disk)
        ],
      )

-- ---- a save

module _ (m : Moment) (asked : Asked) (room : RoomView) where
  -- the checks have refused it
  pub begin_refused : (allowed : Allowed) (made : Refusal) (disk : DiskView) → AreAllowed allowed asked → AnswersFor {X = ℕ} (begin_checks allowed m asked room) (Err made)
      → (plan : Plan) × IsBeginPlan m asked room plan × Follows plan (Refused made) room room disk disk
  begin_refused allowed made disk are answers =
      let wanted = answers.0 in
      let M : Result ℕ Refusal → Type 0 = λ it. MatchResult it (IsLevelPlan m asked room (Refuse wanted)) (λ refusal. Refuse wanted ≡ Refuse refusal) in
      let F : Refusal → Type 0 = λ it. Follows (Refuse wanted) (Refused it) room room disk disk in (
        Refuse wanted,
        record { allowed = allowed; are = are; is = subst M (sym answers.1) refl },
        elim answers.2 [
          | inl is ↦ subst F (sym is) (follows_refusal wanted room disk)
          | inr is ↦ subst F (sym is) (follows_no_memory (Refuse wanted) room disk)
        ],
      )

  -- they have gone through
  pub begin_planned : (allowed : Allowed) (wanted : ℕ) (plan : Plan) → AreAllowed allowed asked → begin_checks allowed m asked room ≡ Ok wanted
      → IsLevelPlan m asked room plan wanted → IsBeginPlan m asked room plan
  begin_planned allowed wanted plan are ok is =
      let M : Result ℕ Refusal → Type 0 = λ it. MatchResult it (IsLevelPlan m asked room plan) (λ refusal. plan ≡ Refuse refusal) in
      record { allowed = allowed; are = are; is = subst M (sym ok) is }

  module _ (wanted : ℕ) (head : SetHead) (drive : Option ℕ) (is_head : IsHeadFor m asked wanted room head) (picked : IsDriveFor None head.pool (length (head_text head)) room drive) where
    level_plan : IsLevelPlan m asked room (checked {X = Chosen} (drive_check head drive) (chosen_plan m room)) wanted
    level_plan = record { head = head; is_head = is_head; drive = drive; picked = picked; is = refl }

    pub level_refused : (made : Refusal) (disk : DiskView) → ComesTo {X = Chosen} (drive_check head drive) (Err made)
        → (plan : Plan) × IsLevelPlan m asked room plan wanted × Follows plan (Refused made) room room disk disk
    level_refused made disk comes = (
      checked {X = Chosen} (drive_check head drive) (chosen_plan m room),
      level_plan,
      follows_checks {X = Chosen} (drive_check head drive) (chosen_plan m room) made room disk comes,
    )

    pub level_planned : (chosen : Chosen) (answer : Reply) (new : RoomView) (before now : DiskView) → ComesTo {X = Chosen} (drive_check head drive) (Ok chosen)
        → Follows (chosen_plan m room chosen) answer room new before now
        → (plan : Plan) × IsLevelPlan m asked room plan wanted × Follows plan answer room new before now
    level_planned chosen answer new before now comes follows = (
      checked {X = Chosen} (drive_check head drive) (chosen_plan m room),
      level_plan,
      follows_checked {X = Chosen} (drive_check head drive) (chosen_plan m room) chosen answer room new before now
          (came_to {X = Chosen} (drive_check head drive) chosen comes) follows,
    )

-- ---- the effects

-- the session is opened, and then the record is entered and the head pushed
pub does_begin : (m : Moment) (chosen : Chosen) (begun : Begun) (answer : Result (Unit {0}) Refusal) (old mid new : RoomView) (before now : DiskView) → IsMade chosen.head begun
    → CanDo (Open chosen.head) old → mid ≡ after_done (Open chosen.head) old
    → Does {T = Unit {0}} (with_first_file mid (Enter m begun.change ∷ placing chosen.drive chosen.head.ssid.0 0 begun.text mid)) answer mid new before now
    → Does {T = Unit {0}} (Open chosen.head ∷ entering_head m chosen old) answer old new before now
does_begin m chosen begun answer old mid new before now made can opened does =
    let C : Change → Type 0 = λ change.
    Does {T = Unit {0}} (with_first_file mid (Enter m change ∷ placing chosen.drive chosen.head.ssid.0 0 begun.text mid)) answer mid new before now in
    let L : List ℕ → Type 0 = λ text.
    Does {T = Unit {0}} (with_first_file mid (Enter m (changes.Begun chosen.head) ∷ placing chosen.drive chosen.head.ssid.0 0 text mid)) answer mid new before now in
    let M : RoomView → Type 0 = λ room. Does {T = Unit {0}} (entering_head m chosen room) answer mid new before now in
    does_then {T = Unit {0}} {U = Unit {0}} (Open chosen.head) (entering_head m chosen old) tt answer old mid new before before now
    (does_open {T = Unit {0}} chosen.head tt old mid before can opened) (subst M opened (subst L made.text (subst C made.change does)))

-- the head that was chosen
pub chosen_head : (head : SetHead) (drive : Option ℕ) (chosen : Chosen) → Ok chosen ≡ drive_check head drive → chosen.head ≡ head
chosen_head head None chosen is = absurd (let no : ◌≡◌ {A = Result Chosen Refusal} (Ok chosen) (Err (NeedVolume head.pool)) = is in cc)
chosen_head head (Some drive) chosen is =
    let same : chosen ≡ record { head = head; drive = drive } = cc is in
    ap (λ (one : Chosen). one.head) same

-- ---- the ceiling

module _ (m : Moment) (room : RoomView) (chosen : Chosen) (answer : Reply) (new : RoomView) (before now : DiskView) where
  follows_case : (test : Bool) (one other : Plan) → (test ≡ true → Follows one answer room new before now) → (test ≡ false → Follows other answer room new before now)
      → Follows (if test then one else other) answer room new before now
  follows_case true one other first second = first refl
  follows_case false one other first second = second refl

  pub follows_at_ceiling : is_at_ceiling room.catalogue ≡ true → Follows (Refuse (TooMany ceiling)) answer room new before now → Follows (chosen_plan m room chosen) answer room new before now
  follows_at_ceiling at follows = follows_case (is_at_ceiling room.catalogue) (Refuse (TooMany ceiling)) (begin_plan m room chosen)
      (λ same. follows) (λ other. absurd (let no : ◌≡◌ {A = Bool} true false = sym at ∙ other in cc))

  pub follows_below : is_at_ceiling room.catalogue ≡ false → Follows (begin_plan m room chosen) answer room new before now → Follows (chosen_plan m room chosen) answer room new before now
  follows_below below follows = follows_case (is_at_ceiling room.catalogue) (Refuse (TooMany ceiling)) (begin_plan m room chosen)
      (λ same. absurd (let no : ◌≡◌ {A = Bool} true false = sym same ∙ below in cc)) (λ other. follows)
