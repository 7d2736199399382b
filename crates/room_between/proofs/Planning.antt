-- What is true between commands stays behind quiet deeds, and behind a quiet plan.
use Rattle.std.proofs.Common.{◌≡◌, ℕ, zero, suc, List, [], ◌∷◌, refl, sym, subst, inl, inr}
use Rattle.std.specs.List.{AllByRecursion}
use Rattle.std.specs.Prelude.{◌⊎◌, Result, Ok, Err, take}
use Rattle.room_base.specs.declared.refusal.Refusal.{Refusal}
use Rattle.room_base.specs.declared.refusal.Refusal.TheVariants.{NoMemory}
use Rattle.room_disk.specs.Disk.{DiskView}
use Rattle.room_command.specs.declared.reply.Reply.{Reply}
use Rattle.room_command.specs.declared.reply.Reply.TheVariants.{Refused}
use Rattle.media_db.specs.declared.records.Record.{Record}
use Rattle.save_session.specs.Sessions.{SessionView, off_drive, ssid_of}
use Rattle.room_effects.specs.View.{RoomView, IsBetweenCommands, IsPushed, IsRoom}
use Rattle.room_effects.specs.Effects.{Effect, Enter, EnterPart, TurnOver, Commit, Look, WriteLabel, Push, PutIn, TakeOut, Open, Take, Close}
use Rattle.room_effects.specs.Effects.{Deed, Done, Broken, after_all, after_broken, after_done, effect_of}
use Rattle.room_effects.specs.Needs.{CanDo}
use Rattle.room_effects.specs.Running.{AllCan, AreLooks, Does, RanTo}
use Rattle.room_effects.specs.Plans.{Plan, Refuse, Do, Follows, IsTurn}
use Rattle.room_between.specs.Middle.{HasRecord}
use Rattle.room_between.specs.Quiet.{AreQuiet, IsQuiet, IsQuietPlan}
use Rattle.room_between.proofs.Records.{IsElsewhere, each_of_all, elsewhere}
use Rattle.room_between.proofs.Keeping.{Have, both, each_of_both, each_so, have_entered, have_left, have_turned, records_of}
use Rattle.room_between.proofs.Quieting.{between_of, have_broken, have_of}

-- ---- one effect, and one session

-- it begins no session, and goes on with none and ends none
abbrev IsNoStep : Effect → Type 0
IsNoStep (Push drive ssid copy offset bytes) = ⊥
IsNoStep (Open head) = ⊥
IsNoStep (Take ssid piece) = ⊥
IsNoStep (Close ssid) = ⊥
IsNoStep _ = Unit {0}

-- it isn't the entry of a change of this set
abbrev IsAt : Effect → ℕ → Type 0
IsAt (Enter m change) ssid = IsElsewhere change ssid
IsAt _ ssid = Unit {0}

no_step : (sessions : List SessionView) (effect : Effect) → IsQuiet sessions effect → IsNoStep effect
no_step sessions (Enter m change) quiet = tt
no_step sessions (EnterPart m ssid part index) quiet = tt
no_step sessions (TurnOver snapshot) quiet = tt
no_step sessions (Commit drive asking) quiet = tt
no_step sessions (Look cart seen) quiet = tt
no_step sessions (WriteLabel label) quiet = tt
no_step sessions (Push drive ssid copy offset bytes) quiet = quiet
no_step sessions (PutIn drive volume) quiet = tt
no_step sessions (TakeOut drive) quiet = tt
no_step sessions (Open head) quiet = quiet
no_step sessions (Take ssid piece) quiet = quiet
no_step sessions (Close ssid) quiet = quiet

at_each : (sessions : List SessionView) (effect : Effect) → IsQuiet sessions effect → AllByRecursion (λ session. IsAt effect (ssid_of session)) sessions
at_each sessions (Enter m change) quiet = elsewhere change sessions quiet
at_each sessions (EnterPart m ssid part index) quiet = each_of_all sessions
at_each sessions (TurnOver snapshot) quiet = each_of_all sessions
at_each sessions (Commit drive asking) quiet = each_of_all sessions
at_each sessions (Look cart seen) quiet = each_of_all sessions
at_each sessions (WriteLabel label) quiet = each_of_all sessions
at_each sessions (Push drive ssid copy offset bytes) quiet = absurd quiet
at_each sessions (PutIn drive volume) quiet = each_of_all sessions
at_each sessions (TakeOut drive) quiet = each_of_all sessions
at_each sessions (Open head) quiet = absurd quiet
at_each sessions (Take ssid piece) quiet = absurd quiet
at_each sessions (Close ssid) quiet = absurd quiet

-- each session has its record behind an effect, and this holds of it
one_done : (P : SessionView → Type 0) → ((drive : ℕ) (session : SessionView) → P session → P (off_drive drive session)) → (effect : Effect) (room : RoomView)
    → CanDo effect room → IsNoStep effect → AllByRecursion (λ session. IsAt effect (ssid_of session)) room.sessions
    → Have P room.catalogue.records room.sessions → Have P (after_done effect room).catalogue.records (after_done effect room).sessions
one_done P leaves (Enter m change) room can calm there have = have_entered P m change room can.needs there have
one_done P leaves (EnterPart m ssid part index) room can calm there have = have
one_done P leaves (TurnOver snapshot) room can calm there have = have_turned P _ room have
one_done P leaves (Commit drive asking) room can calm there have = have
one_done P leaves (Look cart seen) room can calm there have = have
one_done P leaves (WriteLabel label) room can calm there have = have
one_done P leaves (Push drive ssid copy offset bytes) room can calm there have = absurd calm
one_done P leaves (PutIn drive volume) room can calm there have = have
one_done P leaves (TakeOut drive) room can calm there have = have_left P leaves drive room.catalogue.records room.sessions have
one_done P leaves (Open head) room can calm there have = absurd calm
one_done P leaves (Take ssid piece) room can calm there have = absurd calm
one_done P leaves (Close ssid) room can calm there have = absurd calm

-- ---- deeds

-- all that the session was sent is pushed, and none of the deeds is about it
abbrev Rest : List Deed → SessionView → Type 0
Rest deeds session = IsPushed session × AllByRecursion (λ deed. IsAt (effect_of deed) (ssid_of session)) deeds

at_all : (sessions : List SessionView) (deeds : List Deed) → AreQuiet sessions deeds
    → AllByRecursion (λ session. AllByRecursion (λ deed. IsAt (effect_of deed) (ssid_of session)) deeds) sessions
at_all sessions [] quiet = each_of_all sessions
at_all sessions (deed ∷ deeds) quiet =
    each_of_both (λ session. IsAt (effect_of deed) (ssid_of session)) (λ session. AllByRecursion (λ one. IsAt (effect_of one) (ssid_of session)) deeds)
    (λ session. IsAt (effect_of deed) (ssid_of session) × AllByRecursion (λ one. IsAt (effect_of one) (ssid_of session)) deeds)
    (λ session one other. (one, other)) sessions (at_each sessions (effect_of deed) quiet.0) (at_all sessions deeds quiet.1)

module _ (deed : Deed) (deeds : List Deed) (records : List Record) (sessions : List SessionView) (have : Have (Rest (deed ∷ deeds)) records sessions) where
  first_at : AllByRecursion (λ session. IsAt (effect_of deed) (ssid_of session)) sessions
  first_at =
      each_so (λ session. HasRecord records session × Rest (deed ∷ deeds) session) (λ session. IsAt (effect_of deed) (ssid_of session))
      (λ session is. is.1.1.0) sessions have

  rest_at : Have (Rest deeds) records sessions
  rest_at =
      each_so (λ session. HasRecord records session × Rest (deed ∷ deeds) session) (λ session. HasRecord records session × Rest deeds session)
      (λ session is. (is.0, (is.1.0, is.1.1.1))) sessions have

have_all : (deeds : List Deed) (room : RoomView) → AllCan deeds room → AllByRecursion (λ deed. IsNoStep (effect_of deed)) deeds
    → Have (Rest deeds) room.catalogue.records room.sessions → Have IsPushed (after_all deeds room).catalogue.records (after_all deeds room).sessions
have_all [] room can calm have =
    each_so (λ session. HasRecord room.catalogue.records session × Rest [] session) (λ session. HasRecord room.catalogue.records session × IsPushed session)
    (λ session is. (is.0, is.1.0)) room.sessions have
have_all (Done effect ∷ deeds) room can calm have =
    have_all deeds (after_done effect room) can.1 calm.1
    (one_done (Rest deeds) (λ drive session rest. rest) effect room can.0 calm.0
    (first_at (Done effect) deeds room.catalogue.records room.sessions have)
    (rest_at (Done effect) deeds room.catalogue.records room.sessions have))
have_all (Broken effect ∷ deeds) room can calm have =
    have_all deeds (after_broken effect room) can.1 calm.1
    (have_broken (Rest deeds) (λ drive session rest. rest) effect room
    (rest_at (Broken effect) deeds room.catalogue.records room.sessions have))

pub between_behind : (deeds : List Deed) (room : RoomView) → IsBetweenCommands room → AreQuiet room.sessions deeds → AllCan deeds room
    → IsRoom (after_all deeds room) → IsBetweenCommands (after_all deeds room)
between_behind deeds room is quiet can now =
    between_of (after_all deeds room) now
    (have_all deeds room can
    (each_so (λ deed. IsQuiet room.sessions (effect_of deed)) (λ deed. IsNoStep (effect_of deed)) (λ deed one. no_step room.sessions (effect_of deed) one) deeds quiet)
    (both (Rest deeds) room.catalogue.records room.sessions is.records
    (each_of_both IsPushed (λ session. AllByRecursion (λ deed. IsAt (effect_of deed) (ssid_of session)) deeds) (Rest deeds)
    (λ session one other. (one, other)) room.sessions is.pushed (at_all room.sessions deeds quiet))))

-- ---- plans

module _ {T : Type 0} (sessions : List SessionView) where
  quiet_ran : (effects : List Effect) (room : RoomView) (answer : Result T Refusal) (deeds : List Deed) → RanTo {T = T} effects room answer deeds
      → AllByRecursion (IsQuiet sessions) effects → AreQuiet sessions deeds
  quiet_ran [] room (Ok _) [] ran quiet = tt
  quiet_ran [] room (Ok _) (deed ∷ deeds) ran quiet = absurd ran
  quiet_ran [] room (Err fault) deeds ran quiet = absurd ran
  quiet_ran (effect ∷ effects) room (Ok _) [] ran quiet = absurd ran
  quiet_ran (effect ∷ effects) room (Ok value) (Done one ∷ deeds) ran quiet = (
    subst (IsQuiet sessions) (sym ran.0) quiet.0,
    quiet_ran effects _ (Ok value) deeds ran.1 quiet.1,
  )
  quiet_ran (effect ∷ effects) room (Ok _) (Broken one ∷ deeds) ran quiet = absurd ran
  quiet_ran (effect ∷ effects) room (Err fault) [] ran quiet = absurd ran
  quiet_ran (effect ∷ effects) room (Err fault) (Done one ∷ deeds) ran quiet = (
    subst (IsQuiet sessions) (sym ran.0) quiet.0,
    quiet_ran effects _ (Err fault) deeds ran.1 quiet.1,
  )
  quiet_ran (effect ∷ effects) room (Err fault) (Broken one ∷ []) ran quiet = (subst (IsQuiet sessions) (sym ran.0) quiet.0, tt)
  quiet_ran (effect ∷ effects) room (Err fault) (Broken one ∷ other ∷ deeds) ran quiet = absurd ran

module _ (sessions : List SessionView) where
  quiet_taken : (count : ℕ) (effects : List Effect) → AllByRecursion (IsQuiet sessions) effects → AllByRecursion (IsQuiet sessions) (take count effects)
  quiet_taken zero effects quiet = tt
  quiet_taken (suc count) [] quiet = tt
  quiet_taken (suc count) (effect ∷ effects) quiet = (quiet.0, quiet_taken count effects quiet.1)

  quiet_turn : (plan : Plan) (room : RoomView) (answer : Reply) (deeds : List Deed) → IsQuietPlan sessions plan → IsTurn plan room answer deeds → AreQuiet sessions deeds
  quiet_turn (Refuse refusal) room answer deeds quiet turn = let D : List Deed → Type 0 = λ all. AreQuiet sessions all in subst D (sym turn.1) tt
  quiet_turn (Do effects reply) room answer deeds quiet (inl done) = quiet_ran {T = Unit {0}} sessions effects room (Ok tt) deeds done.1 quiet
  quiet_turn (Do effects reply) room answer deeds quiet (inr (inl (fault, is, ran))) = quiet_ran {T = Unit {0}} sessions effects room (Err fault) deeds ran quiet
  quiet_turn (Do effects reply) room answer deeds quiet (inr (inr (is, looks, ran))) =
      quiet_ran {T = Unit {0}} sessions (take ran.0 effects) room (Ok tt) deeds ran.1 (quiet_taken ran.0 effects quiet)

pub between_done : {T : Type 0} (effects : List Effect) (answer : Result T Refusal) (old new : RoomView) (before now : DiskView) → IsBetweenCommands old
    → AllByRecursion (IsQuiet old.sessions) effects → Does {T = T} effects answer old new before now → IsRoom new → IsBetweenCommands new
between_done {T} effects answer old new before now is quiet does there =
    let R : RoomView → Type 0 = λ room. IsRoom room in
    let B : RoomView → Type 0 = λ room. IsBetweenCommands room in
    let made = does.performed.room in
    subst B (sym made)
    (between_behind does.deeds old is (quiet_ran {T = T} old.sessions effects old answer does.deeds does.ran quiet) does.performed.can (subst R made there))

pub between_followed : (plan : Plan) (answer : Reply) (old new : RoomView) (before now : DiskView) → IsBetweenCommands old → IsQuietPlan old.sessions plan
    → Follows plan answer old new before now → IsRoom new → IsBetweenCommands new
between_followed plan answer old new before now is quiet follows there =
    let R : RoomView → Type 0 = λ room. IsRoom room in
    let B : RoomView → Type 0 = λ room. IsBetweenCommands room in
    let made = follows.performed.room in
    subst B (sym made)
    (between_behind follows.deeds old is (quiet_turn old.sessions plan old answer follows.deeds quiet follows.turn) follows.performed.can (subst R made there))
