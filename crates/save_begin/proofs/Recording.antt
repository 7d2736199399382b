-- The entry of a record, and the piece behind it.
use Rattle.std.proofs.Common.{◌≡◌, ℕ, ◌+◌, ◌<◌, ◌≤◌, List, [], ◌∷◌, ◌++◌, if◌then◌else◌, length, refl, sym, ap, ◌∙◌, subst, rules, arith}
use Rattle.std.proofs.lemmas.Bool.{cond-true}
use Rattle.std.proofs.lemmas.Cmp.{nat_cmp_total}
use Rattle.std.specs.Ordering.{eq_by_cmp, nat_cmp}
use Rattle.std.specs.Prelude.{Option, Some, None, IsSome, IfSome, IsTrue, OnErr, OnOk, Result, Ok, Err, Bool}
use Rattle.room_base.specs.declared.numbers.Moment.{Moment}
use Rattle.room_base.specs.declared.numbers.Ssid.{Ssid}
use Rattle.room_base.specs.declared.refusal.Refusal.{Refusal}
use Rattle.room_base.proofs.OrderedLaws.{found_put}
use Rattle.room_base.proofs.OrderedNumbers.{same_number}
use Rattle.room_disk.specs.Disk.{DiskView}
use Rattle.save_stream.specs.declared.head.SetHead.{SetHead}
use Rattle.save_stream.specs.Spelling.{IsHead, head_text}
use Rattle.save_stream.proofs.Lengths.{length-head_text}
use Rattle.catalog_change.specs.declared.change.Change.{Change}
use Rattle.slot_changer.specs.Drives.{DriveView, in_drive}
use Rattle.slot_changer.specs.Taking.{fits, takes}
use Rattle.save_session.specs.Sessions.{SessionView, IsOpen, find_session, room_for, ssid_of, start_session, started}
use Rattle.room_effects.specs.View.{RoomView, IsBetweenCommands, IsRoom, held_in}
use Rattle.room_effects.specs.Effects.{Broken, Commit, Deed, Done, Effect, Enter, Push, TurnOver, after_all, after_broken, after_done}
use Rattle.room_effects.specs.Memory.{HeldRoom, RoomMemory}
use Rattle.room_effects.specs.Running.{Does, RanTo}
use Rattle.room_effects.proofs.Does.{does_append, does_stop}
use Rattle.room_effects.proofs.Memory.{after_one}
use Rattle.room_effects.specs.Entering.{with_first_file}
use Rattle.room_entering.proofs.Ceilings.{first_file_append}
use Rattle.room_placing.specs.Placing.{placing}
use Rattle.room_state.specs.Commits.{IsReadyForCommits}
use Rattle.room_state.specs.Memory.{TakesMemory}
use Rattle.room_between.specs.Middle.{EndsWith, IsBetweenBut}
use Rattle.room_between.proofs.Quieting.{between_shut}
use Rattle.room_between.proofs.Stepping.{begins}
use Rattle.save_begin.specs.declared.entering.Begun.{Begun}
use Rattle.save_begin.specs.Writing.{KeepsSessionMemory, MayEnter, WasClosed, WasEntered}
use Rattle.save_begin.proofs.Turning.{turned_first}

-- ---- what an effect that failed leaves

failed_as : (T : Type 0) (effect : Effect) (fault : Refusal) (room : RoomView) (deeds : List Deed) → RanTo {T = T} (effect ∷ []) room (Err fault) deeds
    → deeds ≡ Broken effect ∷ []
failed_as T effect fault room [] ran = absurd ran
failed_as T effect fault room (Done one ∷ []) ran = absurd ran.1
failed_as T effect fault room (Done one ∷ (deed ∷ deeds)) ran = absurd ran.1
failed_as T effect fault room (Broken one ∷ []) ran = ap (λ (it : Effect). Broken it ∷ []) ran.0
failed_as T effect fault room (Broken one ∷ (deed ∷ deeds)) ran = absurd ran

pub after_failed : {T : Type 0} (effect : Effect) (fault : Refusal) (old new : RoomView) (before now : DiskView)
    → Does {T = T} (effect ∷ []) (Err fault) old new before now → new ≡ after_broken effect old
after_failed {T} effect fault old new before now does =
    does.performed.room ∙ ap (λ (deeds : List Deed). after_all deeds old) (failed_as T effect fault old does.deeds does.ran)

-- the entry was made, or closed the room
pub entered_on : (m : Moment) (change : Change) (result : Result (Unit {0}) Refusal) (old new : RoomView) (before now : DiskView)
    → Does {T = Unit {0}} (Enter m change ∷ []) result old new before now → OnOk result (new ≡ after_done (Enter m change) old)
entered_on m change (Ok value) old new before now does = after_one {T = Unit {0}} (Enter m change) value old new before now does
entered_on m change (Err fault) old new before now does = tt

pub closed_on : (m : Moment) (change : Change) (result : Result (Unit {0}) Refusal) (old new : RoomView) (before now : DiskView)
    → Does {T = Unit {0}} (Enter m change ∷ []) result old new before now → OnErr result (WasClosed new)
closed_on m change (Ok value) old new before now does = tt
closed_on m change (Err fault) old new before now does = record { before = old; made = after_failed {T = Unit {0}} (Enter m change) fault old new before now does }

pub between_closed : (new : RoomView) → WasClosed new → IsRoom new → IsBetweenCommands new
between_closed new was is =
    let R : RoomView → Type 0 = λ room. IsRoom room in
    let B : RoomView → Type 0 = λ room. IsBetweenCommands room in
    subst B (sym was.made) (between_shut was.before (subst R was.made is))

-- ---- the first file

pub entered_behind : (m : Moment) (change : Change) (snapshot : List ℕ) (old mid new : RoomView) → IsRoom old → old.journal.current ≡ None
    → mid ≡ after_done (TurnOver snapshot) old → new ≡ after_done (Enter m change) mid → WasEntered m change old new
entered_behind m change snapshot old mid new is none turned_so made =
    let mid_is = turned_so ∙ turned_first (length snapshot) old is none in
    record {
      before = mid;
      made = made;
      opens = ap (λ (room : RoomView). room.is_open) mid_is;
      sessions = ap (λ (room : RoomView). room.sessions) mid_is;
      drives = ap (λ (room : RoomView). room.drives) mid_is;
      records = ap (λ (room : RoomView). room.catalogue.records) mid_is;
    }

pub entered_alone : (m : Moment) (change : Change) (old new : RoomView) → new ≡ after_done (Enter m change) old → WasEntered m change old new
entered_alone m change old new made = record { before = old; made = made; opens = refl; sessions = refl; drives = refl; records = refl }

-- ---- memory

pub keeps_entered : (m : Moment) (change : Change) (before after : RoomMemory) → TakesMemory (Enter m change) before after → KeepsSessionMemory before after
keeps_entered m change before after takes = record { parts = takes.parts; closed = takes.closed }

pub keeps_behind : (m : Moment) (change : Change) (snapshot : List ℕ) (before mid after : RoomMemory) → TakesMemory (TurnOver snapshot) before mid
    → TakesMemory (Enter m change) mid after → KeepsSessionMemory before after
keeps_behind m change snapshot before mid after first second = record {
  parts = λ ssid. omega (arith, first.parts ssid, second.parts ssid);
  closed = omega (arith, first.closed, second.closed);
}

-- ---- the piece

text_bound : (head : SetHead) → IsHead head → (1 ≤ length (head_text head)) × (length (head_text head) ≤ 257024)
text_bound head is =
    let size = length-head_text head in
    (omega (arith, size), omega (arith, size, is.client.0.1, is.set.0.1, is.group.0, is.pool.0.1))

module _ (m : Moment) (head : SetHead) (ssid : Ssid) (drive : ℕ) (begun : Begun) (old new : HeldRoom) (is : MayEnter head ssid drive begun old) (entered : WasEntered m begun.change old.room new.room) (keeps : KeepsSessionMemory old.memory new.memory) where
  pub opens_now : IsTrue old.room.is_open → IsTrue new.room.is_open
  opens_now opens =
      let O : Bool → Type 0 = λ it. IsTrue it in
      subst O (sym (ap (λ (room : RoomView). room.is_open) entered.made ∙ entered.opens)) opens

  pub drives_now : new.room.drives ≡ old.room.drives
  drives_now = ap (λ (room : RoomView). room.drives) entered.made ∙ entered.drives

  sessions_now : new.room.sessions ≡ old.room.sessions
  sessions_now = ap (λ (room : RoomView). room.sessions) entered.made ∙ entered.sessions

  pub takes_now : IsTrue (takes (held_in new.room drive) (length begun.text))
  takes_now =
      let D : List (Option DriveView) → Type 0 = λ drives. IsTrue (takes (in_drive drives drive) (length begun.text)) in
      let L : List ℕ → Type 0 = λ text. IsTrue (takes (held_in old.room drive) (length text)) in
      subst D (sym drives_now) (subst L (sym is.made.text) is.goes.takes)

  pub some_text : 1 ≤ length begun.text
  some_text = let L : List ℕ → Type 0 = λ text. 1 ≤ length text in subst L (sym is.made.text) (text_bound head is.allowed).0

  pub most_text : length begun.text ≤ 257024
  most_text = let L : List ℕ → Type 0 = λ text. length text ≤ 257024 in subst L (sym is.made.text) (text_bound head is.allowed).1

  session_now : find_session ssid.0 new.room.sessions ≡ Some (started head)
  session_now =
      ap (λ (all : List SessionView). find_session ssid.0 all) (sessions_now ∙ is.opened.sessions)
      ∙ ap (λ (one : Ssid). find_session one.0 (start_session head is.opened.was.sessions)) is.ssid_is
      ∙ found_put nat_cmp_total ssid_of (started head) head.ssid.0 is.opened.was.sessions
      ∙ cond-true (eq_by_cmp nat_cmp head.ssid.0 head.ssid.0) (Some (started head)) (find_session head.ssid.0 is.opened.was.sessions) (same_number head.ssid.0)

  pub open_now : IsOpen ssid.0 new.room.sessions
  open_now = let F : Option SessionView → Type 0 = λ found. IsSome found in subst F (sym session_now) (search rules)

  pub ends_now : IfSome (find_session ssid.0 new.room.sessions) (EndsWith 0 begun.text)
  ends_now =
      let F : Option SessionView → Type 0 = λ found. IfSome found (EndsWith 0 begun.text) in
      subst F (sym session_now) (record { from = refl; to = omega (arith, ap (λ (text : List ℕ). length text) is.made.text) })

  pub part_now : 0 < room_for ssid.0 new.memory.parts
  part_now =
      let S : Ssid → Type 0 = λ one. 0 < room_for one.0 new.memory.parts in
      subst S (sym is.ssid_is) (omega (arith, is.part, keeps.parts head.ssid.0))

  pub commits_now : IsReadyForCommits new
  commits_now = omega (arith, is.commits, keeps.closed, ap (λ (all : List SessionView). length all) sessions_now)

  pub middle_now : IsRoom new.room → IsBetweenBut ssid.0 new.room
  middle_now there =
      let before = entered.before in
      let C : Change → Type 0 = λ change. new.room ≡ after_done (Enter m change) before in
      let made = subst C is.made.change entered.made in
      let R : RoomView → Type 0 = λ room. IsRoom room in
      let B : RoomView → Type 0 = λ room. IsBetweenBut head.ssid.0 room in
      let S : Ssid → Type 0 = λ one. IsBetweenBut one.0 new.room in
      subst S (sym is.ssid_is)
      (subst B (sym made)
      (begins m head is.opened.was before is.opened.between is.opened.new (entered.sessions ∙ is.opened.sessions) (entered.records ∙ is.opened.records) (subst R made there)))

-- ---- the effects

module _ (m : Moment) (change : Change) (drive ssid : ℕ) (text : List ℕ) (old mid new : RoomView) (before middle now : DiskView) where
  placing_same : mid.drives ≡ old.drives → placing drive ssid 0 text mid ≡ placing drive ssid 0 text old
  placing_same same =
      ap (λ (drives : List (Option DriveView)).
      (if fits (in_drive drives drive) (length text) then [] else (Commit drive (Some ssid) ∷ [])) ++ Push drive ssid 1 0 text ∷ []) same

  pub does_placed : (answer : Result (Unit {0}) Refusal) → mid.drives ≡ old.drives
      → Does {T = Unit {0}} (with_first_file old (Enter m change ∷ [])) (Ok tt) old mid before middle
      → Does {T = Unit {0}} (placing drive ssid 0 text mid) answer mid new middle now
      → Does {T = Unit {0}} (with_first_file old (Enter m change ∷ placing drive ssid 0 text old)) answer old new before now
  does_placed answer same first second =
      let D : List Effect → Type 0 = λ effects. Does {T = Unit {0}} effects answer mid new middle now in
      let W : List Effect → Type 0 = λ effects. Does {T = Unit {0}} effects answer old new before now in
      subst W (sym (first_file_append old (Enter m change ∷ []) (placing drive ssid 0 text old)))
      (does_append {T = Unit {0}} {U = Unit {0}} (with_first_file old (Enter m change ∷ [])) (placing drive ssid 0 text old) tt answer old mid new before middle now
      first (subst D (placing_same same) second))

pub does_unplaced : (m : Moment) (change : Change) (drive ssid : ℕ) (text : List ℕ) (old new : RoomView) (before now : DiskView) (fault : Refusal)
    → Does {T = Unit {0}} (with_first_file old (Enter m change ∷ [])) (Err fault) old new before now
    → Does {T = Unit {0}} (with_first_file old (Enter m change ∷ placing drive ssid 0 text old)) (Err fault) old new before now
does_unplaced m change drive ssid text old new before now fault first =
    let W : List Effect → Type 0 = λ effects. Does {T = Unit {0}} effects (Err fault) old new before now in
    subst W (sym (first_file_append old (Enter m change ∷ []) (placing drive ssid 0 text old)))
    (does_stop {T = Unit {0}} {U = Unit {0}} (with_first_file old (Enter m change ∷ [])) (placing drive ssid 0 text old) fault old new before now first)
