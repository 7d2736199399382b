-- What stays of the open sessions of a room.
use Rattle.std.proofs.Common.{◌≡◌, ℕ, suc, ◌+◌, ◌≤◌, ◌==◌, Bool, true, false, cond, List, [], ◌∷◌, length, refl, sym, ap, ◌∙◌, subst, arith, inl, inr}
use Rattle.std.proofs.lemmas.Bool.{cond_both}
use Rattle.std.proofs.lemmas.Bool.Decides.{eqb_tells}
use Rattle.std.proofs.lemmas.Cmp.{nat_cmp_total}
use Rattle.std.specs.List.{AllByRecursion, filter}
use Rattle.std.specs.Ordering.{is_gt, nat_cmp}
use Rattle.std.specs.Prelude.{Option, Some, None, IfSome, IsOk, IsSome, Result, Ok, Err}
use Rattle.room_base.specs.Ordered.{Ascends, AscendsFrom}
use Rattle.room_base.proofs.OrderedLaws.{each_weaker}
use Rattle.room_base.proofs.OrderedLists.{ascend_alone, from_lower}
use Rattle.room_base.proofs.OrderedUpdates.{ascends_put, ascends_removed, ascends_updated, each_put, each_removed}
use Rattle.room_catalog.proofs.Updated.{each_updated_found, length_put, length_removed, length_updated}
use Rattle.save_stream.specs.declared.fault.StreamFault.{StreamFault}
use Rattle.save_stream.specs.declared.head.SetHead.{SetHead}
use Rattle.save_stream.specs.Reading.{Reading, reads}
use Rattle.save_stream.specs.Spelling.{IsHead}
use Rattle.save_stream.specs.Standing.{AreBytes}
use Rattle.save_session.specs.Sessions.{SessionView, AreOpenSessions, IsSession, change_session, close_session, drive_after, find_session, leave_drive, ssid_of, start_session, started, with_piece}
use Rattle.save_session.proofs.Sending.{piece_is, piece_read, started_is}
use Rattle.slot_changer.specs.Drives.{DriveView, IsDrive, in_drive, set_drive}
use Rattle.room_effects.specs.View.{HasItsDrive}
use Rattle.room_effects.specs.Needs.{HasStreamRoom, IsTaken}
use Rattle.room_effects.proofs.StayingDrives.{some_emptied, some_set}

-- ---- some of them

module _ (keep : SessionView → Bool) where
  pub each_kept : (P : SessionView → Type 0) (sessions : List SessionView) → AllByRecursion P sessions → AllByRecursion P (filter keep sessions)
  each_kept P [] each = tt
  each_kept P (one ∷ sessions) each =
      let rest = each_kept P sessions each.1 in
      cond_both (keep one) (one ∷ filter keep sessions) (filter keep sessions) (AllByRecursion P) (λ kept. (each.0, rest)) (λ dropped. rest)

  kept_from : (low : ℕ) (sessions : List SessionView) → AscendsFrom nat_cmp ssid_of low sessions → AscendsFrom nat_cmp ssid_of low (filter keep sessions)
  kept_from low [] ascend = tt
  kept_from low (one ∷ sessions) ascend =
      let rest = kept_from (ssid_of one) sessions ascend.1 in
      cond_both (keep one) (one ∷ filter keep sessions) (filter keep sessions) (AscendsFrom nat_cmp ssid_of low)
      (λ kept. (ascend.0, rest))
      (λ dropped. from_lower nat_cmp_total ssid_of (ssid_of one) low (filter keep sessions) (ap is_gt ascend.0) rest)

  kept_ascend : (sessions : List SessionView) → Ascends nat_cmp ssid_of sessions → Ascends nat_cmp ssid_of (filter keep sessions)
  kept_ascend [] ascend = tt
  kept_ascend (one ∷ sessions) ascend =
      let rest = kept_from (ssid_of one) sessions ascend in
      cond_both (keep one) (one ∷ filter keep sessions) (filter keep sessions) (Ascends nat_cmp ssid_of)
      (λ kept. rest)
      (λ dropped. ascend_alone nat_cmp_total ssid_of (ssid_of one) (filter keep sessions) rest)

  pub are_kept : (sessions : List SessionView) → AreOpenSessions sessions → AreOpenSessions (filter keep sessions)
  are_kept sessions are = record { ascending = kept_ascend sessions are.ascending; each = each_kept IsSession sessions are.each }

  pub fewer_kept : (sessions : List SessionView) → length (filter keep sessions) ≤ length sessions
  fewer_kept [] = omega arith
  fewer_kept (one ∷ sessions) =
      let rest = fewer_kept sessions in
      cond_both (keep one) (one ∷ filter keep sessions) (filter keep sessions) (λ (all : List SessionView). length all ≤ length (one ∷ sessions))
      (λ kept. omega (arith, rest)) (λ dropped. omega (arith, rest))

-- ---- one begins, goes on, or ends

pub are_started : (head : SetHead) (sessions : List SessionView) → IsHead head → AreOpenSessions sessions → AreOpenSessions (start_session head sessions)
are_started head sessions allowed are = record {
  ascending = ascends_put nat_cmp_total ssid_of sessions (started head) are.ascending;
  each = each_put nat_cmp_total ssid_of IsSession sessions (started head) (started_is head allowed) are.each;
}

pub are_closed : (ssid : ℕ) (sessions : List SessionView) → AreOpenSessions sessions → AreOpenSessions (close_session ssid sessions)
are_closed ssid sessions are = record {
  ascending = ascends_removed nat_cmp_total ssid_of ssid sessions are.ascending;
  each = each_removed nat_cmp_total ssid_of IsSession ssid sessions are.each;
}

-- the session that is found is one still when it is changed
pub are_changed_so : (change : SessionView → SessionView) → ((session : SessionView) → ssid_of (change session) ≡ ssid_of session) → (ssid : ℕ) (sessions : List SessionView)
    → ((session : SessionView) → find_session ssid sessions ≡ Some session → IsSession session → IsSession (change session))
    → AreOpenSessions sessions → AreOpenSessions (change_session ssid change sessions)
are_changed_so change keeps ssid sessions stays are = record {
  ascending = ascends_updated nat_cmp_total ssid_of change keeps ssid sessions are.ascending;
  each = each_updated_found nat_cmp_total ssid_of IsSession change ssid sessions stays are.each;
}

-- the session's reader took the piece
pub took_is : (piece : List ℕ) (session : SessionView) → AreBytes piece → HasStreamRoom (length piece) session → IsTaken piece session
    → IsSession session → IsSession (with_piece piece session)
took_is piece session fit room taken is = by (reads session.reading piece) refl taken
  where
    by : (result : Result Reading StreamFault) → reads session.reading piece ≡ result → IsOk result → IsSession (with_piece piece session)
    by (Ok next) onward ok =
        let P : SessionView → Type 0 = λ one. IsSession one in
        subst P (piece_read session piece next onward) (piece_is session piece next is fit room onward)
    by (Err fault) onward ok = absurd (cc ok)

-- ---- their drives

-- each session has its drive still where the drives have one more volume, or another one
pub have_set : (drives : List (Option DriveView)) (drive : ℕ) (two : DriveView) → length drives ≡ 4 → IsDrive drive → (sessions : List SessionView)
    → AllByRecursion (HasItsDrive drives) sessions → AllByRecursion (HasItsDrive (set_drive drives drive (Some two))) sessions
have_set drives drive two four is_drive sessions have =
    each_weaker (HasItsDrive drives) (HasItsDrive (set_drive drives drive (Some two))) (λ session. one session.drive) sessions have
  where
    one : (on : Option ℕ) → IfSome on (λ d. IsDrive d × IsSome (in_drive drives d)) → IfSome on (λ d. IsDrive d × IsSome (in_drive (set_drive drives drive (Some two)) d))
    one None has = tt
    one (Some other) has = (has.0, some_set drives drive other two four is_drive has.0 has.1)

-- a session that left the drive that is emptied
has_left : (drives : List (Option DriveView)) (drive : ℕ) → IsDrive drive → (on : Option ℕ) → IfSome on (λ d. IsDrive d × IsSome (in_drive drives d))
    → IfSome (drive_after drive on) (λ d. IsDrive d × IsSome (in_drive (set_drive drives drive None) d))
has_left drives drive is_drive None has = tt
has_left drives drive is_drive (Some other) has = by (other == drive) refl
  where
    by : (here : Bool) → (other == drive) ≡ here → IfSome (cond here None (Some other)) (λ d. IsDrive d × IsSome (in_drive (set_drive drives drive None) d))
    by true tells = tt
    by false tells = (
      has.0,
      some_emptied drives drive other is_drive has.0 (elim (eqb_tells other drive) [
        | inl same ↦ absurd (let no : ◌≡◌ {A = Bool} true false = sym same.0 ∙ tells in cc)
        | inr apart ↦ apart.1
      ]) has.1,
    )

pub have_left : (drives : List (Option DriveView)) (drive : ℕ) → IsDrive drive → (sessions : List SessionView)
    → AllByRecursion (HasItsDrive drives) sessions → AllByRecursion (HasItsDrive (set_drive drives drive None)) (leave_drive drive sessions)
have_left drives drive is_drive [] have = tt
have_left drives drive is_drive (session ∷ sessions) have = (has_left drives drive is_drive session.drive have.0, have_left drives drive is_drive sessions have.1)

pub have_started : (drives : List (Option DriveView)) (head : SetHead) (sessions : List SessionView)
    → AllByRecursion (HasItsDrive drives) sessions → AllByRecursion (HasItsDrive drives) (start_session head sessions)
have_started drives head sessions have = each_put nat_cmp_total ssid_of (HasItsDrive drives) sessions (started head) tt have

pub have_closed : (drives : List (Option DriveView)) (ssid : ℕ) (sessions : List SessionView)
    → AllByRecursion (HasItsDrive drives) sessions → AllByRecursion (HasItsDrive drives) (close_session ssid sessions)
have_closed drives ssid sessions have = each_removed nat_cmp_total ssid_of (HasItsDrive drives) ssid sessions have

pub have_changed : (drives : List (Option DriveView)) (change : SessionView → SessionView) (ssid : ℕ) (sessions : List SessionView)
    → ((session : SessionView) → HasItsDrive drives session → HasItsDrive drives (change session))
    → AllByRecursion (HasItsDrive drives) sessions → AllByRecursion (HasItsDrive drives) (change_session ssid change sessions)
have_changed drives change ssid sessions stays have =
    each_updated_found nat_cmp_total ssid_of (HasItsDrive drives) change ssid sessions (λ session found has. stays session has) have

-- ---- how many

pub one_more : (head : SetHead) (sessions : List SessionView) → length (start_session head sessions) ≤ length sessions + 1
one_more head sessions = length_put nat_cmp_total ssid_of (started head) sessions

pub no_more_closed : (ssid : ℕ) (sessions : List SessionView) → length (close_session ssid sessions) ≤ length sessions
no_more_closed ssid sessions = length_removed nat_cmp_total ssid_of ssid sessions

pub as_many_changed : (change : SessionView → SessionView) (ssid : ℕ) (sessions : List SessionView) → length (change_session ssid change sessions) ≡ length sessions
as_many_changed change ssid sessions = length_updated nat_cmp_total ssid_of ssid change sessions

pub as_many_left : (drive : ℕ) (sessions : List SessionView) → length (leave_drive drive sessions) ≡ length sessions
as_many_left drive [] = refl
as_many_left drive (session ∷ sessions) = ap suc (as_many_left drive sessions)
