-- The sessions that a failed commit closes, one after the other, and sessions that aren't open.
use Rattle.std.proofs.Common.{◌≡◌, ◌≢◌, ℕ, Bool, true, false, cond, not, List, [], ◌∷◌, ◌++◌, refl, sym, ap, ◌∙◌, arith}
use Rattle.std.proofs.lemmas.Bool.{cond-false, cond-true}
use Rattle.std.proofs.lemmas.Cmp.{nat_cmp_total}
use Rattle.std.specs.List.{AllByRecursion, filter}
use Rattle.std.specs.Ordering.{eq_by_cmp, nat_cmp}
use Rattle.std.specs.Prelude.{Option, Some, None}
use Rattle.std.specs.declared.cmp.Ordering.TheVariants.{Less}
use Rattle.room_base.specs.Ordered.{Ascends, AscendsFrom}
use Rattle.room_base.specs.declared.numbers.Ssid.{Ssid}
use Rattle.room_base.proofs.OrderedLaws.{each_above, each_weaker}
use Rattle.room_base.proofs.OrderedLists.{ascend_alone}
use Rattle.room_base.proofs.OrderedNumbers.{lesser_number, other_number, same_number}
use Rattle.save_session.specs.Sessions.{SessionView, AreOpenSessions, change_session, close_session, find_session, ssid_of}
use Rattle.room_effects.specs.Effects.{ended_with, ends_with, left_by}
use Rattle.room_effects.specs.Faults.{ssids_of}
use Rattle.slot_changer.specs.Drives.{DriveView}
use Rattle.room_effects.proofs.StayingSessions.{each_kept}

-- the sessions of these ssids are closed
unfoldable pub close_each : List Ssid → List SessionView → List SessionView
close_each [] sessions = sessions
close_each (ssid ∷ ssids) sessions = close_each ssids (close_session ssid.0 sessions)

-- one more of them
pub close_one_more : (ssids : List Ssid) (ssid : Ssid) (sessions : List SessionView) → close_each (ssids ++ ssid ∷ []) sessions ≡ close_session ssid.0 (close_each ssids sessions)
unfolding close_each
close_one_more [] ssid sessions = refl
close_one_more (first ∷ ssids) ssid sessions = close_one_more ssids ssid (close_session first.0 sessions)

-- a session of another ssid stays
closes_behind : (gone : ℕ) (one : SessionView) (sessions : List SessionView) → ssid_of one ≢ gone → close_session gone (one ∷ sessions) ≡ one ∷ close_session gone sessions
closes_behind gone one sessions apart =
    cond-true (not (eq_by_cmp nat_cmp (ssid_of one) gone)) (one ∷ close_session gone sessions) (close_session gone sessions) (ap not (other_number (ssid_of one) gone apart))

closes_first : (one : SessionView) (sessions : List SessionView) → close_session (ssid_of one) (one ∷ sessions) ≡ close_session (ssid_of one) sessions
closes_first one sessions =
    cond-false (not (eq_by_cmp nat_cmp (ssid_of one) (ssid_of one))) (one ∷ close_session (ssid_of one) sessions) (close_session (ssid_of one) sessions)
    (ap not (same_number (ssid_of one)))

-- where none has the ssid, none is closed
closes_none : (gone : ℕ) (sessions : List SessionView) → AllByRecursion (λ session. ssid_of session ≢ gone) sessions → close_session gone sessions ≡ sessions
closes_none gone [] others = refl
closes_none gone (one ∷ sessions) others = closes_behind gone one sessions others.0 ∙ ap (λ rest. one ∷ rest) (closes_none gone sessions others.1)

closes_each_behind : (ssids : List Ssid) (one : SessionView) (sessions : List SessionView) → AllByRecursion (λ ssid. ssid_of one ≢ ssid.0) ssids
    → close_each ssids (one ∷ sessions) ≡ one ∷ close_each ssids sessions
unfolding close_each
closes_each_behind [] one sessions apart = refl
closes_each_behind (ssid ∷ ssids) one sessions apart =
    ap (close_each ssids) (closes_behind ssid.0 one sessions apart.0) ∙ closes_each_behind ssids one (close_session ssid.0 sessions) apart.1

-- what holds of the sessions' ssids
each_ssid : (P : ℕ → Type 0) (sessions : List SessionView) → AllByRecursion (λ session. P (ssid_of session)) sessions → AllByRecursion (λ ssid. P ssid.0) (ssids_of sessions)
each_ssid P [] each = tt
each_ssid P (one ∷ sessions) each = (each.0, each_ssid P sessions each.1)

above_apart : (low : ℕ) (sessions : List SessionView) → AscendsFrom nat_cmp ssid_of low sessions → AllByRecursion (λ session. low ≢ ssid_of session) sessions
above_apart low sessions ascend =
    each_weaker (λ session. nat_cmp low (ssid_of session) ≡ Less) (λ session. low ≢ ssid_of session)
    (λ session less same. (let below = lesser_number low (ssid_of session) less in omega (arith, same))) sessions
    (each_above nat_cmp_total ssid_of low sessions ascend)

module _ (ends : SessionView → Bool) where
  -- the sessions that end, closed one after the other, leave the others
  pub left_is_closed : (sessions : List SessionView) → Ascends nat_cmp ssid_of sessions
      → close_each (ssids_of (filter ends sessions)) sessions ≡ filter (λ session. not (ends session)) sessions
  unfolding close_each
  left_is_closed [] ascend = refl
  left_is_closed (one ∷ sessions) ascend = by (ends one) (left_is_closed sessions (ascend_alone nat_cmp_total ssid_of (ssid_of one) sessions ascend))
    where
      apart : AllByRecursion (λ session. ssid_of one ≢ ssid_of session) sessions
      apart = above_apart (ssid_of one) sessions ascend

      by : (end : Bool) → close_each (ssids_of (filter ends sessions)) sessions ≡ filter (λ session. not (ends session)) sessions
          → close_each (ssids_of (cond end (one ∷ filter ends sessions) (filter ends sessions))) (one ∷ sessions)
          ≡ cond (not end) (one ∷ filter (λ session. not (ends session)) sessions) (filter (λ session. not (ends session)) sessions)
      by true rest =
          let others = each_weaker (λ session. ssid_of one ≢ ssid_of session) (λ session. ssid_of session ≢ ssid_of one) (λ session differ same. differ (sym same)) sessions apart in
          ap (close_each (ssids_of (filter ends sessions))) (closes_first one sessions ∙ closes_none (ssid_of one) sessions others) ∙ rest
      by false rest =
          closes_each_behind (ssids_of (filter ends sessions)) one sessions
          (each_ssid (λ n. ssid_of one ≢ n) (filter ends sessions) (each_kept ends (λ session. ssid_of one ≢ ssid_of session) sessions apart))
          ∙ ap (λ more. one ∷ more) rest

-- the sessions that go with the failed commit of a drive
pub ended_are_closed : (held : Option DriveView) (asking : Option ℕ) (sessions : List SessionView) → AreOpenSessions sessions
    → close_each (ssids_of (ended_with held asking sessions)) sessions ≡ left_by held asking sessions
ended_are_closed held asking sessions are = left_is_closed (ends_with held asking) sessions are.ascending

-- a change of a session that isn't open changes nothing
pub none_changed : (ssid : ℕ) (change : SessionView → SessionView) (sessions : List SessionView) → find_session ssid sessions ≡ None → change_session ssid change sessions ≡ sessions
none_changed ssid change [] none = refl
none_changed ssid change (one ∷ sessions) none = by (eq_by_cmp nat_cmp (ssid_of one) ssid) none (none_changed ssid change sessions)
  where
    by : (here : Bool) → cond here (Some one) (find_session ssid sessions) ≡ None → (find_session ssid sessions ≡ None → change_session ssid change sessions ≡ sessions)
        → cond here (change one ∷ sessions) (one ∷ change_session ssid change sessions) ≡ one ∷ sessions
    by true none rest = absurd (cc none)
    by false none rest = ap (λ more. one ∷ more) (rest none)

-- and so does its end
pub none_closed : (ssid : ℕ) (sessions : List SessionView) → find_session ssid sessions ≡ None → close_session ssid sessions ≡ sessions
none_closed ssid [] none = refl
none_closed ssid (one ∷ sessions) none = by (eq_by_cmp nat_cmp (ssid_of one) ssid) none (none_closed ssid sessions)
  where
    by : (here : Bool) → cond here (Some one) (find_session ssid sessions) ≡ None → (find_session ssid sessions ≡ None → close_session ssid sessions ≡ sessions)
        → cond (not here) (one ∷ close_session ssid sessions) (close_session ssid sessions) ≡ one ∷ sessions
    by true none rest = absurd (cc none)
    by false none rest = ap (λ more. one ∷ more) (rest none)
