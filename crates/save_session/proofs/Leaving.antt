-- What changes of the open sessions leave.
use Rattle.std.proofs.Common.{◌≡◌, ℕ, Bool, true, false, List, [], ◌∷◌, Option, Some, None, cond, map, refl, sym, ap, subst}
use Rattle.std.specs.List.{AllByRecursion}
use Rattle.std.specs.Option.{option_map}
use Rattle.std.specs.Ordering.{nat_cmp, eq_by_cmp}
use Rattle.std.proofs.lemmas.Cmp.{nat_cmp_total}
use Rattle.room_base.specs.Ordered.{Ascends}
use Rattle.room_base.proofs.OrderedLaws.{each_found}
use Rattle.room_base.proofs.OrderedUpdates.{ascends_updated}
use Rattle.save_session.specs.Sessions.{SessionView, AreOpenSessions, IsSession, change_session, find_session, is_on, leave_drive, off_drive, ssid_of}
use Rattle.save_session.proofs.Sending.{off_is}
use Rattle.save_session.proofs.Views.{ascends_by}

pub found_is : (ssid : ℕ) (session : SessionView) (sessions : List SessionView) → AreOpenSessions sessions → find_session ssid sessions ≡ Some session → IsSession session
found_is ssid session sessions are found = each_found nat_cmp_total ssid_of IsSession ssid session sessions are.each found

-- ---- one is changed

module _ (change : SessionView → SessionView) (keeps : (session : SessionView) → ssid_of (change session) ≡ ssid_of session) (ssid : ℕ) (session : SessionView) (is : IsSession (change session)) where
  each_changed : (sessions : List SessionView) → AllByRecursion IsSession sessions → find_session ssid sessions ≡ Some session → AllByRecursion IsSession (change_session ssid change sessions)
  each_changed [] each found = tt
  each_changed (one ∷ sessions) each found = by (eq_by_cmp nat_cmp (ssid_of one) ssid) found (λ more. each_changed sessions each.1 more)
    where
      by : (here : Bool) → cond here (Some one) (find_session ssid sessions) ≡ Some session → (find_session ssid sessions ≡ Some session → AllByRecursion IsSession (change_session ssid change sessions))
          → AllByRecursion IsSession (cond here (change one ∷ sessions) (one ∷ change_session ssid change sessions))
      by true e rest = (subst (λ (s : SessionView). IsSession (change s)) (sym (cc e)) is, each.1)
      by false e rest = (each.0, rest e)

  pub changed_are : (sessions : List SessionView) → AreOpenSessions sessions → find_session ssid sessions ≡ Some session → AreOpenSessions (change_session ssid change sessions)
  changed_are sessions are found = record {
    ascending = ascends_updated nat_cmp_total ssid_of change keeps ssid sessions are.ascending;
    each = each_changed sessions are.each found;
  }

-- ---- a drive is left

module _ (drive : ℕ) where
  each_left : (sessions : List SessionView) → AllByRecursion IsSession sessions → AllByRecursion IsSession (leave_drive drive sessions)
  each_left [] each = tt
  each_left (session ∷ sessions) each = (off_is session drive each.0, each_left sessions each.1)

  same_list : (sessions : List SessionView) → map (λ (session : SessionView). session) sessions ≡ sessions
  same_list [] = refl
  same_list (session ∷ sessions) = ap (λ rest. session ∷ rest) (same_list sessions)

  pub are_left : (sessions : List SessionView) → AreOpenSessions sessions → AreOpenSessions (leave_drive drive sessions)
  are_left sessions are = record {
    ascending = ascends_by nat_cmp (λ (session : SessionView). session) ssid_of (off_drive drive) ssid_of (λ session. refl) sessions
        (subst (Ascends nat_cmp ssid_of) (sym (same_list sessions)) are.ascending);
    each = each_left sessions are.each;
  }

  off_it : (before : Option ℕ) (on : Bool) → is_on drive before ≡ on → is_on drive (cond on None before) ≡ false
  off_it before true is = refl
  off_it before false is = is

  pub none_left : (sessions : List SessionView) → AllByRecursion (λ session. is_on drive session.drive ≡ false) (leave_drive drive sessions)
  none_left [] = tt
  none_left (session ∷ sessions) = (off_it session.drive (is_on drive session.drive) refl, none_left sessions)

  pub found_left : (ssid : ℕ) (sessions : List SessionView) → find_session ssid (leave_drive drive sessions) ≡ option_map (off_drive drive) (find_session ssid sessions)
  found_left ssid [] = refl
  found_left ssid (session ∷ sessions) = by (eq_by_cmp nat_cmp (ssid_of session) ssid) (found_left ssid sessions)
    where
      by : (here : Bool) → find_session ssid (leave_drive drive sessions) ≡ option_map (off_drive drive) (find_session ssid sessions)
          → cond here (Some (off_drive drive session)) (find_session ssid (leave_drive drive sessions)) ≡ option_map (off_drive drive) (cond here (Some session) (find_session ssid sessions))
      by true others = refl
      by false others = others
