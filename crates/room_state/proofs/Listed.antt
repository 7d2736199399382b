-- The open sessions, one after the other by their ssids.
use Rattle.std.proofs.Common.{◌≡◌, ℕ, suc, zero, ◌+◌, ◌<◌, Bool, true, false, List, [], ◌∷◌, length, map, take, get_or, refl, sym, ap, ◌∙◌, subst, arith}
use Rattle.std.proofs.lemmas.Cmp.{nat_cmp_total}
use Rattle.std.proofs.lemmas.List.{get_or-map}
use Rattle.std.proofs.lemmas.List.Elements.{Contains-get_or}
use Rattle.std.proofs.lemmas.List.Sums.{count_by_more_no, count_by_more_yes}
use Rattle.std.specs.List.{Contains, count_by}
use Rattle.std.specs.Prelude.{Option, Some, IfSome, IsSome}
use Rattle.room_base.specs.declared.numbers.Ssid.{Ssid}
use Rattle.room_base.proofs.OrderedLaws.{listed_found}
use Rattle.slot_changer.specs.Drives.{IsDrive}
use Rattle.slot_changer.specs.Picking.{sessions_on}
use Rattle.room_state.specs.Commits.{count_on}
use Rattle.save_session.specs.Sessions.{AreOpenSessions, SessionView, find_session, is_on, ssid_of}

abbrev pub ssid_in : SessionView → Ssid
ssid_in session = session.head.ssid

-- the session at a place of the list, which is found by the ssid at that place
pub record IsListed (sessions : List SessionView) (ssids : List Ssid) (place : ℕ) (d : Ssid) : Type 0 where
  pub one : SessionView
  pub at : get_or sessions place one ≡ one
  pub found : find_session (get_or ssids place d).0 sessions ≡ Some one

one_at : (sessions : List SessionView) (place : ℕ) → place < length sessions → (one : SessionView) × (get_or sessions place one ≡ one)
one_at [] place within = absurd (omega (arith, within))
one_at (first ∷ sessions) zero within = (first, refl)
one_at (first ∷ sessions) (suc place) within = one_at sessions place (omega (arith, within))

pub listed_at : (sessions : List SessionView) (ssids : List Ssid) (place : ℕ) (d : Ssid) → AreOpenSessions sessions → ssids ≡ map ssid_in sessions
    → length ssids ≡ length sessions → place < length ssids → IsListed sessions ssids place d
listed_at sessions ssids place d are is long within =
    let here : place < length sessions = omega (arith, within, long) in
    let there = one_at sessions place here in
    let ssid = ap (λ (all : List Ssid). get_or all place d) is ∙ get_or-map ssid_in sessions place there.0 d here ∙ ap ssid_in there.1 in
    let Among : SessionView → Type 0 = λ one. Contains sessions one in
    let among = subst Among there.1 (Contains-get_or sessions place there.0 here) in
    record {
      one = there.0;
      at = there.1;
      found = ap (λ (s : Ssid). find_session s.0 sessions) ssid ∙ listed_found nat_cmp_total ssid_of there.0 sessions are.ascending among;
    }

pub is_open_at : (sessions : List SessionView) (ssids : List Ssid) (place : ℕ) (d : Ssid) → IsListed sessions ssids place d → IsSome (find_session (get_or ssids place d).0 sessions)
is_open_at sessions ssids place d listed = let P : Option SessionView → Type 0 = λ held. IsSome held in subst P (sym listed.found) refl

-- one place more
module _ (drive : ℕ) (sessions : List SessionView) (ssids : List Ssid) (place : ℕ) (d : Ssid) (listed : IsListed sessions ssids place d) (within : place < length sessions) where
  same : (here : Bool) → IfSome (find_session (get_or ssids place d).0 sessions) (λ session. here ≡ is_on drive session.drive)
      → is_on drive (get_or sessions place listed.one).drive ≡ here
  same here is =
      let P : Option SessionView → Type 0 = λ held. IfSome held (λ session. here ≡ is_on drive session.drive) in
      ap (λ (s : SessionView). is_on drive s.drive) listed.at ∙ sym (subst P listed.found is)

  pub one_more_on : IfSome (find_session (get_or ssids place d).0 sessions) (λ session. true ≡ is_on drive session.drive)
      → count_by (λ (session : SessionView). is_on drive session.drive) (take (place + 1) sessions) ≡ count_by (λ (session : SessionView). is_on drive session.drive) (take place sessions) + 1
  one_more_on is = count_by_more_yes (λ (session : SessionView). is_on drive session.drive) sessions place listed.one within (same true is)

  pub none_more_on : IfSome (find_session (get_or ssids place d).0 sessions) (λ session. false ≡ is_on drive session.drive)
      → count_by (λ (session : SessionView). is_on drive session.drive) (take (place + 1) sessions) ≡ count_by (λ (session : SessionView). is_on drive session.drive) (take place sessions)
  none_more_on is = count_by_more_no (λ (session : SessionView). is_on drive session.drive) sessions place listed.one within (same false is)

-- ---- all drives

pub each_count : (drive : ℕ) (first second third fourth : ℕ) (sessions : List SessionView) → IsDrive drive → first ≡ count_on 1 sessions → second ≡ count_on 2 sessions
    → third ≡ count_on 3 sessions → fourth ≡ count_on 4 sessions → sessions_on (first ∷ second ∷ third ∷ fourth ∷ []) drive ≡ count_on drive sessions
each_count zero first second third fourth sessions is a b c d = absurd (omega (arith, is.0))
each_count (suc zero) first second third fourth sessions is a b c d = a
each_count (suc (suc zero)) first second third fourth sessions is a b c d = b
each_count (suc (suc (suc zero))) first second third fourth sessions is a b c d = c
each_count (suc (suc (suc (suc zero)))) first second third fourth sessions is a b c d = d
each_count (suc (suc (suc (suc (suc more))))) first second third fourth sessions is a b c d = absurd (omega (arith, is.1))
