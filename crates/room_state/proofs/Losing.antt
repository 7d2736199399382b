-- The sessions that go with a failed commit, as they are listed and closed one after the other.
use Rattle.std.proofs.Common.{◌≡◌, ℕ, suc, zero, ◌+◌, ◌≤◌, ◌<◌, ◌||◌, Bool, true, false, cond, not, List, [], ◌∷◌, ◌++◌, length, map, take, get_or, add-one, refl, sym, ap, ◌∙◌, arith}
use Rattle.std.proofs.lemmas.List.Filters.{length-filter_more}
use Rattle.std.proofs.lemmas.List.{take_all}
use Rattle.std.specs.List.{filter}
use Rattle.std.specs.Ordering.{eq_by_cmp, nat_cmp}
use Rattle.std.specs.Prelude.{Option, Some, None}
use Rattle.room_base.specs.declared.numbers.Ssid.{Ssid}
use Rattle.save_session.specs.Sessions.{AreOpenSessions, SessionView, close_session, find_session, leave_drive, ssid_of}
use Rattle.slot_changer.specs.Committing.{cart_file_of}
use Rattle.slot_changer.specs.Drives.{DriveView, IsDrive, after_fault, change_drive, holds_set, in_drive, set_drive}
use Rattle.slot_changer.proofs.Changing.{set_same, set_twice}
use Rattle.room_effects.specs.View.{RoomView}
use Rattle.room_effects.proofs.Driving.{commit_fault}
use Rattle.std.specs.Option.{option_map}
use Rattle.room_base.specs.declared.refusal.Refusal.TheVariants.{DeviceFault}
use Rattle.room_effects.specs.Effects.{Commit, ended_with, ends_with, is_asking, left_by, without_drive}
use Rattle.room_effects.specs.Faults.{fault_of, ssids_of}
use Rattle.room_effects.proofs.Closing.{close_each, close_one_more, ended_are_closed}

-- ---- closed one after the other

-- where none has the ssid, none is closed
none_closed : (ssid : ℕ) (sessions : List SessionView) → find_session ssid sessions ≡ None → close_session ssid sessions ≡ sessions
none_closed ssid [] none = refl
none_closed ssid (one ∷ sessions) none = by (eq_by_cmp nat_cmp (ssid_of one) ssid) none (none_closed ssid sessions)
  where
    by : (here : Bool) → cond here (Some one) (find_session ssid sessions) ≡ None → (find_session ssid sessions ≡ None → close_session ssid sessions ≡ sessions)
        → cond (not here) (one ∷ close_session ssid sessions) (close_session ssid sessions) ≡ one ∷ sessions
    by true none rest = absurd (cc none)
    by false none rest = ap (λ more. one ∷ more) (rest none)

-- one more of the ssids
take_one_more : (ssids : List Ssid) (place : ℕ) (d : Ssid) → place < length ssids → take (suc place) ssids ≡ take place ssids ++ get_or ssids place d ∷ []
take_one_more [] place d within = absurd (omega (arith, within))
take_one_more (first ∷ ssids) zero d within = refl
take_one_more (first ∷ ssids) (suc place) d within = ap (λ rest. first ∷ rest) (take_one_more ssids place d (omega (arith, within)))

pub closed_more : (ssids : List Ssid) (place : ℕ) (d : Ssid) (old now next : List SessionView) → place < length ssids
    → now ≡ close_each (take place ssids) old → next ≡ close_session (get_or ssids place d).0 now → next ≡ close_each (take (place + 1) ssids) old
closed_more ssids place d old now next within before closes =
    closes ∙ ap (close_session (get_or ssids place d).0) before ∙ sym (close_one_more (take place ssids) (get_or ssids place d) old)
    ∙ ap (λ front. close_each front old) (sym (take_one_more ssids place d within)) ∙ ap (λ n. close_each (take n ssids) old) (sym (add-one place))

pub closed_before : (ssids : List Ssid) (place : ℕ) (d : Ssid) (old now : List SessionView) → place < length ssids
    → now ≡ close_each (take place ssids) old → find_session (get_or ssids place d).0 now ≡ None → now ≡ close_each (take (place + 1) ssids) old
closed_before ssids place d old now within before none =
    closed_more ssids place d old now now within before (sym (none_closed (get_or ssids place d).0 now none))

-- all are closed
pub closed_all : (held : Option DriveView) (asking : Option ℕ) (ssids : List Ssid) (place : ℕ) (old now : List SessionView) → length ssids ≤ place → AreOpenSessions old
    → now ≡ close_each (take place ssids) old → ssids ≡ ssids_of (ended_with held asking old) → now ≡ left_by held asking old
closed_all held asking ssids place old now all are closed is =
    closed ∙ ap (λ xs. close_each xs old) (take_all place ssids all ∙ is) ∙ ended_are_closed held asking old are

-- ---- listed one after the other

-- whether the session of an ssid goes with the failed commit
abbrev pub goes : Option DriveView → Option ℕ → Ssid → Bool
goes held asking ssid = holds_set held ssid.0 || is_asking asking ssid.0

pub listed : (held : Option DriveView) (asking : Option ℕ) (sessions : List SessionView)
    → filter (goes held asking) (map (λ (session : SessionView). session.head.ssid) sessions) ≡ ssids_of (ended_with held asking sessions)
listed held asking [] = refl
listed held asking (one ∷ sessions) = by (ends_with held asking one) (listed held asking sessions)
  where
    rest : List Ssid
    rest = filter (goes held asking) (map (λ (session : SessionView). session.head.ssid) sessions)

    by : (here : Bool) → rest ≡ ssids_of (ended_with held asking sessions)
        → cond here (one.head.ssid ∷ rest) rest ≡ ssids_of (cond here (one ∷ ended_with held asking sessions) (ended_with held asking sessions))
    by true same = ap (λ more. one.head.ssid ∷ more) same
    by false same = same

-- those before a place are no more than all
pub fewer_before : (p : Ssid → Bool) (ssids : List Ssid) (place : ℕ) → length (filter p (take place ssids)) ≤ length (filter p ssids)
fewer_before p [] place = by_none place
  where
    by_none : (place : ℕ) → length (filter p (take place [])) ≤ 0
    by_none zero = omega arith
    by_none (suc place) = omega arith
fewer_before p (one ∷ ssids) zero = omega arith
fewer_before p (one ∷ ssids) (suc place) = by (p one) (fewer_before p ssids place)
  where
    by : (here : Bool) → length (filter p (take place ssids)) ≤ length (filter p ssids)
        → length (cond here (one ∷ filter p (take place ssids)) (filter p (take place ssids))) ≤ length (cond here (one ∷ filter p ssids) (filter p ssids))
    by true less = omega (arith, less)
    by false less = less

-- where the one at a place is among them, there is room for it
pub room_for_one : (p : Ssid → Bool) (ssids : List Ssid) (place : ℕ) (d : Ssid) → place < length ssids → true ≡ p (get_or ssids place d)
    → length (filter p (take place ssids)) < length (filter p ssids)
room_for_one p ssids place d within passes =
    let more = length-filter_more p ssids place d within ∙ ap (λ b. length (filter p (take place ssids)) + cond b 1 0) (sym passes) in
    omega (arith, more, fewer_before p ssids (place + 1))

-- ---- the room without the drive

-- the drive whose commit failed has what it had
faulted : (drives : List (Option DriveView)) (drive : ℕ) → length drives ≡ 4 → IsDrive drive
    → in_drive (change_drive drives drive after_fault) drive ≡ option_map after_fault (in_drive drives drive)
faulted drives drive four is_drive = set_same drives drive (option_map after_fault (in_drive drives drive)) four is_drive

left_faulted : (held : Option DriveView) (asking : Option ℕ) (sessions : List SessionView) → left_by (option_map after_fault held) asking sessions ≡ left_by held asking sessions
left_faulted None asking sessions = refl
left_faulted (Some one) asking sessions = refl

ended_faulted : (held : Option DriveView) (asking : Option ℕ) (sessions : List SessionView) → ended_with (option_map after_fault held) asking sessions ≡ ended_with held asking sessions
ended_faulted None asking sessions = refl
ended_faulted (Some one) asking sessions = refl

file_faulted : (held : Option DriveView) → option_map cart_file_of (option_map after_fault held) ≡ option_map cart_file_of held
file_faulted None = refl
file_faulted (Some one) = refl

pub lost_room : (drive : ℕ) (asking : Option ℕ) (room : RoomView) (failed after : List (Option DriveView)) (sessions : List SessionView) → length room.drives ≡ 4 → IsDrive drive
    → failed ≡ change_drive room.drives drive after_fault → sessions ≡ leave_drive drive (left_by (in_drive failed drive) asking room.sessions)
    → after ≡ set_drive failed drive None → record room { sessions = sessions; drives = after } ≡ without_drive drive asking room
lost_room drive asking room failed after sessions four is_drive fault left out =
    let here = ap (λ (all : List (Option DriveView)). in_drive all drive) fault ∙ faulted room.drives drive four is_drive in
    let same = left
    ∙ ap (λ (held : Option DriveView). leave_drive drive (left_by held asking room.sessions)) here
    ∙ ap (leave_drive drive) (left_faulted (in_drive room.drives drive) asking room.sessions) in
    let gone = out ∙ ap (λ (all : List (Option DriveView)). set_drive all drive None) fault
    ∙ set_twice room.drives drive (option_map after_fault (in_drive room.drives drive)) None in
    ap (λ (s : List SessionView). record room { sessions = s; drives = after }) same
    ∙ ap (λ (d : List (Option DriveView)). record room { sessions = leave_drive drive (left_by (in_drive room.drives drive) asking room.sessions); drives = d }) gone

-- the fault that is answered
pub lost_fault : (drive : ℕ) (asking : Option ℕ) (room : RoomView) (failed : List (Option DriveView)) (file : ℕ) (closed : List Ssid) → length room.drives ≡ 4 → IsDrive drive
    → failed ≡ change_drive room.drives drive after_fault → option_map cart_file_of (in_drive failed drive) ≡ Some file
    → closed ≡ ssids_of (ended_with (in_drive failed drive) asking room.sessions) → fault_of (Commit drive asking) room ≡ Some (DeviceFault file closed)
lost_fault drive asking room failed file closed four is_drive fault is same =
    let here = ap (λ (all : List (Option DriveView)). in_drive all drive) fault ∙ faulted room.drives drive four is_drive in
    commit_fault drive asking room file closed
    (sym (ap (λ (held : Option DriveView). option_map cart_file_of held) here ∙ file_faulted (in_drive room.drives drive)) ∙ is)
    (same ∙ ap (λ (held : Option DriveView). ssids_of (ended_with held asking room.sessions)) here
    ∙ ap (λ (all : List SessionView). ssids_of all) (ended_faulted (in_drive room.drives drive) asking room.sessions))
