-- What the program keeps of the open sessions, and what its updates make of that.
use Rattle.std.proofs.Common.{◌≡◌, ℕ, ◌<◌, List, [], ◌∷◌, ◌++◌, length, get_or, set, map, take, drop, Option, Some, None, Result, Ok, Err, refl, sym, ap, subst, ◌∙◌, arith}
use Rattle.std.specs.List.{AllByRecursion, insert, remove}
use Rattle.std.specs.Option.{is_some}
use Rattle.std.specs.Result.{is_ok}
use Rattle.std.specs.Ordering.{nat_cmp, eq_by_cmp}
use Rattle.std.specs.declared.cmp.Ordering.TheVariants.{Equal}
use Rattle.std.proofs.lemmas.Bool.{cond-true, cond-false}
use Rattle.std.proofs.lemmas.Cmp.{nat_cmp_total}
use Rattle.std.proofs.lemmas.List.{append-nil, length-map, map-set, take_all}
use Rattle.std.proofs.Math.ListN.{drop_of_length-le, get_or-map}
use Rattle.std.proofs.Math.Seq.{map-set_same}
use Rattle.room_base.specs.declared.numbers.Ssid.{Ssid}
use Rattle.room_base.specs.Ordered.{Ascends, IsPlace, put_by}
use Rattle.room_base.proofs.OrderedLaws.{found_put, found_removed}
use Rattle.room_base.proofs.OrderedNumbers.{equal_numbers, other_number, same_number}
use Rattle.room_base.proofs.OrderedSearch.{found_at, found_read, none_at}
use Rattle.room_base.proofs.OrderedUpdates.{ascends_put, ascends_removed, put_at, put_between, removed_at, updated_at}
use Rattle.save_stream.specs.declared.head.SetHead.{SetHead}
use Rattle.save_session.specs.declared.session.Session.{Session}
use Rattle.save_session.specs.Kept.{AreSessionsKept, IsSessionKept, left_by, number_of, room_of, ssid_in, session_view, sessions_view}
use Rattle.save_session.specs.Sessions.{SessionView, SessionsView, AreOpenSessions, IsSession, KeepsOtherRooms, PartRoom, change_session, close_session, find_session, leave_drive, off_drive, room_for, room_or_none, room_ssid, ssid_of, start_session, started}
use Rattle.save_session.proofs.Sending.{off_is}
use Rattle.save_session.proofs.Views.{ascends_by, each_inserted, each_left, each_set, map-insert, map-remove, one_at, place_by}

-- the number of a session is the same in each view
same_number_in : (session : Session) → number_of (ssid_in session) ≡ ssid_of (session_view session)
same_number_in session = refl

number_in_room : (session : Session) → number_of (ssid_in session) ≡ room_ssid (room_of session)
number_in_room session = refl

first_view : (sessions : List Session) → 0 < length sessions → SessionView
first_view [] some = absurd (omega arith)
first_view (session ∷ sessions) some = session_view session

views_each : (sessions : List Session) → AllByRecursion IsSessionKept sessions → AllByRecursion IsSession (map session_view sessions)
views_each [] each = tt
views_each (session ∷ sessions) each = (each.0.is, views_each sessions each.1)

ssids_in : (sessions : List Session) → map ssid_in sessions ≡ map (λ (v : SessionView). v.head.ssid) (map session_view sessions)
ssids_in [] = refl
ssids_in (session ∷ sessions) = ap (λ rest. ssid_in session ∷ rest) (ssids_in sessions)

module _ (ssids : List Ssid) (sessions : List Session) (kept : AreSessionsKept ssids sessions) where
  abbrev views : List SessionView
  views = map session_view sessions

  abbrev rooms : List PartRoom
  rooms = map room_of sessions

  listed_ascend : Ascends nat_cmp number_of (map ssid_in sessions)
  listed_ascend = subst (Ascends nat_cmp number_of) kept.listed kept.ascending

  pub views_ascend : Ascends nat_cmp ssid_of views
  views_ascend = ascends_by nat_cmp ssid_in number_of session_view ssid_of same_number_in sessions listed_ascend

  rooms_ascend : Ascends nat_cmp room_ssid rooms
  rooms_ascend = ascends_by nat_cmp ssid_in number_of room_of room_ssid number_in_room sessions listed_ascend

  pub are_sessions : AreOpenSessions views
  are_sessions = record { ascending = views_ascend; each = views_each sessions kept.each }

  pub ssids_listed : ssids ≡ map (λ (v : SessionView). v.head.ssid) views
  ssids_listed = kept.listed ∙ ssids_in sessions

  pub count_listed : length ssids ≡ length views
  count_listed = ap (λ (xs : List Ssid). length xs) kept.listed ∙ length-map sessions ssid_in ∙ sym (length-map sessions session_view)

  module _ (k : ℕ) where
    -- a place among the ssids is one among the sessions
    pub place_in_views : (r : _) → IsPlace nat_cmp number_of k ssids r → IsPlace nat_cmp ssid_of k views r
    place_in_views r place =
        place_by nat_cmp ssid_in number_of session_view ssid_of same_number_in k sessions r (subst (λ (xs : List Ssid). IsPlace nat_cmp number_of k xs r) kept.listed place)

    place_in_ssids : (r : _) → IsPlace nat_cmp ssid_of k views r → IsPlace nat_cmp number_of k ssids r
    place_in_ssids r place =
        subst (λ (xs : List Ssid). IsPlace nat_cmp number_of k xs r) (sym kept.listed)
        (place_by nat_cmp session_view ssid_of ssid_in number_of (λ session. refl) k sessions r place)

    place_in_rooms : (r : _) → IsPlace nat_cmp ssid_of k views r → IsPlace nat_cmp room_ssid k rooms r
    place_in_rooms r place = place_by nat_cmp session_view ssid_of room_of room_ssid (λ session. refl) k sessions r place

    -- a session is open where its ssid has a place
    pub open_at : (r : Result ℕ ℕ) → IsPlace nat_cmp ssid_of k views r → is_ok r ≡ is_some (find_session k views)
    open_at (Ok at) place =
        let first = first_view sessions (omega (arith, place.0, length-map sessions session_view)) in
        sym (ap (λ (found : Option SessionView). is_some found) (found_at nat_cmp_total ssid_of k views views_ascend at place first))
    open_at (Err at) place = sym (ap (λ (found : Option SessionView). is_some found) (none_at nat_cmp_total ssid_of k views at place))

    -- ---- an open session

    module _ (at : ℕ) (place : IsPlace nat_cmp ssid_of k views (Ok at)) where
      pub within : at < length sessions
      within = omega (arith, place.0, length-map sessions session_view)

      module _ (old : Session) (read : old ≡ get_or sessions at old) where
        read_view : session_view old ≡ get_or views at (session_view old)
        read_view = ap session_view read ∙ sym (get_or-map session_view sessions at old)

        read_room : room_of old ≡ get_or rooms at (room_of old)
        read_room = ap room_of read ∙ sym (get_or-map room_of sessions at old)

        pub found_there : find_session k views ≡ Some (session_view old)
        found_there = found_read nat_cmp_total ssid_of k views views_ascend at place (session_view old) read_view

        pub kept_there : IsSessionKept old
        kept_there = subst IsSessionKept (sym read) (one_at IsSessionKept sessions at old within kept.each)

        ssid_there : ssid_of (session_view old) ≡ k
        ssid_there = equal_numbers (ssid_of (session_view old)) k (subst (λ (v : SessionView). nat_cmp (ssid_of v) k ≡ Equal) (sym read_view) (place.1 (session_view old)))

        pub room_there : room_for k rooms ≡ (room_of old).room
        room_there = ap room_or_none (found_read nat_cmp_total room_ssid k rooms rooms_ascend at (place_in_rooms (Ok at) place) (room_of old) read_room)

        module _ (new : Session) (same : ssid_in new ≡ ssid_in old) where
          abbrev after : List Session
          after = set sessions at new

          pub kept_after : IsSessionKept new → AreSessionsKept ssids after
          kept_after is = record {
            listed = kept.listed ∙ sym (map-set_same ssid_in sessions at new old (same ∙ ap ssid_in read));
            ascending = kept.ascending;
            each = each_set IsSessionKept sessions at new kept.each is;
          }

          rooms_after : map room_of after ≡ put_by nat_cmp room_ssid (room_of new) rooms
          rooms_after =
              let number : room_ssid (room_of new) ≡ k = ap number_of same ∙ ssid_there in
              map-set room_of sessions at new
              ∙ put_at nat_cmp_total room_ssid rooms (room_of new) at rooms_ascend
              (subst (λ n. IsPlace nat_cmp room_ssid n rooms (Ok at)) (sym number) (place_in_rooms (Ok at) place))

          pub room_after : room_for k (map room_of after) ≡ (room_of new).room
          room_after =
              let number : room_ssid (room_of new) ≡ k = ap number_of same ∙ ssid_there in
              ap (room_for k) rooms_after
              ∙ ap room_or_none (found_put nat_cmp_total room_ssid (room_of new) k rooms
              ∙ cond-true (eq_by_cmp nat_cmp (room_ssid (room_of new)) k) _ _ (ap (λ n. eq_by_cmp nat_cmp n k) number ∙ same_number k))

          pub others_after : KeepsOtherRooms k rooms (map room_of after)
          others_after = λ other differs.
              let number : room_ssid (room_of new) ≡ k = ap number_of same ∙ ssid_there in
              ap (room_for other) rooms_after
              ∙ ap room_or_none (found_put nat_cmp_total room_ssid (room_of new) other rooms
              ∙ cond-false (eq_by_cmp nat_cmp (room_ssid (room_of new)) other) _ _
              (ap (λ n. eq_by_cmp nat_cmp n other) number ∙ other_number k other (λ e. differs (sym e))))

          pub changed_views : (change : SessionView → SessionView) → session_view new ≡ change (session_view old) → map session_view after ≡ change_session k change views
          changed_views change is =
              map-set session_view sessions at new
              ∙ ap (λ (v : SessionView). set views at v) (is ∙ ap change read_view)
              ∙ updated_at nat_cmp_total ssid_of k change views at views_ascend place (session_view old)

-- ---- a session is closed

module _ (ssids : List Ssid) (sessions : List Session) (kept : AreSessionsKept ssids sessions) (k at : ℕ) (place : IsPlace nat_cmp ssid_of k (map session_view sessions) (Ok at)) where
  pub kept_closed : AreSessionsKept (remove ssids at) (remove sessions at)
  kept_closed = record {
    listed = ap (λ (xs : List Ssid). remove xs at) kept.listed ∙ sym (map-remove ssid_in sessions at);
    ascending = subst (Ascends nat_cmp number_of)
        (sym (removed_at nat_cmp_total number_of k ssids at kept.ascending (place_in_ssids ssids sessions kept k (Ok at) place)))
        (ascends_removed nat_cmp_total number_of k ssids kept.ascending);
    each = each_left IsSessionKept sessions at kept.each;
  }

  pub views_closed : map session_view (remove sessions at) ≡ close_session k (map session_view sessions)
  views_closed = map-remove session_view sessions at ∙ removed_at nat_cmp_total ssid_of k (map session_view sessions) at (views_ascend ssids sessions kept) place

  pub others_closed : KeepsOtherRooms k (map room_of sessions) (map room_of (remove sessions at))
  others_closed = λ other differs.
      let rooms = map room_of sessions in
      let gone = map-remove room_of sessions at
      ∙ removed_at nat_cmp_total room_ssid k rooms at (rooms_ascend ssids sessions kept) (place_in_rooms ssids sessions kept k (Ok at) place) in
      ap (room_for other) gone
      ∙ ap room_or_none (found_removed nat_cmp_total room_ssid k other rooms
      ∙ cond-false (eq_by_cmp nat_cmp k other) None _ (other_number k other (λ e. differs (sym e))))

-- ---- a session is started

module _ (ssids : List Ssid) (sessions : List Session) (kept : AreSessionsKept ssids sessions) (ssid : Ssid) where
  module _ (at : ℕ) (place : IsPlace nat_cmp number_of ssid.0 ssids (Err at)) (new : Session) (same : ssid ≡ ssid_in new) where
    number : ssid.0 ≡ ssid_of (session_view new)
    number = ap number_of same

    pub kept_started : IsSessionKept new → AreSessionsKept (insert ssids at ssid) (insert sessions at new)
    kept_started is = record {
      listed = ap (λ (xs : List Ssid). insert xs at ssid) kept.listed ∙ ap (λ (s : Ssid). insert (map ssid_in sessions) at s) same ∙ sym (map-insert ssid_in sessions at new);
      ascending = subst (Ascends nat_cmp number_of) (sym (put_between nat_cmp_total number_of ssids ssid at place)) (ascends_put nat_cmp_total number_of ssids ssid kept.ascending);
      each = each_inserted IsSessionKept sessions at new kept.each is;
    }

    pub views_started : (head : SetHead) → session_view new ≡ started head → map session_view (insert sessions at new) ≡ start_session head (map session_view sessions)
    views_started head is =
        let views = map session_view sessions in
        let there = subst (λ n. IsPlace nat_cmp ssid_of n views (Err at)) number (place_in_views ssids sessions kept ssid.0 (Err at) place) in
        map-insert session_view sessions at new
        ∙ put_between nat_cmp_total ssid_of views (session_view new) at there
        ∙ ap (λ (v : SessionView). put_by nat_cmp ssid_of v views) is

    pub others_started : KeepsOtherRooms ssid.0 (map room_of sessions) (map room_of (insert sessions at new))
    others_started = λ other differs.
        let rooms = map room_of sessions in
        let views = place_in_views ssids sessions kept ssid.0 (Err at) place in
        let there = subst (λ n. IsPlace nat_cmp room_ssid n rooms (Err at)) number (place_in_rooms ssids sessions kept ssid.0 (Err at) views) in
        let put = map-insert room_of sessions at new ∙ put_between nat_cmp_total room_ssid rooms (room_of new) at there in
        ap (room_for other) put
        ∙ ap room_or_none (found_put nat_cmp_total room_ssid (room_of new) other rooms
        ∙ cond-false (eq_by_cmp nat_cmp (ssid_of (session_view new)) other) _ _
        (other_number (ssid_of (session_view new)) other (λ e. differs (sym e ∙ sym number))))

    pub room_started : room_for ssid.0 (map room_of (insert sessions at new)) ≡ (room_of new).room
    room_started =
        let rooms = map room_of sessions in
        let views = place_in_views ssids sessions kept ssid.0 (Err at) place in
        let there = subst (λ n. IsPlace nat_cmp room_ssid n rooms (Err at)) number (place_in_rooms ssids sessions kept ssid.0 (Err at) views) in
        let put = map-insert room_of sessions at new ∙ put_between nat_cmp_total room_ssid rooms (room_of new) at there in
        ap (room_for ssid.0) put
        ∙ ap room_or_none (found_put nat_cmp_total room_ssid (room_of new) ssid.0 rooms
        ∙ cond-true (eq_by_cmp nat_cmp (ssid_of (session_view new)) ssid.0) _ _
        (ap (λ n. eq_by_cmp nat_cmp n ssid.0) (sym number) ∙ same_number ssid.0))

-- ---- a drive is left

module _ (drive : ℕ) where
  ssids_left : (sessions : List Session) → map ssid_in (map (left_by drive) sessions) ≡ map ssid_in sessions
  ssids_left [] = refl
  ssids_left (session ∷ sessions) = ap (λ rest. ssid_in session ∷ rest) (ssids_left sessions)

  each_off : (sessions : List Session) → AllByRecursion IsSessionKept sessions → AllByRecursion IsSessionKept (map (left_by drive) sessions)
  each_off [] each = tt
  each_off (session ∷ sessions) each =
      (record { is = off_is (session_view session) drive each.0.is; held = each.0.held; next = each.0.next }, each_off sessions each.1)

  pub kept_left : (ssids : List Ssid) (sessions : List Session) → AreSessionsKept ssids sessions → AreSessionsKept ssids (map (left_by drive) sessions)
  kept_left ssids sessions kept = record {
    listed = kept.listed ∙ sym (ssids_left sessions);
    ascending = kept.ascending;
    each = each_off sessions kept.each;
  }

  pub views_left : (sessions : List Session) → map session_view (map (left_by drive) sessions) ≡ leave_drive drive (map session_view sessions)
  views_left [] = refl
  views_left (session ∷ sessions) = ap (λ rest. off_drive drive (session_view session) ∷ rest) (views_left sessions)

  pub rooms_left : (sessions : List Session) → map room_of (map (left_by drive) sessions) ≡ map room_of sessions
  rooms_left [] = refl
  rooms_left (session ∷ sessions) = ap (λ rest. room_of session ∷ rest) (rooms_left sessions)

-- what is left of a list, of which all items were written over
pub written_back : {X : Type 0} (new old : List X) (n : ℕ) → length new ≡ n → length old ≡ n → take n (new ++ drop (length new) old) ≡ new
written_back new old n long as_long =
    ap (λ xs. take n (new ++ xs)) (drop_of_length-le old (omega (arith, long, as_long))) ∙ ap (take n) (append-nil new) ∙ take_all n new (omega (arith, long))

-- ---- a session that is written back as it was

module _ (sessions : List Session) (at : ℕ) (old : Session) (read : old ≡ get_or sessions at old) (new : Session) where
  pub same_rooms : room_of new ≡ room_of old → map room_of (set sessions at new) ≡ map room_of sessions
  same_rooms is = map-set_same room_of sessions at new old (is ∙ ap room_of read)

  pub same_views : session_view new ≡ session_view old → map session_view (set sessions at new) ≡ map session_view sessions
  same_views is = map-set_same session_view sessions at new old (is ∙ ap session_view read)

  pub same_value : session_view new ≡ session_view old → room_of new ≡ room_of old → sessions_view (set sessions at new) ≡ sessions_view sessions
  same_value view room =
      ap (λ (vs : List SessionView). record { sessions = vs; rooms = map room_of (set sessions at new) }) (same_views view)
      ∙ ap (λ (rs : List PartRoom). record { sessions = map session_view sessions; rooms = rs }) (same_rooms room)

-- ---- what a value's view says of its fields

module _ (k : ℕ) (sessions : List Session) (value : SessionsView) (is : sessions_view sessions ≡ value) where
  pub place_of_value : (at : ℕ) → IsPlace nat_cmp ssid_of k value.sessions (Ok at) → IsPlace nat_cmp ssid_of k (map session_view sessions) (Ok at)
  place_of_value at place = subst (λ (v : SessionsView). IsPlace nat_cmp ssid_of k v.sessions (Ok at)) (sym is) place

  pub found_in_value : (session : SessionView) → find_session k (map session_view sessions) ≡ Some session → find_session k value.sessions ≡ Some session
  found_in_value session found = subst (λ (v : SessionsView). find_session k v.sessions ≡ Some session) is found
