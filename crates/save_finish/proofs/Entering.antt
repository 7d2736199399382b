-- What the end of a session needs, and what it leaves.
use Rattle.std.proofs.Common.{◌≡◌, ℕ, ◌≤◌, ◌<◌, ◌^◌, true, false, List, length, refl, sym, ap, ◌∙◌, subst, arith}
use Rattle.std.proofs.lemmas.Bool.{cond-true}
use Rattle.std.proofs.lemmas.Bool.Decides.{nat_tests}
use Rattle.std.proofs.lemmas.Cmp.{nat_cmp_total}
use Rattle.std.specs.Ordering.{eq_by_cmp, nat_cmp}
use Rattle.room_base.proofs.OrderedLaws.{found_removed}
use Rattle.room_base.proofs.OrderedNumbers.{same_number}
use Rattle.std.specs.Option.{option_map}
use Rattle.std.specs.Prelude.{Option, Some, None, IfSome, IsSome, IsSomeAnd, IsTrue}
use Rattle.sha2.specs.Sha256.{sha256}
use Rattle.room_base.specs.Numbers.{max_moment}
use Rattle.room_base.specs.declared.numbers.Moment.{Moment}
use Rattle.room_base.specs.declared.numbers.Ssid.{Ssid}
use Rattle.save_stream.specs.declared.entry.IndexEntry.{IndexEntry}
use Rattle.media_db.specs.declared.copies.Section.{Section}
use Rattle.catalog_change.specs.Catalogues.{max_number}
use Rattle.catalog_change.specs.Changes.{AreSections, IsChange, IsCount}
use Rattle.catalog_change.specs.declared.change.Change.TheVariants.{Finished}
use Rattle.room_catalog.specs.Held.{CatalogueLists}
use Rattle.save_session.specs.Sessions.{SessionView, close_session, find_session, ssid_of}
use Rattle.room_effects.specs.View.{RoomView, IsBetweenCommands, IsRoom}
use Rattle.room_effects.specs.Effects.{Close, Enter, after_done, entry_bytes}
use Rattle.room_effects.specs.Memory.{HasMemoryFor, HeldRoom, RoomMemory}
use Rattle.room_effects.specs.Needs.{CanDo, CanEnter}
use Rattle.room_effects.specs.Entering.{is_at_ceiling}
use Rattle.room_state.specs.Memory.{TakesMemory}
use Rattle.room_between.proofs.Quieting.{between_entered}
use Rattle.room_between.proofs.Stepping.{but_any, closed_one}
use Rattle.save_finish.specs.declared.stream.EndedStream.{EndedStream}
use Rattle.save_finish.specs.Ending.{finished_whole}
use Rattle.save_finish.specs.Ended.{HasEnded, IsStreamOf}
use Rattle.save_finish.specs.Prepared.{IsCommittedFrom, IsReadyToEnd, IsReadyToEnter, MayEnd}
use Rattle.save_finish.proofs.Ended.{has_body, index_is, sections_are}
use Rattle.save_finish.proofs.Recorded.{IsFound, file_is_open, finishable, found_between}

-- ---- what holds of the session that is found

pub of_some : {X : Type 0} (P : X → Type 0) (found : Option X) (x : X) → found ≡ Some x → IfSome found P → P x
of_some {X} P found x is has = let F : Option X → Type 0 = λ one. IfSome one P in subst F is has

pub of_some_and : {X : Type 0} (P : X → Type 0) (found : Option X) (x : X) → found ≡ Some x → IsSomeAnd found P → P x
of_some_and {X} P found x is has = let F : Option X → Type 0 = λ one. IsSomeAnd one P in subst F is has

pub to_some : {X : Type 0} (P : X → Type 0) (found : Option X) → ((x : X) → found ≡ Some x → P x) → IfSome found P
to_some P None has = tt
to_some P (Some x) has = has x refl

pub to_open : {X : Type 0} (P : X → Type 0) (found : Option X) → IsSomeAnd found P → IsSome found
to_open P None has = absurd has
to_open P (Some x) has = refl

-- a session that is there, of which this holds
pub record There {X : Type 0} (P : X → Type 0) (found : Option X) : Type 0 where
  pub one : X
  pub is : found ≡ Some one
  pub has : P one

pub there : {X : Type 0} (P : X → Type 0) (found : Option X) → IsSomeAnd found P → There P found
there P None has = absurd has
there P (Some one) has = record { one = one; is = refl; has = has }

pub to_if : {X : Type 0} (P : X → Type 0) (found : Option X) → IsSomeAnd found P → IfSome found P
to_if P None has = absurd has
to_if P (Some x) has = has

-- a session that may end can be closed
pub can_close : (ssid : ℕ) (room : RoomView) → MayEnd ssid room → CanDo (Close ssid) room
can_close ssid room may = record { opens = may.opens; needs = to_open HasEnded (find_session ssid room.sessions) may.ended }

-- ---- numbers

pub below_is : (lists : CatalogueLists) → is_at_ceiling lists ≡ false → lists.number < max_number
below_is lists below = grind (arith, nat_tests)

-- ---- the change

pub change_is : (ssid : Ssid) (stream : EndedStream) (session : SessionView) (index : List IndexEntry) → IsStreamOf stream session → index ≡ session.reading.entries
    → Finished ssid stream.files stream.bytes stream.digest stream.sections index ≡ finished_whole ssid session
change_is ssid stream session index is same =
    ap (λ files. Finished ssid files stream.bytes stream.digest stream.sections index) is.files
    ∙ ap (λ bytes. Finished ssid (length session.reading.entries) bytes stream.digest stream.sections index) is.bytes
    ∙ ap (λ (digest : List ℕ). Finished ssid (length session.reading.entries) session.reading.read digest stream.sections index) is.digest
    ∙ ap (λ (sections : List Section). Finished ssid (length session.reading.entries) session.reading.read (sha256 session.sent) sections index) is.sections
    ∙ ap (λ (entries : List IndexEntry). Finished ssid (length session.reading.entries) session.reading.read (sha256 session.sent) session.sections entries) same

-- the session of a room that may end
module _ (m : Moment) (ssid : Ssid) (session : SessionView) (room : RoomView) (may : MayEnd ssid.0 room) (found : find_session ssid.0 room.sessions ≡ Some session) where
  pub is_found : IsFound ssid.0 room session
  is_found = found_between ssid.0 room session may.between found

  pub has_ended : session.reading.ended ≡ true
  has_ended = of_some_and HasEnded (find_session ssid.0 room.sessions) session found may.ended

  pub sections_allowed : IsCount (length session.sections) → AreSections session.sections
  sections_allowed count =
      let some = has_body session is_found.is_session has_ended in
      sections_are session is_found.is_session is_found.pushed (omega (arith, is_found.is_session.count, some)) count

  pub whole_allowed : IsCount (length session.sections) → IsChange (finished_whole ssid session)
  whole_allowed count = (sections_allowed count, (index_is session is_found.is_session has_ended).0)

  -- the entry can be written behind the end of the session
  pub can_enter : (mid : RoomView) → mid ≡ after_done (Close ssid.0) room → m.0 ≤ max_moment → IsCount (length session.sections)
      → length (entry_bytes m (finished_whole ssid session)) < 2 ^ 32 → CanDo (Enter m (finished_whole ssid session)) mid
  can_enter mid closed moment count short =
      let Can : RoomView → Type 0 = λ one. CanDo (Enter m (finished_whole ssid session)) one in
      subst Can (sym closed) (record {
        opens = may.opens;
        needs = record {
          whole = tt;
          fitting = record {
            allowed = whole_allowed count;
            fits = (below_is room.catalogue may.below, finishable ssid.0 room session is_found has_ended);
            parts_fit = tt;
          };
          moment = moment;
          entry = record { file = file_is_open ssid.0 room session may.between.is is_found; short = short };
        };
      })

  -- what is true between two commands behind the end of the session
  pub between_closed : (mid : RoomView) → mid ≡ after_done (Close ssid.0) room → IsRoom mid → IsBetweenCommands mid
  between_closed mid closed is =
      let B : RoomView → Type 0 = λ one. IsBetweenCommands one in
      let R : RoomView → Type 0 = λ one. IsRoom one in
      subst B (sym closed) (closed_one ssid.0 room (but_any ssid.0 room may.between) (subst R closed is))

-- ---- memory

-- the memory for the entry is there still behind the end of the session
pub memory_behind : (m : Moment) (ssid : Ssid) (session : SessionView) (held mid : HeldRoom) → IsReadyToEnd held → IsReadyToEnter ssid held session
    → TakesMemory (Close ssid.0) held.memory mid.memory → HasMemoryFor (Enter m (finished_whole ssid session)) mid
memory_behind m ssid session held mid ready enter takes =
    (omega (arith, ready.index, takes.catalogue.indexes), omega (arith, enter.memory m, takes.entry))

-- ---- sessions that were closed

pub none_behind : (ssid : ℕ) (sessions : List SessionView) → find_session ssid (close_session ssid sessions) ≡ None
none_behind ssid sessions = found_removed nat_cmp_total ssid_of ssid ssid sessions ∙ cond-true (eq_by_cmp nat_cmp ssid ssid) None (find_session ssid sessions) (same_number ssid)

-- what is true between two commands behind the entry
pub between_enter : (m : Moment) (ssid : Ssid) (session : SessionView) (room mid new : RoomView) → mid ≡ after_done (Close ssid.0) room → IsBetweenCommands mid
    → CanEnter m (finished_whole ssid session) mid → IsRoom new → new ≡ after_done (Enter m (finished_whole ssid session)) mid → IsBetweenCommands new
between_enter m ssid session room mid new closed between can is made =
    let B : RoomView → Type 0 = λ one. IsBetweenCommands one in
    let R : RoomView → Type 0 = λ one. IsRoom one in
    let none : find_session ssid.0 mid.sessions ≡ None =
    ap (λ (one : RoomView). find_session ssid.0 one.sessions) closed ∙ none_behind ssid.0 room.sessions in
    subst B (sym made) (between_entered m (finished_whole ssid session) mid between can none (subst R made is))

-- ---- behind the commits

-- a session that may end may end still
pub may_behind : (ssid : ℕ) (old mid : HeldRoom) → MayEnd ssid old.room → IsCommittedFrom old mid → IsBetweenCommands mid.room → MayEnd ssid mid.room
may_behind ssid old mid may from between =
    let O : RoomView → Type 0 = λ room. IsTrue room.is_open in
    let E : RoomView → Type 0 = λ room. IsSomeAnd (find_session ssid room.sessions) HasEnded in
    let B : RoomView → Type 0 = λ room. is_at_ceiling room.catalogue ≡ false in
    record {
      opens = subst O (sym from.room) may.opens;
      between = between;
      ended = subst E (sym from.room) may.ended;
      below = subst B (sym from.room) may.below;
    }

pub ready_behind : (old mid : HeldRoom) → IsReadyToEnd old → IsCommittedFrom old mid → IsReadyToEnd mid
ready_behind old mid ready from = record {
  commits = (let sessions = ap (λ (room : RoomView). length room.sessions) from.room in
      let memory = ap (λ (memory : RoomMemory). memory.closed) from.memory in
      omega (arith, sessions, memory, ready.commits));
  index = (let memory = ap (λ (memory : RoomMemory). memory.catalogue.indexes) from.memory in omega (arith, memory, ready.index));
}

-- what holds of the session of the one room holds of that of the other
pub session_behind : (P : HeldRoom → SessionView → Type 0) (ssid : ℕ) (old mid : HeldRoom) → IsCommittedFrom old mid
    → ((session : SessionView) → P old session → P mid session)
    → IfSome (find_session ssid old.room.sessions) (P old) → IfSome (find_session ssid mid.room.sessions) (P mid)
session_behind P ssid old mid from carries has =
    let F : RoomView → Type 0 = λ room. IfSome (find_session ssid room.sessions) (P mid) in
    subst F (sym from.room) (to_some (P mid) (find_session ssid old.room.sessions) (λ session found. carries session (of_some (P old) (find_session ssid old.room.sessions) session found has)))

pub enter_behind : (ssid : Ssid) (old mid : HeldRoom) (session : SessionView) → IsCommittedFrom old mid → IsReadyToEnter ssid old session → IsReadyToEnter ssid mid session
enter_behind ssid old mid session from enter = record {
  memory = λ m. (let memory = ap (λ (memory : RoomMemory). memory.entry) from.memory in omega (arith, memory, enter.memory m));
  short = enter.short;
}

-- the index that the end of the session handed over
pub index_handed : (found : Option SessionView) (session : SessionView) (items : List IndexEntry) → found ≡ Some session
    → option_map (λ (one : SessionView). one.reading.entries) found ≡ Some items → items ≡ session.reading.entries
index_handed found session items is handed =
    let O : Option SessionView → Type 0 = λ one. option_map (λ (it : SessionView). it.reading.entries) one ≡ Some items in
    let there : ◌≡◌ {A = Option (List IndexEntry)} (Some session.reading.entries) (Some items) = subst O is handed in
    sym (cc there)
