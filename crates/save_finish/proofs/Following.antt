-- How the end of a save follows its plan.
use Rattle.std.proofs.Common.{◌≡◌, ◌==◌, arith, Bool, true, false, List, [], ◌∷◌, ◌++◌, length, if◌then◌else◌, sym, ap, ◌∙◌, subst}
use Rattle.std.proofs.lemmas.Bool.Decides.{nat_tests}
use Rattle.std.specs.Prelude.{nat_le, IfSome, Option, Some, None, Result, Ok, Err}
use Rattle.room_base.specs.declared.numbers.Moment.{Moment}
use Rattle.room_base.specs.declared.numbers.Ssid.{Ssid}
use Rattle.room_base.specs.declared.refusal.Refusal.{Refusal}
use Rattle.room_disk.specs.Disk.{DiskView}
use Rattle.catalog_change.specs.Changes.{max_part}
use Rattle.cat_journal.specs.Journal.{JournalView, form_of}
use Rattle.cat_journal.specs.declared.current.CurrentFile.{CurrentFile}
use Rattle.catalog_spelling.specs.Snapshots.{snapshot_text}
use Rattle.room_catalog.specs.Held.{CatalogueLists, catalogue_of}
use Rattle.save_session.specs.Sessions.{SessionView, find_session}
use Rattle.room_effects.specs.View.{RoomView}
use Rattle.room_effects.specs.Effects.{Effect, Close, Enter, TurnOver, after_done}
use Rattle.room_effects.specs.Needs.{CanDo}
use Rattle.room_effects.specs.Running.{Does}
use Rattle.room_effects.proofs.Does.{does_append, does_stop, does_then}
use Rattle.room_effects.proofs.Sending.{does_close}
use Rattle.save_finish.specs.Ending.{commits_to, ending, entering_end, entering_parts, finished_parts, finished_whole, part_count, parts_to, second_form}
use Rattle.save_finish.specs.Ended.{HasFew, HasMany}

-- ---- an index in one entry

entered_whole : (m : Moment) (ssid : Ssid) (session : SessionView) (room : RoomView) → HasFew session
    → Enter m (finished_whole ssid session) ∷ [] ≡ entering_end m ssid session room
entered_whole m ssid session room few =
    let is : nat_le (length session.reading.entries) max_part ≡ true = grind (arith, nat_tests) in
    sym (ap (λ (test : Bool). if test then (Enter m (finished_whole ssid session) ∷ []) else entering_parts m ssid session room) is)

-- a commit failed
pub does_uncommitted : (m : Moment) (ssid : Ssid) (session : SessionView) (fault : Refusal) (old new : RoomView) (before now : DiskView)
    → Does {T = Unit {0}} (commits_to 4 ssid.0 old) (Err fault) old new before now → Does {T = Unit {0}} (ending m ssid session old) (Err fault) old new before now
does_uncommitted m ssid session fault old new before now does =
    does_stop {T = Unit {0}} {U = Unit {0}} (commits_to 4 ssid.0 old) (Close ssid.0 ∷ entering_end m ssid session old) fault old new before now does

-- all commits are done, and then the session ends
pub does_whole : (m : Moment) (ssid : Ssid) (session : SessionView) (answer : Result (Unit {0}) Refusal) (old mid new : RoomView) (before middle now : DiskView) → HasFew session
    → Does {T = Unit {0}} (commits_to 4 ssid.0 old) (Ok tt) old mid before middle
    → Does {T = Unit {0}} (Close ssid.0 ∷ (Enter m (finished_whole ssid session) ∷ [])) answer mid new middle now
    → Does {T = Unit {0}} (ending m ssid session old) answer old new before now
does_whole m ssid session answer old mid new before middle now few one two =
    let D : List Effect → Type 0 = λ effects. Does {T = Unit {0}} (Close ssid.0 ∷ effects) answer mid new middle now in
    does_append {T = Unit {0}} {U = Unit {0}} (commits_to 4 ssid.0 old) (Close ssid.0 ∷ entering_end m ssid session old) tt answer old mid new before middle now
    one (subst D (entered_whole m ssid session old few) two)

whole_of : (m : Moment) (ssid : Ssid) (found : Option SessionView) (answer : Result (Unit {0}) Refusal) (old mid new : RoomView) (before middle now : DiskView)
    → IfSome found HasFew → Does {T = Unit {0}} (commits_to 4 ssid.0 old) (Ok tt) old mid before middle
    → IfSome found (λ session. Does {T = Unit {0}} (Close ssid.0 ∷ (Enter m (finished_whole ssid session) ∷ [])) answer mid new middle now)
    → IfSome found (λ session. Does {T = Unit {0}} (ending m ssid session old) answer old new before now)
whole_of m ssid None answer old mid new before middle now few one two = tt
whole_of m ssid (Some session) answer old mid new before middle now few one two = does_whole m ssid session answer old mid new before middle now few one two

-- the same, for the session of the room before the commits
pub whole_behind : (m : Moment) (ssid : Ssid) (answer : Result (Unit {0}) Refusal) (old mid new : RoomView) (before middle now : DiskView)
    → mid.sessions ≡ old.sessions → IfSome (find_session ssid.0 old.sessions) HasFew
    → Does {T = Unit {0}} (commits_to 4 ssid.0 old) (Ok tt) old mid before middle
    → IfSome (find_session ssid.0 mid.sessions) (λ session. Does {T = Unit {0}} (Close ssid.0 ∷ (Enter m (finished_whole ssid session) ∷ [])) answer mid new middle now)
    → IfSome (find_session ssid.0 old.sessions) (λ session. Does {T = Unit {0}} (ending m ssid session old) answer old new before now)
whole_behind m ssid answer old mid new before middle now same few one two =
    let F : List SessionView → Type 0 = λ sessions. IfSome (find_session ssid.0 sessions)
    (λ session. Does {T = Unit {0}} (Close ssid.0 ∷ (Enter m (finished_whole ssid session) ∷ [])) answer mid new middle now) in
    whole_of m ssid (find_session ssid.0 old.sessions) answer old mid new before middle now few one (subst F same two)

pub uncommitted : (m : Moment) (ssid : Ssid) (found : Option SessionView) (fault : Refusal) (old new : RoomView) (before now : DiskView)
    → Does {T = Unit {0}} (commits_to 4 ssid.0 old) (Err fault) old new before now
    → IfSome found (λ session. Does {T = Unit {0}} (ending m ssid session old) (Err fault) old new before now)
uncommitted m ssid None fault old new before now does = tt
uncommitted m ssid (Some session) fault old new before now does = does_uncommitted m ssid session fault old new before now does

-- ---- an index in parts

entered_parts : (m : Moment) (ssid : Ssid) (session : SessionView) (room : RoomView) → HasMany session → entering_parts m ssid session room ≡ entering_end m ssid session room
entered_parts m ssid session room many =
    let is : nat_le (length session.reading.entries) max_part ≡ false = grind (arith, nat_tests) in
    sym (ap (λ (test : Bool). if test then (Enter m (finished_whole ssid session) ∷ []) else entering_parts m ssid session room) is)

parts_of : (m : Moment) (ssid : Ssid) (found : Option SessionView) (answer : Result (Unit {0}) Refusal) (old mid new : RoomView) (before middle now : DiskView)
    → mid.journal ≡ old.journal → mid.catalogue ≡ old.catalogue → IfSome found HasMany → Does {T = Unit {0}} (commits_to 4 ssid.0 old) (Ok tt) old mid before middle
    → IfSome found (λ session. Does {T = Unit {0}} (Close ssid.0 ∷ entering_parts m ssid session mid) answer mid new middle now)
    → IfSome found (λ session. Does {T = Unit {0}} (ending m ssid session old) answer old new before now)
parts_of m ssid None answer old mid new before middle now journal catalogue many one two = tt
parts_of m ssid (Some session) answer old mid new before middle now journal catalogue many one two =
    let D : List Effect → Type 0 = λ effects. Does {T = Unit {0}} (Close ssid.0 ∷ effects) answer mid new middle now in
    let first : second_form mid ≡ second_form old =
    ap (λ (current : Option CurrentFile). if form_of current == 1 then (TurnOver (snapshot_text true (catalogue_of mid.catalogue)) ∷ []) else []) (ap (λ (one : JournalView). one.current) journal)
    ∙ ap (λ (lists : CatalogueLists). if form_of old.journal.current == 1 then (TurnOver (snapshot_text true (catalogue_of lists)) ∷ []) else []) catalogue in
    let rest = parts_to (part_count (length session.reading.entries)) m ssid session.reading.entries ++ Enter m (finished_parts ssid session) ∷ [] in
    does_append {T = Unit {0}} {U = Unit {0}} (commits_to 4 ssid.0 old) (Close ssid.0 ∷ entering_end m ssid session old) tt answer old mid new before middle now
    one (subst D (ap (λ (effects : List Effect). effects ++ rest) first ∙ entered_parts m ssid session old many) two)

pub parts_behind : (m : Moment) (ssid : Ssid) (answer : Result (Unit {0}) Refusal) (old mid new : RoomView) (before middle now : DiskView)
    → mid.sessions ≡ old.sessions → mid.journal ≡ old.journal → mid.catalogue ≡ old.catalogue → IfSome (find_session ssid.0 old.sessions) HasMany
    → Does {T = Unit {0}} (commits_to 4 ssid.0 old) (Ok tt) old mid before middle
    → IfSome (find_session ssid.0 mid.sessions) (λ session. Does {T = Unit {0}} (Close ssid.0 ∷ entering_parts m ssid session mid) answer mid new middle now)
    → IfSome (find_session ssid.0 old.sessions) (λ session. Does {T = Unit {0}} (ending m ssid session old) answer old new before now)
parts_behind m ssid answer old mid new before middle now same journal catalogue many one two =
    let F : List SessionView → Type 0 = λ sessions. IfSome (find_session ssid.0 sessions)
    (λ session. Does {T = Unit {0}} (Close ssid.0 ∷ entering_parts m ssid session mid) answer mid new middle now) in
    parts_of m ssid (find_session ssid.0 old.sessions) answer old mid new before middle now journal catalogue many one (subst F same two)

-- ---- the end of the session, and what is entered behind it

pub does_closed : (m : Moment) (ssid : Ssid) (effects wanted : List Effect) (answer : Result (Unit {0}) Refusal) (old mid new : RoomView) (disk now : DiskView) → CanDo (Close ssid.0) old
    → mid ≡ after_done (Close ssid.0) old → effects ≡ wanted → Does {T = Unit {0}} effects answer mid new disk now
    → Does {T = Unit {0}} (Close ssid.0 ∷ wanted) answer old new disk now
does_closed m ssid effects wanted answer old mid new disk now can made same does =
    let D : List Effect → Type 0 = λ all. Does {T = Unit {0}} all answer mid new disk now in
    does_then {T = Unit {0}} {U = Unit {0}} (Close ssid.0) wanted tt answer old mid new disk disk now (does_close {T = Unit {0}} ssid.0 tt old mid disk can made) (subst D same does)
