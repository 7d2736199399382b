-- The commits of the drives that hold a set, one after the other.
use Rattle.std.proofs.Common.{◌≡◌, ℕ, zero, suc, ◌+◌, ◌-◌, ◌≤◌, Bool, true, false, List, [], ◌∷◌, ◌++◌, length, if◌then◌else◌, refl, sym, ap, ◌∙◌, subst, arith}
use Rattle.std.specs.Prelude.{Option, Some, None, IsSomeAnd, IsTrue, Result, Ok, Err}
use Rattle.std.specs.Option.{option_map}
use Rattle.room_base.specs.declared.refusal.Refusal.{Refusal}
use Rattle.room_disk.specs.Disk.{DiskView}
use Rattle.volume_block.specs.Chunks.{ChunkText, all_chunks}
use Rattle.chunk_mux.specs.Pushes.{has_set}
use Rattle.slot_changer.specs.Drives.{DriveView, IsDrive, after_commit, holds_set}
use Rattle.slot_changer.specs.Taking.{CanCommit}
use Rattle.slot_changer.proofs.Changing.{set_other}
use Rattle.room_effects.specs.View.{RoomView, IsBetweenCommands, IsInDrive, IsRoom, held_in}
use Rattle.room_effects.specs.Effects.{Effect, Deed, Done, Broken, Commit, after_all, after_broken, after_done}
use Rattle.room_effects.specs.Memory.{HeldRoom, RoomMemory}
use Rattle.room_effects.specs.Needs.{CanDo}
use Rattle.room_effects.specs.Running.{Does, RanTo}
use Rattle.room_effects.proofs.Does.{does_append, does_none, does_stop}
use Rattle.room_effects.proofs.Readiness.{held_is}
use Rattle.room_state.specs.Commits.{IsReadyForCommits}
use Rattle.room_between.proofs.Quieting.{between_broken, between_committed}
use Rattle.save_finish.specs.Ending.{commit_of, commits_to}
use Rattle.save_finish.specs.Prepared.{IsCommittedFrom, KeepsOtherDrives}

-- ---- one commit

-- the room behind one effect that failed
one_broken : (effect : Effect) (fault : Refusal) (room : RoomView) (deeds : List Deed) → RanTo {T = Unit {0}} (effect ∷ []) room (Err fault) deeds
    → after_all deeds room ≡ after_broken effect room
one_broken effect fault room [] ran = absurd ran
one_broken effect fault room (Done one ∷ []) ran = absurd ran.1
one_broken effect fault room (Done one ∷ (deed ∷ deeds)) ran = absurd ran.1
one_broken effect fault room (Broken one ∷ []) ran = ap (λ (e : Effect). after_broken e room) ran.0
one_broken effect fault room (Broken one ∷ (deed ∷ deeds)) ran = absurd ran

pub after_fault : (effect : Effect) (fault : Refusal) (old new : RoomView) (before now : DiskView) → Does {T = Unit {0}} (effect ∷ []) (Err fault) old new before now
    → new ≡ after_broken effect old
after_fault effect fault old new before now does = does.performed.room ∙ one_broken effect fault old does.deeds does.ran

some_blocks : (ssid : ℕ) (blocks : List (List ChunkText)) → has_set ssid (all_chunks blocks) ≡ true → 1 ≤ length blocks
some_blocks ssid [] holds = absurd (let no : false ≡ true = holds in cc)
some_blocks ssid (chunks ∷ blocks) holds = omega arith

held_can : (ssid : ℕ) (held : Option DriveView) → ((one : DriveView) → held ≡ Some one → IsInDrive one) → holds_set held ssid ≡ true → IsSomeAnd held CanCommit
held_can ssid None each holds = absurd (let no : false ≡ true = holds in cc)
held_can ssid (Some one) each holds = record { some = some_blocks ssid one.buffer.blocks holds; no_fault = (each one refl).sound }

-- a drive whose buffer holds a set can be committed
pub can_commit : (drive ssid : ℕ) (room : RoomView) → IsRoom room → IsTrue room.is_open → IsDrive drive → holds_set (held_in room drive) ssid ≡ true
    → CanDo (Commit drive (Some ssid)) room
can_commit drive ssid room is opens is_drive holds = record {
  opens = opens;
  needs = (is_drive, held_can ssid (held_in room drive) (λ one there. held_is room.drives drive one is.drives there) holds);
}

module _ (drive ssid : ℕ) (old new : HeldRoom) (before now : DiskView) (is_drive : IsDrive drive) (made : new.room ≡ after_done (Commit drive (Some ssid)) old.room) where
  pub committed_from : new.memory ≡ old.memory → IsCommittedFrom old new
  committed_from memory = record {
    room = (let P : RoomView → Type 0 = λ room. room ≡ record old.room { drives = room.drives } in subst P (sym made) refl);
    memory = memory;
  }

  pub committed_others : KeepsOtherDrives drive old.room new.room
  committed_others other is_other apart =
      ap (λ (room : RoomView). held_in room other) made
      ∙ set_other old.room.drives drive other (option_map after_commit (held_in old.room drive)) is_drive is_other apart

-- what is true between two commands behind it
pub between_commit : (drive ssid : ℕ) (old new : RoomView) → IsBetweenCommands old → IsRoom new → new ≡ after_done (Commit drive (Some ssid)) old → IsBetweenCommands new
between_commit drive ssid old new between is made =
    let B : RoomView → Type 0 = λ room. IsBetweenCommands room in
    let R : RoomView → Type 0 = λ room. IsRoom room in
    subst B (sym made) (between_committed drive (Some ssid) old between (subst R made is))

-- and behind any effect that failed
pub between_fault : (effect : Effect) (fault : Refusal) (old new : RoomView) (before now : DiskView) → IsBetweenCommands old → IsRoom new
    → Does {T = Unit {0}} (effect ∷ []) (Err fault) old new before now → IsBetweenCommands new
between_fault effect fault old new before now between is does =
    let made = after_fault effect fault old new before now does in
    let B : RoomView → Type 0 = λ room. IsBetweenCommands room in
    let R : RoomView → Type 0 = λ room. IsRoom room in
    subst B (sym made) (between_broken effect old between (subst R made is))

-- ---- the drive that holds the set, or doesn't

pub commit_some : (drive ssid : ℕ) (room : RoomView) → holds_set (held_in room drive) ssid ≡ true → Commit drive (Some ssid) ∷ [] ≡ commit_of drive ssid room
commit_some drive ssid room holds =
    sym (ap (λ (test : Bool). if test then (Commit drive (Some ssid) ∷ []) else []) holds)

pub commit_none : (drive ssid : ℕ) (room : RoomView) → holds_set (held_in room drive) ssid ≡ false → [] ≡ commit_of drive ssid room
commit_none drive ssid room lacks =
    sym (ap (λ (test : Bool). if test then (Commit drive (Some ssid) ∷ []) else []) lacks)

pub committed_none : (held : HeldRoom) → IsCommittedFrom held held
committed_none held = record { room = refl; memory = refl }

-- ---- the commits so far

-- the drives before this place are committed
pub record CommitsSoFar (ssid place : ℕ) (old now : HeldRoom) (before disk : DiskView) : Type 0 where
  pub does : Does {T = Unit {0}} (commits_to (place - 1) ssid old.room) (Ok tt) old.room now.room before disk
  pub between : IsBetweenCommands now.room
  pub committed : IsCommittedFrom old now
  pub rest : (drive : ℕ) → IsDrive drive → place ≤ drive → held_in now.room drive ≡ held_in old.room drive

pub commits_start : (ssid : ℕ) (held : HeldRoom) (disk : DiskView) → IsBetweenCommands held.room → CommitsSoFar ssid 1 held held disk disk
commits_start ssid held disk between = record {
  does = does_none {T = Unit {0}} tt held.room disk;
  between = between;
  committed = committed_none held;
  rest = λ drive is behind. refl;
}

committed_twice : (old mid now : HeldRoom) → IsCommittedFrom old mid → IsCommittedFrom mid now → IsCommittedFrom old now
committed_twice old mid now one two = record {
  room = two.room ∙ ap (λ (room : RoomView). record room { drives = now.room.drives }) one.room;
  memory = two.memory ∙ one.memory;
}

-- what a further commit needs of the room
pub opens_behind : (old now : HeldRoom) → IsCommittedFrom old now → IsTrue old.room.is_open → IsTrue now.room.is_open
opens_behind old now from opens = (let O : RoomView → Type 0 = λ room. IsTrue room.is_open in subst O (sym from.room) opens)

pub ready_still : (old now : HeldRoom) → IsCommittedFrom old now → IsReadyForCommits old → IsReadyForCommits now
ready_still old now from ready =
    let sessions = ap (λ (room : RoomView). length room.sessions) from.room in
    let memory = ap (λ (memory : RoomMemory). memory.closed) from.memory in
    omega (arith, sessions, memory, ready)

-- all drives are committed
pub commits_end : (ssid place : ℕ) (old now : HeldRoom) (before disk : DiskView) → place ≡ 5 → CommitsSoFar ssid place old now before disk
    → Does {T = Unit {0}} (commits_to 4 ssid old.room) (Ok tt) old.room now.room before disk
commits_end ssid place old now before disk last so_far =
    let A : ℕ → Type 0 = λ n. Does {T = Unit {0}} (commits_to (n - 1) ssid old.room) (Ok tt) old.room now.room before disk in subst A last so_far.does

-- one drive more
more_commits : (ssid place : ℕ) (room : RoomView) → 1 ≤ place → commits_to place ssid room ≡ commits_to (place - 1) ssid room ++ commit_of place ssid room
more_commits ssid place room from_one =
    let C : ℕ → Type 0 = λ n. commits_to n ssid room ≡ commits_to (place - 1) ssid room ++ commit_of n ssid room in
    let next : suc (place - 1) ≡ place = omega (arith, from_one) in
    subst C next refl

module _ (ssid place : ℕ) (old mid now : HeldRoom) (before disk next : DiskView) (is : IsDrive place) (so_far : CommitsSoFar ssid place old mid before disk) where
  same_commit : commit_of place ssid mid.room ≡ commit_of place ssid old.room
  same_commit = ap (λ (held : Option DriveView). if holds_set held ssid then (Commit place (Some ssid) ∷ []) else []) (so_far.rest place is (omega arith))

  -- the commits to this drive
  does_more : (answer : Result (Unit {0}) Refusal) → Does {T = Unit {0}} (commit_of place ssid mid.room) answer mid.room now.room disk next
      → Does {T = Unit {0}} (commits_to place ssid old.room) answer old.room now.room before next
  does_more answer does =
      let D : List Effect → Type 0 = λ effects. Does {T = Unit {0}} effects answer mid.room now.room disk next in
      let A : List Effect → Type 0 = λ effects. Does {T = Unit {0}} effects answer old.room now.room before next in
      subst A (sym (more_commits ssid place old.room is.0))
      (does_append {T = Unit {0}} {U = Unit {0}} (commits_to (place - 1) ssid old.room) (commit_of place ssid old.room) tt answer old.room mid.room now.room before disk next
      so_far.does (subst D same_commit does))

  pub commits_more : Does {T = Unit {0}} (commit_of place ssid mid.room) (Ok tt) mid.room now.room disk next → IsBetweenCommands now.room → IsCommittedFrom mid now
      → KeepsOtherDrives place mid.room now.room → CommitsSoFar ssid (place + 1) old now before next
  commits_more does between committed others = record {
    does = (let A : ℕ → Type 0 = λ n. Does {T = Unit {0}} (commits_to n ssid old.room) (Ok tt) old.room now.room before next in
        subst A (let e : place ≡ place + 1 - 1 = omega arith in e) (does_more (Ok tt) does));
    between = between;
    committed = committed_twice old mid now so_far.committed committed;
    rest = λ drive is_other behind. others drive is_other (λ same. absurd (omega (arith, behind, same))) ∙ so_far.rest drive is_other (omega (arith, behind));
  }

  pub commits_stop : (fault : Refusal) → Does {T = Unit {0}} (commit_of place ssid mid.room) (Err fault) mid.room now.room disk next
      → Does {T = Unit {0}} (commits_to 4 ssid old.room) (Err fault) old.room now.room before next
  commits_stop fault does = stops (4 - place) (omega (arith, is.0, is.1))
    where
      -- the drives behind it aren't begun
      stops : (count : ℕ) → place + count ≡ 4 → Does {T = Unit {0}} (commits_to 4 ssid old.room) (Err fault) old.room now.room before next
      stops count four =
          let A : ℕ → Type 0 = λ n. Does {T = Unit {0}} (commits_to n ssid old.room) (Err fault) old.room now.room before next in
          subst A four (behind count)
        where
          behind : (more : ℕ) → Does {T = Unit {0}} (commits_to (place + more) ssid old.room) (Err fault) old.room now.room before next
          behind zero =
              let A : ℕ → Type 0 = λ n. Does {T = Unit {0}} (commits_to n ssid old.room) (Err fault) old.room now.room before next in
              subst A (let e : place ≡ place + 0 = omega arith in e) (does_more (Err fault) does)
          behind (suc more) =
              let A : ℕ → Type 0 = λ n. Does {T = Unit {0}} (commits_to n ssid old.room) (Err fault) old.room now.room before next in
              subst A (let e : suc (place + more) ≡ place + suc more = omega arith in e)
              (does_stop {T = Unit {0}} {U = Unit {0}} (commits_to (place + more) ssid old.room) (commit_of (suc (place + more)) ssid old.room) fault old.room now.room before next (behind more))
