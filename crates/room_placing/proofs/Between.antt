-- What is true between two commands is true again once a session's last bytes are placed.
use Rattle.std.proofs.Common.{◌≡◌, ℕ, ◌≤◌, List, [], ◌∷◌, length, sym, ap, ◌∙◌, subst}
use Rattle.std.specs.Prelude.{Some, IfSome, IsTrue, false, Err}
use Rattle.room_base.specs.declared.refusal.Refusal.{Refusal}
use Rattle.room_disk.specs.Disk.{DiskView}
use Rattle.save_session.specs.Sessions.{IsOpen, find_session}
use Rattle.slot_changer.specs.Drives.{IsDrive}
use Rattle.slot_changer.specs.Taking.{fits, takes}
use Rattle.room_effects.specs.View.{IsBetweenCommands, IsRoom, RoomView, held_in}
use Rattle.room_effects.specs.Effects.{Broken, Commit, Deed, Done, Effect, Push, after_all, after_broken, after_done}
use Rattle.room_effects.specs.Needs.{CanDo, FitsDrive}
use Rattle.room_effects.specs.Running.{Does, RanTo}
use Rattle.room_effects.proofs.Driving.{held_and}
use Rattle.room_effects.proofs.Staying.{stays_commit, stays_commit_broken, stays_push}
use Rattle.room_between.specs.Middle.{EndsWith, IsBetweenBut}
use Rattle.room_between.proofs.Quieting.{between_asked, but_committed}
use Rattle.room_between.proofs.Stepping.{pushed}
use Rattle.room_placing.proofs.Pushing.{can_commit_first, can_push_after, can_push_last}

-- ---- an effect that failed

broke : (T : Type 0) (effect : Effect) (fault : Refusal) (room : RoomView) (deeds : List Deed) → RanTo {T = T} (effect ∷ []) room (Err fault) deeds
    → deeds ≡ Broken effect ∷ []
broke T effect fault room [] ran = absurd ran
broke T effect fault room (Done one ∷ []) ran = absurd ran.1
broke T effect fault room (Done one ∷ (deed ∷ deeds)) ran = absurd ran.1
broke T effect fault room (Broken one ∷ []) ran = ap (λ (it : Effect). Broken it ∷ []) ran.0
broke T effect fault room (Broken one ∷ (deed ∷ deeds)) ran = absurd ran

pub after_one_broken : {T : Type 0} (effect : Effect) (fault : Refusal) (old new : RoomView) (before now : DiskView)
    → Does {T = T} (effect ∷ []) (Err fault) old new before now → new ≡ after_broken effect old
after_one_broken {T} effect fault old new before now does =
    does.performed.room ∙ ap (λ (deeds : List Deed). after_all deeds old) (broke T effect fault old does.deeds does.ran)

-- ---- the push

pub pushed_between : (drive ssid offset : ℕ) (bytes : List ℕ) (room new : RoomView) → IsBetweenBut ssid room → CanDo (Push drive ssid 1 offset bytes) room
    → IfSome (find_session ssid room.sessions) (EndsWith offset bytes) → new ≡ after_done (Push drive ssid 1 offset bytes) room → IsBetweenCommands new
pushed_between drive ssid offset bytes room new between can last made =
    let B : RoomView → Type 0 = λ it. IsBetweenCommands it in
    let there = held_and (held_in room drive) (FitsDrive ssid 1 offset bytes room) can.needs.held in
    subst B (sym made) (pushed drive ssid 1 offset bytes there.one room between there.is last (stays_push drive ssid 1 offset bytes room between.is can))

-- ---- behind the commit of the buffer

module _ (drive ssid offset : ℕ) (bytes : List ℕ) (room : RoomView) (between : IsBetweenBut ssid room) (opens : IsTrue room.is_open) (is_drive : IsDrive drive)
    (some : 1 ≤ length bytes) (most : length bytes ≤ 257024) (is_sent : IsOpen ssid room.sessions)
    (last : IfSome (find_session ssid room.sessions) (EndsWith offset bytes)) (taken : IsTrue (takes (held_in room drive) (length bytes)))
    (full : fits (held_in room drive) (length bytes) ≡ false) where
  pub can_commit_here : CanDo (Commit drive (Some ssid)) room
  can_commit_here = can_commit_first drive ssid offset bytes room between.is opens is_drive some (Some ssid) most taken full

  stays : IsRoom (after_done (Commit drive (Some ssid)) room)
  stays = stays_commit drive (Some ssid) room between.is can_commit_here

  pub can_push_behind : (mid : RoomView) → mid ≡ after_done (Commit drive (Some ssid)) room → CanDo (Push drive ssid 1 offset bytes) mid
  can_push_behind mid made =
      let C : RoomView → Type 0 = λ it. CanDo (Push drive ssid 1 offset bytes) it in
      subst C (sym made) (can_push_last drive ssid offset bytes (after_done (Commit drive (Some ssid)) room) stays opens is_drive some is_sent last
      (can_push_after drive ssid offset bytes room between.is opens is_drive some (Some ssid) most taken full))

  pub placed_between : (mid new : RoomView) → mid ≡ after_done (Commit drive (Some ssid)) room → new ≡ after_done (Push drive ssid 1 offset bytes) mid
      → IsBetweenCommands new
  placed_between mid new made pushes =
      let B : RoomView → Type 0 = λ it. IsBetweenBut ssid it in
      let L : RoomView → Type 0 = λ it. IfSome (find_session ssid it.sessions) (EndsWith offset bytes) in
      pushed_between drive ssid offset bytes mid new (subst B (sym made) (but_committed drive (Some ssid) ssid room between stays))
      (can_push_behind mid made) (subst L (sym made) last) pushes

  -- a commit that fails closes the session
  pub lost_between : (new : RoomView) → new ≡ after_broken (Commit drive (Some ssid)) room → IsBetweenCommands new
  lost_between new made =
      let B : RoomView → Type 0 = λ it. IsBetweenCommands it in
      subst B (sym made) (between_asked drive ssid room between (stays_commit_broken drive (Some ssid) room between.is can_commit_here))
