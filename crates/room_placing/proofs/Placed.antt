-- The effects that place a piece, in one case and the other.
use Rattle.std.proofs.Common.{◌≡◌, ℕ, List, [], ◌∷◌, ◌++◌, length, refl, sym, ap}
use Rattle.std.specs.Prelude.{Some, true, false}
use Rattle.slot_changer.specs.Taking.{fits}
use Rattle.room_effects.specs.View.{RoomView, held_in}
use Rattle.room_effects.specs.Effects.{Commit, Effect, Push}
use Rattle.room_placing.specs.Placing.{committing, placing}

pub placed_now : (drive ssid offset : ℕ) (bytes : List ℕ) (room : RoomView) → fits (held_in room drive) (length bytes) ≡ true
    → Push drive ssid 1 offset bytes ∷ [] ≡ placing drive ssid offset bytes room
placed_now drive ssid offset bytes room fit =
    let none : committing drive ssid (length bytes) room ≡ [] = rw fit refl in
    sym (ap (λ (first : List Effect). first ++ Push drive ssid 1 offset bytes ∷ []) none)

pub placed_behind : (drive ssid offset : ℕ) (bytes : List ℕ) (room : RoomView) → fits (held_in room drive) (length bytes) ≡ false
    → Commit drive (Some ssid) ∷ Push drive ssid 1 offset bytes ∷ [] ≡ placing drive ssid offset bytes room
placed_behind drive ssid offset bytes room full =
    let first : committing drive ssid (length bytes) room ≡ Commit drive (Some ssid) ∷ [] = rw full refl in
    sym (ap (λ (effects : List Effect). effects ++ Push drive ssid 1 offset bytes ∷ []) first)
