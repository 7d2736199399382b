-- Parts of sessions, and pieces that are taken.
use Rattle.std.proofs.Common.{◌≡◌, ℕ, false, List, refl, sym, ap}
use Rattle.std.specs.Option.{is_some}
use Rattle.std.specs.Prelude.{Option, Some, None, IfSome, IsSomeAnd, Ok, Result}
use Rattle.std.specs.Result.{is_ok}
use Rattle.save_stream.specs.Reading.{Reading}
use Rattle.media_db.specs.declared.copies.Section.{Section}
use Rattle.save_stream.specs.declared.fault.StreamFault.{StreamFault}
use Rattle.save_session.specs.Sessions.{FollowsPiece, SessionView, change_session, find_session, placed_on}
use Rattle.slot_changer.specs.Drives.{DriveView}
use Rattle.room_effects.specs.Effects.{part_of, placed_in}
use Rattle.room_effects.specs.Needs.{IsTaken}
use Rattle.room_effects.proofs.Closing.{none_changed}

-- the reader has taken the piece
pub taken_of : (held : Option SessionView) (piece : List ℕ) → IfSome held (λ session. FollowsPiece {X = Unit {0}} piece session (Ok tt)) → IfSome held (IsTaken piece)
taken_of None piece read = tt
taken_of (Some session) piece read = ap (λ (r : Result Reading StreamFault). is_ok r) read

-- the part is that of the bytes in the drive
pub placed_so : (P : DriveView → Type 0) (held : Option DriveView) (drive ssid copy offset : ℕ) (bytes : List ℕ) (part : Section) (sessions : List SessionView)
    → IsSomeAnd held P → IfSome held (λ one. part ≡ part_of one ssid copy offset bytes)
    → change_session ssid (placed_on drive part) sessions ≡ placed_in held drive ssid copy offset bytes sessions
placed_so P None drive ssid copy offset bytes part sessions some is = absurd some
placed_so P (Some one) drive ssid copy offset bytes part sessions some is = ap (λ (p : Section). change_session ssid (placed_on drive p) sessions) is

-- a session that isn't open isn't found
pub not_found : (held : Option SessionView) → is_some held ≡ false → held ≡ None
not_found None shut = refl
not_found (Some session) shut = absurd (cc shut)

pub not_changed : (ssid : ℕ) (change : SessionView → SessionView) (sessions : List SessionView) → is_some (find_session ssid sessions) ≡ false
    → sessions ≡ change_session ssid change sessions
not_changed ssid change sessions shut = sym (none_changed ssid change sessions (not_found (find_session ssid sessions) shut))
