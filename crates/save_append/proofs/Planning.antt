-- The plan of a piece, from what is known of it.
use Rattle.std.proofs.Common.{◌≡◌, ◌⊎◌, ℕ, ◌+◌, ◌≤◌, ◌<◌, Bool, true, false, List, length, refl, sym, subst, arith, inl, inr}
use Rattle.std.proofs.lemmas.Bool.Decides.{leb_tells}
use Rattle.std.specs.Option.{is_some}
use Rattle.std.specs.Prelude.{MatchBool, Option, Some, None, IfSome, nat_le}
use Rattle.room_base.specs.declared.numbers.Ssid.{Ssid}
use Rattle.room_base.specs.declared.refusal.Refusal.{Refusal}
use Rattle.room_base.specs.declared.refusal.Refusal.TheVariants as refusals
use Rattle.room_disk.specs.Disk.{DiskView}
use Rattle.save_stream.specs.Spelling.{max_size}
use Rattle.save_session.specs.declared.checked.Checked.{Checked}
use Rattle.save_session.specs.declared.checked.Checked.TheVariants as checks
use Rattle.save_session.specs.Sessions.{SessionView, check_open, check_sent}
use Rattle.room_command.specs.declared.reply.Reply.TheVariants.{Refused}
use Rattle.room_effects.specs.View.{RoomView}
use Rattle.room_effects.specs.Plans.{Follows, Plan, Refuse}
use Rattle.room_effects.proofs.Following.{follows_no_memory, follows_refusal}
use Rattle.room_placing.specs.Placing.{IsDriveFor}
use Rattle.save_append.specs.Appending.{IsNewPlan, IsSessionPlan, IsSentPlan, max_piece, on_drive}

-- ---- tests

not_true : (P : Type 0) → false ≡ true → P
not_true P is = absurd (let no : ◌≡◌ {A = Bool} false true = is in cc)

at_most : (P Q : Type 0) (count most : ℕ) → count ≤ most → P → MatchBool (nat_le count most) P Q
at_most P Q count most within holds = elim (leb_tells count most) [
  | inl is ↦ rw is.0 holds
  | inr isnt ↦ absurd (omega (arith, isnt.1, within))
]

above : (P Q : Type 0) (count most : ℕ) → most < count → Q → MatchBool (nat_le count most) P Q
above P Q count most over holds = elim (leb_tells count most) [
  | inl is ↦ absurd (omega (arith, is.1, over))
  | inr isnt ↦ rw isnt.0 holds
]

-- ---- any piece

module _ (ssid : Ssid) (offset : ℕ) (piece : List ℕ) (room : RoomView) where
  -- no session is open
  pub of_none : (found : Option SessionView) → is_some found ≡ false → IsSessionPlan found ssid offset piece room (Refuse (refusals.NotOpen ssid))
  of_none None none = refl
  of_none (Some session) none = not_true (IsSessionPlan (Some session) ssid offset piece room (Refuse (refusals.NotOpen ssid))) (sym none)

  pub of_long : (found : Option SessionView) → is_some found ≡ true → max_piece < length piece
      → IsSessionPlan found ssid offset piece room (Refuse (refusals.PieceTooLong max_piece))
  of_long None some long = not_true (IsSessionPlan None ssid offset piece room (Refuse (refusals.PieceTooLong max_piece))) some
  of_long (Some session) some long =
      let plan = Refuse (refusals.PieceTooLong max_piece) in
      above (IsSentPlan (check_sent (length session.sent) offset (length piece)) ssid piece session room plan) (plan ≡ Refuse (refusals.PieceTooLong max_piece))
      (length piece) max_piece long refl

  -- how it goes with what was sent
  pub of_checked : (checked : Checked) (plan : Plan) (found : Option SessionView) → is_some found ≡ true → length piece ≤ max_piece
      → checked ≡ check_open found offset (length piece) → ((session : SessionView) → IsSentPlan checked ssid piece session room plan)
      → IsSessionPlan found ssid offset piece room plan
  of_checked checked plan None some short is sent = not_true (IsSessionPlan None ssid offset piece room plan) some
  of_checked checked plan (Some session) some short is sent =
      let S : Checked → Type 0 = λ it. IsSentPlan it ssid piece session room plan in
      at_most (IsSentPlan (check_sent (length session.sent) offset (length piece)) ssid piece session room plan) (plan ≡ Refuse (refusals.PieceTooLong max_piece))
      (length piece) max_piece short (subst S is (sent session))

  -- it is new
  pub of_new : (F : Plan → Type 0) (found : Option SessionView) → is_some found ≡ true → length piece ≤ max_piece
      → checks.New ≡ check_open found offset (length piece) → IfSome found (λ session. (plan : Plan) × IsNewPlan ssid.0 piece session room plan × F plan)
      → (plan : Plan) × IsSessionPlan found ssid offset piece room plan × F plan
  of_new F None some short is new = not_true ((plan : Plan) × IsSessionPlan None ssid offset piece room plan × F plan) some
  of_new F (Some session) some short is new = (
    new.0,
    (let S : Checked → Type 0 = λ it. IsSentPlan it ssid piece session room new.0 in
        at_most (IsSentPlan (check_sent (length session.sent) offset (length piece)) ssid piece session room new.0) (new.0 ≡ Refuse (refusals.PieceTooLong max_piece))
        (length piece) max_piece short (subst S is new.1)),
    new.2,
  )

-- ---- a new piece

module _ (F : Plan → Type 0) (ssid : ℕ) (piece : List ℕ) (room : RoomView) where
  pub too_many : (found : Option SessionView) → IfSome found (λ session. false ≡ nat_le (session.reading.read + length piece) max_size)
      → F (Refuse (refusals.TooMany max_size)) → IfSome found (λ session. (plan : Plan) × IsNewPlan ssid piece session room plan × F plan)
  too_many None over follows = tt
  too_many (Some session) over follows = (Refuse (refusals.TooMany max_size), rw (sym over) refl, follows)

  pub goes_on : (drive : Option ℕ) (found : Option SessionView) → IfSome found (λ session. true ≡ nat_le (session.reading.read + length piece) max_size)
      → IfSome found (λ session. IsDriveFor session.drive session.head.pool (length piece) room drive) → IfSome found (λ session. F (on_drive drive ssid piece session room))
      → IfSome found (λ session. (plan : Plan) × IsNewPlan ssid piece session room plan × F plan)
  goes_on drive None within chosen follows = tt
  goes_on drive (Some session) within chosen follows = (on_drive drive ssid piece session room, rw (sym within) (drive, chosen, refl), follows)

-- no drive takes it
pub follows_none : (ssid : ℕ) (piece : List ℕ) (room : RoomView) (disk : DiskView) (refusal : Refusal) (found : Option SessionView)
    → IfSome found (λ session. (refusal ≡ refusals.NeedVolume session.head.pool) ⊎ (refusal ≡ refusals.NoMemory))
    → IfSome found (λ session. Follows (on_drive None ssid piece session room) (Refused refusal) room room disk disk)
follows_none ssid piece room disk refusal None is = tt
follows_none ssid piece room disk refusal (Some session) (inl is) =
    let F : Refusal → Type 0 = λ it. Follows (Refuse (refusals.NeedVolume session.head.pool)) (Refused it) room room disk disk in
    subst F (sym is) (follows_refusal (refusals.NeedVolume session.head.pool) room disk)
follows_none ssid piece room disk refusal (Some session) (inr none) =
    let F : Refusal → Type 0 = λ it. Follows (Refuse (refusals.NeedVolume session.head.pool)) (Refused it) room room disk disk in
    subst F (sym none) (follows_no_memory (Refuse (refusals.NeedVolume session.head.pool)) room disk)
