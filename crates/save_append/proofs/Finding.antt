-- What is found of a session: its head, and its drive.
use Rattle.std.proofs.Common.{◌≡◌, ℕ, refl, sym, ap, ◌∙◌, subst}
use Rattle.std.proofs.lemmas.Cmp.{nat_cmp_total}
use Rattle.std.specs.Option.{option_map}
use Rattle.std.specs.Prelude.{Option, Some, None, IfSome, IsSome}
use Rattle.room_base.proofs.OrderedLaws.{each_found}
use Rattle.save_stream.specs.declared.head.SetHead.{SetHead}
use Rattle.save_stream.specs.Reading.{Reading}
use Rattle.save_session.specs.Sessions.{IsSession, SessionView, find_session, ssid_of}
use Rattle.save_session.proofs.Heading.{reader_has_head}
use Rattle.slot_changer.specs.Drives.{IsDrive, in_drive}
use Rattle.room_effects.specs.View.{HasItsDrive, IsRoom, RoomView}

-- the reader of a session that is found has its head
head_is : (found : Option SessionView) (reading : Reading) → IfSome found IsSession → option_map (λ session. session.reading) found ≡ Some reading
    → reading.head ≡ option_map (λ session. session.head) found
head_is None reading is there = absurd (cc there)
head_is (Some session) reading is there =
    let same : session.reading ≡ reading = cc there in
    let H : Reading → Type 0 = λ it. it.head ≡ Some session.head in
    subst H same (reader_has_head session is)

pub has_head : (found : Option SessionView) (reading : Reading) → IfSome found IsSession → option_map (λ session. session.reading) found ≡ Some reading
    → reading.head ≡ None → ⊥
has_head None reading is there none = cc there
has_head (Some session) reading is there none =
    let no : ◌≡◌ {A = Option SetHead} None (Some session.head) = sym none ∙ head_is (Some session) reading is there in cc

pub pool_is : (found : Option SessionView) (reading : Reading) (head : SetHead) → IfSome found IsSession → option_map (λ session. session.reading) found ≡ Some reading
    → reading.head ≡ Some head → option_map (λ session. session.head.pool) found ≡ Some head.pool
pool_is None reading head is there has = absurd (cc there)
pool_is (Some session) reading head is there has =
    let same : Some session.head ≡ Some head = sym (head_is (Some session) reading is there) ∙ has in
    ap (λ (it : Option SetHead). option_map (λ (one : SetHead). one.pool) it) same

-- ---- its drive

drive_of : (room : RoomView) (held : Option ℕ) → IfSome held (λ drive. IsDrive drive × IsSome (in_drive room.drives drive)) → IfSome held IsDrive
drive_of room None has = tt
drive_of room (Some drive) has = has.0

pub drive_is : (ssid : ℕ) (room : RoomView) (held : Option ℕ) → IsRoom room → option_map (λ session. session.drive) (find_session ssid room.sessions) ≡ Some held
    → IfSome held IsDrive
drive_is ssid room held is there = by (find_session ssid room.sessions) refl there
  where
    by : (found : Option SessionView) → find_session ssid room.sessions ≡ found → option_map (λ session. session.drive) found ≡ Some held → IfSome held IsDrive
    by None found there = absurd (cc there)
    by (Some session) found there =
        let same : session.drive ≡ held = cc there in
        let D : Option ℕ → Type 0 = λ it. IfSome it IsDrive in
        subst D same (drive_of room session.drive (each_found nat_cmp_total ssid_of (HasItsDrive room.drives) ssid session room.sessions is.on_drives found))
