-- What pieces make of a session.
use Rattle.std.proofs.Common.{◌≡◌, ℕ, ◌+◌, ◌≤◌, List, [], ◌∷◌, ◌++◌, length, Result, Ok, Err, refl, sym, ap, ◌∙◌, arith}
use Rattle.std.specs.List.{flat_map}
use Rattle.std.proofs.lemmas.List.{append-nil, append_assoc, length-append}
use Rattle.save_stream.specs.declared.fault.StreamFault.{StreamFault}
use Rattle.save_stream.specs.declared.head.SetHead.{SetHead}
use Rattle.save_stream.specs.Reading.{Reading, behind_head, reads, then_reads}
use Rattle.save_stream.specs.Spelling.{IsHead, head_text, max_size}
use Rattle.save_stream.specs.Standing.{AreBytes}
use Rattle.save_stream.proofs.Lengths.{length-head_text}
use Rattle.save_stream.proofs.OneSpelling.{reads-append}
use Rattle.save_stream.proofs.Onward.{IsBytes-append}
use Rattle.save_stream.proofs.Steps.{IsBytes-none, body-stands}
use Rattle.media_db.specs.declared.copies.Section.{Section}
use Rattle.save_session.specs.Parts.{IsNextPart}
use Rattle.save_session.specs.Sessions.{SessionView, IsSession, off_drive, placed_on, read_on, started, with_piece, with_pieces}
use Rattle.save_session.proofs.Placing.{part_follows}

pub started_is : (head : SetHead) → IsHead head → IsSession (started head)
started_is head allowed = record {
  allowed = allowed;
  bytes = IsBytes-none;
  read = refl;
  count = omega arith;
  size = omega (arith, length-head_text head, allowed.client.0.1, allowed.set.0.1, allowed.group.0, allowed.pool.0.1);
  sections = tt;
}

-- a session with a piece that its reader takes
pub piece_is : (session : SessionView) (piece : List ℕ) (next : Reading) → IsSession session → AreBytes piece → session.reading.read + length piece ≤ max_size
    → reads session.reading piece ≡ Ok next → IsSession (record session { sent = session.sent ++ piece; reading = next })
piece_is session piece next is fit room onward =
    let behind = behind_head (length (head_text session.head)) session.head in
    let read : reads behind (session.sent ++ piece) ≡ Ok next =
    reads-append session.sent behind piece ∙ ap (λ (r : Result Reading StreamFault). then_reads r (λ reading. reads reading piece)) is.read ∙ onward in
    let bytes = IsBytes-append session.sent piece is.bytes fit in
    let stands = body-stands session.head (session.sent ++ piece) next is.allowed bytes read in
    let count : next.read ≡ length (head_text session.head) + length (session.sent ++ piece) =
    stands.read ∙ length-append (head_text session.head) (session.sent ++ piece) in
    record {
      allowed = is.allowed;
      bytes = bytes;
      read = read;
      count = count;
      size = omega (arith, count, is.count, room, length-append session.sent piece);
      sections = is.sections;
    }

-- it is the session with that piece
pub piece_read : (session : SessionView) (piece : List ℕ) (next : Reading) → reads session.reading piece ≡ Ok next
    → record session { sent = session.sent ++ piece; reading = next } ≡ with_piece piece session
piece_read session piece next onward =
    ap (λ (r : Result Reading StreamFault). record session { sent = session.sent ++ piece; reading = read_on session.reading r }) (sym onward)

pub part_is : (session : SessionView) (drive : ℕ) (part : Section) → IsSession session → IsNextPart part session.sections → IsSession (placed_on drive part session)
part_is session drive part is next = record {
  allowed = is.allowed;
  bytes = is.bytes;
  read = is.read;
  count = is.count;
  size = is.size;
  sections = part_follows part next.run 0 session.sections is.sections next.from;
}

pub off_is : (session : SessionView) (drive : ℕ) → IsSession session → IsSession (off_drive drive session)
off_is session drive is = record {
  allowed = is.allowed;
  bytes = is.bytes;
  read = is.read;
  count = is.count;
  size = is.size;
  sections = is.sections;
}

-- ---- pieces

both_read : (piece : List ℕ) (reading : Reading) (read : Result Reading StreamFault) → then_reads read (λ next. reads next piece) ≡ Ok reading
    → (next : Reading) × (read ≡ Ok next) × (reads next piece ≡ Ok reading)
both_read piece reading (Ok next) is = (next, refl, is)
both_read piece reading (Err fault) is = cc is

none_sent : (session : SessionView) → session ≡ with_piece [] session
none_sent session = ap (λ (bytes : List ℕ). record session { sent = bytes }) (sym (append-nil session.sent))

-- two pieces are one
both_sent : (session : SessionView) (one other : List ℕ) (next last : Reading) → reads session.reading one ≡ Ok next → reads next other ≡ Ok last
    → with_piece other (with_piece one session) ≡ with_piece (one ++ other) session
both_sent session one other next last first then =
    let both : reads session.reading (one ++ other) ≡ Ok last =
    reads-append one session.reading other ∙ ap (λ (r : Result Reading StreamFault). then_reads r (λ reading. reads reading other)) first ∙ then in
    ap (with_piece other) (sym (piece_read session one next first))
    ∙ sym (piece_read (record session { sent = session.sent ++ one; reading = next }) other last then)
    ∙ ap (λ (bytes : List ℕ). record session { sent = bytes; reading = last }) (append_assoc session.sent one other)
    ∙ piece_read session (one ++ other) last both

pub pieces-join : (pieces : List (List ℕ)) (session : SessionView) (reading : Reading) → reads session.reading (flat_map (λ (piece : List ℕ). piece) pieces) ≡ Ok reading
    → with_pieces pieces session ≡ with_piece (flat_map (λ (piece : List ℕ). piece) pieces) session
pieces-join [] session reading is = none_sent session
pieces-join (piece ∷ pieces) session reading is =
    let rest = flat_map (λ (piece : List ℕ). piece) pieces in
    let parts = both_read rest reading (reads session.reading piece) (sym (reads-append piece session.reading rest) ∙ is) in
    let onward : reads (with_piece piece session).reading rest ≡ Ok reading = ap (λ (r : Reading). reads r rest) (ap (read_on session.reading) parts.1) ∙ parts.2 in
    pieces-join pieces (with_piece piece session) reading onward ∙ both_sent session piece rest parts.0 reading parts.1 parts.2
