-- How long the entries of a finished save are.
use Rattle.std.proofs.Common.{◌≡◌, ℕ, ◌+◌, ◌*◌, ◌≤◌, List, length, ap, arith}
use Rattle.std.specs.Prelude.{Option, Some, None, IfSome}
use Rattle.std.specs.List.{flat_map}
use Rattle.sha2.specs.Sha256.{sha256}
use Rattle.sha2.proofs.Facts256.{length-sha256}
use Rattle.room_base.specs.declared.numbers.Moment.{Moment}
use Rattle.room_base.specs.declared.numbers.Ssid.{Ssid}
use Rattle.save_stream.specs.declared.entry.IndexEntry.{IndexEntry}
use Rattle.media_db.specs.declared.copies.Section.{Section}
use Rattle.catalog_change.specs.declared.change.Change.TheVariants.{Finished, FinishedParts, IndexPart}
use Rattle.catalog_spelling.specs.Changes.{change_text}
use Rattle.catalog_spelling.specs.Entries.{entry_text}
use Rattle.catalog_text.proofs.ChangeLengths.{length-finished, length-index_part, length_change, length_stream}
use Rattle.save_session.specs.Sessions.{SessionView}
use Rattle.room_effects.specs.Effects.{entry_bytes, part_bytes}
use Rattle.save_finish.specs.Ending.{finished_parts, finished_whole, part_of}

pub length_whole : (moment : ℕ) (ssid : Ssid) (files bytes : ℕ) (sent : List ℕ) (sections : List Section) (index : List IndexEntry)
    → length (change_text moment (Finished ssid files bytes (sha256 sent) sections index)) ≡ 69 + 48 * length sections + length (flat_map entry_text index)
length_whole moment ssid files bytes sent sections index =
    omega (
      arith,
      length_change moment (Finished ssid files bytes (sha256 sent) sections index),
      length-finished ssid files bytes (sha256 sent) sections index,
      length-sha256 sent,
    )

pub length_closing : (moment : ℕ) (ssid : Ssid) (files bytes : ℕ) (sent : List ℕ) (sections : List Section)
    → length (change_text moment (FinishedParts ssid files bytes (sha256 sent) sections)) ≡ 65 + 48 * length sections
length_closing moment ssid files bytes sent sections =
    omega (
      arith,
      length_change moment (FinishedParts ssid files bytes (sha256 sent) sections),
      length_stream ssid files bytes (sha256 sent) sections,
      length-sha256 sent,
    )

pub length_part : (moment : ℕ) (ssid : Ssid) (part : ℕ) (index : List IndexEntry)
    → length (change_text moment (IndexPart ssid part index)) ≡ 25 + length (flat_map entry_text index)
length_part moment ssid part index = omega (arith, length_change moment (IndexPart ssid part index), length-index_part ssid part index)

-- ---- of a session that is found

pub whole_found : (ssid : Ssid) (found : Option SessionView) (index : List IndexEntry) (sections size : ℕ) → IfSome found (λ session. index ≡ session.reading.entries)
    → IfSome found (λ session. sections ≡ length session.sections) → size ≡ length (flat_map entry_text index)
    → IfSome found (λ session. (m : Moment) → 69 + 48 * sections + size ≡ length (entry_bytes m (finished_whole ssid session)))
whole_found ssid None index sections size same counted is = tt
whole_found ssid (Some session) index sections size same counted is = λ m.
    omega (
      arith,
      length_whole m.0 ssid (length session.reading.entries) session.reading.read session.sent session.sections session.reading.entries,
      counted,
      is,
      ap (λ (entries : List IndexEntry). length (flat_map entry_text entries)) same,
    )

pub part_found : (ssid : Ssid) (found : Option SessionView) (index : List IndexEntry) (sections size : ℕ) → IfSome found (λ session. index ≡ session.reading.entries)
    → ((part : ℕ) → length (flat_map entry_text (part_of part index)) ≤ size)
    → IfSome found (λ session. (m : Moment) (part : ℕ) → length (part_bytes m ssid part (part_of part session.reading.entries)) ≤ 69 + 48 * sections + size)
part_found ssid None index sections size same most = tt
part_found ssid (Some session) index sections size same most = λ m part.
    omega (
      arith,
      length_part m.0 ssid part (part_of part session.reading.entries),
      most part,
      ap (λ (entries : List IndexEntry). length (flat_map entry_text (part_of part entries))) same,
    )

pub closing_found : (ssid : Ssid) (found : Option SessionView) (sections size : ℕ) → IfSome found (λ session. sections ≡ length session.sections)
    → IfSome found (λ session. (m : Moment) → length (entry_bytes m (finished_parts ssid session)) ≤ 69 + 48 * sections + size)
closing_found ssid None sections size counted = tt
closing_found ssid (Some session) sections size counted = λ m.
    omega (arith, length_closing m.0 ssid (length session.reading.entries) session.reading.read session.sent session.sections, counted)
