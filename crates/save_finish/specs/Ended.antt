-- A session whose stream has ended.
use Rattle.std.specs.Prelude.{◌≡◌, ◌≤◌, ◌<◌, true, length}
use Rattle.sha2.specs.Sha256.{sha256}
use Rattle.catalog_change.specs.Changes.{IsCount, max_part}
use Rattle.save_session.specs.Sessions.{SessionView}
use Rattle.save_finish.specs.declared.stream.EndedStream.{EndedStream}

abbrev pub HasEnded : SessionView → Type 0
HasEnded session = session.reading.ended ≡ true

-- its index isn't longer than a part of one
abbrev pub HasFew : SessionView → Type 0
HasFew session = length session.reading.entries ≤ max_part

-- its index is longer than a part of one
abbrev pub HasMany : SessionView → Type 0
HasMany session = max_part < length session.reading.entries

-- what is told of a stream is what the session has of it
pub record IsStreamOf (stream : EndedStream) (session : SessionView) : Type 0 where
  pub files : stream.files ≡ length session.reading.entries
  pub bytes : stream.bytes ≡ session.reading.read
  pub digest : stream.digest ≡ sha256 session.sent
  pub sections : stream.sections ≡ session.sections
  pub count : IsCount (length session.sections)
