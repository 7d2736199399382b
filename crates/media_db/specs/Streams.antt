-- What a record has in common with the stream that its save set is.
use Rattle.std.specs.Prelude.{ℕ, List, false}
use Rattle.save_stream.specs.declared.head.SetHead.{SetHead}
use Rattle.save_stream.specs.Fields.{Fields}
use Rattle.media_db.specs.declared.copies.SetCopy.{SetCopy}
use Rattle.media_db.specs.declared.records.Record.{Record}
use Rattle.media_db.specs.declared.records.RecordState.TheVariants.{Complete}

-- the head of a record's stream
abbrev pub head_of : Record → SetHead
head_of row = record {
  ssid = row.ssid;
  base = row.base;
  level = row.level;
  saved = row.saved;
  browse = row.browse;
  retain = row.retain;
  client = row.client;
  set = row.set;
  group = row.group;
  pool = row.pool;
}

-- The record that a stream with these fields gives, with these copies and this number for its next
-- one. It is complete, not held, not purged, and was never amended.
abbrev pub from_stream : Fields → List SetCopy → ℕ → Record
from_stream fields copies next_copy = record {
  ssid = fields.head.ssid;
  client = fields.head.client;
  set = fields.head.set;
  group = fields.head.group;
  pool = fields.head.pool;
  level = fields.head.level;
  base = fields.head.base;
  saved = fields.head.saved;
  browse = fields.head.browse;
  retain = fields.head.retain;
  hold = false;
  state = Complete;
  purged = false;
  files = fields.files;
  bytes = fields.bytes;
  digest = fields.digest;
  copies = copies;
  next_copy = next_copy;
  changed = 0;
}
