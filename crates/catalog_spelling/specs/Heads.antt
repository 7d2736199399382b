-- Heads of streams, read field by field.
use Rattle.std.specs.Prelude.{ℕ, ◌==◌, nat_lt, List, Ok}
use Rattle.room_base.specs.Numbers.{max_moment}
use Rattle.save_stream.specs.Reading.{is_level}
use Rattle.save_stream.specs.declared.head.SetHead.{SetHead}
use Rattle.catalog_spelling.specs.Reading.{Part, ◌>>=◌, checked}
use Rattle.catalog_spelling.specs.Fields.{
  byte_at,
  number_at,
  number_above_at,
  number_within_at,
  moment_at,
  name_at,
  text_at,
}

unfoldable pub head_at : List ℕ → Part SetHead
head_at bytes = do
  kind ← checked (λ byte. byte == 0x48) bytes (byte_at bytes)
  ssid ← number_above_at 8 0 kind.1
  base ← checked (λ base. nat_lt base ssid.0) ssid.1 (number_at 8 ssid.1)
  level ← checked (is_level base.0) base.1 (byte_at base.1)
  saved ← moment_at level.1
  browse ← moment_at saved.1
  retain ← number_within_at 8 browse.0 max_moment browse.1
  client ← name_at 64 retain.1
  set ← name_at 255 client.1
  group ← text_at 0 64 set.1
  pool ← name_at 64 group.1
  Ok (
    record {
      ssid = record { 0 = ssid.0 };
      base = record { 0 = base.0 };
      level = level.0;
      saved = record { 0 = saved.0 };
      browse = record { 0 = browse.0 };
      retain = record { 0 = retain.0 };
      client = client.0;
      set = set.0;
      group = group.0;
      pool = pool.0;
    },
    pool.1,
  )
