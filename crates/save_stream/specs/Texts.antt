-- The fields of heads and entries as the reader lends them.
use Rattle.save_stream.specs.declared.head_reading.HeadTexts.{HeadTexts}
use Rattle.save_stream.specs.declared.entry_reading.EntryFront.{EntryFront}
use Rattle.save_stream.specs.Reading.{HeadNames, Front}

abbrev pub names_of : HeadTexts → HeadNames
names_of texts = record {
  client = texts.client.now;
  set = texts.set.now;
  group = texts.group.now;
  pool = texts.pool.now;
}

abbrev pub front_from : EntryFront → Front
front_from front = record {
  kind = front.kind;
  path = front.path.now;
  mtime = front.mtime;
  size = front.size;
}
