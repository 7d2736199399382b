-- The catalogue in memory as contracts see it.
use Rattle.room_catalog.specs.declared.kept.Kept.{Kept}
use Rattle.room_catalog.specs.declared.catalogue_parts.CatalogueParts.{CatalogueParts}
use Rattle.room_catalog.specs.Held.{CatalogueLists, HeldCatalogue, no_parts}

abbrev pub held_of : Kept → HeldCatalogue
held_of kept = record {
  lists = record {
    number = kept.number;
    last_moment = kept.last_moment.0;
    next_ssid = kept.next_ssid.0;
    next_volid = kept.next_volid.0;
    resources = kept.resources.lists;
    slots = kept.slots.slots;
    volumes = kept.db.volumes;
    records = kept.db.records;
    sets = kept.index.sets;
    parts = kept.parts.parts;
  };
  room = record {
    resources = kept.resources.room;
    slots = kept.slots.room;
    volumes = kept.db.volume_room;
    records = kept.db.record_room;
    indexes = kept.index.room;
    entries = kept.parts.capacity;
    copies = kept.copies;
  };
}

-- what a catalogue of these parts holds
abbrev pub lists_of_parts : CatalogueParts → CatalogueLists
lists_of_parts parts = record {
  number = parts.number;
  last_moment = parts.last_moment.0;
  next_ssid = parts.next_ssid.0;
  next_volid = parts.next_volid.0;
  resources = parts.resources.lists;
  slots = parts.slots.items;
  volumes = parts.db.volumes;
  records = parts.db.records;
  sets = parts.index.sets;
  parts = no_parts;
}
