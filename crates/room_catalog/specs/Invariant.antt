-- What is always true of a catalogue in memory.
use Rattle.std.specs.List.{AllByRecursion}
use Rattle.catalog_change.specs.Catalogues.{IsCatalogue}
use Rattle.catalog_change.specs.Changes.{IsEntry}
use Rattle.room_catalog.specs.Held.{CatalogueLists, catalogue_of}

-- it is a catalogue that is allowed, and the parts that wait have entries that are
pub record IsHeld (lists : CatalogueLists) : Type 0 where
  pub catalogue : IsCatalogue (catalogue_of lists)
  pub parts : AllByRecursion IsEntry lists.parts.entries
