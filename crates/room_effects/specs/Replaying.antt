-- What the entries of a journal make of a catalogue, one behind the other.
use Rattle.std.specs.Prelude.{◌≡◌, ℕ, List, [], ◌∷◌}
use Rattle.catalog_change.specs.declared.change.Change.{Change}
use Rattle.catalog_change.specs.declared.change.Change.TheVariants.{FinishedParts, IndexPart}
use Rattle.catalog_spelling.specs.Changes.{Stamped}
use Rattle.catalog_spelling.specs.Decoding.{ChangeText}
use Rattle.room_catalog.specs.Changing.{lists_after}
use Rattle.room_catalog.specs.Fits.{Fits, FitsParts}
use Rattle.room_catalog.specs.Held.{CatalogueLists, catalogue_of}

-- only a file of form 2 has parts of an index, and changes that close them
abbrev pub MayStandIn : ℕ → Change → Type 0
MayStandIn form (IndexPart ssid part index) = form ≡ 2
MayStandIn form (FinishedParts ssid files bytes digest sections) = form ≡ 2
MayStandIn form _ = Unit {0}

-- A change may come behind entries that left these lists, in a file of this form: it fits the
-- catalogue and the parts that wait.
pub record MayFollow (form : ℕ) (lists : CatalogueLists) (change : Change) : Type 0 where
  pub stands : MayStandIn form change
  pub fits : Fits (catalogue_of lists) change
  pub parts : FitsParts lists.parts change

-- an entry tells this change: its bytes are the change's text, and the change may come there
pub record Follows (form : ℕ) (payload : List ℕ) (lists : CatalogueLists) (one : Stamped)
    : Type 0 where
  pub text : ChangeText payload one.moment one.change
  pub may : MayFollow form lists one.change

abbrev pub lists_behind : Stamped → CatalogueLists → CatalogueLists
lists_behind one lists = lists_after (record { 0 = one.moment }) one.change lists

-- each entry follows those before it, and the last one leaves these lists
abbrev pub Replays : ℕ → List (List ℕ) → CatalogueLists → CatalogueLists → Type 0
Replays form [] first end = end ≡ first
Replays form (payload ∷ payloads) first end = (one : Stamped) × Follows form payload first one
    × Replays form payloads (lists_behind one first) end
