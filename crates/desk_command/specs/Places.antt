-- The places of the desk: where a target leads, whatever its method, and how a router of `matchit`
-- has them.
use Rattle.std.specs.Prelude.{◌≡◌, ℕ, ◌≤◌, IsTrue, List, [], ◌∷◌, ◌++◌, codes, map}
use Rattle.matchit.specs.Rows.{RowsOf, param_token}
use Rattle.matchit.specs.Router.{RouteOf}
use Rattle.desk_command.specs.Routes.{is_part, slash}
use Rattle.desk_command.specs.declared.place.Place.{Place}
use Rattle.desk_command.specs.declared.place.Place.TheVariants as places

-- A part of the targets of a place: a word, or any part, which is a parameter.
pub data Piece : Type 0 where
  Word : List ℕ → Piece
  Any : Piece

abbrev pub shape_of : Place → List Piece
shape_of places.Resources = Word (codes "resources") ∷ []
shape_of places.Resource = Word (codes "resources") ∷ Any ∷ Any ∷ []
shape_of places.Slot = Word (codes "slots") ∷ Any ∷ []
shape_of places.Label = Word (codes "label") ∷ []
shape_of places.Mount = Word (codes "mount") ∷ []
shape_of places.Unmount = Word (codes "unmount") ∷ []
shape_of places.Inventory = Word (codes "inventory") ∷ []
shape_of places.Savegrp = Word (codes "savegrp") ∷ Any ∷ []
shape_of places.Sets = Word (codes "sets") ∷ []
shape_of places.Set = Word (codes "sets") ∷ Any ∷ []
shape_of places.Body = Word (codes "sets") ∷ Any ∷ Word (codes "body") ∷ Any ∷ []
shape_of places.Finish = Word (codes "sets") ∷ Any ∷ Word (codes "finish") ∷ []
shape_of places.Abort = Word (codes "sets") ∷ Any ∷ Word (codes "abort") ∷ []
shape_of places.Amend = Word (codes "sets") ∷ Any ∷ Word (codes "amend") ∷ []
shape_of places.Nsrim = Word (codes "nsrim") ∷ []

-- parts of a target are those of a shape
abbrev pub Matches : List Piece → List (List ℕ) → Type 0
Matches [] [] = Unit {0}
Matches [] (part ∷ parts) = ⊥
Matches (piece ∷ shape) [] = ⊥
Matches (Word word ∷ shape) (part ∷ parts) = (part ≡ word) × Matches shape parts
Matches (Any ∷ shape) (part ∷ parts) = IsTrue (is_part part) × Matches shape parts

-- ---- in a router

-- the text of a place's route
abbrev pub text_of : Place → List ℕ
text_of places.Resources = codes "/resources"
text_of places.Resource = codes "/resources/{kind}/{name}"
text_of places.Slot = codes "/slots/{slot}"
text_of places.Label = codes "/label"
text_of places.Mount = codes "/mount"
text_of places.Unmount = codes "/unmount"
text_of places.Inventory = codes "/inventory"
text_of places.Savegrp = codes "/savegrp/{group}"
text_of places.Sets = codes "/sets"
text_of places.Set = codes "/sets/{ssid}"
text_of places.Body = codes "/sets/{ssid}/body/{offset}"
text_of places.Finish = codes "/sets/{ssid}/finish"
text_of places.Abort = codes "/sets/{ssid}/abort"
text_of places.Amend = codes "/sets/{ssid}/amend"
text_of places.Nsrim = codes "/nsrim"

-- where the names of its parameters begin and end in it
abbrev pub names_of : Place → List (ℕ × ℕ)
names_of places.Resources = []
names_of places.Resource = (12, 16) ∷ (19, 23) ∷ []
names_of places.Slot = (8, 12) ∷ []
names_of places.Label = []
names_of places.Mount = []
names_of places.Unmount = []
names_of places.Inventory = []
names_of places.Savegrp = (10, 15) ∷ []
names_of places.Sets = []
names_of places.Set = (7, 11) ∷ []
names_of places.Body = (7, 11) ∷ (19, 25) ∷ []
names_of places.Finish = (7, 11) ∷ []
names_of places.Abort = (7, 11) ∷ []
names_of places.Amend = (7, 11) ∷ []
names_of places.Nsrim = []

abbrev pub pattern_of : List Piece → List ℕ
pattern_of [] = []
pattern_of (Word word ∷ shape) = slash ∷ (word ++ pattern_of shape)
pattern_of (Any ∷ shape) = slash ∷ param_token ∷ pattern_of shape

abbrev pub entry_of : Place → RouteOf Place
entry_of place = record {
  pattern = pattern_of (shape_of place);
  text = text_of place;
  names = names_of place;
  value = place;
}

abbrev pub row_of : Place → List ℕ × RouteOf Place
row_of place = (pattern_of (shape_of place), entry_of place)

-- the places in the order of the router
abbrev pub all_places : List Place
all_places = places.Inventory ∷ places.Label ∷ places.Mount ∷ places.Nsrim ∷ places.Resource
    ∷ places.Resources ∷ places.Savegrp ∷ places.Abort ∷ places.Amend ∷ places.Body ∷ places.Finish
    ∷ places.Set ∷ places.Sets ∷ places.Slot ∷ places.Unmount ∷ []

abbrev pub all_rows : RowsOf (RouteOf Place)
all_rows = map row_of all_places
