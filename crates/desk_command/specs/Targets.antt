-- Targets as they were taken apart.
use Rattle.std.specs.Prelude.{◌≡◌, ℕ, IsTrue, List, [], ◌∷◌, codes, Option, Some, None}
use Rattle.std.specs.List.{list_all}
use Rattle.std.specs.Str.{IsUtf8}
use Rattle.matchit.specs.declared.params.Params.{Params}
use Rattle.desk_command.specs.Places.{Matches, names_of, pattern_of, shape_of, text_of}
use Rattle.desk_command.specs.Routes.{is_part, target_of}
use Rattle.desk_command.specs.declared.place.Place.{Place}
use Rattle.desk_command.specs.declared.target.Target.{Target}
use Rattle.desk_command.specs.declared.target.Target.TheVariants as targets

-- the parts of a target
abbrev pub parts_in : Target → List (List ℕ)
parts_in targets.Resources = codes "resources" ∷ []
parts_in (targets.Resource kind name) = codes "resources" ∷ kind.now ∷ name.now ∷ []
parts_in (targets.Slot slot) = codes "slots" ∷ slot.now ∷ []
parts_in targets.Label = codes "label" ∷ []
parts_in targets.Mount = codes "mount" ∷ []
parts_in targets.Unmount = codes "unmount" ∷ []
parts_in targets.Inventory = codes "inventory" ∷ []
parts_in (targets.Savegrp group) = codes "savegrp" ∷ group.now ∷ []
parts_in targets.Sets = codes "sets" ∷ []
parts_in (targets.Set ssid) = codes "sets" ∷ ssid.now ∷ []
parts_in (targets.Body ssid offset) = codes "sets" ∷ ssid.now ∷ codes "body" ∷ offset.now ∷ []
parts_in (targets.Finish ssid) = codes "sets" ∷ ssid.now ∷ codes "finish" ∷ []
parts_in (targets.Abort ssid) = codes "sets" ∷ ssid.now ∷ codes "abort" ∷ []
parts_in (targets.Amend ssid) = codes "sets" ∷ ssid.now ∷ codes "amend" ∷ []
parts_in targets.Nsrim = codes "nsrim" ∷ []

-- a target is these parts
pub record IsMadeOf (target : List ℕ) (parts : List (List ℕ)) : Type 0 where
  pub is : target ≡ target_of parts
  pub are_parts : IsTrue (list_all is_part parts)

-- the parameters of a place's route, for a path of these parts
pub record IsAt (place : Place) (parts : List (List ℕ)) (params : Params) : Type 0 where
  pub pattern_is : params.pattern.now ≡ pattern_of (shape_of place)
  pub text_is : params.text.now ≡ text_of place
  pub names_are : params.names.now ≡ names_of place
  pub path_is : params.path.now ≡ target_of parts
  pub matches : Matches (shape_of place) parts
  pub utf8 : IsUtf8 (target_of parts)

-- the text of a parameter, which is empty where there is none of its name
abbrev pub or_empty : Option (List ℕ) → List ℕ
or_empty None = []
or_empty (Some part) = part
