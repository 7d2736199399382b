-- The table of routes against the search in it.
use Rattle.std.proofs.Common.{rules, ◌≡◌, ◌≢◌, ℕ, ◌&&◌, Bool, true, false, List, [], ◌∷◌, codes, Option, Some, None, refl, sym, ap, ◌∙◌, subst}
use Rattle.catalog_change.specs.declared.resource.ResourceKind.{ResourceKind}
use Rattle.catalog_change.specs.declared.resource.ResourceKind.TheVariants as kinds
use Rattle.desk_command.specs.Lines.{is, kind_of, line_at, line_of_body, line_of_part, line_of_set, line_of_word, posted_word, posted_to_set}
use Rattle.desk_command.specs.Routes.{Route, Define, Drop, Load, Eject, Label, Mount, Unmount}
use Rattle.desk_command.specs.Routes.{Inventory, Savegrp, Begin, Append, Finish, Abort, Amend}
use Rattle.desk_command.specs.Routes.{Delete, Nsrim, Show, IsOf, kind_word, method_of, parts_of}

-- each line of the table is found
of_line : (route : Route) → line_at (method_of route) (parts_of route) ≡ Some route
of_line Define = refl
of_line (Drop kinds.Policy name) = refl
of_line (Drop kinds.Pool name) = refl
of_line (Drop kinds.Client name) = refl
of_line (Drop kinds.Schedule name) = refl
of_line (Drop kinds.Group name) = refl
of_line (Load slot) = refl
of_line (Eject slot) = refl
of_line Label = refl
of_line Mount = refl
of_line Unmount = refl
of_line Inventory = refl
of_line (Savegrp group) = refl
of_line Begin = refl
of_line (Append ssid offset) = refl
of_line (Finish ssid) = refl
of_line (Abort ssid) = refl
of_line (Amend ssid) = refl
of_line (Delete ssid) = refl
of_line Nsrim = refl
of_line (Show ssid) = refl

pub is_found : (method : List ℕ) (parts : List (List ℕ)) (route : Route) → IsOf method parts route
    → line_at method parts ≡ Some route
is_found method parts route (one, other) = rw (one, other) (of_line route)

-- a method and parts have one route at most
pub one_line : (method : List ℕ) (parts : List (List ℕ)) (route other : Route) → IsOf method parts route → IsOf method parts other
    → route ≡ other
one_line method parts route other first second =
    let same : Some route ≡ Some other = sym (is_found method parts route first) ∙ is_found method parts other second in cc
