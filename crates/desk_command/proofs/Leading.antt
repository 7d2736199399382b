-- Which place a target leads to.
use Rattle.std.proofs.Common.{◌≡◌, ◌≢◌, ◌⊎◌, inl, inr, ℕ, ◌<◌, ◌≤◌, ◌&&◌, Bool, true, List, [], ◌∷◌, ◌++◌, length, get_or, map, codes, Option, Some, None, refl, sym, ap, ◌∙◌, subst, arith}
use Rattle.std.specs.List.{list_all}
use Rattle.std.proofs.lemmas.Bool.{and_parts}
use Rattle.catalog_change.specs.declared.resource.ResourceKind.{ResourceKind}
use Rattle.catalog_change.specs.declared.resource.ResourceKind.TheVariants as kinds
use Rattle.matchit.specs.Router.{RouteOf}
use Rattle.matchit.specs.Seek.{first}
use Rattle.desk_command.specs.Places.{Matches, all_places, all_rows, pattern_of, entry_of, row_of, shape_of}
use Rattle.desk_command.specs.Routes.{HasRoute, Route, is_part, parts_of, target_of}
use Rattle.desk_command.specs.Routes.{Define, Drop, Load, Eject, Label, Mount, Unmount}
use Rattle.desk_command.specs.Routes.{Inventory, Savegrp, Begin, Append, Finish, Abort, Amend}
use Rattle.desk_command.specs.Routes.{Delete, Nsrim, Show}
use Rattle.desk_command.specs.declared.place.Place.{Place}
use Rattle.desk_command.specs.declared.place.Place.TheVariants as places
use Rattle.desk_command.proofs.Seeking.{AllWhole, AreBytes, FitsIn, fits, fits_found, found_fits}
use Rattle.desk_command.proofs.Shapes.{fits_shape, is_shape, shape_fits}

abbrev Member : Place → List Place → Type 0
Member place [] = ⊥
Member place (one ∷ others) = (place ≡ one) ⊎ Member place others

in_rows : (all : List Place) (path : List ℕ) (found : RouteOf Place) → FitsIn (map row_of all) path found
    → (place : Place) × (fits (pattern_of (shape_of place)) path ≡ true) × (entry_of place ≡ found)
in_rows [] path found h = absurd h
in_rows (place ∷ all) path found (inl h) = (place, h.0, h.1)
in_rows (place ∷ all) path found (inr h) = in_rows all path found h

rows_in : (all : List Place) (path : List ℕ) (place : Place) → Member place all → fits (pattern_of (shape_of place)) path ≡ true
    → FitsIn (map row_of all) path (entry_of place)
rows_in [] path place there h = absurd there
rows_in (one ∷ all) path place (inl is) h =
    inl (subst (λ (p : Place). fits (pattern_of (shape_of p)) path ≡ true) is h, sym (ap entry_of is))
rows_in (one ∷ all) path place (inr there) h = inr (rows_in all path place there h)

all_there : (place : Place) → Member place all_places
all_there places.Resources = inr (inr (inr (inr (inr (inl refl)))))
all_there places.Resource = inr (inr (inr (inr (inl refl))))
all_there places.Slot = inr (inr (inr (inr (inr (inr (inr (inr (inr (inr (inr (inr (inr (inl refl)))))))))))))
all_there places.Label = inr (inl refl)
all_there places.Mount = inr (inr (inl refl))
all_there places.Unmount = inr (inr (inr (inr (inr (inr (inr (inr (inr (inr (inr (inr (inr (inr (inl refl))))))))))))))
all_there places.Inventory = inl refl
all_there places.Savegrp = inr (inr (inr (inr (inr (inr (inl refl))))))
all_there places.Sets = inr (inr (inr (inr (inr (inr (inr (inr (inr (inr (inr (inr (inl refl))))))))))))
all_there places.Set = inr (inr (inr (inr (inr (inr (inr (inr (inr (inr (inr (inl refl)))))))))))
all_there places.Body = inr (inr (inr (inr (inr (inr (inr (inr (inr (inl refl)))))))))
all_there places.Finish = inr (inr (inr (inr (inr (inr (inr (inr (inr (inr (inl refl))))))))))
all_there places.Abort = inr (inr (inr (inr (inr (inr (inr (inl refl)))))))
all_there places.Amend = inr (inr (inr (inr (inr (inr (inr (inr (inl refl))))))))
all_there places.Nsrim = inr (inr (inr (inl refl)))

pub all_shapes : (place : Place) → is_shape (shape_of place) ≡ true
all_shapes places.Resources = refl
all_shapes places.Resource = refl
all_shapes places.Slot = refl
all_shapes places.Label = refl
all_shapes places.Mount = refl
all_shapes places.Unmount = refl
all_shapes places.Inventory = refl
all_shapes places.Savegrp = refl
all_shapes places.Sets = refl
all_shapes places.Set = refl
all_shapes places.Body = refl
all_shapes places.Finish = refl
all_shapes places.Abort = refl
all_shapes places.Amend = refl
all_shapes places.Nsrim = refl

all_whole : AllWhole all_rows
all_whole = (refl, (refl, (refl, (refl, (refl, (refl, (refl, (refl, (refl, (refl, (refl, (refl, (refl, (refl, (refl, tt)))))))))))))))

-- ---- what is found

-- the place of a target: its parts have the place's shape
pub record LeadsTo (target : List ℕ) (place : Place) : Type 0 where
  pub parts : List (List ℕ)
  pub matches : Matches (shape_of place) parts
  pub is : target ≡ target_of parts

pub leads : (target : List ℕ) (found : RouteOf Place) → AreBytes target → first all_rows target ≡ Some found
    → LeadsTo target found.value × (found ≡ entry_of found.value)
leads target found bytes is =
    let row = in_rows all_places target found (found_fits (length target) all_rows target found (omega arith) all_whole bytes is) in
    let value : row.0 ≡ found.value = ap (λ r. r.value) row.2 in
    let parts = shape_fits (shape_of row.0) target (all_shapes row.0) row.1 in (
      subst (λ (p : Place). LeadsTo target p) value (record { parts = parts.0; matches = parts.1; is = parts.2 }),
      sym row.2 ∙ ap entry_of value,
    )

leads_none : (target : List ℕ) → first all_rows target ≡ None → (place : Place) → LeadsTo target place → ⊥
leads_none target none place leads =
    fits_found (length target) all_rows target (entry_of place) (omega arith) all_whole
    (rows_in all_places target place (all_there place)
    (rw leads.is (fits_shape (shape_of place) leads.parts (all_shapes place) leads.matches))) none

-- ---- the place of each route

place_of : Route → Place
place_of Define = places.Resources
place_of (Drop kind name) = places.Resource
place_of (Load slot) = places.Slot
place_of (Eject slot) = places.Slot
place_of Label = places.Label
place_of Mount = places.Mount
place_of Unmount = places.Unmount
place_of Inventory = places.Inventory
place_of (Savegrp group) = places.Savegrp
place_of Begin = places.Sets
place_of (Append ssid offset) = places.Body
place_of (Finish ssid) = places.Finish
place_of (Abort ssid) = places.Abort
place_of (Amend ssid) = places.Amend
place_of (Delete ssid) = places.Set
place_of Nsrim = places.Nsrim
place_of (Show ssid) = places.Set

one_part : (part : List ℕ) → (is_part part && true) ≡ true → is_part part ≡ true
one_part part h = (and_parts (is_part part) true h).0

route_matches : (route : Route) → list_all is_part (parts_of route) ≡ true → Matches (shape_of (place_of route)) (parts_of route)
unfolding place_of
route_matches Define h = (refl, tt)
route_matches (Drop kinds.Policy name) h = (refl, (refl, (one_part name h, tt)))
route_matches (Drop kinds.Pool name) h = (refl, (refl, (one_part name h, tt)))
route_matches (Drop kinds.Client name) h = (refl, (refl, (one_part name h, tt)))
route_matches (Drop kinds.Schedule name) h = (refl, (refl, (one_part name h, tt)))
route_matches (Drop kinds.Group name) h = (refl, (refl, (one_part name h, tt)))
route_matches (Load slot) h = (refl, (one_part slot h, tt))
route_matches (Eject slot) h = (refl, (one_part slot h, tt))
route_matches Label h = (refl, tt)
route_matches Mount h = (refl, tt)
route_matches Unmount h = (refl, tt)
route_matches Inventory h = (refl, tt)
route_matches (Savegrp group) h = (refl, (one_part group h, tt))
route_matches Begin h = (refl, tt)
route_matches (Append ssid offset) h =
    let parts = and_parts (is_part ssid) (is_part offset && true) h in
    (refl, (parts.0, (refl, (one_part offset parts.1, tt))))
route_matches (Finish ssid) h = (refl, (one_part ssid h, (refl, tt)))
route_matches (Abort ssid) h = (refl, (one_part ssid h, (refl, tt)))
route_matches (Amend ssid) h = (refl, (one_part ssid h, (refl, tt)))
route_matches (Delete ssid) h = (refl, (one_part ssid h, tt))
route_matches Nsrim h = (refl, tt)
route_matches (Show ssid) h = (refl, (one_part ssid h, tt))

-- a target without a place has no route
pub no_place : (method target : List ℕ) → first all_rows target ≡ None → (route : Route) → ¬ (HasRoute method target route)
no_place method target none = λ route has.
    leads_none target none (place_of route) (record {
      parts = parts_of route;
      matches = route_matches route has.are_parts;
      is = has.target_is;
    })
