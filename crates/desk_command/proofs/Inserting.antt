-- The rows of the router of all places.
use Rattle.std.proofs.Common.{◌≡◌, ℕ, Result, Ok, List, [], ◌∷◌, refl, subst}
use Rattle.matchit.specs.Order.{placed}
use Rattle.matchit.specs.Route.{parse_route, scan}
use Rattle.matchit.specs.Router.{InsertsRead, RouteOf}
use Rattle.matchit.specs.Rows.{RowsOf}
use Rattle.desk_command.specs.Places.{all_rows, row_of, text_of}
use Rattle.desk_command.specs.declared.place.Place.{Place}
use Rattle.desk_command.specs.declared.place.Place.TheVariants as places

abbrev PlaceRows : Type 0
PlaceRows = RowsOf (RouteOf Place)

-- a route's text is read as its place has it
by_place : (place : Place) (old new : PlaceRows) → InsertsRead (parse_route (text_of place)) place old new (Ok tt) → new ≡ placed (row_of place) old
unfolding scan
by_place places.Resources old new h = h.1
by_place places.Resource old new h = h.1
by_place places.Slot old new h = h.1
by_place places.Label old new h = h.1
by_place places.Mount old new h = h.1
by_place places.Unmount old new h = h.1
by_place places.Inventory old new h = h.1
by_place places.Savegrp old new h = h.1
by_place places.Sets old new h = h.1
by_place places.Set old new h = h.1
by_place places.Body old new h = h.1
by_place places.Finish old new h = h.1
by_place places.Abort old new h = h.1
by_place places.Amend old new h = h.1
by_place places.Nsrim old new h = h.1

pub placed_by : (place : Place) (text : List ℕ) (old new : PlaceRows) → text ≡ text_of place → InsertsRead (parse_route text) place old new (Ok tt)
    → new ≡ placed (row_of place) old
placed_by place text old new is h = by_place place old new (subst (λ (t : List ℕ). InsertsRead (parse_route t) place old new (Ok tt)) is h)

abbrev pub placed_all : List Place → PlaceRows → PlaceRows
placed_all [] rows = rows
placed_all (place ∷ others) rows = placed_all others (placed (row_of place) rows)

pub all_placed : placed_all (places.Resources ∷ places.Resource ∷ places.Slot ∷ places.Label ∷ places.Mount ∷ places.Unmount ∷ places.Inventory ∷ places.Savegrp ∷ places.Sets ∷ places.Set ∷ places.Body ∷ places.Finish ∷ places.Abort ∷ places.Amend ∷ places.Nsrim ∷ []) [] ≡ all_rows
all_placed = refl
