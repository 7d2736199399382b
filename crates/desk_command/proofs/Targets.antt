-- Targets and their parts.
use Rattle.std.proofs.Common.{◌≡◌, ℕ, Bool, true, false, ◌&&◌, ◌||◌, not, nat_lt, List, [], ◌∷◌, ◌++◌, length, Option, Some, None, IfSome, option_map, refl, sym, ap, ◌∙◌, subst, append-nil}
use Rattle.std.specs.List.{list_all, list_any, slice_split}
use Rattle.std.proofs.lemmas.Bool.{and_parts}
use Rattle.desk_command.specs.Lines.{Finds, line_at}
use Rattle.desk_command.specs.Routes.{HasRoute, IsOf, Route, is_part, is_slash, parts_of, seen, slash, target_of}
use Rattle.desk_command.specs.Targets.{IsMadeOf}
use Rattle.desk_command.specs.declared.route.Route.{Route as LentRoute}
use Rattle.desk_command.proofs.Shapes.{free_part}
use Rattle.desk_command.proofs.Tables.{is_found}
use Rattle.desk_command.proofs.Truths.{or_false}

-- a part without a slash, before the end and before a slash
last_part : (part : List ℕ) → list_any is_slash part ≡ false → slice_split is_slash part ≡ part ∷ []
last_part [] free = refl
last_part (byte ∷ part) free =
    let h = or_false (is_slash byte) (list_any is_slash part) free in
    rw (h.0, last_part part h.1)

inner_part : (part rest : List ℕ) → list_any is_slash part ≡ false
    → slice_split is_slash (part ++ slash ∷ rest) ≡ part ∷ slice_split is_slash rest
inner_part [] rest free = refl
inner_part (byte ∷ part) rest free =
    let h = or_false (is_slash byte) (list_any is_slash part) free in
    rw (h.0, inner_part part rest h.1)

-- a part behind a slash, and other parts behind it
behind : (part : List ℕ) (parts : List (List ℕ)) → list_any is_slash part ≡ false → list_all is_part parts ≡ true
    → slice_split is_slash (part ++ target_of parts) ≡ part ∷ parts
behind part [] free all = rw append-nil (last_part part free)
behind part (next ∷ parts) free all =
    let h = and_parts (is_part next) (list_all is_part parts) all in
    rw (inner_part part (next ++ target_of parts) free, behind next parts (free_part next h.0) h.1)

split_parts : (parts : List (List ℕ)) → list_all is_part parts ≡ true → slice_split is_slash (target_of parts) ≡ [] ∷ parts
split_parts parts all = behind [] parts refl all

-- a target is made of one list of parts
pub one_making : (target : List ℕ) (parts others : List (List ℕ)) → IsMadeOf target parts → IsMadeOf target others → parts ≡ others
one_making target parts others one other =
    let same : [] ∷ parts ≡ [] ∷ others =
    sym (split_parts parts one.are_parts) ∙ ap (slice_split is_slash) (sym one.is ∙ other.is) ∙ split_parts others other.are_parts in cc

pub made_of_route : (method target : List ℕ) (route : Route) → HasRoute method target route → IsMadeOf target (parts_of route)
made_of_route method target route has = record { is = has.target_is; are_parts = has.are_parts }

has_route : (method target : List ℕ) (parts : List (List ℕ)) (route : Route) → IsMadeOf target parts → IsOf method parts route
    → HasRoute method target route
has_route method target parts route made (one, other) = record {
  method_is = one;
  target_is = made.is ∙ ap target_of other;
  are_parts = subst (λ (p : List (List ℕ)). list_all is_part p ≡ true) other made.are_parts;
}

no_line : (method target : List ℕ) (parts : List (List ℕ)) → IsMadeOf target parts → line_at method parts ≡ None
    → (route : Route) → ¬ (HasRoute method target route)
no_line method target parts made none = λ route has.
    let same = one_making target parts (parts_of route) made (made_of_route method target route has) in
    let found = is_found method parts route (has.method_is, same) in cc (none, found)

pub finds_line : (method target : List ℕ) (parts : List (List ℕ)) (found : Option LentRoute) → IsMadeOf target parts
    → option_map seen found ≡ line_at method parts → IfSome found (λ route. IsOf method parts (seen route))
    → Finds method target (option_map seen found)
finds_line method target parts None made found is = no_line method target parts made (sym found)
finds_line method target parts (Some route) made found is = has_route method target parts (seen route) made is
