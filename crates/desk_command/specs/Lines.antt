-- The line of the table that has a method and parts of a target, found by comparing texts.
use Rattle.std.specs.Prelude.{ℕ, Bool, nat_eq, if◌then◌else◌, ◌&&◌, List, [], ◌∷◌, codes, Option, Some, None, option_map}
use Rattle.std.specs.Cmp.Lexicographic.{pointwise}
use Rattle.catalog_change.specs.declared.resource.ResourceKind.{ResourceKind}
use Rattle.catalog_change.specs.declared.resource.ResourceKind.TheVariants as kinds
use Rattle.desk_command.specs.Routes.{Route, Define, Drop, Load, Eject, Label, Mount, Unmount}
use Rattle.desk_command.specs.Routes.{Inventory, Savegrp, Begin, Append, Finish, Abort, Amend}
use Rattle.desk_command.specs.Routes.{Delete, Nsrim, Show, HasRoute}

abbrev pub is : List ℕ → List ℕ → Bool
is text word = pointwise nat_eq text word

abbrev pub kind_of : List ℕ → Option ResourceKind
kind_of word =
    if is word (codes "policy") then Some kinds.Policy
    else if is word (codes "pool") then Some kinds.Pool
    else if is word (codes "client") then Some kinds.Client
    else if is word (codes "schedule") then Some kinds.Schedule
    else if is word (codes "group") then Some kinds.Group
    else None

abbrev pub posted_word : List ℕ → Option Route
posted_word word =
    if is word (codes "resources") then Some Define
    else if is word (codes "label") then Some Label
    else if is word (codes "mount") then Some Mount
    else if is word (codes "unmount") then Some Unmount
    else if is word (codes "sets") then Some Begin
    else if is word (codes "nsrim") then Some Nsrim
    else None

abbrev pub line_of_word : List ℕ → List ℕ → Option Route
line_of_word method word =
    if is method (codes "POST") then posted_word word
    else if is method (codes "GET") then (if is word (codes "inventory") then Some Inventory else None)
    else None

abbrev pub line_of_part : List ℕ → List ℕ → List ℕ → Option Route
line_of_part method place part =
    if is method (codes "POST") then (if is place (codes "slots") then Some (Load part) else None)
    else if is method (codes "GET") then (
    if is place (codes "savegrp") then Some (Savegrp part)
    else if is place (codes "sets") then Some (Show part)
    else None
    )
    else if is method (codes "DELETE") then (
    if is place (codes "slots") then Some (Eject part)
    else if is place (codes "sets") then Some (Delete part)
    else None
    )
    else None

abbrev pub posted_to_set : List ℕ → List ℕ → Option Route
posted_to_set ssid word =
    if is word (codes "finish") then Some (Finish ssid)
    else if is word (codes "abort") then Some (Abort ssid)
    else if is word (codes "amend") then Some (Amend ssid)
    else None

abbrev pub line_of_set : List ℕ → List ℕ → List ℕ → List ℕ → Option Route
line_of_set method place part word =
    if is method (codes "POST") then (
    if is place (codes "sets") then posted_to_set part word else None
    )
    else if is method (codes "DELETE") then (
    if is place (codes "resources") then option_map (λ kind. Drop kind word) (kind_of part)
    else None
    )
    else None

abbrev pub line_of_body : List ℕ → List ℕ → List ℕ → List ℕ → List ℕ → Option Route
line_of_body method place part word last =
    if is method (codes "PUT") && is place (codes "sets") && is word (codes "body")
    then Some (Append part last)
    else None

abbrev pub line_at : List ℕ → List (List ℕ) → Option Route
line_at method [] = None
line_at method (word ∷ []) = line_of_word method word
line_at method (place ∷ part ∷ []) = line_of_part method place part
line_at method (place ∷ part ∷ word ∷ []) = line_of_set method place part word
line_at method (place ∷ part ∷ word ∷ last ∷ []) = line_of_body method place part word last
line_at method (place ∷ part ∷ word ∷ last ∷ more ∷ others) = None

-- what is found of a request's route
abbrev pub Finds : List ℕ → List ℕ → Option Route → Type 0
Finds method target None = (route : Route) → ¬ (HasRoute method target route)
Finds method target (Some route) = HasRoute method target route
