-- What writing a value adds to the tokens that are there.
use Rattle.std.specs.Prelude.{◌≡◌, ℕ, List, ◌∷◌, ◌++◌, flat_map, Result, OnOk}
use Rattle.json.specs.Json.{Json}
use Rattle.json.specs.Token.{Token, key}
use Rattle.json.specs.Tree.{json_tokens}
use Rattle.json.specs.Written.{Written}

abbrev pub member_tokens : List ℕ × Json → List Token
member_tokens member = key member.0 ∷ json_tokens member.1

abbrev pub list_tokens : List (List ℕ × Json) → List Token
list_tokens members = flat_map member_tokens members

-- after Ok these tokens stand behind those that were there
abbrev pub Adds : {T E : Type 0} → Result T E → Written → Written → List Token → Type 0
Adds result old new tokens =
    OnOk result ((new.tokens ≡ old.tokens ++ tokens) × (new.before ≡ old.before))
