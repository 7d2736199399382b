-- One more pair of two lists whose items are related place by place.
use Rattle.std.proofs.Common.{◌≡◌, ℕ, ◌+◌, ◌<◌, List, [], ◌∷◌, ◌++◌, length, get_or, take, ap, sym}
use Rattle.std.proofs.Common.{◌∙◌}
use Rattle.std.specs.List.{AllZip}
use Rattle.std.proofs.lemmas.List.{take_more}

push : {A B : Type 0} (R : A → B → Type 0) (xs : List A) (ys : List B) (x : A) (y : B)
    → AllZip R xs ys → R x y → AllZip R (xs ++ x ∷ []) (ys ++ y ∷ [])
push R [] [] x y all more = (more, tt)
push R [] (other ∷ ys) x y all more = absurd all
push R (one ∷ xs) [] x y all more = absurd all
push R (one ∷ xs) (other ∷ ys) x y all more = (all.0, push R xs ys x y all.1 more)

pub one_more : {A B : Type 0} (R : A → B → Type 0) (xs : List A) (ys : List B) (i : ℕ) (x : A)
    (y : B) → i < length xs → x ≡ get_or xs i x → AllZip R (take i xs) ys → R x y
    → AllZip R (take (i + 1) xs) (ys ++ y ∷ [])
one_more {A} {B} R xs ys i x y within is all more =
    let next : take (i + 1) xs ≡ take i xs ++ x ∷ [] = take_more xs i x within
    ∙ ap (λ (one : A). take i xs ++ one ∷ []) (sym is) in
    rw next (push R (take i xs) ys x y all more)
