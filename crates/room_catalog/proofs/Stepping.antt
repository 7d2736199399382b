-- Changes of one item after another.
use Rattle.std.proofs.Common.{◌≡◌, ℕ, ◌+◌, ◌<◌, List, [], ◌∷◌, ◌++◌, length, take, get_or, sym, ap, ◌∙◌}
use Rattle.std.proofs.lemmas.List.{take_more}

-- what a walk over a list makes, by what each item makes
module _ {X S : Type 0} (step : X → S → S) (walk : List X → S → S) (none : (s : S) → walk [] s ≡ s) (more : (x : X) (xs : List X) (s : S) → walk (x ∷ xs) s ≡ walk xs (step x s)) where
  pub walk_one_more : (xs : List X) (x : X) (s : S) → walk (xs ++ x ∷ []) s ≡ step x (walk xs s)
  walk_one_more [] x s = more x [] s ∙ none (step x s) ∙ ap (step x) (sym (none s))
  walk_one_more (y ∷ ys) x s = more y (ys ++ x ∷ []) s ∙ walk_one_more ys x (step y s) ∙ ap (step x) (sym (more y ys s))

  -- the step of a loop over the list
  pub walk_at : (xs : List X) (i : ℕ) (d : X) (s : S) → i < length xs → walk (take (i + 1) xs) s ≡ step (get_or xs i d) (walk (take i xs) s)
  walk_at xs i d s within = ap (λ (ys : List X). walk ys s) (take_more xs i d within) ∙ walk_one_more (take i xs) (get_or xs i d) s

  pub walk_more : (xs : List X) (i : ℕ) (x : X) (s : S) → i < length xs → x ≡ get_or xs i x → walk (take (i + 1) xs) s ≡ step x (walk (take i xs) s)
  walk_more xs i x s within is = walk_at xs i x s within ∙ ap (λ (y : X). step y (walk (take i xs) s)) (sym is)
