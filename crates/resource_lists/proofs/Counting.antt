-- Counts of resources by their kinds.
use Rattle.std.proofs.Common.{◌≡◌, ℕ, ◌+◌, ◌<◌, ◌≤◌, List, [], ◌∷◌, ◌++◌, length, take, get_or, Option, Some, None, sym, ap, ◌∙◌, arith, length-append}
use Rattle.std.specs.Prelude.{filter_map}
use Rattle.std.specs.List.{cons_option}
use Rattle.std.proofs.lemmas.List.{take_more}
use Rattle.std.proofs.lemmas.List.Elements.{filter_map-append}
use Rattle.catalog_change.specs.declared.resource.Resource.{Resource}
use Rattle.catalog_change.specs.declared.resource.Resource.TheVariants as resources
use Rattle.resource_lists.specs.declared.counts.KindCounts.{KindCounts}
use Rattle.resource_lists.specs.Counts.{AreBelow, counted, with_one}
use Rattle.resource_lists.specs.Kinds.{as_client, as_group, as_policy, as_pool, as_schedule}

module _ {X Y : Type 0} (kind : X → Option Y) where
  length-cons_option : (o : Option Y) (rest : List Y) → length (cons_option o rest) ≤ length rest + 1
  length-cons_option None rest = omega arith
  length-cons_option (Some y) rest = omega arith

  -- at most all are of one kind
  pub kind_at_most : (xs : List X) → length (filter_map kind xs) ≤ length xs
  kind_at_most [] = omega arith
  kind_at_most (x ∷ xs) = let some = length-cons_option (kind x) (filter_map kind xs) in let rest = kind_at_most xs in omega arith

  kind_more : (xs : List X) (x : X) → length (filter_map kind (xs ++ x ∷ [])) ≡ length (filter_map kind xs) + length (filter_map kind (x ∷ []))
  kind_more xs x = ap length (filter_map-append kind xs (x ∷ [])) ∙ length-append (filter_map kind xs) (filter_map kind (x ∷ []))

same_counts : (a b : KindCounts) → a.policies ≡ b.policies → a.pools ≡ b.pools → a.clients ≡ b.clients → a.schedules ≡ b.schedules → a.groups ≡ b.groups → a ≡ b
same_counts a b p q r s t =
    ap (λ (x : ℕ). record { policies = x; pools = a.pools; clients = a.clients; schedules = a.schedules; groups = a.groups }) p
    ∙ ap (λ (x : ℕ). record { policies = b.policies; pools = x; clients = a.clients; schedules = a.schedules; groups = a.groups }) q
    ∙ ap (λ (x : ℕ). record { policies = b.policies; pools = b.pools; clients = x; schedules = a.schedules; groups = a.groups }) r
    ∙ ap (λ (x : ℕ). record { policies = b.policies; pools = b.pools; clients = b.clients; schedules = x; groups = a.groups }) s
    ∙ ap (λ (x : ℕ). record { policies = b.policies; pools = b.pools; clients = b.clients; schedules = b.schedules; groups = x }) t

none_more : (n m : ℕ) → n ≡ m + 0 → n ≡ m
none_more n m is = omega arith

-- one resource more
pub one_counted : (xs : List Resource) (x : Resource) → counted (xs ++ x ∷ []) ≡ with_one x (counted xs)
one_counted xs (resources.Policy x) = same_counts _ _ (kind_more as_policy xs (resources.Policy x)) (none_more _ _ (kind_more as_pool xs (resources.Policy x))) (none_more _ _ (kind_more as_client xs (resources.Policy x))) (none_more _ _ (kind_more as_schedule xs (resources.Policy x))) (none_more _ _ (kind_more as_group xs (resources.Policy x)))
one_counted xs (resources.Pool x) = same_counts _ _ (none_more _ _ (kind_more as_policy xs (resources.Pool x))) (kind_more as_pool xs (resources.Pool x)) (none_more _ _ (kind_more as_client xs (resources.Pool x))) (none_more _ _ (kind_more as_schedule xs (resources.Pool x))) (none_more _ _ (kind_more as_group xs (resources.Pool x)))
one_counted xs (resources.Client x) = same_counts _ _ (none_more _ _ (kind_more as_policy xs (resources.Client x))) (none_more _ _ (kind_more as_pool xs (resources.Client x))) (kind_more as_client xs (resources.Client x)) (none_more _ _ (kind_more as_schedule xs (resources.Client x))) (none_more _ _ (kind_more as_group xs (resources.Client x)))
one_counted xs (resources.Schedule x) = same_counts _ _ (none_more _ _ (kind_more as_policy xs (resources.Schedule x))) (none_more _ _ (kind_more as_pool xs (resources.Schedule x))) (none_more _ _ (kind_more as_client xs (resources.Schedule x))) (kind_more as_schedule xs (resources.Schedule x)) (none_more _ _ (kind_more as_group xs (resources.Schedule x)))
one_counted xs (resources.Group x) = same_counts _ _ (none_more _ _ (kind_more as_policy xs (resources.Group x))) (none_more _ _ (kind_more as_pool xs (resources.Group x))) (none_more _ _ (kind_more as_client xs (resources.Group x))) (none_more _ _ (kind_more as_schedule xs (resources.Group x))) (kind_more as_group xs (resources.Group x))

-- one resource more of a list that is walked
pub counted_more : (xs : List Resource) (i : ℕ) (x : Resource) → i < length xs → x ≡ get_or xs i x → (counts after : KindCounts) → counts ≡ counted (take i xs) → after ≡ with_one x counts → after ≡ counted (take (i + 1) xs)
counted_more xs i x within is counts after before made =
    made ∙ ap (with_one x) before ∙ sym (one_counted (take i xs) x)
    ∙ ap (λ (y : Resource). counted (take i xs ++ y ∷ [])) is ∙ sym (ap counted (take_more xs i x within))

-- a count stands below a bound that the list has not reached
pub counted_below : (xs : List Resource) (most : ℕ) → length xs < most → AreBelow most (counted xs)
counted_below xs most below = record {
  policies = let most = kind_at_most as_policy xs in omega arith;
  pools = let most = kind_at_most as_pool xs in omega arith;
  clients = let most = kind_at_most as_client xs in omega arith;
  schedules = let most = kind_at_most as_schedule xs in omega arith;
  groups = let most = kind_at_most as_group xs in omega arith;
}
