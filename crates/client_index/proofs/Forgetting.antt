-- Indexes without those of several sets.
use Rattle.std.proofs.Common.{◌≡◌, ℕ, Bool, true, false, cond, ◌&&◌, ◌||◌, not, List, [], ◌∷◌, Ok, Err, refl, sym, ap, ◌∙◌}
use Rattle.std.specs.Prelude.{Option, Some, Result, is_ok, filter}
use Rattle.std.specs.Option.{is_some}
use Rattle.std.specs.Cmp.{IsEquivalence}
use Rattle.std.specs.List.{list_any}
use Rattle.std.specs.Ordering.{eq_by_cmp, nat_cmp}
use Rattle.std.proofs.lemmas.Cmp.{eq_by_cmp_equiv, nat_cmp_total}
use Rattle.std.proofs.lemmas.List.Elements.{filter_agree}
use Rattle.room_base.specs.Ordered.{IsPlace, find_by}
use Rattle.room_base.proofs.OrderedSearch.{found_at, none_at}
use Rattle.room_base.specs.declared.numbers.Ssid.{Ssid}
use Rattle.client_index.specs.declared.index.SetIndex.{SetIndex}
use Rattle.client_index.specs.Sets.{AreAscending, AreOrdered, forget, forget_each, is_one_of}
use Rattle.client_index.proofs.Putting.{forget_ordered}

-- what passes two tests one after the other
filter_twice : {X : Type 0} (p q : X → Bool) (xs : List X) → filter p (filter q xs) ≡ filter (λ x. q x && p x) xs
filter_twice p q [] = refl
filter_twice {X} p q (x ∷ xs) = at (q x) (filter_twice p q xs)
  where
    both : List X
    both = filter (λ y. q y && p y) xs

    at : (here : Bool) → filter p (filter q xs) ≡ both → filter p (cond here (x ∷ filter q xs) (filter q xs)) ≡ cond (here && p x) (x ∷ both) both
    at true rest = ap (λ (list : List X). cond (p x) (x ∷ list) list) rest
    at false rest = rest

all_pass : {X : Type 0} (xs : List X) → xs ≡ filter (λ x. true) xs
all_pass [] = refl
all_pass {X} (x ∷ xs) = ap (λ (list : List X). x ∷ list) (all_pass xs)

neither : (one other : Bool) → not one && not other ≡ not (one || other)
neither true other = refl
neither false other = refl

-- one pass keeps those that aren't among them
pub each_filtered : (ssids : List Ssid) (sets : List SetIndex) → forget_each ssids sets ≡ filter (λ set. not (is_one_of ssids set.ssid)) sets
each_filtered [] sets = all_pass sets
each_filtered (one ∷ others) sets =
    each_filtered others (forget sets one)
    ∙ filter_twice (λ set. not (is_one_of others set.ssid)) (λ set. not (eq_by_cmp nat_cmp set.ssid.0 one.0)) sets
    ∙ filter_agree (λ set. not (eq_by_cmp nat_cmp set.ssid.0 one.0) && not (is_one_of others set.ssid)) (λ set. not (is_one_of (one ∷ others) set.ssid))
    (λ set. neither (eq_by_cmp nat_cmp set.ssid.0 one.0) (is_one_of others set.ssid)) sets

pub each_ordered : (ssids : List Ssid) (sets : List SetIndex) → AreOrdered sets → AreOrdered (forget_each ssids sets)
each_ordered [] sets ordered = ordered
each_ordered (one ∷ others) sets ordered = each_ordered others (forget sets one) (forget_ordered sets one ordered)

-- what a search finds is one of those that it searches
find_is : (ssids : List Ssid) (ssid : Ssid) → is_some (find_by nat_cmp (λ one. one.0) ssid.0 ssids) ≡ is_one_of ssids ssid
find_is [] ssid = refl
find_is (one ∷ others) ssid =
    ap (λ (here : Bool). is_some (cond here (Some one) (find_by nat_cmp (λ one. one.0) ssid.0 others))) (same.symm one.0 ssid.0) ∙ at (eq_by_cmp nat_cmp ssid.0 one.0) (find_is others ssid)
  where
    same : IsEquivalence (eq_by_cmp nat_cmp)
    same = eq_by_cmp_equiv nat_cmp_total

    at : (here : Bool) → is_some (find_by nat_cmp (λ one. one.0) ssid.0 others) ≡ is_one_of others ssid
        → is_some (cond here (Some one) (find_by nat_cmp (λ one. one.0) ssid.0 others)) ≡ (here || is_one_of others ssid)
    at true rest = refl
    at false rest = rest

pub found_among : (ssids : List Ssid) (ssid : Ssid) (answer : Result ℕ ℕ) → AreAscending ssids → IsPlace nat_cmp (λ one. one.0) ssid.0 ssids answer → is_ok answer ≡ is_one_of ssids ssid
found_among ssids ssid (Ok at) ascend place = ap is_some (sym (found_at nat_cmp_total (λ one. one.0) ssid.0 ssids ascend at place ssid)) ∙ find_is ssids ssid
found_among ssids ssid (Err at) ascend place = ap is_some (sym (none_at nat_cmp_total (λ one. one.0) ssid.0 ssids at place)) ∙ find_is ssids ssid
