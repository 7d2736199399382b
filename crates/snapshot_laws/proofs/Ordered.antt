-- Lists that stay in the order of their names when one more is put behind them.
use Rattle.std.proofs.Common.{◌≡◌, ℕ, true, arith, List, [], ◌∷◌, ◌++◌, Option, Some, None, Ok, refl, sym, ap, subst, append_assoc}
use Rattle.std.specs.Prelude.{IfSome, is_some}
use Rattle.std.proofs.lemmas.List.{append-nil}
use Rattle.std.specs.List.{AllByRecursion}
use Rattle.std.specs.Ordering.{nat_cmp, is_lt}
use Rattle.std.specs.Cmp.Lexicographic.{slice_cmp, nat_list_cmp_total}
use Rattle.std.specs.declared.cmp.Ordering.{Ordering}
use Rattle.std.specs.declared.cmp.Ordering.TheVariants.{Less, Equal, Greater}
use Rattle.room_base.specs.Ordered.{Ascends, IsPlace, find_by}
use Rattle.room_base.proofs.OrderedSearch.{found_at}
use Rattle.save_stream.specs.Reading.{is_below}
use Rattle.catalog_spelling.specs.Lists.{AllBehind, last_item, by_item}
use Rattle.catalog_spelling.proofs.Behind.{Rises, rising-is, rising-behind}
use Rattle.catalog_spelling.specs.Names.{is_next_name}

less-is : (order : Ordering) → is_lt order ≡ true → order ≡ Less
less-is Less is = refl
less-is Equal is = cc
less-is Greater is = cc

pub below-is : (one other : List ℕ) → is_below one other ≡ true → slice_cmp nat_cmp one other ≡ Less
unfolding is_below
below-is one other is = less-is (slice_cmp nat_cmp one other) is

pub last-below : {X : Type 0} (name : X → List ℕ) (last : Option X) (wanted : List ℕ) → by_item true (λ (y : X). is_below (name y) wanted) last ≡ true
    → IfSome last (λ y. slice_cmp nat_cmp (name y) wanted ≡ Less)
last-below name None wanted is = tt
last-below name (Some y) wanted is = below-is (name y) wanted is

pub last-above : {X : Type 0} (name : X → List ℕ) (last : Option X) (wanted : List ℕ) → IfSome last (λ y. slice_cmp nat_cmp (name y) wanted ≡ Less)
    → by_item true (λ (y : X). is_below (name y) wanted) last ≡ true
unfolding is_below
last-above name None wanted is = refl
last-above name (Some y) wanted is = ap is_lt is

-- items behind others, with one more
pub behind-push : {X : Type 0} (P : List X → X → Type 0) (before xs : List X) (x : X) → AllBehind P before xs → P (before ++ xs) x → AllBehind P before (xs ++ x ∷ [])
behind-push {X = X} P before [] x each is = (subst (λ (ys : List X). P ys x) (append-nil before) is, tt)
behind-push {X = X} P before (y ∷ ys) x each is =
    (each.0, behind-push P (before ++ y ∷ []) ys x each.1 (subst (λ (zs : List X). P zs x) (sym (append_assoc before (y ∷ []) ys)) is))

each-any : {X : Type 0} (xs : List X) → AllByRecursion (λ (x : X). Unit {0}) xs
each-any [] = tt
each-any (x ∷ xs) = (tt, each-any xs)

pub ascends_push : {X : Type 0} (name : X → List ℕ) (xs : List X) (x : X) → Ascends (slice_cmp nat_cmp) name xs → is_next_name name xs (name x) ≡ true
    → Ascends (slice_cmp nat_cmp) name (xs ++ x ∷ [])
ascends_push {X = X} name xs x order next =
    let P = Rises (slice_cmp nat_cmp) name (λ (x : X). Unit {0}) in
    let behind = rising-behind (slice_cmp nat_cmp) name (λ (x : X). Unit {0}) xs (each-any xs) order in
    (rising-is (slice_cmp nat_cmp) name (λ (x : X). Unit {0}) (xs ++ x ∷ []) (behind-push P [] xs x behind (tt, last-below name (last_item xs) (name x) next))).1

-- what stands at a place is found
pub some_at : {X : Type 0} (name : X → List ℕ) (wanted : List ℕ) (xs : List X) → Ascends (slice_cmp nat_cmp) name xs → (at : ℕ) → IsPlace (slice_cmp nat_cmp) name wanted xs (Ok at)
    → true ≡ is_some (find_by (slice_cmp nat_cmp) name wanted xs)
some_at name wanted [] order at place = absurd (omega (arith, place.0))
some_at {X = X} name wanted (x ∷ xs) order at place =
    sym (ap (λ (o : Option X). is_some o) (found_at nat_list_cmp_total name wanted (x ∷ xs) order at place x))
