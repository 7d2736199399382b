use Rattle.std.proofs.Common.{◌≡◌, ℕ, ◌-◌, ◌≤◌, List, [], ◌∷◌, length, take, drop, get_or, refl, sym, ap, subst, ◌∙◌, arith}
use Rattle.std.specs.List.{AllByRecursion}
use Rattle.std.proofs.lemmas.List.{take_all}
use Rattle.std.proofs.lemmas.Bool.{false≢true}
use Rattle.catalog_change.specs.Resources.{kind_of, name_of}
use Rattle.catalog_change.specs.declared.resource.Resource.{Resource}
use Rattle.resource_lists.specs.Adding.{AreDistinct, IsNamed}
use Rattle.resource_lists.proofs.addable.are_distinct.Goals as goal

abbrev Differs : Resource → List Resource → Type 0
Differs one = AllByRecursion (λ other. ¬ IsNamed (kind_of one) (name_of one) other)

record First (one : Resource) (others rest : List Resource) : Type 0 where
  pub joins : Differs one others → AreDistinct others → AreDistinct rest
  pub differs : AreDistinct rest → Differs one others
  pub others_are : AreDistinct rest → AreDistinct others

-- a list by its first item and the others
first_of : (rest : List Resource) (n : ℕ) (one : Resource) → n ≡ length rest - 1 → 1 ≤ length rest → one ≡ get_or rest 0 one → First one (take n (drop 1 rest)) rest
first_of [] n one counted some is = absurd (omega arith)
first_of (x ∷ xs) n one counted some is =
    let all : take n xs ≡ xs = ap (λ (m : ℕ). take m xs) (omega arith) ∙ take_all (length xs) xs (omega arith) in
    subst (λ (others : List Resource). First one others (x ∷ xs)) (sym all) (subst (λ (first : Resource). First first xs (x ∷ xs)) (sym is) (record {
      joins = λ differs others. (differs, others);
      differs = λ distinct. distinct.0;
      others_are = λ distinct. distinct.1;
    }))

pub returns-then-not-differs_from : goal.returns-then-not-differs_from
returns-then-not-differs_from c =
    let first = first_of c.loop-rest.rest.now _ c.one-item.result refl c.in-len1-up.len_at_least c.one-item.is in
    (λ yes. absurd (false≢true yes), λ distinct. sym c.if-not-differs_from.true ∙ c.differs_from.ensures.1 (first.differs (c.loop-rest.invariant.1 distinct)))

pub loop-rest-preserved : goal.loop-rest-preserved
loop-rest-preserved c =
    let first = first_of c.loop-rest.rest.now _ c.one-item.result refl c.in-len1-up.len_at_least c.one-item.is in
    (λ others. c.loop-rest.invariant.0 (first.joins (c.differs_from.ensures.0 c.if-not-differs_from.false) others), λ distinct. first.others_are (c.loop-rest.invariant.1 distinct))
