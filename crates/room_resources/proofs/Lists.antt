-- What checks that went through say of lists.
use Rattle.std.proofs.Common.{◌≡◌, Bool, true, false, List, [], ◌∷◌, Option, Some, None, cond, refl}
use Rattle.std.specs.Prelude.{Result, Ok, Err, not, is_some}
use Rattle.std.specs.List.{AllByRecursion, find}
use Rattle.std.specs.Option.{option_map, option_or}
use Rattle.std.proofs.lemmas.Bool.{false≢true, true≢false}
use Rattle.room_base.specs.declared.refusal.Refusal.{Refusal}
use Rattle.room_effects.specs.Checked.{unless}
use Rattle.room_resources.specs.Called.{Called, refused_for}

-- ---- options

pub none_mapped : {X Y : Type 0} (f : X → Y) (one : Option X) → option_map f one ≡ None → one ≡ None
none_mapped f None is = refl
none_mapped f (Some x) is = absurd cc

pub first_none : {X : Type 0} (one other : Option X) → option_or one other ≡ None → one ≡ None
first_none None other is = refl
first_none (Some x) other is = absurd cc

pub second_none : {X : Type 0} (one other : Option X) → option_or one other ≡ None → other ≡ None
second_none None other is = is
second_none (Some x) other is = absurd cc

pub not_some : {X : Type 0} (one : Option X) → is_some one ≡ false → one ≡ None
not_some None is = refl
not_some (Some x) is = absurd (true≢false is)

pub some_not_none : {X P : Type 0} (one : Option X) → is_some one ≡ true → one ≡ None → P
some_not_none None is none = absurd (false≢true is)
some_not_none (Some x) is none = absurd cc

pub not_true : (test : Bool) → not test ≡ false → test ≡ true
not_true true is = refl
not_true false is = absurd (true≢false is)

-- ---- look-ups

-- where none is found, each fails the test
pub none_passes : {X : Type 0} (test : X → Bool) (xs : List X) → find test xs ≡ None → AllByRecursion (λ x. test x ≡ false) xs
none_passes test [] is = tt
none_passes {X} test (x ∷ xs) is = (failed (test x) is, none_passes test xs (behind (test x) is))
  where
    failed : (passes : Bool) → ◌≡◌ {A = Option X} (cond passes (Some x) (find test xs)) None → passes ≡ false
    failed true found = absurd (let no : ◌≡◌ {A = Option X} (Some x) None = found in cc)
    failed false found = refl

    behind : (passes : Bool) → ◌≡◌ {A = Option X} (cond passes (Some x) (find test xs)) None → find test xs ≡ None
    behind true found = absurd (let no : ◌≡◌ {A = Option X} (Some x) None = found in cc)
    behind false found = found

-- what is found passes it
pub found_passes : {X : Type 0} (test : X → Bool) (xs : List X) (one : X) → find test xs ≡ Some one → test one ≡ true
found_passes test [] one is = absurd cc
found_passes {X} test (x ∷ xs) one is = passed (test x) refl is (λ found. found_passes test xs one found)
  where
    passed : (passes : Bool) → test x ≡ passes → ◌≡◌ {A = Option X} (cond passes (Some x) (find test xs)) (Some one) → (find test xs ≡ Some one → test one ≡ true) → test one ≡ true
    passed true same found further = let is_first : x ≡ one = cc found in cc (same, is_first)
    passed false same found further = further found

-- ---- checks

pub unless_holds : (test : Bool) (refusal : Refusal) (next : Result (Unit {0}) Refusal) → Ok tt ≡ unless {X = Unit {0}} test refusal next → test ≡ true
unless_holds true refusal next is = refl
unless_holds false refusal next is = absurd (let no : ◌≡◌ {A = Result (Unit {0}) Refusal} (Ok tt) (Err refusal) = is in cc)

pub unless_next : (test : Bool) (refusal : Refusal) (next : Result (Unit {0}) Refusal) → Ok tt ≡ unless {X = Unit {0}} test refusal next → Ok tt ≡ next
unless_next true refusal next is = is
unless_next false refusal next is = absurd (let no : ◌≡◌ {A = Result (Unit {0}) Refusal} (Ok tt) (Err refusal) = is in cc)

pub refused_none : (refusal : Called → Refusal) (one : Option Called) (next : Result (Unit {0}) Refusal) → Ok tt ≡ refused_for {Y = Unit {0}} refusal one next → one ≡ None
refused_none refusal None next is = refl
refused_none refusal (Some one) next is = absurd (let no : ◌≡◌ {A = Result (Unit {0}) Refusal} (Ok tt) (Err (refusal one)) = is in cc)

pub refused_next : (refusal : Called → Refusal) (one : Option Called) (next : Result (Unit {0}) Refusal) → Ok tt ≡ refused_for {Y = Unit {0}} refusal one next → Ok tt ≡ next
refused_next refusal None next is = is
refused_next refusal (Some one) next is = absurd (let no : ◌≡◌ {A = Result (Unit {0}) Refusal} (Ok tt) (Err (refusal one)) = is in cc)
