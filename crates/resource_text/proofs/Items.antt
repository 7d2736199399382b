-- Lists that are read item by item.
use Rattle.std.proofs.Common.{◌≡◌, ◌+◌, List, [], ◌∷◌, ◌++◌, length, refl, sym, ap, subst, ◌∙◌, suc, ℕ, ◌<◌, ◌≤◌, Result, Ok, Err, arith, drop, get_or}
use Rattle.std.proofs.lemmas.List.{append_assoc, append-nil, drop_more}
use Rattle.std.proofs.Math.ListN.{drop_of_length-le}
use Rattle.toml.specs.Data.{Data}
use Rattle.toml.specs.View.{view, items_view}
use Rattle.toml.specs.declared.value.Value.{Value}
use Rattle.resource_text.specs.Lists.{AreItems, AreTextsTo, IsText}
use Rattle.resource_text.specs.Resources.{AreActions}
use Rattle.resource_text.specs.Words.{IsActionWord}
use Rattle.resource_text.specs.Reading.{NamesField, ReadsField}
use Rattle.resource_text.specs.declared.fault.TextFault.{TextFault}
use Rattle.resource_text.specs.declared.fault.TextFault.TheVariants.{Malformed, Memory}

-- Of a list of values those before a place are read, as these: with what the rest stands for they
-- are what all stand for, and where all stand for something the rest does.
pub record AreSoFar {X : Type 0} (Is : Data → X → Type 0) (values rest : List Value)
    (xs : List X) : Type 0 where
  pub joined : (others : List X) → AreItems Is (items_view rest) others
      → AreItems Is (items_view values) (xs ++ others)
  pub parted : (all : List X) → AreItems Is (items_view values) all
      → (others : List X) × AreItems Is (items_view rest) others

pub first_are : {X : Type 0} (Is : Data → X → Type 0) (values : List Value)
    → AreSoFar Is values values []
first_are Is values = record { joined = λ others are. are; parted = λ all are. (all, are) }

pub one_more : {X : Type 0} (Is : Data → X → Type 0) (values rest : List Value) (value : Value)
    (xs : List X) (x : X) → AreSoFar Is values (value ∷ rest) xs → Is (view value) x
    → AreSoFar Is values rest (xs ++ x ∷ [])
one_more Is values rest value xs x so is = record {
  joined = λ others are. subst (λ all. AreItems Is (items_view values) all) (sym (append_assoc xs (x ∷ []) others)) (so.joined (x ∷ others) (x, others, is, are, refl));
  parted = λ all are. rest_are (so.parted all are);
} where
  rest_are : ((others : List _) × AreItems Is (items_view (value ∷ rest)) others) → (others : List _) × AreItems Is (items_view rest) others
  rest_are (all, (x, others, is, are, same)) = (others, are)

-- nothing is left
pub all_are : {X : Type 0} (Is : Data → X → Type 0) (values : List Value) (xs : List X)
    → AreSoFar Is values [] xs → AreItems Is (items_view values) xs
all_are Is values xs so = subst (λ all. AreItems Is (items_view values) all) (append-nil xs) (so.joined [] refl)

-- one that stands for nothing stops all
pub none_are : {X : Type 0} (Is : Data → X → Type 0) (values rest : List Value) (value : Value)
    (xs : List X) → AreSoFar Is values (value ∷ rest) xs → ((x : X) → ¬ (Is (view value) x))
    → (all : List X) → ¬ (AreItems Is (items_view values) all)
none_are Is values rest value xs so none all are = first_is (so.parted all are)
  where
    first_is : ((others : List _) × AreItems Is (items_view (value ∷ rest)) others) → ⊥
    first_is (all, (x, others, is, more, same)) = none x is

-- there are as many as values
pub as_many : {X : Type 0} (Is : Data → X → Type 0) (values : List Value) (xs : List X)
    → AreItems Is (items_view values) xs → length xs ≡ length values
as_many Is [] xs are = ap length are
as_many Is (value ∷ values) xs (x, others, is, are, same) = ap length same ∙ ap suc (as_many Is values others are)

-- ---- answers

-- a field that stands for nothing is named
pub names_none : {X : Type 0} (key : List ℕ) (Is : X → Type 0) (fault : TextFault)
    → NamesField key fault → ((x : X) → ¬ (Is x)) → ReadsField key Is (Err fault)
names_none key Is (Malformed name) named none = (none, named)
names_none key Is Memory named none = tt

-- so does a list of which one item stands for nothing
pub stops_at : {X : Type 0} (key : List ℕ) (Is : Data → X → Type 0) (most : ℕ)
    (values rest : List Value) (value : Value) (xs : List X) (fault : TextFault)
    → AreSoFar Is values (value ∷ rest) xs → ReadsField key (Is (view value)) (Err fault)
    → ReadsField {X = List X} key (λ all. AreItems Is (items_view values) all × (length all ≤ most)) (Err fault)
stops_at key Is most values rest value xs (Malformed name) so (none, named) =
    ((λ all are. none_are Is values rest value xs so none all are.0), named)
stops_at key Is most values rest value xs Memory so reads = tt

-- and one that has too many items
pub too_many : {X : Type 0} (key : List ℕ) (Is : Data → X → Type 0) (most : ℕ)
    (values : List Value) (fault : TextFault) → NamesField key fault → most < length values
    → ReadsField {X = List X} key (λ all. AreItems Is (items_view values) all × (length all ≤ most)) (Err fault)
too_many key Is most values fault named many = names_none key _ fault named
    (λ all are. let count = as_many Is values all are.0 in let few = are.1 in omega arith)

-- all items stand for something, and there are no more than may be
pub all_read : {X : Type 0} (Is : Data → X → Type 0) (most : ℕ) (values : List Value)
    (xs : List X) → AreSoFar Is values [] xs → length values ≤ most
    → AreItems Is (items_view values) xs × (length xs ≤ most)
all_read Is most values xs so few =
    let are = all_are Is values xs so in let count = as_many Is values xs are in (are, omega arith)

-- ---- places

-- what is left at a place begins with the value there
pub left_at : (values : List Value) (i : ℕ) (value : Value) → i < length values
    → value ≡ get_or values i value → drop i values ≡ value ∷ drop (i + 1) values
left_at values i value inside is =
    drop_more values i value inside ∙ ap (λ (v : Value). v ∷ drop (i + 1) values) (sym is)

pub one_more_at : {X : Type 0} (Is : Data → X → Type 0) (values : List Value) (i : ℕ)
    (value : Value) (xs new : List X) (x : X) → i < length values → value ≡ get_or values i value
    → AreSoFar Is values (drop i values) xs → Is (view value) x → new ≡ xs ++ x ∷ []
    → AreSoFar Is values (drop (i + 1) values) new
one_more_at Is values i value xs new x inside at so is new_is =
    rw new_is (one_more Is values (drop (i + 1) values) value xs x (subst (λ rest. AreSoFar Is values rest xs) (left_at values i value inside at) so) is)

pub stops_here : {X : Type 0} (key : List ℕ) (Is : Data → X → Type 0) (most : ℕ)
    (values : List Value) (i : ℕ) (value : Value) (xs : List X) (fault : TextFault)
    → i < length values → value ≡ get_or values i value → AreSoFar Is values (drop i values) xs
    → ReadsField key (Is (view value)) (Err fault)
    → ReadsField {X = List X} key (λ all. AreItems Is (items_view values) all × (length all ≤ most)) (Err fault)
stops_here key Is most values i value xs fault inside at so reads =
    stops_at key Is most values (drop (i + 1) values) value xs fault (subst (λ rest. AreSoFar Is values rest xs) (left_at values i value inside at) so) reads

pub all_read_at : {X : Type 0} (Is : Data → X → Type 0) (most : ℕ) (values : List Value) (i : ℕ)
    (xs new : List X) → length values ≤ i → AreSoFar Is values (drop i values) xs → new ≡ xs
    → length values ≤ most → AreItems Is (items_view values) new × (length new ≤ most)
all_read_at Is most values i xs new ended so new_is few =
    rw new_is (all_read Is most values xs (subst (λ rest. AreSoFar Is values rest xs) (drop_of_length-le values ended) so) few)

-- ---- lists that aren't empty

pub none_of_nothing : (key : List ℕ) (values : List Value) (fault : TextFault)
    → length values ≡ 0 → NamesField key fault → ReadsField key (AreActions (items_view values)) (Err fault)
none_of_nothing key values fault empty named = names_none key _ fault named
    (λ xs are. let count = as_many (IsText IsActionWord) values xs are.0.0 in let some = are.1 in omega arith)

pub actions_read : (key : List ℕ) (values : List Value) (result : Result (List ℕ) TextFault)
    → 1 ≤ length values → ReadsField key (AreTextsTo 31 IsActionWord (items_view values)) result
    → ReadsField key (AreActions (items_view values)) result
actions_read key values (Ok xs) some are =
    let count = as_many (IsText IsActionWord) values xs are.0 in (are, omega arith)
actions_read key values (Err (Malformed name)) some (none, named) = ((λ xs are. none xs are.0), named)
actions_read key values (Err Memory) some reads = tt
