-- What holds of each item of a list, and of each behind those before it.
use Rattle.std.proofs.Common.{◌≡◌, ℕ, List, [], ◌∷◌, ◌++◌, refl}
use Rattle.std.specs.Prelude.{map}
use Rattle.std.specs.List.{AllByRecursion, flat_map}
use Rattle.std.proofs.lemmas.List.Concat.{flat_map-cons}
use Rattle.catalog_spelling.specs.Lists.{AllBehind}

pub all-as : {X : Type 0} (P Q : X → Type 0) → ((x : X) → P x → Q x) → (xs : List X) → AllByRecursion P xs → AllByRecursion Q xs
all-as P Q weaker [] each = tt
all-as P Q weaker (x ∷ xs) each = (weaker x each.0, all-as P Q weaker xs each.1)

pub all-any : {X : Type 0} (P : X → Type 0) → ((x : X) → P x) → (xs : List X) → AllByRecursion P xs
all-any P is [] = tt
all-any P is (x ∷ xs) = (is x, all-any P is xs)

pub all-apart : {X : Type 0} (P Q : X → Type 0) (xs : List X) → AllByRecursion (λ x. P x × Q x) xs → AllByRecursion P xs × AllByRecursion Q xs
all-apart P Q [] each = (tt, tt)
all-apart P Q (x ∷ xs) each = let more = all-apart P Q xs each.1 in ((each.0.0, more.0), (each.0.1, more.1))

pub all-both : {X : Type 0} (P Q : X → Type 0) (xs : List X) → AllByRecursion P xs → AllByRecursion Q xs → AllByRecursion (λ x. P x × Q x) xs
all-both P Q [] each others = tt
all-both P Q (x ∷ xs) each others = ((each.0, others.0), all-both P Q xs each.1 others.1)

pub all-append : {X : Type 0} (P : X → Type 0) (xs ys : List X) → AllByRecursion P (xs ++ ys) → AllByRecursion P xs × AllByRecursion P ys
all-append P [] ys each = (tt, each)
all-append P (x ∷ xs) ys each = let more = all-append P xs ys each.1 in ((each.0, more.0), more.1)

pub all-with : {X : Type 0} (P : X → Type 0) (xs ys : List X) → AllByRecursion P xs → AllByRecursion P ys → AllByRecursion P (xs ++ ys)
all-with P [] ys each others = others
all-with P (x ∷ xs) ys each others = (each.0, all-with P xs ys each.1 others)

pub all-mapped : {X Y : Type 0} (P : Y → Type 0) (f : X → Y) (xs : List X) → AllByRecursion (λ x. P (f x)) xs → AllByRecursion P (map f xs)
all-mapped P f [] each = tt
all-mapped P f (x ∷ xs) each = (each.0, all-mapped P f xs each.1)

pub all-of-mapped : {X Y : Type 0} (P : Y → Type 0) (f : X → Y) (xs : List X) → AllByRecursion P (map f xs) → AllByRecursion (λ x. P (f x)) xs
all-of-mapped P f [] each = tt
all-of-mapped P f (x ∷ xs) each = (each.0, all-of-mapped P f xs each.1)

pub behind-as : {X : Type 0} (P Q : List X → X → Type 0) → ((before : List X) (x : X) → P before x → Q before x) → (before xs : List X) → AllBehind P before xs → AllBehind Q before xs
behind-as P Q weaker before [] each = tt
behind-as P Q weaker before (x ∷ xs) each = (weaker before x each.0, behind-as P Q weaker (before ++ x ∷ []) xs each.1)

pub behind-apart : {X : Type 0} (P Q : List X → X → Type 0) (before xs : List X) → AllBehind (λ before x. P before x × Q before x) before xs → AllBehind P before xs × AllBehind Q before xs
behind-apart P Q before [] each = (tt, tt)
behind-apart P Q before (x ∷ xs) each = let more = behind-apart P Q (before ++ x ∷ []) xs each.1 in ((each.0.0, more.0), (each.0.1, more.1))

pub behind-both : {X : Type 0} (P Q : List X → X → Type 0) (before xs : List X) → AllBehind P before xs → AllBehind Q before xs → AllBehind (λ before x. P before x × Q before x) before xs
behind-both P Q before [] each others = tt
behind-both P Q before (x ∷ xs) each others = ((each.0, others.0), behind-both P Q (before ++ x ∷ []) xs each.1 others.1)

-- ---- texts of the same items

pub same-texts : {X : Type 0} (f g : X → List ℕ) (xs : List X) → AllByRecursion (λ x. f x ≡ g x) xs → flat_map f xs ≡ flat_map g xs
same-texts f g [] each = refl
same-texts f g (x ∷ xs) each = rw (flat_map-cons f x xs, flat_map-cons g x xs, each.0, same-texts f g xs each.1) refl
