-- Entries of which some stand behind the others.
use Rattle.std.proofs.Common.{◌≡◌, ℕ, ◌-◌, ◌<◌, true, List, [], ◌∷◌, ◌++◌, length, get_or, refl, sym, ap, ◌∙◌, arith}
use Rattle.std.specs.Ordering.{is_lt, nat_cmp}
use Rattle.std.specs.Cmp.Lexicographic.{slice_cmp}
use Rattle.std.specs.declared.cmp.Ordering.{Ordering}
use Rattle.std.specs.declared.cmp.Ordering.TheVariants.{Less, Equal, Greater}
use Rattle.std.proofs.lemmas.Bool.{false≢true}
use Rattle.save_stream.specs.declared.entry.IndexEntry.{IndexEntry}
use Rattle.save_stream.specs.Spelling.{PathsAscend, path_of}
use Rattle.room_base.specs.Ordered.{AscendsFrom}

-- the last entry, or this one where there is none
abbrev last_of : IndexEntry → List IndexEntry → IndexEntry
last_of x [] = x
last_of x (y ∷ ys) = last_of y ys

last_is : (x : IndexEntry) (xs : List IndexEntry) (d : IndexEntry) → get_or (x ∷ xs) (length xs) d ≡ last_of x xs
last_is x [] d = refl
last_is x (y ∷ ys) d = last_is y ys d

lt_is : (order : Ordering) → is_lt order ≡ true → order ≡ Less
lt_is Less e = refl
lt_is Equal e = absurd (false≢true e)
lt_is Greater e = absurd (false≢true e)

joined_from : (x : IndexEntry) (xs : List IndexEntry) (y : IndexEntry) (ys : List IndexEntry) → AscendsFrom (slice_cmp nat_cmp) path_of x.path xs → PathsAscend (y ∷ ys) → slice_cmp nat_cmp (last_of x xs).path y.path ≡ Less → AscendsFrom (slice_cmp nat_cmp) path_of x.path (xs ++ y ∷ ys)
joined_from x [] y ys a b less = (less, b)
joined_from x (z ∷ zs) y ys a b less = (a.0, joined_from z zs y ys a.1 b less)

parted_from : (x : IndexEntry) (xs : List IndexEntry) (y : IndexEntry) (ys : List IndexEntry) → AscendsFrom (slice_cmp nat_cmp) path_of x.path (xs ++ y ∷ ys) → slice_cmp nat_cmp (last_of x xs).path y.path ≡ Less
parted_from x [] y ys a = a.0
parted_from x (z ∷ zs) y ys a = parted_from z zs y ys a.1

-- entries join where the last of the first ones stands below the first of the others
pub joins : (xs ys : List IndexEntry) (last first : IndexEntry) → PathsAscend xs → PathsAscend ys → 0 < length xs → 0 < length ys → last ≡ get_or xs (length xs - 1) last → first ≡ get_or ys 0 first
    → (is_lt (slice_cmp nat_cmp last.path first.path) ≡ true → PathsAscend (xs ++ ys)) × (PathsAscend (xs ++ ys) → is_lt (slice_cmp nat_cmp last.path first.path) ≡ true)
joins [] ys last first a b some others is starts = absurd (omega arith)
joins (x ∷ xs) [] last first a b some others is starts = absurd (omega arith)
joins (x ∷ xs) (y ∷ ys) last first a b some others is starts =
    let whole : last ≡ last_of x xs = is ∙ ap (λ (n : ℕ). get_or (x ∷ xs) n last) (omega arith) ∙ last_is x xs last in
    let paths = λ (one other : IndexEntry). slice_cmp nat_cmp one.path other.path in
    let same : slice_cmp nat_cmp last.path first.path ≡ slice_cmp nat_cmp (last_of x xs).path y.path = ap (λ (one : IndexEntry). slice_cmp nat_cmp one.path first.path) whole ∙ ap (λ (other : IndexEntry). slice_cmp nat_cmp (last_of x xs).path other.path) starts in
    (λ less. joined_from x xs y ys a b (sym same ∙ lt_is (slice_cmp nat_cmp last.path first.path) less), λ joined. ap is_lt (same ∙ parted_from x xs y ys joined))
