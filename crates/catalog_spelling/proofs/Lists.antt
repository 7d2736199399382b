-- Lists: what is read of the items makes what is read of the list.
use Rattle.std.proofs.Common.{◌≡◌, ℕ, zero, suc, List, [], ◌∷◌, ◌++◌, length, Ok, refl, sym, ap, subst, ◌∙◌, append_assoc}
use Rattle.std.specs.List.{flat_map}
use Rattle.std.proofs.lemmas.List.{append-nil}
use Rattle.std.proofs.lemmas.List.Concat.{flat_map-cons}
use Rattle.catalog_spelling.specs.Reading.{Part, ◌>>=◌}
use Rattle.catalog_spelling.specs.Spelled.{Took, Judged, Reads}
use Rattle.catalog_spelling.specs.Lists.{items_at, list_at, list_text, AllBehind}
use Rattle.catalog_spelling.proofs.Steps.{Stands, start, begin, took, after, then-found, judged-as}

-- the items that were read behind these
record HasItems {X : Type 0} (text : X → List ℕ) (IsBehind : List X → X → Type 0) (count : ℕ) (before : List X) (all front : List ℕ) (xs : List X) (rest : List ℕ) : Type 0 where
  more : List X
  are : xs ≡ before ++ more
  size : length more ≡ count
  each : AllBehind IsBehind before more
  parts : Took all (front ++ flat_map text more) rest

items-found : {X : Type 0} (item_at : List X → List ℕ → Part X) (text : X → List ℕ) (IsBehind : List X → X → Type 0) → ((before : List X) → Reads (item_at before) text (IsBehind before))
    → (top : List ℕ → Part (List X)) (all : List ℕ) (count : ℕ) (before : List X) (front bytes : List ℕ) → Stands top all front bytes (items_at item_at count before)
    → Judged top all (items_at item_at count before bytes) (HasItems text IsBehind count before all front)
unfolding items_at
items-found item_at text IsBehind reads top all zero before front bytes stands = record {
  more = [];
  are = sym (append-nil before);
  size = refl;
  each = tt;
  parts = subst (λ (t : List ℕ). Took all t bytes) (sym (append-nil front)) (took _ stands);
}
items-found {X = X} item_at text IsBehind reads top all (suc count) before front bytes stands =
    then-found (reads before) _ _ stands (λ x rest is goes.
    judged-as top all (items_at item_at count (before ++ x ∷ []) rest) (HasItems text IsBehind count (before ++ x ∷ []) all (front ++ text x)) (HasItems text IsBehind (suc count) before all front)
    (items-found item_at text IsBehind reads top all count (before ++ x ∷ []) (front ++ text x) rest goes)
    (λ xs rest has. record {
      more = x ∷ has.more;
      are = has.are ∙ append_assoc before (x ∷ []) has.more;
      size = ap suc has.size;
      each = (is, has.each);
      parts = subst (λ (t : List ℕ). Took all t rest) (append_assoc front (text x) (flat_map text has.more) ∙ ap (λ (t : List ℕ). front ++ t) (sym (flat_map-cons text x has.more))) has.parts;
    }))

items-again : {X : Type 0} (item_at : List X → List ℕ → Part X) (text : X → List ℕ) (IsBehind : List X → X → Type 0) → ((before : List X) → Reads (item_at before) text (IsBehind before))
    → (more before : List X) (rest : List ℕ) → AllBehind IsBehind before more
    → items_at item_at (length more) before (flat_map text more ++ rest) ≡ Ok (before ++ more, rest)
unfolding items_at
items-again {X = X} item_at text IsBehind reads [] before rest each = ap (λ (xs : List X). Ok (xs, rest)) (sym (append-nil before))
items-again {X = X} item_at text IsBehind reads (x ∷ more) before rest each =
    ap (items_at item_at (length (x ∷ more)) before) (ap (λ (t : List ℕ). t ++ rest) (flat_map-cons text x more) ∙ append_assoc (text x) (flat_map text more) rest)
    ∙ ap (λ (part : Part X). part >>= λ item. items_at item_at (length more) (before ++ item.0 ∷ []) item.1) ((reads before).again x (flat_map text more ++ rest) each.0)
    ∙ items-again item_at text IsBehind reads more (before ++ x ∷ []) rest each.1
    ∙ ap (λ (xs : List X). Ok (xs, rest)) (append_assoc before (x ∷ []) more)

-- a list whose length and items are allowed
abbrev pub IsListOf : {X : Type 0} → (ℕ → Type 0) → (List X → X → Type 0) → List X → Type 0
IsListOf IsCount IsBehind xs = IsCount (length xs) × AllBehind IsBehind [] xs

pub list-reads : {X : Type 0} {count_at : List ℕ → Part ℕ} {count_text : ℕ → List ℕ} {IsCount : ℕ → Type 0} (counts : Reads count_at count_text IsCount)
    (item_at : List X → List ℕ → Part X) (text : X → List ℕ) (IsBehind : List X → X → Type 0) → ((before : List X) → Reads (item_at before) text (IsBehind before))
    → Reads (list_at count_at item_at) (list_text count_text text) (IsListOf IsCount IsBehind)
unfolding list_at
list-reads {X = X} {count_at = count_at} {count_text = count_text} {IsCount = IsCount} counts item_at text IsBehind reads = record {
  found = λ bytes are.
      then-found counts _ _ (begin (list_at count_at item_at) bytes are)
      (λ count rest count-is goes.
      judged-as (list_at count_at item_at) bytes (items_at item_at count [] rest) (HasItems text IsBehind count [] bytes (count_text count)) _
      (items-found item_at text IsBehind reads (list_at count_at item_at) bytes count [] (count_text count) rest goes)
      (λ xs rest has.
      subst (λ (ys : List X). Took bytes (list_text count_text text ys) rest × IsListOf IsCount IsBehind ys) (sym has.are) (
        subst (λ (n : ℕ). Took bytes (count_text n ++ flat_map text has.more) rest) (sym has.size) has.parts,
        (subst IsCount (sym has.size) count-is, has.each),
      )));
  again = λ xs rest is.
      ap (list_at count_at item_at) (append_assoc (count_text (length xs)) (flat_map text xs) rest)
      ∙ (after counts _ (length xs) is.0 (start (list_at count_at item_at))).goes (flat_map text xs ++ rest)
      ∙ items-again item_at text IsBehind reads xs [] rest is.1;
}
