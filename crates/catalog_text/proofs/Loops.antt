-- Reading items one after the other, as a loop does.
use Rattle.std.proofs.Common.{◌≡◌, ℕ, suc, ◌-◌, ◌+◌, ◌≤◌, ◌<◌, List, [], ◌∷◌, ◌++◌, Ok, Err, refl, sym, ◌∙◌, arith}
use Rattle.catalog_spelling.specs.declared.fault.FieldFault.{FieldFault}
use Rattle.catalog_spelling.specs.declared.fault.FieldFault.TheVariants as faults
use Rattle.catalog_spelling.specs.Reading.{Part, ◌>>=◌, Fails}
use Rattle.catalog_spelling.specs.Lists.{items_at}

one-more : {X : Type 0} (item_at : List X → List ℕ → Part X) (count i : ℕ) (before : List X) (bytes : List ℕ) → i < count
    → items_at item_at (count - i) before bytes ≡ (item_at before bytes >>= λ item. items_at item_at (count - (i + 1)) (before ++ item.0 ∷ []) item.1)
unfolding items_at
one-more item_at count i before bytes lt =
    let k : count - i ≡ suc (count - (i + 1)) = omega arith in
    rw k refl

pub goes_on : {X : Type 0} (item_at : List X → List ℕ → Part X) (count i : ℕ) (before : List X) (bytes : List ℕ) (x : X) (after : List ℕ) (total : Part (List X)) → i < count
    → item_at before bytes ≡ Ok (x, after) → items_at item_at (count - i) before bytes ≡ total
    → items_at item_at (count - (i + 1)) (before ++ x ∷ []) after ≡ total
goes_on item_at count i before bytes x after total lt read so_far =
    let step : items_at item_at (count - i) before bytes ≡ items_at item_at (count - (i + 1)) (before ++ x ∷ []) after = one-more item_at count i before bytes lt ∙ rw read refl in
    sym step ∙ so_far

pub ends : {X : Type 0} (fault : FieldFault) (item_at : List X → List ℕ → Part X) (count i : ℕ) (before : List X) (bytes : List ℕ) (total : Part (List X)) → i < count
    → Fails fault (item_at before bytes) → items_at item_at (count - i) before bytes ≡ total → Fails fault total
ends faults.Memory item_at count i before bytes total lt fails so_far = tt
ends (faults.Bad behind) item_at count i before bytes total lt fails so_far =
    let step : items_at item_at (count - i) before bytes ≡ Err behind = one-more item_at count i before bytes lt ∙ rw fails refl in
    sym so_far ∙ step

pub is_done : {X : Type 0} (item_at : List X → List ℕ → Part X) (count i : ℕ) (before : List X) (bytes : List ℕ) (total : Part (List X)) → count ≤ i
    → items_at item_at (count - i) before bytes ≡ total → total ≡ Ok (before, bytes)
unfolding items_at
is_done item_at count i before bytes total le so_far =
    let k : count - i ≡ 0 = omega arith in
    sym so_far ∙ rw k refl
