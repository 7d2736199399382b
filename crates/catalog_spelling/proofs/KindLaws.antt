-- Values of several kinds: what is read of each kind makes what is read of all.
use Rattle.std.proofs.Common.{◌≡◌, ℕ, suc, Bool, true, false, cond, eqb, List, [], ◌∷◌, ◌++◌, length, Ok, Err, refl, sym, ap, subst, ◌∙◌}
use Rattle.std.specs.List.{AllByRecursion}
use Rattle.std.proofs.lemmas.Bool.{eqb-true}
use Rattle.save_stream.specs.Standing.{AreBytes}
use Rattle.catalog_spelling.specs.Reading.{Part}
use Rattle.catalog_spelling.specs.Spelled.{Took, Judged, Reads}
use Rattle.catalog_spelling.specs.Fields.{byte_text}
use Rattle.catalog_spelling.specs.Kinds.{Readers, chosen, by_kind_at}

-- a reader reads the fields of its kind
abbrev pub Finds : {X : Type 0} → (X → ℕ) → (X → List ℕ) → (X → Type 0) → ℕ × (List ℕ → Part X) → Type 0
Finds byte_of text Is reader =
    (bytes : List ℕ) → AreBytes bytes → Judged reader.1 bytes (reader.1 bytes) (λ x rest. Took bytes (text x) rest × (Is x × (byte_of x ≡ reader.0)))

-- behind the byte of a kind the whole is read as its fields are
abbrev Whole : {X : Type 0} → (X → ℕ) → (X → List ℕ) → (X → Type 0) → ℕ → List ℕ → X → List ℕ → Type 0
Whole byte_of text Is kind rest x more = Took (kind ∷ rest) (byte_text (byte_of x) ++ text x) more × Is x

lifted : {X : Type 0} (top at : List ℕ → Part X) (byte_of : X → ℕ) (text : X → List ℕ) (Is : X → Type 0) (kind : ℕ) (rest : List ℕ) (part : Part X) → ((bytes : List ℕ) → top (kind ∷ bytes) ≡ at bytes)
    → Judged at rest part (λ x more. Took rest (text x) more × (Is x × (byte_of x ≡ kind)))
    → Judged top (kind ∷ rest) part (Whole byte_of text Is kind rest)
lifted top at byte_of text Is kind rest (Ok x) same found = (
  record {
    parts = ap (λ (t : List ℕ). kind ∷ t) found.0.parts ∙ ap (λ (k : ℕ). k ∷ (text x.0 ++ x.1)) (sym found.1.1);
    fits = found.0.fits;
  },
  found.1.0,
)
lifted top at byte_of text Is kind rest (Err behind) same found = record {
  before = kind ∷ found.before;
  bad = found.bad;
  parts = ap (λ (t : List ℕ). kind ∷ t) found.parts;
  size = found.size;
  whole = same found.before ∙ found.whole;
}

picked : {X : Type 0} (top : List ℕ → Part X) (reader : ℕ × (List ℕ → Part X)) (readers : Readers X) (byte_of : X → ℕ) (text : X → List ℕ) (Is : X → Type 0) (kind : ℕ) (rest : List ℕ) (test : Bool) → eqb kind reader.0 ≡ test
    → ((bytes : List ℕ) → top (kind ∷ bytes) ≡ chosen (reader ∷ readers) kind (length (kind ∷ bytes)) bytes)
    → Finds byte_of text Is reader → AreBytes rest
    → (((bytes : List ℕ) → top (kind ∷ bytes) ≡ chosen readers kind (length (kind ∷ bytes)) bytes) → Judged top (kind ∷ rest) (chosen readers kind (length (kind ∷ rest)) rest) (Whole byte_of text Is kind rest))
    → Judged top (kind ∷ rest) (cond test (reader.1 rest) (chosen readers kind (length (kind ∷ rest)) rest)) (Whole byte_of text Is kind rest)
picked {X = X} top reader readers byte_of text Is kind rest true test same finds fits others =
    let here : (bytes : List ℕ) → top (kind ∷ bytes) ≡ reader.1 bytes = λ bytes. same bytes ∙ ap (λ (b : Bool). cond b (reader.1 bytes) (chosen readers kind (length (kind ∷ bytes)) bytes)) test in
    let found = subst (λ (k : ℕ). Judged reader.1 rest (reader.1 rest) (λ x more. Took rest (text x) more × (Is x × (byte_of x ≡ k)))) (sym (eqb-true kind reader.0 test)) (finds rest fits) in
    lifted top reader.1 byte_of text Is kind rest (reader.1 rest) here found
picked {X = X} top reader readers byte_of text Is kind rest false test same finds fits others =
    others (λ bytes. same bytes ∙ ap (λ (b : Bool). cond b (reader.1 bytes) (chosen readers kind (length (kind ∷ bytes)) bytes)) test)

chosen-found : {X : Type 0} (top : List ℕ → Part X) (readers : Readers X) (byte_of : X → ℕ) (text : X → List ℕ) (Is : X → Type 0) (kind : ℕ) (rest : List ℕ) → top [] ≡ Err 0
    → ((bytes : List ℕ) → top (kind ∷ bytes) ≡ chosen readers kind (length (kind ∷ bytes)) bytes)
    → AllByRecursion (Finds byte_of text Is) readers → AreBytes rest
    → Judged top (kind ∷ rest) (chosen readers kind (length (kind ∷ rest)) rest) (Whole byte_of text Is kind rest)
chosen-found top [] byte_of text Is kind rest none same each fits = record { before = []; bad = kind ∷ rest; parts = refl; size = refl; whole = none }
chosen-found top (reader ∷ readers) byte_of text Is kind rest none same each fits =
    picked top reader readers byte_of text Is kind rest (eqb kind reader.0) refl same each.0 fits (λ others. chosen-found top readers byte_of text Is kind rest none others each.1 fits)

by_kind-found : {X : Type 0} (readers : Readers X) (byte_of : X → ℕ) (text : X → List ℕ) (Is : X → Type 0) → AllByRecursion (Finds byte_of text Is) readers
    → (bytes : List ℕ) → AreBytes bytes → Judged (by_kind_at readers) bytes (by_kind_at readers bytes) (λ x rest. Took bytes (byte_text (byte_of x) ++ text x) rest × Is x)
unfolding by_kind_at
by_kind-found readers byte_of text Is each [] fits = record { before = []; bad = []; parts = refl; size = refl; whole = refl }
by_kind-found readers byte_of text Is each (kind ∷ rest) fits =
    chosen-found (by_kind_at readers) readers byte_of text Is kind rest refl (λ bytes. refl) each (λ i. fits (suc i))

pub by_kind-reads : {X : Type 0} (readers : Readers X) (byte_of : X → ℕ) (text : X → List ℕ) (Is : X → Type 0) → AllByRecursion (Finds byte_of text Is) readers
    → ((x : X) (behind : ℕ) (rest : List ℕ) → Is x → chosen readers (byte_of x) behind (text x ++ rest) ≡ Ok (x, rest))
    → Reads (by_kind_at readers) (λ x. byte_text (byte_of x) ++ text x) Is
unfolding by_kind_at
by_kind-reads readers byte_of text Is each again = record {
  found = by_kind-found readers byte_of text Is each;
  again = λ x rest is. again x (length (byte_of x ∷ (text x ++ rest))) rest is;
}
