-- What decoding answers.
use Rattle.std.proofs.Common.{◌≡◌, ℕ, zero, suc, false, eqb, ◌-◌, ◌≤◌, ◌<◌, List, [], ◌++◌, length, Ok, Err, refl, sym, ap, subst, ◌∙◌, arith, inl, inr}
use Rattle.std.proofs.lemmas.List.{append-nil, length-append, nil_from_length}
use Rattle.std.proofs.lemmas.Bool.{eqb-false}
use Rattle.save_stream.specs.Standing.{AreBytes}
use Rattle.catalog_spelling.specs.Reading.{Part}
use Rattle.catalog_spelling.specs.Spelled.{Took, StopsIn, Judged, Reads}
use Rattle.catalog_spelling.specs.Changes.{Stamped, change_at, change_text}
use Rattle.catalog_spelling.specs.Decoding.{ChangeText, HasBad}
use Rattle.catalog_spelling.proofs.ChangeLaws.{change-reads}

-- ---- of any format

stop-of : {X : Type 0} (at : List ℕ → Part X) (text : X → List ℕ) (Is : X → Type 0) (reads : Reads at text Is) (bytes : List ℕ) (behind : ℕ) → AreBytes bytes → at bytes ≡ Err behind → StopsIn at bytes behind
stop-of {X = X} at text Is reads bytes behind fits is = subst (λ (part : Part X). Judged at bytes part (λ x rest. Took bytes (text x) rest × Is x)) is (reads.found bytes fits)

pub stops-within : {X : Type 0} (at : List ℕ → Part X) (text : X → List ℕ) (Is : X → Type 0) (reads : Reads at text Is) (bytes : List ℕ) (behind : ℕ) → AreBytes bytes → at bytes ≡ Err behind → behind ≤ length bytes
stops-within at text Is reads bytes behind fits is =
    let stop = stop-of at text Is reads bytes behind fits is in
    omega (arith, stop.size, ap (λ (t : List ℕ). length t) stop.parts, length-append stop.before stop.bad)

-- where reading stops, the first field that isn't allowed begins
pub stops-bad : {X : Type 0} (at : List ℕ → Part X) (text : X → List ℕ) (Is : X → Type 0) (reads : Reads at text Is) (bytes : List ℕ) (behind : ℕ) → AreBytes bytes → at bytes ≡ Err behind
    → HasBad at bytes (length bytes - behind)
stops-bad {X = X} at text Is reads bytes behind fits is =
    let stop = stop-of at text Is reads bytes behind fits is in
    let failed : ℕ → Part X = λ n. Err n in
    record {
      before = stop.before;
      bad = stop.bad;
      parts = stop.parts;
      place_is = omega (arith, stop.size, ap (λ (t : List ℕ). length t) stop.parts, length-append stop.before stop.bad);
      stops = inl (ap at (sym stop.parts) ∙ is ∙ ap failed stop.size, stop.whole);
    }

taken : {X : Type 0} (at : List ℕ → Part X) (text : X → List ℕ) (Is : X → Type 0) (reads : Reads at text Is) (bytes : List ℕ) (x : X) (rest : List ℕ) → AreBytes bytes → at bytes ≡ Ok (x, rest) → Took bytes (text x) rest × Is x
taken {X = X} at text Is reads bytes x rest fits is = subst (λ (part : Part X). Judged at bytes part (λ x rest. Took bytes (text x) rest × Is x)) is (reads.found bytes fits)

pub ends-within : {X : Type 0} (at : List ℕ → Part X) (text : X → List ℕ) (Is : X → Type 0) (reads : Reads at text Is) (bytes : List ℕ) (x : X) (rest : List ℕ) → AreBytes bytes → at bytes ≡ Ok (x, rest) → length rest ≤ length bytes
ends-within at text Is reads bytes x rest fits is =
    let found = taken at text Is reads bytes x rest fits is in
    omega (arith, ap (λ (t : List ℕ). length t) found.0.parts, length-append (text x) rest)

-- where bytes follow, the first of them isn't allowed
pub ends-bad : {X : Type 0} (at : List ℕ → Part X) (text : X → List ℕ) (Is : X → Type 0) (reads : Reads at text Is) (bytes : List ℕ) (x : X) (rest : List ℕ) → AreBytes bytes → at bytes ≡ Ok (x, rest) → 0 < length rest
    → HasBad at bytes (length bytes - length rest)
ends-bad at text Is reads bytes x rest fits is some =
    let found = taken at text Is reads bytes x rest fits is in
    record {
      before = text x;
      bad = rest;
      parts = found.0.parts;
      place_is = omega (arith, ap (λ (t : List ℕ). length t) found.0.parts, length-append (text x) rest);
      stops = inr (x, ap at (sym found.0.parts) ∙ is, some);
    }

abbrev read_as : {X : Type 0} → X → List ℕ → Part X
read_as x rest = Ok (x, rest)

abbrev stopped : {X : Type 0} → ℕ → Part X
stopped behind = Err behind

pair-of : {X : Type 0} → X × List ℕ → Part X → X × List ℕ
pair-of other (Ok pair) = pair
pair-of other (Err behind) = other

read-same : {X : Type 0} (x y : X) (more rest : List ℕ) → read_as x more ≡ read_as y rest → (x ≡ y) × (more ≡ rest)
unfolding pair-of
read-same {X = X} x y more rest same =
    let pairs : (x, more) ≡ (y, rest) = ap (pair-of (x, more)) same in
    (ap (λ (pair : X × List ℕ). pair.0) pairs, ap (λ (pair : X × List ℕ). pair.1) pairs)

pub some-from : (number : ℕ) → eqb number 0 ≡ false → 0 < number
some-from zero is = absurd (eqb-false zero 0 is refl)
some-from (suc number) is = omega arith

-- what is spelled and allowed has no field that isn't
pub spelled-not-bad : {X : Type 0} (at : List ℕ → Part X) (text : X → List ℕ) (Is : X → Type 0) (reads : Reads at text Is) (x : X) (place : ℕ) → Is x → HasBad at (text x) place → ⊥
spelled-not-bad {X = X} at text Is reads x place is bad =
    let whole : at (bad.before ++ bad.bad) ≡ read_as x [] = ap at (sym bad.parts ∙ sym (append-nil (text x))) ∙ reads.again x [] is in
    elim bad.stops [
      | inl stops ↦ (let one : read_as x [] ≡ stopped (length bad.bad) = sym whole ∙ stops.0 in cc)
      | inr ends ↦
          (let none : [] ≡ bad.bad = (read-same x ends.0 [] bad.bad (sym whole ∙ ends.1)).1 in
          absurd (omega (arith, ends.2, ap (λ (t : List ℕ). length t) none)))
    ]

-- two values with one text are one, and no text begins another
pub one-text : {X : Type 0} (at : List ℕ → Part X) (text : X → List ℕ) (Is : X → Type 0) (reads : Reads at text Is) (x y : X) (more rest : List ℕ) → Is x → Is y → text x ++ more ≡ text y ++ rest → (x ≡ y) × (more ≡ rest)
one-text {X = X} at text Is reads x y more rest x-is y-is same =
    read-same x y more rest (sym (reads.again x more x-is) ∙ ap at same ∙ reads.again y rest y-is)

-- ---- of changes

abbrev text_of : Stamped → List ℕ
text_of stamped = change_text stamped.moment stamped.change

pub decoded-text : (bytes : List ℕ) (stamped : Stamped) (rest : List ℕ) → AreBytes bytes → change_at bytes ≡ Ok (stamped, rest) → length rest ≡ 0 → ChangeText bytes stamped.moment stamped.change
decoded-text bytes stamped rest fits is none =
    let found = taken change_at text_of _ change-reads bytes stamped rest fits is in
    let nothing : rest ≡ [] = nil_from_length rest none in
    record {
      is = record { written = found.1.0; allowed = found.1.1.0; fits = found.1.1.1 };
      text = found.0.parts ∙ ap (λ (t : List ℕ). text_of stamped ++ t) nothing ∙ append-nil (text_of stamped);
    }

pub change-ends-within : (bytes : List ℕ) (stamped : Stamped) (rest : List ℕ) → AreBytes bytes → change_at bytes ≡ Ok (stamped, rest) → length rest ≤ length bytes
change-ends-within bytes stamped rest fits is = ends-within change_at text_of _ change-reads bytes stamped rest fits is

pub change-ends-bad : (bytes : List ℕ) (stamped : Stamped) (rest : List ℕ) → AreBytes bytes → change_at bytes ≡ Ok (stamped, rest) → 0 < length rest → HasBad change_at bytes (length bytes - length rest)
change-ends-bad bytes stamped rest fits is some = ends-bad change_at text_of _ change-reads bytes stamped rest fits is some

pub change-stops-within : (bytes : List ℕ) (behind : ℕ) → AreBytes bytes → change_at bytes ≡ Err behind → behind ≤ length bytes
change-stops-within bytes behind fits is = stops-within change_at text_of _ change-reads bytes behind fits is

pub change-stops-bad : (bytes : List ℕ) (behind : ℕ) → AreBytes bytes → change_at bytes ≡ Err behind → HasBad change_at bytes (length bytes - behind)
change-stops-bad bytes behind fits is = stops-bad change_at text_of _ change-reads bytes behind fits is
