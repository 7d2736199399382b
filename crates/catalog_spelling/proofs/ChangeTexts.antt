-- Laws of the texts of changes.
use Rattle.std.proofs.Common.{◌≡◌, ℕ, zero, suc, List, [], ◌++◌, length, Result, Ok, Err, refl, sym, ap, subst, ◌∙◌, arith, inl, inr}
use Rattle.std.specs.Prelude.{◌⊎◌}
use Rattle.std.proofs.lemmas.List.{length-append}
use Rattle.room_base.specs.declared.numbers.Moment.{Moment}
use Rattle.save_stream.specs.Standing.{AreBytes}
use Rattle.catalog_change.specs.declared.change.Change.{Change}
use Rattle.catalog_spelling.specs.declared.fault.DecodeFault.{DecodeFault}
use Rattle.catalog_spelling.specs.declared.fault.DecodeFault.TheVariants as faults
use Rattle.catalog_spelling.specs.Reading.{Part}
use Rattle.catalog_spelling.specs.Changes.{Stamped, change_at, change_text}
use Rattle.catalog_spelling.specs.Decoding.{IsStamped, ChangeText, StopsAt, EndsAt, HasBad, Decodes}
use Rattle.catalog_spelling.proofs.ChangeLaws.{change-reads, IsStampedFitting}
use Rattle.catalog_spelling.proofs.Decodes.{one-text, spelled-not-bad, decoded-text, change-ends-bad, change-stops-bad}

abbrev text_of : Stamped → List ℕ
text_of stamped = change_text stamped.moment stamped.change

abbrev stamp : ℕ → Change → Stamped
stamp moment change = record { moment = moment; change = change }

fitting : (moment : ℕ) (change : Change) → IsStamped moment change → IsStampedFitting (stamp moment change)
fitting moment change is = (is.written, (is.allowed, is.fits))

pub one-change : (moment other : ℕ) (change changed : Change) (more rest : List ℕ) → IsStamped moment change → IsStamped other changed
    → change_text moment change ++ more ≡ change_text other changed ++ rest → (moment ≡ other) × (change ≡ changed) × (more ≡ rest)
one-change moment other change changed more rest one two same =
    let both = one-text change_at text_of IsStampedFitting change-reads (stamp moment change) (stamp other changed) more rest (fitting moment change one) (fitting other changed two) same in
    (ap (λ (s : Stamped). s.moment) both.0, ap (λ (s : Stamped). s.change) both.0, both.1)

pub not-bad : (bytes : List ℕ) (moment place : ℕ) (change : Change) → ChangeText bytes moment change → HasBad change_at bytes place → ⊥
not-bad bytes moment place change is bad =
    spelled-not-bad change_at text_of IsStampedFitting change-reads (stamp moment change) place (fitting moment change is.is) (subst (λ (t : List ℕ). HasBad change_at t place) is.text bad)

abbrev answered : Moment → Change → Result (Moment × Change) DecodeFault
answered moment change = Ok (moment, change)

pub decoded-again : (moment : Moment) (change : Change) (answer : Result (Moment × Change) DecodeFault) → IsStamped moment.0 change → Decodes (change_text moment.0 change) answer
    → (answer ≡ Ok (moment, change)) ⊎ (answer ≡ Err faults.Memory)
decoded-again moment change (Ok x) is decodes =
    let same = one-change x.0.0 moment.0 x.1 change [] [] decodes.is is (ap (λ (t : List ℕ). t ++ []) (sym decodes.text)) in
    inl (ap (λ (n : ℕ). answered (record { 0 = n }) x.1) same.0 ∙ ap (answered moment) same.1)
decoded-again moment change (Err (faults.Bad place)) is decodes = absurd (not-bad (change_text moment.0 change) moment.0 place change (record { is = is; text = refl }) decodes)
decoded-again moment change (Err faults.Memory) is decodes = inr refl

-- ---- each text is one or the other

abbrev IsOne : List ℕ → Type 0
IsOne bytes = ((moment : ℕ) × ((change : Change) × ChangeText bytes moment change)) ⊎ ((place : ℕ) × HasBad change_at bytes place)

one-rest : (bytes : List ℕ) (stamped : Stamped) (rest : List ℕ) (size : ℕ) → length rest ≡ size → AreBytes bytes → change_at bytes ≡ Ok (stamped, rest) → IsOne bytes
one-rest bytes stamped rest zero size fits is = inl (stamped.moment, (stamped.change, decoded-text bytes stamped rest fits is size))
one-rest bytes stamped rest (suc count) size fits is = inr (_, change-ends-bad bytes stamped rest fits is (omega (arith, size)))

one-part : (bytes : List ℕ) (part : Part Stamped) → AreBytes bytes → change_at bytes ≡ part → IsOne bytes
one-part bytes (Ok x) fits is = one-rest bytes x.0 x.1 (length x.1) refl fits is
one-part bytes (Err behind) fits is = inr (_, change-stops-bad bytes behind fits is)

pub each-text : (bytes : List ℕ) → AreBytes bytes → IsOne bytes
each-text bytes fits = one-part bytes (change_at bytes) fits refl

-- ---- the place is one

abbrev read_as : Stamped → List ℕ → Part Stamped
read_as x rest = Ok (x, rest)

abbrev stopped : ℕ → Part Stamped
stopped behind = Err behind

-- how many bytes are behind what is read
behind-of : Part Stamped → ℕ
behind-of (Ok x) = length x.1
behind-of (Err behind) = behind

bad-size : (before bad : List ℕ) → StopsAt change_at before bad ⊎ EndsAt change_at before bad → behind-of (change_at (before ++ bad)) ≡ length bad
unfolding behind-of
bad-size before bad (inl stops) = ap behind-of stops.0
bad-size before bad (inr ends) = ap behind-of ends.1

pub one-place : (bytes : List ℕ) (place other : ℕ) → HasBad change_at bytes place → HasBad change_at bytes other → place ≡ other
one-place bytes place other one two =
    let first = ap (λ (t : List ℕ). behind-of (change_at t)) one.parts ∙ bad-size one.before one.bad one.stops in
    let second = ap (λ (t : List ℕ). behind-of (change_at t)) two.parts ∙ bad-size two.before two.bad two.stops in
    let same : length one.bad ≡ length two.bad = sym first ∙ second in
    let all : length (one.before ++ one.bad) ≡ length (two.before ++ two.bad) = ap (λ (t : List ℕ). length t) (sym one.parts ∙ two.parts) in
    omega (arith, same, all, length-append one.before one.bad, length-append two.before two.bad, one.place_is, two.place_is)
