-- What entries make of a catalogue's number, and that a file of form 1 leaves no parts.
use Rattle.std.proofs.Common.{◌≡◌, ℕ, ◌+◌, Bool, true, false, ◌==◌, ◌&&◌, cond, List, [], ◌∷◌, refl, sym, ap, ◌∙◌, subst, arith}
use Rattle.std.specs.Prelude.{slice_index}
use Rattle.room_base.specs.declared.numbers.Moment.{Moment}
use Rattle.cat_journal.specs.Contents.{last_of, number_after}
use Rattle.catalog_change.specs.declared.change.Change.{Change}
use Rattle.catalog_change.specs.declared.change.Change.TheVariants.{IndexPart}
use Rattle.catalog_spelling.specs.Changes.{Stamped, change_byte}
use Rattle.room_catalog.specs.Changing.{lists_after}
use Rattle.room_catalog.specs.Held.{CatalogueLists, no_parts}
use Rattle.room_effects.proofs.Entering.{kind_is}
use Rattle.room_effects.proofs.StayingJournal.{number_after_change}
use Rattle.room_effects.specs.Replaying.{Follows, MayStandIn, Replays, lists_behind}

-- ---- numbers

rises : (form_is : Bool) (number : ℕ) → cond (form_is && false) number (number + 1) ≡ number + 1
rises true number = refl
rises false number = refl

by_kind : (form : ℕ) (m : Moment) (change : Change) (lists : CatalogueLists) → MayStandIn form change
    → (lists_after m change lists).number ≡ cond ((form == 2) && (change_byte change == 14)) lists.number (lists.number + 1)
by_kind form m (IndexPart ssid part index) lists stands =
    let P : ℕ → Type 0 = λ f. lists.number ≡ cond ((f == 2) && (14 == 14)) lists.number (lists.number + 1) in subst P (sym stands) refl
by_kind form m change lists stands = number_after_change m change lists ∙ sym (rises (form == 2) lists.number)

-- an entry raises the number, if it is no part
pub number_behind : (form : ℕ) (payload : List ℕ) (lists : CatalogueLists) (one : Stamped) → Follows form payload lists one
    → (lists_behind one lists).number ≡ number_after form lists.number payload
number_behind form payload lists one follows =
    by_kind form (record { 0 = one.moment }) one.change lists follows.may.stands
    ∙ ap (λ (kind : ℕ). cond ((form == 2) && (kind == 14)) lists.number (lists.number + 1)) (sym (ap (λ (t : List ℕ). slice_index t 8) follows.text.text ∙ kind_is one.moment one.change))

pub replays_number : (form : ℕ) (payloads : List (List ℕ)) (first end : CatalogueLists) → Replays form payloads first end → end.number ≡ last_of form first.number payloads
replays_number form [] first end replays = ap (λ (lists : CatalogueLists). lists.number) replays
replays_number form (payload ∷ payloads) first end replays =
    replays_number form payloads (lists_behind replays.0 first) end replays.2
    ∙ ap (λ (n : ℕ). last_of form n payloads) (number_behind form payload first replays.0 replays.1)

-- ---- parts

bare_behind : (form : ℕ) (m : Moment) (change : Change) (lists : CatalogueLists) → form ≡ 1 → MayStandIn form change → (lists_after m change lists).parts ≡ no_parts
bare_behind form m (IndexPart ssid part index) lists first stands = absurd (omega (arith, sym first ∙ stands))
bare_behind form m change lists first stands = refl

pub replays_bare : (form : ℕ) (payloads : List (List ℕ)) (first end : CatalogueLists) → form ≡ 1 → first.parts ≡ no_parts → Replays form payloads first end → end.parts ≡ no_parts
replays_bare form [] first end is bare replays = ap (λ (lists : CatalogueLists). lists.parts) replays ∙ bare
replays_bare form (payload ∷ payloads) first end is bare replays =
    replays_bare form payloads (lists_behind replays.0 first) end is (bare_behind form (record { 0 = replays.0.moment }) replays.0.change first is replays.1.may.stands) replays.2
