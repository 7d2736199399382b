-- The slots, volumes and copies that reading allows are those that a catalogue may have.
use Rattle.std.proofs.Common.{◌≡◌, ◌≢◌, ℕ, ◌≤◌, Bool, true, false, eqb, nat_lt, nat_le, List, [], ◌∷◌, ◌++◌, length, refl, sym, ap, subst, eq-eqb, inl, inr, arith}
use Rattle.std.specs.Prelude.{◌&&◌, ◌||◌, ◌⊎◌, not, IfSome}
use Rattle.std.specs.List.{AllByRecursion, list_any}
use Rattle.std.specs.Ordering.{nat_cmp}
use Rattle.std.specs.declared.cmp.Ordering.TheVariants.{Less}
use Rattle.std.proofs.lemmas.Bool.{eqb-true, eqb-false, leb-true, le-leb, lt-ltb, ltb-true}
use Rattle.room_base.specs.Ordered.{Ascends}
use Rattle.media_db.specs.Edits.{begun_copy, copy_no, is_done}
use Rattle.media_db.specs.Rows.{volid_of}
use Rattle.media_db.specs.declared.copies.CopyState.{CopyState}
use Rattle.media_db.specs.declared.copies.CopyState.TheVariants as copies
use Rattle.media_db.specs.declared.copies.Section.{Section}
use Rattle.media_db.specs.declared.copies.SetCopy.{SetCopy}
use Rattle.media_db.specs.declared.records.RecordState.{RecordState}
use Rattle.media_db.specs.declared.records.RecordState.TheVariants as states
use Rattle.media_db.specs.declared.volumes.VolumeRec.{VolumeRec}
use Rattle.save_stream.proofs.Again.{both}
use Rattle.save_stream.proofs.Sound.{both-true}
use Rattle.catalog_change.specs.Catalogues.{AreApart, AreSlots, FitState, HasVolumes, IsCopy, IsDrawn, IsFilled, IsVolume, max_copy, max_number, slot_cart, slot_number, volume_cart}
use Rattle.catalog_change.specs.Catalogues as catalogues
use Rattle.catalog_change.specs.declared.slot.FilledSlot.{FilledSlot}
use Rattle.catalog_spelling.specs.Fields.{is_within}
use Rattle.catalog_spelling.specs.Lists.{AllBehind, last_item}
use Rattle.catalog_spelling.specs.Sections.{FitsSection}
use Rattle.catalog_spelling.proofs.Behind.{Rises, rising-is, rising-behind, above-is, above-again}
use Rattle.catalog_spelling.specs.Media.{fits_state, is_above, is_drawn, is_first_begun, is_free, is_next_drawn}
use Rattle.snapshot_laws.proofs.SlotCounts.{slots_count}
use Rattle.catalog_spelling.specs.Fits.{FitsCopy, FitsVolume}
use Rattle.snapshot_laws.proofs.Each.{all-append, all-apart, all-both, all-with, behind-apart, behind-as, behind-both}
use Rattle.snapshot_laws.proofs.MediaLaws.{AreCopiesIf, AreSectionsOf, AreSlotsIf, AreVolumesIf, IsNextCopy, IsNextSlot, IsNextVolume}

-- ---- what tests say

within-is : (least most number : ℕ) → is_within least most number ≡ true → (least ≤ number) × (number ≤ most)
within-is least most number is =
    let parts = both-true (nat_le least number) (nat_le number most) is in
    (leb-true least number parts.0, leb-true number most parts.1)

within-again : (least most number : ℕ) → (least ≤ number) × (number ≤ most) → is_within least most number ≡ true
within-again least most number is = both _ _ (le-leb least number is.0) (le-leb number most is.1)

either-is : (a b : Bool) → a || b ≡ true → (a ≡ true) ⊎ (b ≡ true)
either-is true b is = inl refl
either-is false b is = inr is

left-either : (a b : Bool) → a ≡ true → a || b ≡ true
left-either true b is = refl
left-either false b is = cc

right-either : (a b : Bool) → b ≡ true → a || b ≡ true
right-either true b is = refl
right-either false b is = is

drawn-is : (greatest next number : ℕ) → is_drawn greatest next number ≡ true → IsDrawn greatest next number
drawn-is greatest next number is = elim (either-is (nat_lt number next) (eqb next greatest) is) [
  | inl below ↦ inl (ltb-true number next below)
  | inr most ↦ inr (eqb-true next greatest most)
]

drawn-again : (greatest next number : ℕ) → IsDrawn greatest next number → is_drawn greatest next number ≡ true
drawn-again greatest next number is = elim is [
  | inl below ↦ left-either (nat_lt number next) (eqb next greatest) (lt-ltb number next below)
  | inr most ↦ right-either (nat_lt number next) (eqb next greatest) (eq-eqb next greatest most)
]

-- a number that is drawn, above the last one
abbrev IsNextOf : {X : Type 0} → ℕ → ℕ → (X → ℕ) → List X → ℕ → Type 0
IsNextOf greatest next key before number = (1 ≤ number) × IsDrawn greatest next number × IfSome (last_item before) (λ last. nat_cmp (key last) number ≡ Less)

pub next_drawn-is : {X : Type 0} (greatest next : ℕ) (key : X → ℕ) (before : List X) (number : ℕ) → is_next_drawn greatest next key before number ≡ true → IsNextOf greatest next key before number
next_drawn-is greatest next key before number is =
    let last = both-true (nat_le 1 number && is_drawn greatest next number) (is_above key before number) is in
    let first = both-true (nat_le 1 number) (is_drawn greatest next number) last.0 in
    (leb-true 1 number first.0, drawn-is greatest next number first.1, above-is key (last_item before) number last.1)

pub next_drawn-again : {X : Type 0} (greatest next : ℕ) (key : X → ℕ) (before : List X) (number : ℕ) → IsNextOf greatest next key before number → is_next_drawn greatest next key before number ≡ true
next_drawn-again greatest next key before number is =
    both _ _ (both _ _ (le-leb 1 number is.0) (drawn-again greatest next number is.1)) (above-again key (last_item before) number is.2)

-- ---- different keys

-- no item before has the key of this one
abbrev IsApart : {X : Type 0} → (X → ℕ) → List X → X → Type 0
IsApart key before x = AllByRecursion (λ other. key other ≢ key x) before

test-not : (test : Bool) → not test ≡ true → test ≡ false
test-not true is = cc
test-not false is = refl

none-taken : {X : Type 0} (key : X → ℕ) (before : List X) (number : ℕ) → list_any (λ other. eqb (key other) number) before ≡ false → AllByRecursion (λ other. key other ≢ number) before
none-taken key [] number is = tt
none-taken key (x ∷ before) number is =
    elim (eqb (key x) number) as (λ test. eqb (key x) number ≡ test → test || list_any (λ other. eqb (key other) number) before ≡ false → AllByRecursion (λ other. key other ≢ number) (x ∷ before)) [
      | true ↦ (λ same any. cc)
      | false ↦ (λ same any. (eqb-false (key x) number same, none-taken key before number any))
    ] refl is

none-again : {X : Type 0} (key : X → ℕ) (before : List X) (number : ℕ) → AllByRecursion (λ other. key other ≢ number) before → list_any (λ other. eqb (key other) number) before ≡ false
none-again key [] number each = refl
none-again key (x ∷ before) number each =
    elim (eqb (key x) number) as (λ test. eqb (key x) number ≡ test → test || list_any (λ other. eqb (key other) number) before ≡ false) [
      | true ↦ (λ same. absurd (each.0 (eqb-true (key x) number same)))
      | false ↦ (λ same. none-again key before number each.1)
    ] refl

free-is : {X : Type 0} (key : X → ℕ) (before : List X) (x : X) → is_free key before (key x) ≡ true → IsApart key before x
free-is key before x is = none-taken key before (key x) (test-not (list_any (λ other. eqb (key other) (key x)) before) is)

free-again : {X : Type 0} (key : X → ℕ) (before : List X) (x : X) → IsApart key before x → is_free key before (key x) ≡ true
free-again key before x is = ap not (none-again key before (key x) is)

-- no item has the key of one before
abbrev AreApartFrom : {X : Type 0} → (X → ℕ) → List X → List X → Type 0
AreApartFrom key before xs = AllByRecursion (λ y. AllByRecursion (λ other. key other ≢ key y) xs) before

apart-none : {X : Type 0} (key : X → ℕ) (before : List X) → AreApartFrom key before []
apart-none key [] = tt
apart-none key (x ∷ before) = (tt, apart-none key before)

-- one item more
apart-more : {X : Type 0} (key : X → ℕ) (before : List X) (x : X) (xs : List X) → IsApart key before x → AreApartFrom key before xs → AreApartFrom key before (x ∷ xs)
apart-more key [] x xs is are = tt
apart-more key (y ∷ before) x xs is are = (((λ same. is.0 (sym same)), are.0), apart-more key before x xs is.1 are.1)

apart-head : {X : Type 0} (key : X → ℕ) (before : List X) (x : X) (xs : List X) → AreApartFrom key before (x ∷ xs) → IsApart key before x × AreApartFrom key before xs
apart-head key [] x xs are = (tt, tt)
apart-head key (y ∷ before) x xs are =
    let more = apart-head key before x xs are.1 in
    (((λ same. are.0.0 (sym same)), more.0), (are.0.1, more.1))

behind-apart-is : {X : Type 0} (key : X → ℕ) (before xs : List X) → AllBehind (IsApart key) before xs → AreApartFrom key before xs × AreApart key xs
behind-apart-is key before [] each = (apart-none key before, tt)
behind-apart-is key before (x ∷ xs) each =
    let more = behind-apart-is key (before ++ x ∷ []) xs each.1 in
    let parts = all-append (λ y. AllByRecursion (λ other. key other ≢ key y) xs) before (x ∷ []) more.0 in
    (apart-more key before x xs each.0 parts.0, (parts.1.0, more.1))

behind-apart-again : {X : Type 0} (key : X → ℕ) (before xs : List X) → AreApartFrom key before xs → AreApart key xs → AllBehind (IsApart key) before xs
behind-apart-again key before [] from are = tt
behind-apart-again key before (x ∷ xs) from are =
    let parts = apart-head key before x xs from in
    (parts.0, behind-apart-again key (before ++ x ∷ []) xs (all-with (λ y. AllByRecursion (λ other. key other ≢ key y) xs) before (x ∷ []) parts.1 (are.0, tt)) are.1)

-- ---- slots

slot-is : (before : List FilledSlot) (filled : FilledSlot) → IsNextSlot before filled → Rises nat_cmp slot_number IsFilled before filled × IsApart slot_cart before filled
slot-is before filled is =
    let slot = both-true (is_within 1 32 filled.slot) (is_above slot_number before filled.slot) is.0.1 in
    let cart = both-true (is_within 1 256 filled.cart.0) (is_free slot_cart before filled.cart.0) is.1.1 in (
      (record { slot = within-is 1 32 filled.slot slot.0; cart = within-is 1 256 filled.cart.0 cart.0 }, above-is slot_number (last_item before) filled.slot slot.1),
      free-is slot_cart before filled cart.1,
    )

slot-again : (before : List FilledSlot) (filled : FilledSlot) → Rises nat_cmp slot_number IsFilled before filled × IsApart slot_cart before filled → IsNextSlot before filled
slot-again before filled is = (
  (omega (arith, is.0.0.slot), both _ _ (within-again 1 32 filled.slot is.0.0.slot) (above-again slot_number (last_item before) filled.slot is.0.1)),
  (omega (arith, is.0.0.cart), both _ _ (within-again 1 256 filled.cart.0 is.0.0.cart) (free-again slot_cart before filled is.1)),
)

pub slots-allowed : (allowed : Bool) (slots : List FilledSlot) → AreSlotsIf allowed slots → AreSlots slots × (allowed ≡ true)
slots-allowed allowed slots are =
    let Rising = Rises nat_cmp slot_number IsFilled in
    let parts = behind-apart Rising (IsApart slot_cart) [] slots (behind-as IsNextSlot (λ before x. Rising before x × IsApart slot_cart before x) slot-is [] slots are.1) in
    let rising = rising-is nat_cmp slot_number IsFilled slots parts.0 in
    (record { each = rising.0; order = rising.1; carts = (behind-apart-is slot_cart [] slots parts.1).1 }, are.0.1)

pub slots-again : (allowed : Bool) (slots : List FilledSlot) → AreSlots slots → allowed ≡ true → AreSlotsIf allowed slots
slots-again allowed slots are is =
    let Rising = Rises nat_cmp slot_number IsFilled in
    let rising = rising-behind nat_cmp slot_number IsFilled slots are.each are.order in
    let apart = behind-apart-again slot_cart [] slots tt are.carts in (
      (slots_count slots are, is),
      behind-as (λ before x. Rising before x × IsApart slot_cart before x) IsNextSlot slot-again [] slots (behind-both Rising (IsApart slot_cart) [] slots rising apart),
    )

-- ---- volumes

-- a volume that is allowed, with numbers in the ranges of their bytes
abbrev IsFittingVolume : ℕ → VolumeRec → Type 0
IsFittingVolume next volume = IsVolume next volume × FitsVolume volume

volume-is : (next : ℕ) (before : List VolumeRec) (volume : VolumeRec) → IsNextVolume next before volume
    → Rises nat_cmp volid_of (IsFittingVolume next) before volume × IsApart volume_cart before volume
volume-is next before volume is =
    let volid = next_drawn-is max_number next volid_of before volume.volid.0 is.0.1 in
    let cart = both-true (is_within 1 256 volume.cart.0) (is_free volume_cart before volume.cart.0) is.1.1 in (
      (
        (
          record { volid = volid.0; drawn = volid.1; cart = within-is 1 256 volume.cart.0 cart.0; pool = is.2; capacity = is.3 },
          record { volid = is.0.0; was = is.4 },
        ),
        volid.2,
      ),
      free-is volume_cart before volume cart.1,
    )

volume-again : (next : ℕ) (before : List VolumeRec) (volume : VolumeRec) → Rises nat_cmp volid_of (IsFittingVolume next) before volume × IsApart volume_cart before volume
    → IsNextVolume next before volume
volume-again next before volume is =
    let one = is.0.0.0 in
    let fits = is.0.0.1 in (
      (fits.volid, next_drawn-again max_number next volid_of before volume.volid.0 (one.volid, one.drawn, is.0.1)),
      (omega (arith, one.cart), both _ _ (within-again 1 256 volume.cart.0 one.cart) (free-again volume_cart before volume is.1)),
      one.pool,
      one.capacity,
      fits.was,
    )

pub volumes-allowed : (next : ℕ) (volumes : List VolumeRec) → AreVolumesIf next volumes → HasVolumes next volumes × AllByRecursion FitsVolume volumes
volumes-allowed next volumes are =
    let Rising = Rises nat_cmp volid_of (IsFittingVolume next) in
    let parts = behind-apart Rising (IsApart volume_cart) [] volumes (behind-as (IsNextVolume next) (λ before x. Rising before x × IsApart volume_cart before x) (volume-is next) [] volumes are.1) in
    let rising = rising-is nat_cmp volid_of (IsFittingVolume next) volumes parts.0 in
    let each = all-apart (IsVolume next) FitsVolume volumes rising.0 in
    (record { each = each.0; order = rising.1; carts = (behind-apart-is volume_cart [] volumes parts.1).1; count = omega (arith, are.0.1) }, each.1)

pub volumes-again : (next : ℕ) (volumes : List VolumeRec) → HasVolumes next volumes → AllByRecursion FitsVolume volumes → AreVolumesIf next volumes
volumes-again next volumes are fits =
    let Rising = Rises nat_cmp volid_of (IsFittingVolume next) in
    let rising = rising-behind nat_cmp volid_of (IsFittingVolume next) volumes (all-both (IsVolume next) FitsVolume volumes are.each fits) are.order in
    let apart = behind-apart-again volume_cart [] volumes tt are.carts in (
      (omega arith, omega (arith, are.count)),
      behind-as (λ before x. Rising before x × IsApart volume_cart before x) (IsNextVolume next) (volume-again next) [] volumes (behind-both Rising (IsApart volume_cart) [] volumes rising apart),
    )

-- ---- copies

abbrev IsFittingCopy : ℕ → SetCopy → Type 0
IsFittingCopy next copy = IsCopy next copy × FitsCopy copy

sections-are : (state : CopyState) (copy : SetCopy) → AreSectionsOf state copy.sections → catalogues.HasSections state copy × AllByRecursion FitsSection copy.sections
sections-are copies.Begun copy is = (is, subst (λ (sections : List Section). AllByRecursion FitsSection sections) (sym is) tt)
sections-are copies.Done copy is = is

sections-again : (state : CopyState) (copy : SetCopy) → catalogues.HasSections state copy → AllByRecursion FitsSection copy.sections → AreSectionsOf state copy.sections
sections-again copies.Begun copy is fits = is
sections-again copies.Done copy is fits = (is, fits)

copy-is : (next : ℕ) (before : List SetCopy) (copy : SetCopy) → IsNextCopy next before copy → Rises nat_cmp copy_no (IsFittingCopy next) before copy
copy-is next before copy is =
    let number = next_drawn-is max_copy next copy_no before copy.no.0 is.0.1 in
    let sections = sections-are copy.state copy is.1 in
    ((record { number = number.0; drawn = number.1; sections = sections.0 }, record { number = is.0.0; sections = sections.1 }), number.2)

copy-again : (next : ℕ) (before : List SetCopy) (copy : SetCopy) → Rises nat_cmp copy_no (IsFittingCopy next) before copy → IsNextCopy next before copy
copy-again next before copy is =
    let one = is.0.0 in
    let fits = is.0.1 in
    ((fits.number, next_drawn-again max_copy next copy_no before copy.no.0 (one.number, one.drawn, is.1)), sections-again copy.state copy one.sections fits.sections)

-- the first copy, which is begun
same-copy : (number : ℕ) (state : CopyState) (sections : List Section) → number ≡ 1 → state ≡ copies.Begun → sections ≡ []
    → (let made : SetCopy = record { no = record { 0 = number }; state = state; sections = sections } in made) ≡ begun_copy (record { 0 = 1 })
same-copy number state sections same begun none = rw (same, begun, none) refl

not-done : (state : CopyState) → not (is_done state) ≡ true → state ≡ copies.Begun
not-done copies.Begun is = refl
not-done copies.Done is = cc

first-is : (next : ℕ) (list : List SetCopy) → is_first_begun list ≡ true → AllByRecursion (IsCopy next) list → list ≡ begun_copy (record { 0 = 1 }) ∷ []
first-is next [] is each = cc
first-is next (copy ∷ []) is each =
    let tests = both-true (eqb copy.no.0 1) (not (is_done copy.state)) is in
    let begun = not-done copy.state tests.1 in
    let none : copy.sections ≡ [] = subst (λ (state : CopyState). catalogues.HasSections state copy) begun each.0.sections in
    ap (λ (one : SetCopy). one ∷ []) (same-copy copy.no.0 copy.state copy.sections (eqb-true copy.no.0 1 tests.0) begun none)
first-is next (copy ∷ (other ∷ others)) is each = cc

state-is : (state : RecordState) (next : ℕ) (list : List SetCopy) → fits_state state list ≡ true → AllByRecursion (IsCopy next) list → FitState state list
state-is states.Begun next list is each = first-is next list is each
state-is states.Complete next list is each = is
state-is states.Aborted next list is each = tt

state-again : (state : RecordState) (list : List SetCopy) → FitState state list → fits_state state list ≡ true
state-again states.Begun list is = ap is_first_begun is
state-again states.Complete list is = is
state-again states.Aborted list is = refl

-- the copies of a record
pub record HasCopies (state : RecordState) (next : ℕ) (list : List SetCopy) : Type 0 where
  pub each : AllByRecursion (IsCopy next) list
  pub order : Ascends nat_cmp copy_no list
  pub count : length list ≤ 255
  pub fit : FitState state list
  pub fits : AllByRecursion FitsCopy list

pub copies-allowed : (state : RecordState) (next : ℕ) (list : List SetCopy) → AreCopiesIf state next list → HasCopies state next list
copies-allowed state next list are =
    let rising = rising-is nat_cmp copy_no (IsFittingCopy next) list (behind-as (IsNextCopy next) (Rises nat_cmp copy_no (IsFittingCopy next)) (copy-is next) [] list are.0.1) in
    let each = all-apart (IsCopy next) FitsCopy list rising.0 in
    record { each = each.0; order = rising.1; count = omega (arith, are.0.0); fit = state-is state next list are.1 each.0; fits = each.1 }

pub copies-again : (state : RecordState) (next : ℕ) (list : List SetCopy) → HasCopies state next list → AreCopiesIf state next list
copies-again state next list are =
    let rising = rising-behind nat_cmp copy_no (IsFittingCopy next) list (all-both (IsCopy next) FitsCopy list are.each are.fits) are.order in (
      (omega (arith, are.count), behind-as (Rises nat_cmp copy_no (IsFittingCopy next)) (IsNextCopy next) (copy-again next) [] list rising),
      state-again state list are.fit,
    )
