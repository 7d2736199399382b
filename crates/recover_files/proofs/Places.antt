-- The data blocks of a section, one after the other.
use Rattle.std.proofs.Common.{◌≡◌, ℕ, ◌+◌, ◌-◌, ◌/◌, ◌<◌, ◌≤◌, List, refl, sym, ap, subst, arith, inl, inr, below_more}
use Rattle.std.specs.Prelude.{◌↔◌}
use Rattle.std.proofs.Math.Nat.{le-div_iff_mul-le}
use Rattle.volume_block.specs.declared.block.Block.TheVariants as kinds
use Rattle.volume_block.specs.declared.label.Label.{Label}
use Rattle.volume_store.proofs.Finding.{one_stands}
use Rattle.media_db.specs.declared.copies.Section.{Section}
use Rattle.recover_files.specs.Sections.{BlockGives, BlockLacks, IsInvalid, units_of, HasUnits, by_first_block, by_its_mark, by_the_label, by_none_of_them, number_at, HasBlock, SectionGives, SectionLacks, IsBlamed}
use Rattle.recover_files.specs.Stages.{IsRun, HasBounds}
use Rattle.recover_files.specs.declared.run.Run.{Run}

-- ---- the units

same_mark : (one other a b : ℕ) → kinds.Mark one a ≡ kinds.Mark other b → a ≡ b
same_mark one other a b same = cc same

same_label : (one other : Label) → kinds.Label one ≡ kinds.Label other → one ≡ other
same_label one other same = cc same

-- a section has one number of units
pub one_units : (bytes : List ℕ) (section : Section) (a b : ℕ) → HasUnits bytes section a → HasUnits bytes section b → a ≡ b
one_units bytes section _ _ (by_first_block one stands) (by_first_block other stood) =
    ap units_of (one_stands bytes section.volid.0 section.first one other stands stood)
one_units bytes section _ _ (by_first_block one stands) (by_its_mark count b lacks stood) = absurd (lacks one stands)
one_units bytes section _ _ (by_first_block one stands) (by_the_label fields lacks wants stood) = absurd (lacks one stands)
one_units bytes section _ _ (by_first_block one stands) (by_none_of_them lacks wants misses) = absurd (lacks one stands)
one_units bytes section _ _ (by_its_mark count a lacks stands) (by_first_block other stood) = absurd (lacks other stood)
one_units bytes section _ _ (by_its_mark count a lacks stands) (by_its_mark counts b wants stood) =
    same_mark count counts a b (one_stands bytes section.volid.0 section.mark (kinds.Mark count a) (kinds.Mark counts b) stands stood)
one_units bytes section _ _ (by_its_mark count a lacks stands) (by_the_label fields wants misses stood) = absurd (misses count a stands)
one_units bytes section _ _ (by_its_mark count a lacks stands) (by_none_of_them wants misses others) = absurd (misses count a stands)
one_units bytes section _ _ (by_the_label fields lacks wants stands) (by_first_block other stood) = absurd (lacks other stood)
one_units bytes section _ _ (by_the_label fields lacks wants stands) (by_its_mark counts b misses stood) = absurd (wants counts b stood)
one_units bytes section _ _ (by_the_label fields lacks wants stands) (by_the_label others misses absent stood) =
    ap (λ (one : Label). one.units) (same_label fields others (one_stands bytes section.volid.0 0 (kinds.Label fields) (kinds.Label others) stands stood))
one_units bytes section _ _ (by_the_label fields lacks wants stands) (by_none_of_them misses absent unseen) = absurd (unseen fields stands)
one_units bytes section _ _ (by_none_of_them lacks wants misses) (by_first_block other stood) = absurd (lacks other stood)
one_units bytes section _ _ (by_none_of_them lacks wants misses) (by_its_mark counts b absent stood) = absurd (wants counts b stood)
one_units bytes section _ _ (by_none_of_them lacks wants misses) (by_the_label others absent unseen stood) = absurd (misses others stood)
one_units bytes section _ _ (by_none_of_them lacks wants misses) (by_none_of_them absent unseen unheard) = refl

-- ---- the indexes

-- what holds of each index below this one, and of it
pub below_or_at : (P : ℕ → Type 0) (index : ℕ) → ((k : ℕ) → k < index → P k) → P index → (j : ℕ) → j ≤ index → P j
below_or_at P index below here j most = below_more P index below here j (omega (arith, most))

-- the blocks up to the last
pub up_to_last : (section : Section) (units index : ℕ) → 1 ≤ units → section.first ≤ section.last
    → HasBlock section units index ↔ (index ≤ (section.last - section.first) / units)
up_to_last section units index some fits =
    let law = le-div_iff_mul-le {k = units} {x = index} {y = section.last - section.first} some in (
      λ has. elim has [
        | inl front ↦ omega (arith, front)
        | inr more ↦ law.1 (omega (arith, more.1))
      ],
      λ below. inr (some, omega (arith, law.0 below, fits)),
    )

-- a section without units between its blocks has its first block alone
pub one_block_alone : (section : Section) (index : ℕ) → HasBlock section 0 index ↔ (index ≤ 0)
one_block_alone section index = (
  λ has. elim has [
    | inl front ↦ omega (arith, front)
    | inr more ↦ absurd (omega (arith, more.0))
  ],
  λ below. inl (omega (arith, below)),
)

-- ---- what the blocks give

-- The blocks before the last that was read lack the bytes that are clear. This one gives some, or
-- is the last.
pub run_of_section : (file : List ℕ) (section : Section) (units ssid copy place clear index last : ℕ) (into : List ℕ) (run : Run)
    → HasUnits file section units → ((j : ℕ) → HasBlock section units j ↔ (j ≤ last)) → index ≤ last
    → ((j i : ℕ) → j < index → i < clear → BlockLacks file section.volid.0 (number_at section units j) ssid copy (place + i))
    → HasBounds clear run
    → IsRun (BlockGives file section.volid.0 (number_at section units index) ssid copy) (BlockLacks file section.volid.0 (number_at section units index) ssid copy) place into run
    → (run.count ≡ 0 → index ≡ last)
    → IsRun (SectionGives file section ssid copy) (SectionLacks file section ssid copy) place into run
run_of_section file section units ssid copy place clear index last into run told has within earlier bounds is ends = record {
  given = λ i below. record {
    units = units;
    told = told;
    index = index;
    within = (has index).1 within;
    gives = is.given i below;
    first = λ j before. earlier j i before (omega (arith, below, bounds.count));
  };
  clear = λ none i below others j its inside.
      let same : others ≡ units = one_units file section others units its told in
      let most : j ≤ last = (has j).0 (subst (λ (n : ℕ). HasBlock section n j) same inside) in
      let at : index ≡ last = ends none in
      let Lacks : ℕ → Type 0 = λ (n : ℕ). BlockLacks file section.volid.0 (number_at section units n) ssid copy (place + i) in
      let Other : ℕ → Type 0 = λ (n : ℕ). BlockLacks file section.volid.0 (number_at section n j) ssid copy (place + i) in
      let within_clear : i < clear = omega (arith, below, bounds.clear) in
      let end : j ≤ index = omega (arith, most, at) in
      subst Other (sym same) (below_or_at Lacks index (λ k before. earlier k i before within_clear) (is.clear none i below) j end);
}

-- the same for more blocks
pub lacks_more : (file : List ℕ) (section : Section) (units ssid copy place clear index : ℕ) (into : List ℕ) (run : Run)
    → ((j i : ℕ) → j < index → i < clear → BlockLacks file section.volid.0 (number_at section units j) ssid copy (place + i))
    → HasBounds clear run
    → IsRun (BlockGives file section.volid.0 (number_at section units index) ssid copy) (BlockLacks file section.volid.0 (number_at section units index) ssid copy) place into run
    → run.count ≡ 0
    → (j i : ℕ) → j < index + 1 → i < run.clear → BlockLacks file section.volid.0 (number_at section units j) ssid copy (place + i)
lacks_more file section units ssid copy place clear index into run earlier bounds is none j i before below =
    let Lacks : ℕ → Type 0 = λ (n : ℕ). BlockLacks file section.volid.0 (number_at section units n) ssid copy (place + i) in
    let within_clear : i < clear = omega (arith, below, bounds.clear) in
    below_or_at Lacks index (λ k first. earlier k i first within_clear) (is.clear none i below) j (omega (arith, before))

-- ---- the first that isn't valid

pub blames_first : (file : List ℕ) (section : Section) (units index last : ℕ) → HasUnits file section units
    → ((j : ℕ) → HasBlock section units j ↔ (j ≤ last)) → index ≤ last
    → ((j : ℕ) → j < index → ¬ IsInvalid file section.volid.0 (number_at section units j))
    → IsInvalid file section.volid.0 (number_at section units index) → IsBlamed file section (number_at section units index)
blames_first file section units index last told has within earlier invalid = inl (record {
  units = units;
  told = told;
  index = index;
  within = (has index).1 within;
  is = refl;
  invalid = invalid;
  first = earlier;
})

pub blames_none : (file : List ℕ) (section : Section) (units index last : ℕ) → HasUnits file section units
    → ((j : ℕ) → HasBlock section units j ↔ (j ≤ last)) → index ≡ last
    → ((j : ℕ) → j < index → ¬ IsInvalid file section.volid.0 (number_at section units j))
    → ¬ IsInvalid file section.volid.0 (number_at section units index) → IsBlamed file section section.first
blames_none file section units index last told has at earlier valid = inr (
  λ others j its inside.
      (let same : others ≡ units = one_units file section others units its told in
      let most : j ≤ last = (has j).0 (subst (λ (n : ℕ). HasBlock section n j) same inside) in
      let Valid : ℕ → Type 0 = λ (n : ℕ). ¬ IsInvalid file section.volid.0 (number_at section units n) in
      let Other : ℕ → Type 0 = λ (n : ℕ). ¬ IsInvalid file section.volid.0 (number_at section n j) in
      subst Other (sym same) (below_or_at Valid index earlier valid j (omega (arith, most, at)))),
  refl,
)
