-- What a change makes of the lists, with the parts of an index that wait.
use Rattle.std.proofs.Common.{◌≡◌, ◌∙◌, ℕ, ◌+◌, List, refl, sym, ap}
use Rattle.room_base.specs.declared.numbers.Moment.{Moment}
use Rattle.room_base.specs.declared.numbers.Ssid.{Ssid}
use Rattle.save_stream.specs.declared.entry.IndexEntry.{IndexEntry}
use Rattle.media_db.specs.declared.copies.Section.{Section}
use Rattle.catalog_change.specs.declared.change.Change.{Change}
use Rattle.catalog_change.specs.declared.change.Change.TheVariants.{Dropped, Finished, IndexPart, FinishedParts}
use Rattle.catalog_change.specs.declared.resource.ResourceKind.TheVariants as kinds
use Rattle.room_catalog.specs.Changing.{changed, lists_after}
use Rattle.room_catalog.specs.Held.{CatalogueLists, Parts, no_parts}
use Rattle.room_catalog.proofs.Applied.{IsNoPart}

-- a change neither reads nor writes the parts that wait
pub beside_parts : (number : ℕ) (m : Moment) (change : Change) (lists : CatalogueLists) (parts : Parts) → changed number m change (record lists { parts = parts }) ≡ record (changed number m change lists) { parts = parts }
beside_parts number m (Dropped kinds.Policy name) lists parts = refl
beside_parts number m (Dropped kinds.Pool name) lists parts = refl
beside_parts number m (Dropped kinds.Client name) lists parts = refl
beside_parts number m (Dropped kinds.Schedule name) lists parts = refl
beside_parts number m (Dropped kinds.Group name) lists parts = refl
beside_parts number m _ lists parts = refl

-- the change is no part, and closes none
after_no_part : (m : Moment) (change : Change) (lists : CatalogueLists) → IsNoPart change → record (changed (lists.number + 1) m change lists) { parts = no_parts } ≡ lists_after m change lists
after_no_part m (IndexPart ssid part index) lists whole = absurd whole
after_no_part m (FinishedParts ssid files bytes digest sections) lists whole = absurd whole
after_no_part m _ lists whole = refl

module _ (number : ℕ) (m : Moment) (lists now : CatalogueLists) (parts : Parts) (none : parts ≡ no_parts) (next : number ≡ lists.number + 1) where
  made_beside : (change : Change) → now ≡ changed number m change (record lists { parts = parts }) → now ≡ record (changed (lists.number + 1) m change lists) { parts = no_parts }
  made_beside change made =
      made ∙ beside_parts number m change lists parts
      ∙ ap (λ (waiting : Parts). record (changed number m change lists) { parts = waiting }) none
      ∙ ap (λ (n : ℕ). record (changed n m change lists) { parts = no_parts }) next

  pub lists_made : (change : Change) → IsNoPart change → now ≡ changed number m change (record lists { parts = parts }) → now ≡ lists_after m change lists
  lists_made change whole made = made_beside change made ∙ after_no_part m change lists whole

  pub lists_closed : (change : Change) (ssid : Ssid) (files bytes : ℕ) (digest : List ℕ) (sections : List Section) (index : List IndexEntry) → change ≡ FinishedParts ssid files bytes digest sections → index ≡ lists.parts.entries
      → now ≡ changed number m (Finished ssid files bytes digest sections index) (record lists { parts = parts }) → now ≡ lists_after m change lists
  lists_closed change ssid files bytes digest sections index is joined made =
      made_beside (Finished ssid files bytes digest sections index) made
      ∙ ap (λ (entries : List IndexEntry). record (changed (lists.number + 1) m (Finished ssid files bytes digest sections entries) lists) { parts = no_parts }) joined
      ∙ ap (λ (one : Change). lists_after m one lists) (sym is)
