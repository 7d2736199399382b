-- The journal's files stand as the room knows them, and give its catalogue.
use Rattle.std.proofs.Common.{◌≡◌, ℕ, ◌≤◌, List, [], ◌∷◌, ◌++◌, refl, sym, ap, ◌∙◌, subst, arith}
use Rattle.std.specs.Prelude.{Option, Some, None, IsSome}
use Rattle.room_disk.specs.Disk.{Image}
use Rattle.cat_journal.specs.Contents.{Contents, with_payload}
use Rattle.cat_journal.specs.Journal.{IsAt, JournalView, KnowsFiles, StandOn, behind_entry, file_of, form_of}
use Rattle.cat_journal.specs.Meaning.{Meaning, Means, Stands}
use Rattle.cat_journal.specs.declared.current.CurrentFile.{CurrentFile}
use Rattle.cat_journal.proofs.OneMeaning.{one_meaning}
use Rattle.catalog_change.specs.Catalogues.{max_number}
use Rattle.catalog_spelling.specs.Changes.{Stamped}
use Rattle.room_catalog.specs.Held.{CatalogueLists, no_parts}
use Rattle.room_effects.specs.View.{RoomView, AreDrives, IsRoom}
use Rattle.room_effects.specs.Reopening.{GiveCatalogue, MeansCatalogue, Reopens}
use Rattle.room_effects.specs.Replaying.{Follows, Replays, lists_behind}
use Rattle.room_effects.proofs.Journals.{HasRange, knows_alike, means_alike, range_of}

-- The files are those of the room's journal, and give its catalogue.
pub record StandsAs (IsSnapshot : CatalogueLists → List ℕ → Type 0) (room : RoomView) (files : Image) : Type 0 where
  pub number : room.journal.last ≡ room.catalogue.number
  pub bound : room.journal.last ≤ max_number
  pub range : HasRange room.journal.current
  pub drives : AreDrives room.drives
  pub bare : form_of room.journal.current ≡ 1 → room.catalogue.parts ≡ no_parts
  pub knows : KnowsFiles room.journal files
  pub reopens : Reopens IsSnapshot files room.catalogue

pub stands_first : (IsSnapshot : CatalogueLists → List ℕ → Type 0) (room : RoomView) (files : Image) → IsRoom room → KnowsFiles room.journal files
    → Reopens IsSnapshot files room.catalogue → StandsAs IsSnapshot room files
stands_first IsSnapshot room files is knows reopens = record {
  number = is.journal.number;
  bound = omega (arith, is.journal.number, is.catalogue.catalogue.number);
  range = range_of room.journal.current is.journal.known;
  drives = is.drives;
  bare = is.journal.first_form;
  knows = knows;
  reopens = reopens;
}

-- ---- files that are as before

-- the journal's files are the same
pub record KeepsJournal (before image : Image) : Type 0 where
  pub first : image 0 ≡ before 0
  pub second : image 1 ≡ before 1

pub reopens_kept : (IsSnapshot : CatalogueLists → List ℕ → Type 0) (before image : Image) (lists : CatalogueLists) → KeepsJournal before image
    → Reopens IsSnapshot before lists → Reopens IsSnapshot image lists
reopens_kept IsSnapshot before image lists same reopens = record {
  meaning = reopens.meaning;
  means = means_alike before image reopens.meaning same.first same.second reopens.means;
  gives = reopens.gives;
}

-- a room with the same catalogue and journal
pub stands_kept : (IsSnapshot : CatalogueLists → List ℕ → Type 0) (room new : RoomView) (before image : Image) → KeepsJournal before image
    → new.catalogue ≡ room.catalogue → new.journal ≡ room.journal → AreDrives new.drives → StandsAs IsSnapshot room before → StandsAs IsSnapshot new image
stands_kept IsSnapshot room new before image same catalogue journal drives stands =
    let C : CatalogueLists → Type 0 = λ lists. Reopens IsSnapshot image lists in
    let J : JournalView → Type 0 = λ one. KnowsFiles one image in
    let B : JournalView → Type 0 = λ one. one.last ≤ max_number in
    let R : JournalView → Type 0 = λ one. HasRange one.current in
    record {
      number = ap (λ (one : JournalView). one.last) journal ∙ stands.number ∙ ap (λ (lists : CatalogueLists). lists.number) (sym catalogue);
      bound = subst B (sym journal) stands.bound;
      range = subst R (sym journal) stands.range;
      drives = drives;
      bare = λ first. ap (λ (lists : CatalogueLists). lists.parts) catalogue
          ∙ stands.bare (ap (λ (one : JournalView). form_of one.current) (sym journal) ∙ first);
      knows = subst J (sym journal) (knows_alike room.journal before image same.first same.second stands.knows);
      reopens = subst C (sym catalogue) (reopens_kept IsSnapshot before image room.catalogue same stands.reopens);
    }

-- ---- the contents of an open journal

-- the contents that the journal knows, which give the catalogue
pub record HasKnownContents (IsSnapshot : CatalogueLists → List ℕ → Type 0) (current : Option CurrentFile) (last : ℕ) (lists : CatalogueLists)
    (files : Image) : Type 0 where
  pub contents : Contents
  pub at : IsAt current last contents
  pub means : Means files (Stands (file_of current) contents)
  pub gives : GiveCatalogue IsSnapshot contents lists

known_of_open : (IsSnapshot : CatalogueLists → List ℕ → Type 0) (current : Option CurrentFile) (last : ℕ) (lists : CatalogueLists) (files : Image) → IsSome current
    → StandOn current last files → Reopens IsSnapshot files lists → HasKnownContents IsSnapshot current last lists files
known_of_open IsSnapshot None last lists files some stands reopens = absurd (cc some)
known_of_open IsSnapshot (Some current) last lists files some stands reopens =
    let G : Meaning → Type 0 = λ meaning. MeansCatalogue IsSnapshot meaning lists in
    record {
      contents = stands.0;
      at = stands.1;
      means = stands.2;
      gives = subst G (one_meaning files reopens.meaning (Stands current.file stands.0) reopens.means stands.2) reopens.gives;
    }

pub known_contents : (IsSnapshot : CatalogueLists → List ℕ → Type 0) (room : RoomView) (files : Image) → IsSome room.journal.current → StandsAs IsSnapshot room files
    → HasKnownContents IsSnapshot room.journal.current room.journal.last room.catalogue files
known_contents IsSnapshot room files some stands =
    known_of_open IsSnapshot room.journal.current room.journal.last room.catalogue files some stands.knows stands.reopens

pub reopens_as : (IsSnapshot : CatalogueLists → List ℕ → Type 0) (files : Image) (file : ℕ) (contents : Contents) (lists : CatalogueLists)
    → Means files (Stands file contents) → GiveCatalogue IsSnapshot contents lists → Reopens IsSnapshot files lists
reopens_as IsSnapshot files file contents lists means gives = record { meaning = Stands file contents; means = means; gives = gives }

pub stand_on : (current : Option CurrentFile) (last : ℕ) (files : Image) (contents : Contents) → IsAt current last contents
    → Means files (Stands (file_of current) contents) → StandOn current last files
stand_on None last files contents at means = absurd at
stand_on (Some current) last files contents at means = (contents, at, means)

pub same_file : (current : Option CurrentFile) (size : ℕ) → file_of (behind_entry current size) ≡ file_of current
same_file None size = refl
same_file (Some current) size = refl

pub same_range : (current : Option CurrentFile) (size : ℕ) → HasRange current → HasRange (behind_entry current size)
same_range None size range = tt
same_range (Some current) size range = range

-- ---- one entry more

pub same_form : (current : Option CurrentFile) (size : ℕ) → form_of (behind_entry current size) ≡ form_of current
same_form None size = refl
same_form (Some current) size = refl

pub form_at : (current : Option CurrentFile) (last : ℕ) (contents : Contents) → IsAt current last contents → form_of current ≡ contents.head.form
form_at None last contents at = absurd at
form_at (Some current) last contents at = at.form

pub replays_more : (form : ℕ) (payloads : List (List ℕ)) (payload : List ℕ) (first mid end : CatalogueLists) → Replays form payloads first mid
    → (one : Stamped) × Follows form payload mid one × (end ≡ lists_behind one mid) → Replays form (payloads ++ payload ∷ []) first end
replays_more form [] payload first mid end replays told =
    let F : CatalogueLists → Type 0 = λ lists. Follows form payload lists told.0 in
    (told.0, subst F replays told.1, told.2 ∙ ap (lists_behind told.0) replays)
replays_more form (payload' ∷ payloads) payload first mid end replays told =
    (replays.0, replays.1, replays_more form payloads payload (lists_behind replays.0 first) mid end replays.2 told)

-- contents with one entry more give the catalogue behind it
pub gives_more : (IsSnapshot : CatalogueLists → List ℕ → Type 0) (contents : Contents) (lists : CatalogueLists) (payload : List ℕ) (one : Stamped)
    → Follows contents.head.form payload lists one → GiveCatalogue IsSnapshot contents lists
    → GiveCatalogue IsSnapshot (with_payload contents payload) (lists_behind one lists)
gives_more IsSnapshot contents lists payload one follows gives = record {
  first = gives.first;
  snapshot = gives.snapshot;
  number = gives.number;
  replays = replays_more contents.head.form contents.payloads payload gives.first lists (lists_behind one lists) gives.replays (one, follows, refl);
}
