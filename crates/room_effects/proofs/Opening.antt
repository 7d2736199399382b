-- The room that opening makes.
use Rattle.std.proofs.Common.{◌≡◌, ◌≢◌, ℕ, List, [], refl, sym, ap, ◌∙◌, arith}
use Rattle.std.specs.Prelude.{Option, Some, None, slice_index}
use Rattle.room_disk.specs.Blank.{IsBlank}
use Rattle.room_disk.specs.Disk.{DiskView, Image}
use Rattle.cat_journal.specs.Images.{IsJournal}
use Rattle.cat_journal.specs.Journal.{JournalView}
use Rattle.cat_journal.specs.Meaning.{Means, Shut, Unopened}
use Rattle.catalog_change.specs.Catalogues.{Catalogue}
use Rattle.room_catalog.specs.Held.{CatalogueLists, catalogue_of, no_parts, opening_catalogue}
use Rattle.room_catalog.specs.Invariant.{IsHeld}
use Rattle.room_effects.specs.View.{IsJournalOf, IsRoom, opened_room}
use Rattle.room_effects.specs.Effects.{Seen}
use Rattle.room_effects.specs.Running.{Ready, nothing_known}
use Rattle.room_effects.specs.Reopening.{Reopens}
use Rattle.room_effects.proofs.Entering.{none_held}
use Rattle.room_effects.proofs.StayingDrives.{are_no_volumes}

pub opened_is_room : (catalogue : CatalogueLists) (journal : JournalView) → IsHeld catalogue → IsJournalOf catalogue (record journal { spare = 0 })
    → IsRoom (opened_room catalogue journal)
opened_is_room catalogue journal held fits = record {
  catalogue = held;
  sessions = record { ascending = tt; each = tt };
  few = omega arith;
  drives = are_no_volumes;
  on_drives = tt;
  journal = fits;
  emptied = λ shut. record { sessions = refl; drives = refl };
}

pub opened_is_ready : (catalogue : CatalogueLists) (journal : JournalView) (disk : DiskView) → IsJournal journal disk
    → Ready nothing_known (opened_room catalogue journal) disk
opened_is_ready catalogue journal disk is = record {
  journal = λ opens. record { knows = is.knows; first = is.first; second = is.second };
  drives = λ drive one is_drive held. absurd (none_held drive one held);
  seen = λ cart seen is_cart known. absurd (let no : ◌≡◌ {A = Option Seen} None (Some seen) = known in cc);
}

-- ---- a blank disk

-- a journal of which no file is open
abbrev pub no_journal : JournalView
no_journal = record { current = None; last = 0; spare = 0 }

none_opens : (bytes : List ℕ) → bytes ≡ [] → slice_index bytes 0 ≢ 0x4A
none_opens bytes none opens = let zero : ◌≡◌ {A = ℕ} 0 0x4A = ap (λ (t : List ℕ). slice_index t 0) (sym none) ∙ opens in omega (arith, zero)

blank_means : (files : Image) → files 0 ≡ [] → files 1 ≡ [] → Means files Unopened
blank_means files first second = record {
  first = Shut;
  second = Shut;
  begins = none_opens (files 0) first;
  also = none_opens (files 1) second;
  is = refl;
}

pub blank_is_journal : (disk : DiskView) → IsBlank disk → IsJournal no_journal disk
blank_is_journal disk blank = record {
  knows = blank_means disk.reads (blank.reads 0) (blank.reads 1);
  first = blank.settled 0;
  second = blank.settled 1;
}

pub blank_reopens : (IsSnapshot : CatalogueLists → List ℕ → Type 0) (disk : DiskView) (catalogue : CatalogueLists) → IsBlank disk
    → catalogue_of catalogue ≡ opening_catalogue → catalogue.parts ≡ no_parts → Reopens IsSnapshot disk.reads catalogue
blank_reopens IsSnapshot disk catalogue blank is none = record {
  meaning = Unopened;
  means = blank_means disk.reads (blank.reads 0) (blank.reads 1);
  gives = (is, none);
}

pub blank_is_of : (catalogue : CatalogueLists) → catalogue_of catalogue ≡ opening_catalogue → catalogue.parts ≡ no_parts → IsJournalOf catalogue no_journal
blank_is_of catalogue is none = record {
  known = tt;
  number = sym (ap (λ (all : Catalogue). all.number) is);
  unopened = λ unopened. (is, none);
  first_form = λ first. none;
  spare = refl;
}
