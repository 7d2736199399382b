-- What is answered of the files of a journal.
use Rattle.std.proofs.Common.{◌≡◌, ℕ, ◌+◌, List, length, Result, Ok, Err, refl, sym, ap, ◌∙◌, subst, inl, inr}
use Rattle.std.specs.Prelude.{IfOk, Option, Some, None}
use Rattle.room_disk.specs.Disk.{Image}
use Rattle.cat_journal.specs.Contents.{Contents, last_of}
use Rattle.cat_journal.specs.Entries.{entries_of, payloads_of}
use Rattle.cat_journal.specs.Journal.{IsKnown, JournalView, form_of}
use Rattle.cat_journal.specs.Meaning.{Means, Stands}
use Rattle.cat_journal.specs.Opening.{Gives, GivesJournal, OpensJournal}
use Rattle.cat_journal.specs.declared.current.CurrentFile.{CurrentFile}
use Rattle.cat_journal.specs.declared.entry_list.Entry.{Entry}
use Rattle.cat_journal.specs.declared.opening.Opened.{Opened}
use Rattle.room_catalog.specs.Held.{HeldCatalogue}
use Rattle.room_effects.specs.View.{IsJournalOf}
use Rattle.journal_replay.specs.Answers.{AnswersOf, CatalogueOf, ReplaysFile}
use Rattle.room_effects.specs.Replaying.{Replays}
use Rattle.journal_replay.specs.declared.fault.ReplayFault.{ReplayFault}
use Rattle.journal_replay.specs.declared.fault.ReplayFault.TheVariants as faults
use Rattle.journal_replay.proofs.Numbering.{replays_bare, replays_number}
use Rattle.journal_replay.proofs.Placing.{payloads_again, stray_gate, stray_payloads}

-- ---- what is told

contents_told : (files : Image) (file : ℕ) (contents : Contents) (answer : Result HeldCatalogue ReplayFault) → Means files (Stands file contents)
    → ReplaysFile file contents.head.form contents.head.number contents.snapshot (entries_of contents.head.form contents.head.number (64 + length contents.snapshot) contents.payloads) answer
    → CatalogueOf files answer
contents_told files file contents (Ok held) means replays =
    let R : List (List ℕ) → Type 0 = λ payloads. Replays contents.head.form payloads replays.0 held.lists in
    record {
      meaning = Stands file contents;
      means = means;
      gives = record {
        first = replays.0;
        snapshot = replays.1.is;
        number = replays.1.number_is;
        replays = subst R (payloads_again contents.head.form contents.head.number (64 + length contents.snapshot) contents.payloads) replays.2;
      };
    }
contents_told files file contents (Err (faults.Damaged which place)) means (which_is, inl none) = record {
  meaning = Stands file contents;
  means = means;
  is = (which_is, inl (none.1, none.0));
}
contents_told files file contents (Err (faults.Damaged which place)) means (which_is, inr behind) = record {
  meaning = Stands file contents;
  means = means;
  is = (
    which_is,
    inr (record {
      first = behind.0;
      begins = behind.1;
      before = payloads_of behind.2.before;
      stray = behind.2.stray.bytes;
      more = payloads_of behind.2.more;
      payloads = stray_payloads contents.head.form contents.head.number (64 + length contents.snapshot) contents.payloads behind.2.before behind.2.stray behind.2.more behind.2.parts;
      lists = behind.2.lists;
      replays = behind.2.replays;
      is = behind.2.is;
      placed = behind.2.placed ∙ stray_gate contents.head contents.snapshot contents.payloads behind.2.before behind.2.stray behind.2.more behind.2.parts;
    }),
  );
}
contents_told files file contents (Err (faults.Failed which)) means replays = tt
contents_told files file contents (Err faults.Memory) means replays = tt

-- of the current file
pub file_told : (files : Image) (opened : Opened) (file : ℕ) (answer : Result HeldCatalogue ReplayFault) → Gives files opened (Some file)
    → ReplaysFile file (form_of opened.journal.current) opened.number opened.snapshot opened.entries answer → CatalogueOf files answer
file_told files opened file answer gives replays =
    let contents = gives.0 in
    let F : ℕ → Type 0 = λ form. ReplaysFile file form opened.number opened.snapshot opened.entries answer in
    let N : ℕ → Type 0 = λ number. ReplaysFile file contents.head.form number opened.snapshot opened.entries answer in
    let S : List ℕ → Type 0 = λ snapshot. ReplaysFile file contents.head.form contents.head.number snapshot opened.entries answer in
    let E : List Entry → Type 0 = λ entries. ReplaysFile file contents.head.form contents.head.number contents.snapshot entries answer in
    contents_told files file contents answer gives.1
    (subst E gives.2.entries (subst S gives.2.snapshot (subst N gives.2.number (subst F (ap (λ (journal : JournalView). form_of journal.current) gives.2.journal) replays))))

-- ---- what is known besides

pub file_sound : (opened : Opened) (file : ℕ) (held : HeldCatalogue) → OpensJournal file opened → IsKnown opened.journal.current
    → ReplaysFile file (form_of opened.journal.current) opened.number opened.snapshot opened.entries (Ok held) → IsJournalOf held.lists (record opened.journal { spare = 0 })
file_sound opened file held opens known replays =
    let form = form_of opened.journal.current in
    let payloads = payloads_of opened.entries in
    record {
      known = known;
      number = opens.last ∙ ap (λ (current : Option CurrentFile). last_of (form_of current) opened.number payloads) (sym opens.is)
          ∙ ap (λ (n : ℕ). last_of form n payloads) (sym replays.1.number_is) ∙ sym (replays_number form payloads replays.0 held.lists replays.2);
      unopened = λ none. absurd (let no : ◌≡◌ {A = Option CurrentFile} None (Some opens.current) = sym none ∙ opens.is in cc);
      first_form = λ first. replays_bare form payloads replays.0 held.lists first replays.1.is.parts replays.2;
      spare = refl;
    }

-- ---- as it is read

-- the same file, as it was read
pub file_as : (file : ℕ) (form form' number : ℕ) (snapshot snapshot' : List ℕ) (entries entries' : List Entry) (answer : Result HeldCatalogue ReplayFault) → form ≡ form' → snapshot ≡ snapshot'
    → entries ≡ entries' → ReplaysFile file form number snapshot entries answer → ReplaysFile file form' number snapshot' entries' answer
file_as file form form' number snapshot snapshot' entries entries' answer same also too replays =
    let F : ℕ → Type 0 = λ one. ReplaysFile file one number snapshot entries answer in
    let S : List ℕ → Type 0 = λ one. ReplaysFile file form' number one entries answer in
    let E : List Entry → Type 0 = λ one. ReplaysFile file form' number snapshot' one answer in
    subst E too (subst S also (subst F same replays))

-- what is known besides, where there is an answer
pub file_sound_if : (opened : Opened) (file : ℕ) (given : Option ℕ) (answer : Result HeldCatalogue ReplayFault) → given ≡ Some file → GivesJournal opened given
    → ReplaysFile file (form_of opened.journal.current) opened.number opened.snapshot opened.entries answer
    → IfOk answer (λ held. IsKnown opened.journal.current → IsJournalOf held.lists (record opened.journal { spare = 0 }))
file_sound_if opened file given (Ok held) same gives replays =
    let G : Option ℕ → Type 0 = λ one. GivesJournal opened one in λ known. file_sound opened file held (subst G same gives) known replays
file_sound_if opened file given (Err fault) same gives replays = tt

pub file_told_if : (files : Image) (opened : Opened) (file : ℕ) (given : Option ℕ) (answer : Result HeldCatalogue ReplayFault) → given ≡ Some file → Gives files opened given
    → ReplaysFile file (form_of opened.journal.current) opened.number opened.snapshot opened.entries answer → CatalogueOf files answer
file_told_if files opened file given answer same gives replays =
    let G : Option ℕ → Type 0 = λ one. Gives files opened one in file_told files opened file answer (subst G same gives) replays

-- a fault is answered on
pub fault_told : (files : Image) (fault : ReplayFault) → CatalogueOf files (Err fault) → AnswersOf files (Err fault)
fault_told files (faults.Damaged file place) tells = tells
fault_told files (faults.Failed file) tells = tt
fault_told files faults.Memory tells = tt
