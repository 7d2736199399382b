-- Runs of calls: none, one more, and a reopening.
use Rattle.std.proofs.Common.{◌≡◌, ◌≢◌, ◌⊎◌, ℕ, zero, suc, ◌+◌, ◌≤◌, ◌==◌, Bool, true, false, List, [], ◌∷◌, ◌++◌, length, take, refl, sym, ap, ◌∙◌, subst, inl, inr, arith, append_assoc}
use Rattle.std.proofs.lemmas.Bool.{cases_lt, cond-true, cond-false, cond_both}
use Rattle.std.proofs.lemmas.Bool.Decides.{eqb_tells}
use Rattle.std.proofs.lemmas.List.{append-nil, length-append, take_all}
use Rattle.std.specs.Prelude.{IsTrue, None, Some}
use Rattle.room_base.specs.Outside.{Told}
use Rattle.room_base.specs.declared.numbers.Moment.{Moment}
use Rattle.catalog_change.specs.Catalogues.{Catalogue}
use Rattle.catalog_change.specs.declared.change.Change.{Change}
use Rattle.catalog_change.specs.declared.change.Change.TheVariants.{Defined, Dropped, Loaded, Ejected, Labelled, Begun, Finished, Aborted, Amended, Deleted, Purged, CopyBegun, CopyDone, IndexPart, FinishedParts}
use Rattle.room_disk.specs.Disk.{DiskView, Image, Images, IsDisk, Quiet}
use Rattle.room_disk.proofs.Runs.{leaves_none, leaves_quiet, leaves_then, leaves_weaker, quiet_none}
use Rattle.cat_journal.specs.Images.{IsJournal}
use Rattle.catalog_spelling.specs.Changes.{Stamped}
use Rattle.room_catalog.specs.Changing.{catalogue_after}
use Rattle.room_catalog.specs.Held.{CatalogueLists, catalogue_of}
use Rattle.room_catalog.specs.Invariant.{IsHeld}
use Rattle.room_effects.specs.View.{IsJournalOf, IsRoom, RoomView, opened_room}
use Rattle.room_effects.specs.Effects.{Broken, Deed, Done, after, after_all}
use Rattle.room_effects.specs.Reopening.{ReopensAfterSome}
use Rattle.room_effects.specs.Running.{Carried, Known, Performed, Ready, catalogue_behind, entered, failures, known_behind_all, nothing_known, risen_by, trail}
use Rattle.room_effects.proofs.Changing.{AreIndexed, indexed_take, trail_indexed}
use Rattle.room_effects.proofs.Journals.{knows_alike}
use Rattle.room_effects.proofs.Opening.{opened_is_room, opened_is_ready}
use Rattle.room_effects.proofs.Reopening.{take_behind, take_front}
use Rattle.room_effects.proofs.ReopeningDisks.{crashes_reopen}
use Rattle.room_effects.proofs.Running.{catalogue_append}
use Rattle.room_effects.proofs.Standing.{reopens_kept}
use Rattle.journal_files.specs.Files.{IsSnapshot, ReplaysTo}
use Rattle.journal_files.proofs.Once.{one_catalogue}
use Rattle.journal_files.proofs.Snapshots.{have_snapshots}
use Rattle.room_turns.specs.Steps.{Call, IsAnswer, Turn}
use Rattle.room_turns.specs.Runs.{AreAnswered, Passage, Reopening, behind_all, failed, failures_in, found_again, left_open, stands_behind, stood, trail_of}
use Rattle.room_turns.specs.Served.{IsBehind, IsServable, Leads, ReopensAs, ReopensBehind, ReopensInFault, ReopensInRun, ReopensNow, Served, made_by}
use Rattle.room_turns.proofs.Deeds.{behind_some, catalogue_is, ended_reopens, stood_indexed, trail_is}
use Rattle.room_turns.proofs.Alike.{made_alike}
use Rattle.room_turns.proofs.Passages.{answered_before, answered_one_more, behind_one_more, failures_one_more, last_answered, left_one_more, trail_one_more}
use Rattle.room_turns.proofs.Founding.{answer_founded, answer_few}

-- ---- no call

now_of : (is_open : Bool) (lists : CatalogueLists) (image : Image) → ReplaysTo image lists → ReopensNow is_open [] lists image
now_of true lists image replays = replays
now_of false lists image replays =
    record { count = 0; within = omega arith; reopens = record { reopened = lists; replays = replays; is = refl } }

none_along : (room : RoomView) (first more : List Passage) → [] ≡ first ++ more → IsBehind first room
none_along room [] more parts = refl
none_along room (head ∷ first) more parts = absurd (cc parts)

pub served_none : (room : RoomView) (disk : DiskView) → IsRoom room → Served [] room room disk disk
served_none room disk is = record {
  answered = tt;
  is = is;
  room = refl;
  tells = refl;
  faults = λ file. omega arith;
  told = λ told servable. record {
    ready = servable.ready;
    catalogue = refl;
    along = none_along room;
    images = λ image held. now_of room.is_open room.catalogue image (servable.reopens image held);
    moments = leaves_none disk disk (ReopensInRun [] room) (quiet_none disk);
  };
}

-- ---- one more

risen_twice : (first more count mid now : ℕ) → risen_by first count ≤ mid → risen_by more mid ≤ now → risen_by (first + more) count ≤ now
risen_twice first more count mid now one two = omega (arith, one, two)

-- nothing need be known of cartridges
nothing_of : (known : Known) (room : RoomView) (disk : DiskView) → Ready known room disk → Ready nothing_known room disk
nothing_of known room disk ready = record { journal = ready.journal; drives = ready.drives; seen = λ cart seen is no. absurd (cc no) }

-- ---- first changes

-- of several lists of changes: those of the first list, or all
module _ (first : List Stamped) (one : Stamped) (lists : CatalogueLists) (image : Image) (some : ReopensBehind (first ++ one ∷ []) lists image) where
  abbrev all : List Stamped
  all = first ++ one ∷ []

  some_or_one : ReopensBehind first lists image ⊎ ReopensAs (made_by all lists) image
  some_or_one =
      let R : List Stamped → Type 0 = λ changes. ReopensAs (made_by changes lists) image in
      elim (cases_lt (length first) some.count) [
        | inl beyond ↦ inr (subst R (take_all some.count all (omega (arith, beyond, length-append first (one ∷ [])))) some.reopens)
        | inr within ↦ inl (record { count = some.count; within = within; reopens = subst R (take_front some.count first (one ∷ []) within) some.reopens })
      ]

some_or_all : (first more : List Stamped) (lists : CatalogueLists) (image : Image) → length more ≤ 1 → ReopensBehind (first ++ more) lists image
    → ReopensBehind first lists image ⊎ ReopensAs (made_by (first ++ more) lists) image
some_or_all first [] lists image few some =
    let R : List Stamped → Type 0 = λ changes. ReopensBehind changes lists image in
    inl (subst R (append-nil first) some)
some_or_all first (one ∷ []) lists image few some = some_or_one first one lists image some
some_or_all first (one ∷ other ∷ more) lists image few some = absurd (omega (arith, few))

-- behind changes of which a catalogue is the end
as_both : (first more : List Stamped) (lists next : CatalogueLists) (image : Image) → AreIndexed more → catalogue_of next ≡ made_by first lists
    → ReopensAs (made_by more next) image → ReopensAs (made_by (first ++ more) lists) image
as_both first more lists next image indexed same reopens = record {
  reopened = reopens.reopened;
  replays = reopens.replays;
  is = reopens.is ∙ made_alike more next (catalogue_behind first lists) indexed same ∙ ap catalogue_of (sym (catalogue_append first more lists));
}

both_behind : (first more : List Stamped) (lists next : CatalogueLists) (image : Image) → AreIndexed more → catalogue_of next ≡ made_by first lists
    → ReopensBehind more next image → ReopensBehind (first ++ more) lists image
both_behind first more lists next image indexed same some =
    let R : List Stamped → Type 0 = λ changes. ReopensAs (made_by changes lists) image in
    record {
      count = length first + some.count;
      within = omega (arith, some.within, length-append first more);
      reopens = subst R (sym (take_behind first more some.count))
          (as_both first (take some.count more) lists next image (indexed_take some.count more indexed) same some.reopens);
    }

first_behind : (first more : List Stamped) (lists : CatalogueLists) (image : Image) → ReopensBehind first lists image → ReopensBehind (first ++ more) lists image
first_behind first more lists image some =
    let R : List Stamped → Type 0 = λ changes. ReopensAs (made_by changes lists) image in
    record {
      count = some.count;
      within = omega (arith, some.within, length-append first more);
      reopens = subst R (sym (take_front some.count first more some.within)) some.reopens;
    }

-- what a run reopens as, it reopens as with more behind it
fault_more : (passages : List Passage) (one : Passage) (room : RoomView) (image : Image) → ReopensInFault passages room image → ReopensInFault (passages ++ one ∷ []) room image
fault_more passages one room image fault = record {
  before = fault.before;
  one = fault.one;
  more = fault.more ++ one ∷ [];
  parts = ap (λ (list : List Passage). list ++ one ∷ []) fault.parts ∙ append_assoc fault.before (fault.one ∷ fault.more) (one ∷ []);
  reopens = fault.reopens;
}

run_more : (passages : List Passage) (one : Passage) (room : RoomView) (image : Image) → ReopensInRun passages room image → ReopensInRun (passages ++ one ∷ []) room image
run_more passages one room image (inl some) =
    let R : List Stamped → Type 0 = λ changes. ReopensBehind changes room.catalogue image in
    inl (subst R (sym (trail_one_more passages one room)) (first_behind (trail_of passages room) (stands_behind one (behind_all passages room)) room.catalogue image some))
run_more passages one room image (inr fault) = inr (fault_more passages one room image fault)

-- a front of a list with one more is the whole list, or a front of the others
ends_or_within : (passages first more : List Passage) (one : Passage) → passages ++ one ∷ [] ≡ first ++ more
    → (first ≡ passages ++ one ∷ []) ⊎ ((rest : List Passage) × (passages ≡ first ++ rest))
ends_or_within passages [] more one parts = inr (passages, refl)
ends_or_within [] (head ∷ []) more one parts =
    let heads : one ≡ head = cc parts in
    inl (ap (λ (it : Passage). it ∷ []) (sym heads))
ends_or_within [] (head ∷ next ∷ first) more one parts =
    let tails : ◌≡◌ {A = List Passage} [] (next ∷ (first ++ more)) = cc parts in
    absurd (cc tails)
ends_or_within (two ∷ passages) (head ∷ first) more one parts =
    let heads : two ≡ head = cc parts in
    let tails : passages ++ one ∷ [] ≡ first ++ more = cc parts in
    elim (ends_or_within passages first more one tails) [
      | inl whole ↦ inl (ap (λ (it : Passage). it ∷ first) (sym heads) ∙ ap (λ (list : List Passage). two ∷ list) whole)
      | inr front ↦ inr (front.0, ap (λ (list : List Passage). two ∷ list) front.1 ∙ ap (λ (it : Passage). it ∷ (first ++ front.0)) heads)
    ]

-- what holds behind each front of the passages, and behind all with one more, holds behind each front of these
along_more : (passages : List Passage) (one : Passage) (old : RoomView) (first more : List Passage) → passages ++ one ∷ [] ≡ first ++ more
    → IsBehind (passages ++ one ∷ []) old → ((rest : List Passage) → passages ≡ first ++ rest → IsBehind first old) → IsBehind first old
along_more passages one old first more parts whole front =
    let B : List Passage → Type 0 = λ list. IsBehind list old in
    elim (ends_or_within passages first more one parts) [
      | inl all ↦ subst B (sym all) whole
      | inr some ↦ front some.0 some.1
    ]

module _ (passages : List Passage) (call : Call) (deeds : List Deed) (old new : RoomView) (before disk now : DiskView) where
  abbrev at : RoomView
  at = behind_all passages old

  abbrev one : Passage
  one = record { call = call; deeds = deeds; reopening = None }

  abbrev more : List Passage
  more = passages ++ one ∷ []

  module _ (is : IsRoom at) (opens : IsTrue at.is_open) (answered : IsAnswer call at deeds) (performed : Performed deeds at new disk now) (is_disk : IsDisk disk) where
    module _ (told : IsTrue disk.tells) (leads : Leads passages old at before disk) where
      images_at : (image : Image) → Images disk image → ReplaysTo image at.catalogue
      images_at image held =
          let P : Bool → Type 0 = λ is_open. ReopensNow is_open (left_open passages old) at.catalogue image in
          subst P opens (leads.images image held)

      carried : Carried nothing_known deeds at new disk now
      carried = performed.told told nothing_known (answer_founded call at deeds answered) leads.ready

      catalogue_now : catalogue_of (after_all deeds at).catalogue ≡ made_by (trail_of passages old ++ stood deeds at) old.catalogue
      catalogue_now =
          ap catalogue_of (catalogue_is deeds at performed.can)
          ∙ made_alike (stood deeds at) at.catalogue (catalogue_behind (trail_of passages old) old.catalogue) (stood_indexed deeds at performed.can) leads.catalogue
          ∙ ap catalogue_of (sym (catalogue_append (trail_of passages old) (stood deeds at) old.catalogue))

      trail_more : trail_of more old ≡ trail_of passages old ++ stood deeds at
      trail_more = trail_one_more passages one old ∙ ap (λ (rest : List Stamped). trail_of passages old ++ rest) (append-nil (stood deeds at))

      run_now : (image : Image) → ReopensAfterSome IsSnapshot (trail deeds at) at.catalogue image → ReopensInRun more old image
      run_now image some =
          let T : List Stamped → Type 0 = λ changes. ReopensBehind changes at.catalogue image in
          let R : List Stamped → Type 0 = λ changes. ReopensBehind changes old.catalogue image in
          let B : List Stamped → Type 0 = λ changes. ReopensAs (made_by changes at.catalogue) image in
          let both = trail_is deeds at performed.can in
          elim (some_or_all (stood deeds at) (failed deeds at) at.catalogue image (answer_few call at deeds answered)
          (subst T both (behind_some (trail deeds at) at.catalogue image some))) [
            | inl first ↦ inl (subst R (sym trail_more)
                (both_behind (trail_of passages old) (stood deeds at) old.catalogue at.catalogue image (stood_indexed deeds at performed.can) leads.catalogue first))
            | inr whole ↦ inr (record {
              before = passages;
              one = one;
              more = [];
              parts = refl;
              reopens = as_both (trail_of passages old) (trail deeds at) old.catalogue at.catalogue image (trail_indexed deeds at) leads.catalogue (subst B (sym both) whole);
            })
          ]

      image_now : (image : Image) → Images now image → ReopensNow (after_all deeds at).is_open (failed deeds at) (after_all deeds at).catalogue image
      image_now image held =
          let from = carried.images image held in
          let journal = leads.ready.journal opens in
          let knows = knows_alike at.journal disk.reads from.0 (journal.first (from.0 0) (from.1 0)) (journal.second (from.0 1) (from.1 1)) journal.knows in
          ended_reopens deeds at from.0 image is performed.can performed.written (have_snapshots deeds at performed.can) knows (images_at from.0 from.1) opens from.2

      catalogue_more : catalogue_of (after_all deeds at).catalogue ≡ made_by (trail_of more old) old.catalogue
      catalogue_more = catalogue_now ∙ ap (λ (changes : List Stamped). made_by changes old.catalogue) (sym trail_more)

      leads_more : Leads more old (after_all deeds at) before now
      leads_more = record {
        ready = (let R : RoomView → Type 0 = λ room. Ready nothing_known room now in
            subst R performed.room (nothing_of (known_behind_all nothing_known deeds at) new now carried.ready));
        catalogue = catalogue_more;
        along = λ first rest parts. along_more passages one old first rest parts
            (ap (λ (room : RoomView). catalogue_of room.catalogue) (behind_one_more passages one old) ∙ catalogue_more) (leads.along first);
        images = λ image held. (let E : List Stamped → Type 0 = λ entry. ReopensNow (after_all deeds at).is_open entry (after_all deeds at).catalogue image in
            subst E (sym (left_one_more passages one old)) (image_now image held));
        moments = leaves_then before disk now (ReopensInRun more old)
            (leaves_weaker before disk (ReopensInRun passages old) (ReopensInRun more old) leads.moments (run_more passages one old))
            (leaves_weaker disk now (ReopensAfterSome IsSnapshot (trail deeds at) at.catalogue) (ReopensInRun more old)
            (crashes_reopen IsSnapshot nothing_known deeds at new disk now is opens told (answer_founded call at deeds answered) leads.ready
            (have_snapshots deeds at performed.can) (images_at disk.reads is_disk.reads_one) performed) run_now);
      }

    -- one more call
    more_at : IsRoom new → AreAnswered passages old → disk.tells ≡ before.tells
        → ((file : ℕ) → risen_by (failures_in file passages old) (before.faults file) ≤ disk.faults file)
        → Told before.tells (IsServable old before → Leads passages old at before disk) → Served more old new before now
    more_at is_new are tells faults told = record {
      answered = answered_one_more passages one old are opens answered tt;
      is = is_new;
      room = performed.room ∙ sym (behind_one_more passages one old);
      tells = performed.tells ∙ tells;
      faults = λ file. (let P : ℕ → Type 0 = λ count. risen_by count (before.faults file) ≤ now.faults file in
          subst P (sym (failures_one_more file passages one old))
          (risen_twice (failures_in file passages old) (failures file deeds at) (before.faults file) (disk.faults file) (now.faults file) (faults file) (performed.faults file)));
      told = λ tell servable. (let Tells : IsTrue disk.tells = rw tells tell in
          let L : RoomView → Type 0 = λ room. Leads more old room before now in
          subst L (sym performed.room) (leads_more Tells (told tell servable)));
    }

pub served_more : (passages : List Passage) (call : Call) (old mid new : RoomView) (before disk now : DiskView) → Served passages old mid before disk
    → IsTrue mid.is_open → (turn : Turn call mid new disk now) → IsRoom new → IsDisk disk
    → Served (passages ++ record { call = call; deeds = turn.deeds; reopening = None } ∷ []) old new before now
served_more passages call old mid new before disk now so_far opens turn is_new is_disk =
    let same = so_far.room in
    let I : RoomView → Type 0 = λ room. IsRoom room in
    let O : RoomView → Type 0 = λ room. IsTrue room.is_open in
    let A : RoomView → Type 0 = λ room. IsAnswer call room turn.deeds in
    let P : RoomView → Type 0 = λ room. Performed turn.deeds room new disk now in
    let L : RoomView → Type 0 = λ room. Told before.tells (IsServable old before → Leads passages old room before disk) in
    more_at passages call turn.deeds old new before disk now (subst I same so_far.is) (subst O same opens) (subst A same turn.answered) (subst P same turn.performed) is_disk
    is_new so_far.answered so_far.tells so_far.faults (subst L same so_far.told)

-- ---- a reopening

number_behind : (m : Moment) (change : Change) (lists : CatalogueLists) → (catalogue_after m change lists).number ≡ lists.number + 1
number_behind m (Defined resources) lists = refl
number_behind m (Dropped kind name) lists = refl
number_behind m (Loaded slot cart) lists = refl
number_behind m (Ejected slot) lists = refl
number_behind m (Labelled volid cart pool capacity was) lists = refl
number_behind m (Begun head) lists = refl
number_behind m (Finished ssid files bytes digest sections index) lists = refl
number_behind m (Aborted ssid) lists = refl
number_behind m (Amended ssid browse retain hold) lists = refl
number_behind m (Deleted ssid) lists = refl
number_behind m (Purged ssids) lists = refl
number_behind m (CopyBegun ssid copy) lists = refl
number_behind m (CopyDone ssid copy sections removed) lists = refl
number_behind m (IndexPart ssid part index) lists = refl
number_behind m (FinishedParts ssid files bytes digest sections) lists = refl

eqb_same : (a b : ℕ) → a ≡ b → (a == b) ≡ true
eqb_same a b same = elim (eqb_tells a b) [
  | inl is ↦ is.0
  | inr not ↦ absurd (not.1 same)
]

eqb_other : (a b : ℕ) → a ≢ b → (a == b) ≡ false
eqb_other a b apart = elim (eqb_tells a b) [
  | inl is ↦ absurd (apart is.1)
  | inr not ↦ not.0
]

-- the entry that failed is in what was reopened, or isn't: its number tells
found_one : (entry : List Stamped) (lists : CatalogueLists) (reopening : Reopening) (files : Image) → length entry ≤ 1 → ReopensBehind entry lists files
    → ReplaysTo files reopening.catalogue
    → catalogue_of reopening.catalogue ≡ made_by (found_again (Some reopening) lists.number entry) lists
found_one entry lists reopening files few some replays =
    let alike = one_catalogue files reopening.catalogue some.reopens.reopened replays some.reopens.replays in
    let same : catalogue_of reopening.catalogue ≡ made_by (take some.count entry) lists = alike.0 ∙ some.reopens.is in
    by some.count entry few some.within same
  where
    by : (count : ℕ) (entry : List Stamped) → length entry ≤ 1 → count ≤ length entry → catalogue_of reopening.catalogue ≡ made_by (take count entry) lists
        → catalogue_of reopening.catalogue ≡ made_by (found_again (Some reopening) lists.number entry) lists
    by zero entry few within same =
        let number : reopening.catalogue.number ≡ lists.number = ap (λ (catalogue : Catalogue). catalogue.number) same in
        same ∙ ap (λ (changes : List Stamped). made_by changes lists)
        (sym (cond-true (reopening.catalogue.number == lists.number) [] entry (eqb_same reopening.catalogue.number lists.number number)))
    by (suc count) [] few within same = absurd (omega (arith, within))
    by (suc zero) (one ∷ []) few within same =
        let number : reopening.catalogue.number ≡ lists.number + 1 =
        ap (λ (catalogue : Catalogue). catalogue.number) same ∙ number_behind (record { 0 = one.moment }) one.change lists in
        same ∙ ap (λ (changes : List Stamped). made_by changes lists)
        (sym (cond-false (reopening.catalogue.number == lists.number) [] (one ∷ []) (eqb_other reopening.catalogue.number lists.number (λ e. omega (arith, e, number)))))
    by (suc (suc count)) (one ∷ []) few within same = absurd (omega (arith, within))
    by (suc count) (one ∷ other ∷ more) few within same = absurd (omega (arith, few))

-- ---- another last passage

-- the last passage of a list that has one is another, with the same deeds
record Swapped (passages before : List Passage) (last other one : Passage) : Type 0 where
  swapped : Passage
  more : List Passage
  parts : passages ++ other ∷ [] ≡ before ++ swapped ∷ more
  deeds : swapped.deeds ≡ one.deeds

swap_last : (passages before more : List Passage) (last other one : Passage) → other.deeds ≡ last.deeds → passages ++ last ∷ [] ≡ before ++ one ∷ more
    → Swapped passages before last other one
swap_last [] [] more last other one same parts =
    let first : last ≡ one = cc parts in
    record { swapped = other; more = []; parts = refl; deeds = same ∙ ap (λ (it : Passage). it.deeds) first }
swap_last [] (head ∷ before) more last other one same parts =
    let none : [] ≡ before ++ one ∷ more = cc parts in
    absurd (no_end before one more none)
  where
    no_end : (before : List Passage) (one : Passage) (more : List Passage) → [] ≡ before ++ one ∷ more → ⊥
    no_end [] one more none = cc none
    no_end (head ∷ before) one more none = cc none
swap_last (first ∷ passages) [] more last other one same parts =
    let head : first ≡ one = cc parts in
    record {
      swapped = first;
      more = passages ++ other ∷ [];
      parts = refl;
      deeds = ap (λ (it : Passage). it.deeds) head;
    }
swap_last (first ∷ passages) (head ∷ before) more last other one same parts =
    let heads : first ≡ head = cc parts in
    let tails : passages ++ last ∷ [] ≡ before ++ one ∷ more = cc parts in
    let rest = swap_last passages before more last other one same tails in
    record {
      swapped = rest.swapped;
      more = rest.more;
      parts = ap (λ (it : Passage). it ∷ (passages ++ other ∷ [])) heads ∙ ap (λ (list : List Passage). head ∷ list) rest.parts;
      deeds = rest.deeds;
    }

fault_swapped : (passages : List Passage) (last other : Passage) (room : RoomView) (image : Image) → other.deeds ≡ last.deeds
    → ReopensInFault (passages ++ last ∷ []) room image → ReopensInFault (passages ++ other ∷ []) room image
fault_swapped passages last other room image same fault =
    let swapped = swap_last passages fault.before fault.more last other fault.one same fault.parts in
    let R : List Deed → Type 0 = λ deeds. ReopensAs (made_by (trail_of fault.before room ++ trail deeds (behind_all fault.before room)) room.catalogue) image in
    record {
      before = fault.before;
      one = swapped.swapped;
      more = swapped.more;
      parts = swapped.parts;
      reopens = subst R (sym swapped.deeds) fault.reopens;
    }

both_indexed : (first rest : List Stamped) → AreIndexed first → AreIndexed rest → AreIndexed (first ++ rest)
both_indexed [] rest are next = next
both_indexed (change ∷ first) rest are next = (are.0, both_indexed first rest are.1 next)

failed_indexed : (deeds : List Deed) (room : RoomView) → AreIndexed (failed deeds room)
failed_indexed [] room = tt
failed_indexed (Done effect ∷ deeds) room = failed_indexed deeds (after (Done effect) room)
failed_indexed (Broken effect ∷ deeds) room =
    let P : List Stamped → Type 0 = λ list. AreIndexed list in
    both_indexed (entered (Broken effect) room) (failed deeds (after (Broken effect) room))
    (subst P (append-nil (entered (Broken effect) room)) (trail_indexed (Broken effect ∷ []) room)) (failed_indexed deeds (after (Broken effect) room))

found_indexed : (reopening : Reopening) (number : ℕ) (entry : List Stamped) → AreIndexed entry → AreIndexed (found_again (Some reopening) number entry)
found_indexed reopening number entry indexed =
    cond_both (reopening.catalogue.number == number) [] entry (λ (list : List Stamped). AreIndexed list) (λ same. tt) (λ apart. indexed)

module _ (passages : List Passage) (call : Call) (deeds : List Deed) (reopening : Reopening) (old : RoomView) (before disk now : DiskView) where
  abbrev from : RoomView
  from = behind_all passages old

  abbrev shut : RoomView
  shut = after_all deeds from

  abbrev last : Passage
  last = record { call = call; deeds = deeds; reopening = None }

  abbrev other : Passage
  other = record { call = call; deeds = deeds; reopening = Some reopening }

  abbrev found : List Stamped
  found = found_again (Some reopening) shut.catalogue.number (failed deeds from)

  abbrev opened : RoomView
  opened = opened_room reopening.catalogue reopening.journal

  trail_last : trail_of (passages ++ last ∷ []) old ≡ trail_of passages old ++ stood deeds from
  trail_last = trail_one_more passages last old ∙ ap (λ (rest : List Stamped). trail_of passages old ++ rest) (append-nil (stood deeds from))

  trail_other : trail_of (passages ++ other ∷ []) old ≡ trail_of (passages ++ last ∷ []) old ++ found
  trail_other =
      trail_one_more passages other old
      ∙ sym (append_assoc (trail_of passages old) (stood deeds from) found)
      ∙ ap (λ (list : List Stamped). list ++ found) (sym trail_last)

  module _ (closed : shut.is_open ≡ false) (few : length (failed deeds from) ≤ 1) (leads : Leads (passages ++ last ∷ []) old shut before disk)
      (is_disk : IsDisk disk) (quiet : Quiet disk now) (replays : ReplaysTo disk.reads reopening.catalogue) (journal : IsJournal reopening.journal now) where
    run_other : (image : Image) → ReopensInRun (passages ++ last ∷ []) old image → ReopensInRun (passages ++ other ∷ []) old image
    run_other image (inl some) =
        let R : List Stamped → Type 0 = λ changes. ReopensBehind changes old.catalogue image in
        inl (subst R (sym trail_other) (first_behind (trail_of (passages ++ last ∷ []) old) found old.catalogue image some))
    run_other image (inr fault) = inr (fault_swapped passages last other old image refl fault)

    left_behind : ReopensBehind (failed deeds from) shut.catalogue disk.reads
    left_behind =
        let B : Bool → Type 0 = λ is_open. ReopensNow is_open (left_open (passages ++ last ∷ []) old) shut.catalogue disk.reads in
        let E : List Stamped → Type 0 = λ entry. ReopensBehind entry shut.catalogue disk.reads in
        subst E (left_one_more passages last old) (subst B closed (leads.images disk.reads is_disk.reads_one))

    catalogue_on : catalogue_of reopening.catalogue ≡ made_by (trail_of (passages ++ other ∷ []) old) old.catalogue
    catalogue_on = found_one (failed deeds from) shut.catalogue reopening disk.reads few left_behind replays
        ∙ made_alike found shut.catalogue (catalogue_behind (trail_of (passages ++ last ∷ []) old) old.catalogue)
        (found_indexed reopening shut.catalogue.number (failed deeds from) (failed_indexed deeds from)) leads.catalogue
        ∙ ap catalogue_of (sym (catalogue_append (trail_of (passages ++ last ∷ []) old) found old.catalogue))
        ∙ ap (λ (changes : List Stamped). made_by changes old.catalogue) (sym trail_other)

    leads_on : Leads (passages ++ other ∷ []) old opened before now
    leads_on = record {
      ready = opened_is_ready reopening.catalogue reopening.journal now journal;
      catalogue = catalogue_on;
      along = λ first rest parts. along_more passages other old first rest parts
          (ap (λ (room : RoomView). catalogue_of room.catalogue) (behind_one_more passages other old) ∙ catalogue_on)
          (λ (front : List Passage) (is : passages ≡ first ++ front). leads.along first (front ++ last ∷ [])
          (ap (λ (list : List Passage). list ++ last ∷ []) is ∙ append_assoc first front (last ∷ [])));
      images = λ image held. reopens_kept IsSnapshot disk.reads image reopening.catalogue
          (record { first = journal.first (image 0) (held 0) ∙ quiet.reads 0; second = journal.second (image 1) (held 1) ∙ quiet.reads 1 }) replays;
      moments = leaves_quiet before disk now (ReopensInRun (passages ++ other ∷ []) old)
          (leaves_weaker before disk (ReopensInRun (passages ++ last ∷ []) old) (ReopensInRun (passages ++ other ∷ []) old) leads.moments run_other) quiet;
    }

pub served_reopened : (passages : List Passage) (call : Call) (deeds : List Deed) (reopening : Reopening) (old mid : RoomView) (before disk now : DiskView)
    → Served (passages ++ record { call = call; deeds = deeds; reopening = None } ∷ []) old mid before disk → mid.is_open ≡ false
    → IsHeld reopening.catalogue → IsJournalOf reopening.catalogue (record reopening.journal { spare = 0 }) → IsDisk disk → now.tells ≡ disk.tells
    → ((file : ℕ) → disk.faults file ≤ now.faults file) → Told disk.tells (Quiet disk now) → Told disk.tells (ReplaysTo disk.reads reopening.catalogue)
    → Told disk.tells (IsJournal reopening.journal now)
    → Served (passages ++ record { call = call; deeds = deeds; reopening = Some reopening } ∷ []) old (opened_room reopening.catalogue reopening.journal) before now
served_reopened passages call deeds reopening old mid before disk now so_far closed held fits is_disk tells later quiet replays journal =
    let last = last passages call deeds reopening old before disk now in
    let other = other passages call deeds reopening old before disk now in
    let from = behind_all passages old in
    let was = last_answered passages last old so_far.answered in
    let room : mid ≡ after_all deeds from = so_far.room ∙ behind_one_more passages last old in
    let few = answer_few call from deeds was.answered in
    let C : RoomView → Type 0 = λ one. one.is_open ≡ false in
    record {
      answered = answered_one_more passages other old (answered_before passages last old so_far.answered) was.opens was.answered
          (subst C room closed, held, fits);
      is = opened_is_room reopening.catalogue reopening.journal held fits;
      room = sym (behind_one_more passages other old);
      tells = tells ∙ so_far.tells;
      faults = λ file. (let P : ℕ → Type 0 = λ count. risen_by count (before.faults file) ≤ disk.faults file in
          let Q : ℕ → Type 0 = λ count. risen_by count (before.faults file) ≤ now.faults file in
          let least = subst P (failures_one_more file passages last old) (so_far.faults file) in
          subst Q (sym (failures_one_more file passages other old)) (omega (arith, least, later file)));
      told = λ tell servable. (let Tells : IsTrue disk.tells = rw so_far.tells tell in
          let L : RoomView → Type 0 = λ one. Leads (passages ++ last ∷ []) old one before disk in
          leads_on passages call deeds reopening old before disk now (subst C room closed) few (subst L room (so_far.told tell servable)) is_disk
          (quiet Tells) (replays Tells) (journal Tells));
    }
