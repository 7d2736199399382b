-- What each effect makes of the catalogue that the journal's files reopen as.
use Rattle.std.proofs.Common.{◌≡◌, ◌≢◌, ℕ, ◌+◌, ◌-◌, ◌≤◌, Bool, true, false, if◌then◌else◌, List, [], length, refl, sym, ap, ◌∙◌, subst, arith, inl, inr}
use Rattle.std.specs.Prelude.{◌⊎◌, Option, Some, None}
use Rattle.room_base.specs.declared.numbers.Moment.{Moment}
use Rattle.room_base.specs.declared.numbers.Ssid.{Ssid}
use Rattle.room_disk.specs.Crash.{AnewTorn, IsAnew}
use Rattle.room_disk.specs.Disk.{Image}
use Rattle.save_stream.specs.declared.entry.IndexEntry.{IndexEntry}
use Rattle.cat_journal.specs.Contents.{Contents, Holds, IsFront, contents_of, number_after, with_payload}
use Rattle.cat_journal.specs.Journal.{IsAt, StandOn, behind_entry, file_of, form_of, new_text, next_file, next_generation, next_head}
use Rattle.cat_journal.specs.Meaning.{Meaning, Means, Stands}
use Rattle.cat_journal.specs.declared.current.CurrentFile.{CurrentFile}
use Rattle.cat_journal.proofs.Images.{number_change, number_part}
use Rattle.cat_journal.proofs.OneMeaning.{one_current, one_front, one_meaning}
use Rattle.cat_journal.proofs.Standing.{current_holds, file_is, front_of_held, knows_behind, stands_with}
use Rattle.cat_journal.proofs.Turning.{knows_new, turned, turned_whole}
use Rattle.catalog_change.specs.declared.change.Change.{Change}
use Rattle.catalog_change.specs.declared.change.Change.TheVariants.{IndexPart, FinishedParts}
use Rattle.catalog_spelling.specs.Changes.{Stamped, change_text}
use Rattle.catalog_spelling.specs.Decoding.{IsStamped}
use Rattle.room_catalog.specs.Fits.{AreParts, FitsParts}
use Rattle.room_catalog.specs.Held.{CatalogueLists, Parts, no_parts}
use Rattle.room_effects.specs.View.{RoomView}
use Rattle.room_effects.specs.Effects.{Broken, Enter, EnterPart, TurnOver, after_done, entry_bytes}
use Rattle.room_effects.specs.Effects.{is_at_last, part_bytes, turned as turned_by}
use Rattle.room_catalog.specs.Changing.{catalogue_after, lists_after, with_part_waiting, without_parts}
use Rattle.room_effects.specs.Files.{MayTurnOver, Torn, Touches, TurnsOver, Whole, file_or_none, target}
use Rattle.room_effects.specs.Needs.{CanDo, IsFitting, IsWholeChange}
use Rattle.room_effects.specs.Running.{entered}
use Rattle.room_effects.specs.Reopening.{GiveCatalogue, HasItsSnapshot, Reopens, ReopensAfterSome}
use Rattle.room_effects.specs.Replaying.{Follows, MayStandIn}
use Rattle.room_effects.proofs.Changing.{after_indexed}
use Rattle.room_effects.proofs.Entering.{entry_is_part, entry_is_whole, last_is_not, turned_last, turned_on, turned_room}
use Rattle.room_effects.proofs.Journals.{HasRange, next_in_range, next_is}
use Rattle.room_effects.proofs.Standing.{HasKnownContents, KeepsJournal, StandsAs, form_at, gives_more, known_contents, reopens_as, reopens_kept, same_file, same_form, same_range, stand_on, stands_kept}
use Rattle.room_effects.proofs.StayingJournal.{number_after_change}

-- none of the changes is there
pub reopens_before : (IsSnapshot : CatalogueLists → List ℕ → Type 0) (changes : List Stamped) (lists : CatalogueLists) (image : Image)
    → Reopens IsSnapshot image lists → ReopensAfterSome IsSnapshot changes lists image
reopens_before IsSnapshot changes lists image reopens = record { count = 0; within = omega arith; reopened = lists; reopens = reopens; is = refl }

-- ---- one entry more

-- a change that isn't a part is told as itself
told_whole : (m : Moment) (change : Change) (lists : CatalogueLists) → IsWholeChange change → lists_after m change lists ≡ catalogue_after m change lists
told_whole m (IndexPart ssid part index) lists whole = absurd whole
told_whole m change lists whole = refl

-- a file has one of the two forms
one_form : (current : Option CurrentFile) → HasRange current → (form_of current ≡ 1) ⊎ (form_of current ≡ 2)
one_form None range = inr refl
one_form (Some current) range = elim range.0 [ inl first ↦ inl first.0 | inr second ↦ inr second.0 ]

-- parts are closed only where some wait, as they do in no file of form 1
may_close : (form : ℕ) (parts : Parts) (ssid files : ℕ) → (form ≡ 1) ⊎ (form ≡ 2) → (form ≡ 1 → parts ≡ no_parts) → AreParts parts ssid files → form ≡ 2
may_close form parts ssid files (inl first) bare are = absurd (omega (arith, are.some, ap (λ (all : Parts). all.count) (bare first)))
may_close form parts ssid files (inr second) bare are = second

may_stand : (form : ℕ) (parts : Parts) (change : Change) → (form ≡ 1) ⊎ (form ≡ 2) → (form ≡ 1 → parts ≡ no_parts) → IsWholeChange change → FitsParts parts change → MayStandIn form change
may_stand form parts (IndexPart ssid part index) is bare whole fits = absurd whole
may_stand form parts (FinishedParts ssid files bytes digest sections) is bare whole fits = may_close form parts ssid.0 files is bare fits
may_stand form parts change is bare whole fits = tt

abbrev stamp : Moment → Change → Stamped
stamp m change = record { moment = m.0; change = change }

-- the entry of a change or of a part follows those of the file
follows_at : (IsSnapshot : CatalogueLists → List ℕ → Type 0) (m : Moment) (change : Change) (room : RoomView) (before : Image)
    (has : HasKnownContents IsSnapshot room.journal.current room.journal.last room.catalogue before) → IsStamped m.0 change → MayStandIn (form_of room.journal.current) change
    → IsFitting change room → Follows has.contents.head.form (change_text m.0 change) room.catalogue (stamp m change)
follows_at IsSnapshot m change room before has written may fitting =
    let F : ℕ → Type 0 = λ form. Follows form (change_text m.0 change) room.catalogue (stamp m change) in
    subst F (form_at room.journal.current room.journal.last has.contents has.at)
    (record { text = record { is = written; text = refl }; may = record { stands = may; fits = fitting.fits; parts = fitting.parts_fit } })

-- the other file of the two
other_is_other : (file : ℕ) → file ≤ 1 → 1 - file ≢ file
other_is_other file le same = omega (arith, le, same)

-- the contents with one entry more stand in the file that holds them
stands_more : (IsSnapshot : CatalogueLists → List ℕ → Type 0) (current : Option CurrentFile) (last : ℕ) (lists : CatalogueLists) (payload : List ℕ) (before image : Image)
    (has : HasKnownContents IsSnapshot current last lists before) → ((other : ℕ) → other ≢ file_of current → image other ≡ before other)
    → Holds (image (file_of current)) (with_payload has.contents payload) → Means image (Stands (file_of current) (with_payload has.contents payload))
stands_more IsSnapshot current last lists payload before image has others held =
    let file = file_of current in
    stands_with before image file has.contents (with_payload has.contents payload) has.means refl refl held
    (others (1 - file) (other_is_other file (file_is before file has.contents has.means)))

-- and so do the contents as they were
stands_still : (IsSnapshot : CatalogueLists → List ℕ → Type 0) (current : Option CurrentFile) (last : ℕ) (lists : CatalogueLists) (before image : Image)
    (has : HasKnownContents IsSnapshot current last lists before) → ((other : ℕ) → other ≢ file_of current → image other ≡ before other)
    → Holds (image (file_of current)) has.contents → Means image (Stands (file_of current) has.contents)
stands_still IsSnapshot current last lists before image has others held =
    let file = file_of current in
    stands_with before image file has.contents has.contents has.means refl refl held
    (others (1 - file) (other_is_other file (file_is before file has.contents has.means)))

-- the journal behind one entry more knows its files
knows_behind_one : (current : Option CurrentFile) (last next : ℕ) (contents : Contents) (payload : List ℕ) (image : Image) → IsAt current last contents
    → next ≡ number_after (form_of current) last payload → Means image (Stands (file_of current) (with_payload contents payload))
    → StandOn (behind_entry current (length payload)) next image
knows_behind_one current last next contents payload image at counted means =
    let size = length payload in
    let A : ℕ → Type 0 = λ n. IsAt (behind_entry current size) n (with_payload contents payload) in
    let M : ℕ → Type 0 = λ f. Means image (Stands f (with_payload contents payload)) in
    stand_on (behind_entry current size) next image (with_payload contents payload)
    (subst A (sym counted) (knows_behind current last contents payload at)) (subst M (sym (same_file current size)) means)

-- ---- changes

pub enter_stands : (IsSnapshot : CatalogueLists → List ℕ → Type 0) (m : Moment) (change : Change) (room : RoomView) (before image : Image) → CanDo (Enter m change) room → IsStamped m.0 change
    → Touches (target (Enter m change) room) (Whole (Enter m change) room) before image → StandsAs IsSnapshot room before
    → StandsAs IsSnapshot (after_done (Enter m change) room) image
enter_stands IsSnapshot m change room before image can written touched stands =
    let journal = room.journal in
    let current = journal.current in
    let payload = entry_bytes m change in
    let has = known_contents IsSnapshot room before can.needs.entry.file stands in
    let follows = follows_at IsSnapshot m change room before has written
    (may_stand (form_of current) room.catalogue.parts change (one_form current stands.range) stands.bare can.needs.whole can.needs.fitting.parts_fit) can.needs.fitting in
    let held = touched.this has.contents has.at (current_holds before (file_of current) has.contents has.means) in
    let means = stands_more IsSnapshot current journal.last room.catalogue payload before image has touched.others held in
    let G : CatalogueLists → Type 0 = λ lists. GiveCatalogue IsSnapshot (with_payload has.contents payload) lists in
    record {
      number = ap (λ n. n + 1) stands.number ∙ sym (number_after_change m change room.catalogue);
      bound = omega (arith, stands.number, can.needs.fitting.fits.0);
      range = same_range current (length payload) stands.range;
      drives = stands.drives;
      bare = λ first. refl;
      knows = knows_behind_one current journal.last (journal.last + 1) has.contents payload image has.at
          (number_change (form_of current) journal.last payload (entry_is_whole journal m change can.needs.whole)) means;
      reopens = reopens_as IsSnapshot image (file_of current) (with_payload has.contents payload) (catalogue_after m change room.catalogue) means
          (subst G (told_whole m change room.catalogue can.needs.whole) (gives_more IsSnapshot has.contents room.catalogue payload (stamp m change) follows has.gives));
    }

pub enter_cut : (IsSnapshot : CatalogueLists → List ℕ → Type 0) (m : Moment) (change : Change) (room : RoomView) (before image : Image) → CanDo (Enter m change) room → IsStamped m.0 change
    → Touches (target (Enter m change) room) (Torn (Enter m change) room) before image → StandsAs IsSnapshot room before
    → ReopensAfterSome IsSnapshot (entered (Broken (Enter m change)) room) room.catalogue image
enter_cut IsSnapshot m change room before image can written touched stands =
    let journal = room.journal in
    let current = journal.current in
    let payload = entry_bytes m change in
    let has = known_contents IsSnapshot room before can.needs.entry.file stands in
    let follows = follows_at IsSnapshot m change room before has written
    (may_stand (form_of current) room.catalogue.parts change (one_form current stands.range) stands.bare can.needs.whole can.needs.fitting.parts_fit) can.needs.fitting in
    let G : CatalogueLists → Type 0 = λ lists. GiveCatalogue IsSnapshot (with_payload has.contents payload) lists in
    elim (touched.this has.contents has.at (current_holds before (file_of current) has.contents has.means)) [
      | inl kept ↦ reopens_before IsSnapshot (entered (Broken (Enter m change)) room) room.catalogue image
          (reopens_as IsSnapshot image (file_of current) has.contents room.catalogue
          (stands_still IsSnapshot current journal.last room.catalogue before image has touched.others kept) has.gives)
      | inr more ↦ record {
        count = 1;
        within = omega arith;
        reopened = catalogue_after m change room.catalogue;
        reopens = reopens_as IsSnapshot image (file_of current) (with_payload has.contents payload) (catalogue_after m change room.catalogue)
            (stands_more IsSnapshot current journal.last room.catalogue payload before image has touched.others more)
            (subst G (told_whole m change room.catalogue can.needs.whole) (gives_more IsSnapshot has.contents room.catalogue payload (stamp m change) follows has.gives));
        is = ap without_parts (sym (after_indexed m change room.catalogue));
      }
    ]

-- ---- parts

pub part_stands : (IsSnapshot : CatalogueLists → List ℕ → Type 0) (m : Moment) (ssid : Ssid) (part : ℕ) (index : List IndexEntry) (room : RoomView) (before image : Image)
    → CanDo (EnterPart m ssid part index) room → IsStamped m.0 (IndexPart ssid part index)
    → Touches (target (EnterPart m ssid part index) room) (Whole (EnterPart m ssid part index) room) before image → StandsAs IsSnapshot room before
    → StandsAs IsSnapshot (after_done (EnterPart m ssid part index) room) image
part_stands IsSnapshot m ssid part index room before image can written touched stands =
    let journal = room.journal in
    let current = journal.current in
    let payload = part_bytes m ssid part index in
    let has = known_contents IsSnapshot room before can.needs.entry.file stands in
    let follows = follows_at IsSnapshot m (IndexPart ssid part index) room before has written can.needs.form can.needs.fitting in
    let held = touched.this has.contents has.at (current_holds before (file_of current) has.contents has.means) in
    let means = stands_more IsSnapshot current journal.last room.catalogue payload before image has touched.others held in
    record {
      number = stands.number;
      bound = stands.bound;
      range = same_range current (length payload) stands.range;
      drives = stands.drives;
      bare = λ first. absurd (omega (arith, sym (same_form current (length payload)) ∙ first, can.needs.form));
      knows = knows_behind_one current journal.last journal.last has.contents payload image has.at
          (number_part (form_of current) journal.last payload (entry_is_part journal m ssid part index can.needs.form)) means;
      reopens = reopens_as IsSnapshot image (file_of current) (with_payload has.contents payload) (with_part_waiting ssid part index room.catalogue) means
          (gives_more IsSnapshot has.contents room.catalogue payload (stamp m (IndexPart ssid part index)) follows has.gives);
    }

pub part_cut : (IsSnapshot : CatalogueLists → List ℕ → Type 0) (m : Moment) (ssid : Ssid) (part : ℕ) (index : List IndexEntry) (room : RoomView) (before image : Image)
    → CanDo (EnterPart m ssid part index) room → IsStamped m.0 (IndexPart ssid part index)
    → Touches (target (EnterPart m ssid part index) room) (Torn (EnterPart m ssid part index) room) before image → StandsAs IsSnapshot room before
    → ReopensAfterSome IsSnapshot [] room.catalogue image
part_cut IsSnapshot m ssid part index room before image can written touched stands =
    let journal = room.journal in
    let current = journal.current in
    let payload = part_bytes m ssid part index in
    let has = known_contents IsSnapshot room before can.needs.entry.file stands in
    let follows = follows_at IsSnapshot m (IndexPart ssid part index) room before has written can.needs.form can.needs.fitting in
    elim (touched.this has.contents has.at (current_holds before (file_of current) has.contents has.means)) [
      | inl kept ↦ reopens_before IsSnapshot [] room.catalogue image
          (reopens_as IsSnapshot image (file_of current) has.contents room.catalogue
          (stands_still IsSnapshot current journal.last room.catalogue before image has touched.others kept) has.gives)
      | inr more ↦ record {
        count = 0;
        within = omega arith;
        reopened = with_part_waiting ssid part index room.catalogue;
        reopens = reopens_as IsSnapshot image (file_of current) (with_payload has.contents payload) (with_part_waiting ssid part index room.catalogue)
            (stands_more IsSnapshot current journal.last room.catalogue payload before image has touched.others more)
            (gives_more IsSnapshot has.contents room.catalogue payload (stamp m (IndexPart ssid part index)) follows has.gives);
        is = refl;
      }
    ]

-- ---- a turn-over

one_of : (one other : Contents) → Stands 0 one ≡ Stands 0 other → one ≡ other
one_of one other same = cc same

-- bytes hold one contents
one_held : (bytes : List ℕ) (one other : Contents) → Holds bytes one → Holds bytes other → one ≡ other
one_held bytes one other held also =
    let fronts = one_front bytes one.head other.head one.snapshot other.snapshot (front_of_held bytes one held) (front_of_held bytes other also) in
    one_of one other (one_current 0 bytes one.head one.snapshot (Stands 0 one) (Stands 0 other) (refl, refl, refl, held) (refl, sym fronts.0, sym fronts.1, also))

-- a journal whose current file is as it was has its contents still
turn_kept : (IsSnapshot : CatalogueLists → List ℕ → Type 0) (current : Option CurrentFile) (last : ℕ) (lists : CatalogueLists) (before image : Image)
    → StandOn current last before → Reopens IsSnapshot before lists → image (1 - next_file current) ≡ before (1 - next_file current) → StandOn current last image
    → Reopens IsSnapshot image lists
turn_kept IsSnapshot None last lists before image knows reopens same now = record {
  meaning = reopens.meaning;
  means = (let M : Meaning → Type 0 = λ meaning. Means image meaning in subst M (one_meaning before _ reopens.meaning knows reopens.means) now);
  gives = reopens.gives;
}
turn_kept IsSnapshot (Some current) last lists before image knows reopens same now =
    let le = file_is before current.file knows.0 knows.2 in
    let here : 1 - (1 - current.file) ≡ current.file = omega (arith, le) in
    let S : ℕ → Type 0 = λ f. image f ≡ before f in
    let H : List ℕ → Type 0 = λ bytes. Holds bytes knows.0 in
    let alike : knows.0 ≡ now.0 = one_held (image current.file) knows.0 now.0
    (subst H (sym (subst S here same)) (current_holds before current.file knows.0 knows.2)) (current_holds image current.file now.0 now.2) in
    let M : Contents → Type 0 = λ contents. Means image (Stands current.file contents) in
    record {
      meaning = reopens.meaning;
      means = (let N : Meaning → Type 0 = λ meaning. Means image meaning in
          subst N (one_meaning before (Stands current.file knows.0) reopens.meaning knows.2 reopens.means) (subst M (sym alike) now.2));
      gives = reopens.gives;
    }

turn_allowed : (IsSnapshot : CatalogueLists → List ℕ → Type 0) (snapshot : List ℕ) (room : RoomView) (files : Image) → CanDo (TurnOver snapshot) room
    → StandsAs IsSnapshot room files → is_at_last room.journal ≡ false → IsFront (next_head room.journal) snapshot
turn_allowed IsSnapshot snapshot room files can stands next =
    let range = next_in_range room.journal.current stands.range (last_is_not room.journal next) in
    record {
      fields = record { form = inr (refl, range.1); first = range.0; number = omega (arith, stands.bound) };
      size = omega (arith, can.needs.place);
    }

-- the snapshot alone gives the catalogue without parts
gives_snapshot : (IsSnapshot : CatalogueLists → List ℕ → Type 0) (snapshot : List ℕ) (room : RoomView) (files : Image) → StandsAs IsSnapshot room files
    → HasItsSnapshot IsSnapshot (TurnOver snapshot) room
    → GiveCatalogue IsSnapshot (contents_of (next_head room.journal) snapshot []) (without_parts room.catalogue)
gives_snapshot IsSnapshot snapshot room files stands spelled = record {
  first = without_parts room.catalogue;
  snapshot = spelled;
  number = sym stands.number;
  replays = refl;
}

turned_stands : (IsSnapshot : CatalogueLists → List ℕ → Type 0) (snapshot : List ℕ) (room : RoomView) (before image : Image) → CanDo (TurnOver snapshot) room
    → is_at_last room.journal ≡ false
    → Touches (next_file room.journal.current) (IsAnew 0x4A (new_text (next_head room.journal) snapshot)) before image
    → HasItsSnapshot IsSnapshot (TurnOver snapshot) room → StandsAs IsSnapshot room before → StandsAs IsSnapshot (turned_room (length snapshot) room) image
turned_stands IsSnapshot snapshot room before image can next touched spelled stands =
    let journal = room.journal in
    let file = next_file journal.current in
    let range = next_in_range journal.current stands.range (last_is_not journal next) in
    let contents = contents_of (next_head journal) snapshot [] in
    let means = turned_whole before image journal snapshot stands.knows (turn_allowed IsSnapshot snapshot room before can stands next)
    (touched.others (1 - file) (other_is_other file (next_is journal.current))) touched.this in
    record {
      number = stands.number;
      bound = stands.bound;
      range = (inr (refl, range.1), range.0);
      drives = stands.drives;
      bare = λ first. refl;
      knows = (contents, knows_new file (next_generation journal.current) journal.last snapshot, means);
      reopens = reopens_as IsSnapshot image file contents (without_parts room.catalogue) means (gives_snapshot IsSnapshot snapshot room before stands spelled);
    }

-- both files are as they were
pub kept_same : (before image : Image) → Touches 0 (λ old new. new ≡ old) before image → KeepsJournal before image
kept_same before image touched = record { first = touched.this; second = touched.others 1 (λ same. omega (arith, same)) }

pub turn_over_stands : (IsSnapshot : CatalogueLists → List ℕ → Type 0) (snapshot : List ℕ) (room : RoomView) (before image : Image) → CanDo (TurnOver snapshot) room
    → Touches (target (TurnOver snapshot) room) (Whole (TurnOver snapshot) room) before image
    → HasItsSnapshot IsSnapshot (TurnOver snapshot) room → StandsAs IsSnapshot room before → StandsAs IsSnapshot (after_done (TurnOver snapshot) room) image
turn_over_stands IsSnapshot snapshot room before image can touched spelled stands = by (is_at_last room.journal) refl
  where
    by : (last : Bool) → is_at_last room.journal ≡ last → StandsAs IsSnapshot (turned_by (length snapshot) room) image
    by true last =
        let P : RoomView → Type 0 = λ one. StandsAs IsSnapshot one image in
        let T : Bool → Type 0 = λ b. Touches (file_or_none (if b then None else Some (next_file room.journal.current))) (TurnsOver b room.journal snapshot) before image in
        subst P (sym (turned_last (length snapshot) room last))
        (stands_kept IsSnapshot room room before image (kept_same before image (subst T last touched)) refl refl stands.drives stands)
    by false next =
        let P : RoomView → Type 0 = λ one. StandsAs IsSnapshot one image in
        let T : Bool → Type 0 = λ b. Touches (file_or_none (if b then None else Some (next_file room.journal.current))) (TurnsOver b room.journal snapshot) before image in
        subst P (sym (turned_on (length snapshot) room next))
        (turned_stands IsSnapshot snapshot room before image can next (subst T next touched) spelled stands)

turned_cut : (IsSnapshot : CatalogueLists → List ℕ → Type 0) (snapshot : List ℕ) (room : RoomView) (before image : Image) → CanDo (TurnOver snapshot) room
    → is_at_last room.journal ≡ false
    → Touches (next_file room.journal.current) (AnewTorn 0x4A (new_text (next_head room.journal) snapshot)) before image
    → HasItsSnapshot IsSnapshot (TurnOver snapshot) room → StandsAs IsSnapshot room before → ReopensAfterSome IsSnapshot [] room.catalogue image
turned_cut IsSnapshot snapshot room before image can next touched spelled stands =
    let journal = room.journal in
    let file = next_file journal.current in
    let contents = contents_of (next_head journal) snapshot [] in
    let same = touched.others (1 - file) (other_is_other file (next_is journal.current)) in
    elim (turned before image journal snapshot stands.knows (turn_allowed IsSnapshot snapshot room before can stands next) same touched.this) [
      | inl kept ↦ reopens_before IsSnapshot [] room.catalogue image
          (turn_kept IsSnapshot journal.current journal.last room.catalogue before image stands.knows stands.reopens same kept)
      | inr new ↦ record {
        count = 0;
        within = omega arith;
        reopened = without_parts room.catalogue;
        reopens = reopens_as IsSnapshot image file contents (without_parts room.catalogue) new (gives_snapshot IsSnapshot snapshot room before stands spelled);
        is = refl;
      }
    ]

pub turn_over_cut : (IsSnapshot : CatalogueLists → List ℕ → Type 0) (snapshot : List ℕ) (room : RoomView) (before image : Image) → CanDo (TurnOver snapshot) room
    → Touches (target (TurnOver snapshot) room) (Torn (TurnOver snapshot) room) before image
    → HasItsSnapshot IsSnapshot (TurnOver snapshot) room → StandsAs IsSnapshot room before → ReopensAfterSome IsSnapshot [] room.catalogue image
turn_over_cut IsSnapshot snapshot room before image can touched spelled stands = by (is_at_last room.journal) refl
  where
    by : (last : Bool) → is_at_last room.journal ≡ last → ReopensAfterSome IsSnapshot [] room.catalogue image
    by true last =
        let T : Bool → Type 0 = λ b. Touches (file_or_none (if b then None else Some (next_file room.journal.current))) (MayTurnOver b room.journal snapshot) before image in
        reopens_before IsSnapshot [] room.catalogue image
        (reopens_kept IsSnapshot before image room.catalogue (kept_same before image (subst T last touched)) stands.reopens)
    by false next =
        let T : Bool → Type 0 = λ b. Touches (file_or_none (if b then None else Some (next_file room.journal.current))) (MayTurnOver b room.journal snapshot) before image in
        turned_cut IsSnapshot snapshot room before image can next (subst T next touched) spelled stands
