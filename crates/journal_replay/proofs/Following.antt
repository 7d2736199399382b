-- Which entries tell a change, and what replaying them one more leaves.
use Rattle.std.proofs.Common.{◌≡◌, ℕ, ◌+◌, ◌<◌, Bool, true, false, Ok, List, [], ◌∷◌, ◌++◌, length, get_or, take, drop, refl, sym, ap, ◌∙◌, subst}
use Rattle.std.proofs.lemmas.List.{drop_more, map-append, take-append-drop, take_more}
use Rattle.room_base.specs.declared.numbers.Moment.{Moment}
use Rattle.cat_journal.specs.Entries.{payloads_of}
use Rattle.cat_journal.specs.declared.entry_list.Entry.{Entry}
use Rattle.catalog_change.specs.declared.change.Change.{Change}
use Rattle.catalog_spelling.specs.Changes.{Stamped, change_at}
use Rattle.catalog_spelling.specs.Decoding.{ChangeText, HasBad}
use Rattle.catalog_spelling.proofs.ChangeTexts.{not-bad}
use Rattle.room_catalog.specs.Changing.{lists_after}
use Rattle.room_catalog.specs.Held.{CatalogueLists}
use Rattle.journal_replay.specs.Answers.{StraysAmong, TellsChange}
use Rattle.room_effects.specs.Replaying.{Follows, MayFollow, Replays, lists_behind}
use Rattle.room_effects.proofs.Standing.{replays_more}
use Rattle.journal_files.specs.Files.{IsStray}
use Rattle.journal_files.proofs.Single.{one_change}

-- ---- entries that tell no change

pub stray_bad : (form : ℕ) (payload : List ℕ) (lists : CatalogueLists) (place : ℕ) → HasBad change_at payload place → IsStray form payload lists
stray_bad form payload lists place bad = λ one follows. not-bad payload one.moment place one.change follows.text bad

pub stray_unfit : (form : ℕ) (payload : List ℕ) (lists : CatalogueLists) (moment : ℕ) (change : Change) → ChangeText payload moment change → ¬ MayFollow form lists change
    → IsStray form payload lists
stray_unfit form payload lists moment change text unfit = λ one follows.
    let M : Change → Type 0 = λ one. MayFollow form lists one in
    unfit (subst M (sym (one_change payload moment one.moment change one.change text follows.text).1) follows.may)

-- ---- entries that tell one

pub tells : (form : ℕ) (payload : List ℕ) (old new : CatalogueLists) (m : Moment) (change : Change) → ChangeText payload m.0 change → MayFollow form old change → new ≡ lists_after m change old
    → (one : Stamped) × Follows form payload old one × (new ≡ lists_behind one old)
tells form payload old new m change text may made = (record { moment = m.0; change = change }, record { text = text; may = may }, made)

-- what was answered of an entry with these bytes
pub told_stray : (form : ℕ) (bytes payload : List ℕ) (old new : CatalogueLists) (told : Bool) → bytes ≡ payload → told ≡ false → TellsChange form bytes old new (Ok told)
    → IsStray form payload old
told_stray form bytes payload old new told same none tells =
    let T : Bool → Type 0 = λ told. TellsChange form payload old new (Ok told) in
    let B : List ℕ → Type 0 = λ bytes. TellsChange form bytes old new (Ok told) in
    subst T none (subst B same tells)

pub told_change : (form : ℕ) (bytes payload : List ℕ) (old new : CatalogueLists) (told : Bool) → bytes ≡ payload → told ≡ true → TellsChange form bytes old new (Ok told)
    → (one : Stamped) × Follows form payload old one × (new ≡ lists_behind one old)
told_change form bytes payload old new told same is tells =
    let T : Bool → Type 0 = λ told. TellsChange form payload old new (Ok told) in
    let B : List ℕ → Type 0 = λ bytes. TellsChange form bytes old new (Ok told) in
    subst T is (subst B same tells)

-- ---- the entries of a file

abbrev bytes_of : Entry → List ℕ
bytes_of entry = entry.bytes

-- one entry more is applied
pub replays_next : (form : ℕ) (entries : List Entry) (i : ℕ) (entry : Entry) (first mid end : CatalogueLists) → i < length entries → entry ≡ get_or entries i entry
    → Replays form (payloads_of (take i entries)) first mid → (one : Stamped) × Follows form entry.bytes mid one × (end ≡ lists_behind one mid)
    → Replays form (payloads_of (take (i + 1) entries)) first end
replays_next form entries i entry first mid end within is replays told =
    let R : List (List ℕ) → Type 0 = λ payloads. Replays form payloads first end in
    subst R
    (sym (ap payloads_of (take_more entries i entry within) ∙ map-append bytes_of (take i entries) (get_or entries i entry ∷ [])
    ∙ ap (λ (one : Entry). payloads_of (take i entries) ++ one.bytes ∷ []) (sym is)))
    (replays_more form (payloads_of (take i entries)) entry.bytes first mid end replays told)

-- it tells no change
pub strays_among : (form : ℕ) (entries : List Entry) (i : ℕ) (entry : Entry) (first mid : CatalogueLists) → i < length entries → entry ≡ get_or entries i entry
    → Replays form (payloads_of (take i entries)) first mid → IsStray form entry.bytes mid → StraysAmong form entries first entry.place
strays_among form entries i entry first mid within is replays stray = record {
  before = take i entries;
  stray = entry;
  more = drop (i + 1) entries;
  parts = sym (take-append-drop i entries) ∙ ap (λ (rest : List Entry). take i entries ++ rest) (drop_more entries i entry within)
      ∙ ap (λ (one : Entry). take i entries ++ one ∷ drop (i + 1) entries) (sym is);
  lists = mid;
  replays = replays;
  is = stray;
  placed = refl;
}
