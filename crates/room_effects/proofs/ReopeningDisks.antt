-- What the journal's files on a disk reopen as, while deeds are done and after them.
use Rattle.std.proofs.Common.{◌≡◌, ℕ, List, [], ◌∷◌, ◌++◌, sym, ap, ◌∙◌, subst}
use Rattle.std.specs.Prelude.{IsTrue}
use Rattle.room_disk.specs.Disk.{DiskView, Image, Images, IsDisk, Leaves}
use Rattle.room_disk.proofs.Runs.{leaves_weaker}
use Rattle.cat_journal.specs.Images.{IsJournal}
use Rattle.cat_journal.specs.Journal.{JournalView}
use Rattle.cat_journal.specs.Meaning.{Damaged, Meaning, Stands, Unopened}
use Rattle.cat_journal.proofs.OneMeaning.{one_meaning}
use Rattle.catalog_change.specs.declared.change.Change.{Change}
use Rattle.catalog_spelling.specs.Changes.{Stamped}
use Rattle.catalog_spelling.specs.Decoding.{ChangeText}
use Rattle.catalog_spelling.proofs.ChangeTexts.{one-change}
use Rattle.room_catalog.specs.Held.{CatalogueLists, catalogue_of}
use Rattle.room_effects.specs.View.{RoomView, IsRoom}
use Rattle.room_effects.specs.Effects.{Deed}
use Rattle.room_effects.specs.Running.{AreFounded, Crashed, FromOne, Known, Performed, Ready, trail}
use Rattle.room_effects.specs.Reopening.{AreAlike, HaveSnapshots, MeansCatalogue, Reopens, ReopensAfterSome}
use Rattle.room_effects.specs.Replaying.{Replays, lists_behind}
use Rattle.room_effects.proofs.Journals.{knows_alike}
use Rattle.room_effects.proofs.Reopening.{crash_reopens, end_reopens}
use Rattle.room_effects.proofs.Standing.{KeepsJournal, reopens_kept}

-- ---- files reopen as one catalogue

stamped_with : ℕ → Change → Stamped
stamped_with moment change = record { moment = moment; change = change }

one_entry : (payload : List ℕ) (one other : Stamped) → ChangeText payload one.moment one.change → ChangeText payload other.moment other.change → one ≡ other
unfolding stamped_with
one_entry payload one other text also =
    let same = one-change one.moment other.moment one.change other.change [] [] text.is also.is (ap (λ (t : List ℕ). t ++ []) (sym text.text ∙ also.text)) in
    ap (λ n. stamped_with n one.change) same.0 ∙ ap (stamped_with other.moment) same.1

-- entries leave one catalogue
replays_once : (form : ℕ) (payloads : List (List ℕ)) (first one other : CatalogueLists) → Replays form payloads first one → Replays form payloads first other → one ≡ other
replays_once form [] first one other replays also = replays ∙ sym also
replays_once form (payload ∷ payloads) first one other replays also =
    let R : Stamped → Type 0 = λ told. Replays form payloads (lists_behind told first) one in
    replays_once form payloads (lists_behind also.0 first) one other (subst R (one_entry payload replays.0 also.0 replays.1.text also.1.text) replays.2) also.2

one_given : (IsSnapshot : CatalogueLists → List ℕ → Type 0)
    → ((bytes : List ℕ) (one other : CatalogueLists) → IsSnapshot one bytes → IsSnapshot other bytes → one ≡ other)
    → (meaning : Meaning) (one other : CatalogueLists) → MeansCatalogue IsSnapshot meaning one → MeansCatalogue IsSnapshot meaning other → AreAlike one other
one_given S single Unopened one other gives also = (gives.0 ∙ sym also.0, gives.1 ∙ sym also.1)
one_given S single (Damaged file place) one other gives also = absurd gives
one_given S single (Stands file contents) one other gives also =
    let R : CatalogueLists → Type 0 = λ first. Replays contents.head.form contents.payloads first one in
    let same = replays_once contents.head.form contents.payloads also.first one other
    (subst R (single contents.snapshot gives.first also.first gives.snapshot also.snapshot) gives.replays) also.replays in
    (ap catalogue_of same, ap (λ (lists : CatalogueLists). lists.parts) same)

-- Where bytes are the snapshot of one catalogue, files reopen as one.
pub reopens_once : (IsSnapshot : CatalogueLists → List ℕ → Type 0)
    → ((bytes : List ℕ) (one other : CatalogueLists) → IsSnapshot one bytes → IsSnapshot other bytes → one ≡ other)
    → (files : Image) (one other : CatalogueLists) → Reopens IsSnapshot files one → Reopens IsSnapshot files other → AreAlike one other
reopens_once S single files one other reopens also =
    let G : Meaning → Type 0 = λ meaning. MeansCatalogue S meaning one in
    one_given S single also.meaning one other (subst G (one_meaning files reopens.meaning also.meaning reopens.means also.means) reopens.gives) also.gives

-- ---- disks

-- Each image of a disk whose journal is settled has the journal's files as they read.
image_kept : (journal : JournalView) (disk : DiskView) (image : Image) → IsJournal journal disk → Images disk image → KeepsJournal disk.reads image
image_kept journal disk image is held = record { first = is.first (image 0) (held 0); second = is.second (image 1) (held 1) }

-- At a crash at any moment of the deeds the journal's files reopen as the catalogue after the first
-- so many changes that were entered.
pub crashes_reopen : (IsSnapshot : CatalogueLists → List ℕ → Type 0) (known : Known) (deeds : List Deed) (old new : RoomView) (before now : DiskView)
    → IsRoom old → IsTrue old.is_open → IsTrue before.tells → AreFounded known deeds old → Ready known old before → HaveSnapshots IsSnapshot deeds old
    → Reopens IsSnapshot before.reads old.catalogue → Performed deeds old new before now
    → Leaves before now (ReopensAfterSome IsSnapshot (trail deeds old) old.catalogue)
crashes_reopen S known deeds old new before now is opens told founded ready spelled reopens performed =
    let journal = ready.journal opens in
    leaves_weaker before now (FromOne before (Crashed deeds old)) (ReopensAfterSome S (trail deeds old) old.catalogue)
    (performed.told told known founded ready).moments
    (λ image from. (let same = image_kept old.journal before from.0 journal from.1 in
    crash_reopens S deeds old from.0 image is performed.can performed.written spelled
    (knows_alike old.journal before.reads from.0 same.first same.second journal.knows) (reopens_kept S before.reads from.0 old.catalogue same reopens) from.2))

-- Once they are done, and the room is open, each image reopens as the room's catalogue.
pub images_reopen : (IsSnapshot : CatalogueLists → List ℕ → Type 0) (known : Known) (deeds : List Deed) (old new : RoomView) (before now : DiskView)
    → IsRoom old → IsTrue old.is_open → IsTrue new.is_open → IsTrue before.tells → AreFounded known deeds old → Ready known old before
    → HaveSnapshots IsSnapshot deeds old → Reopens IsSnapshot before.reads old.catalogue → Performed deeds old new before now
    → (image : Image) → Images now image → Reopens IsSnapshot image new.catalogue
images_reopen S known deeds old new before now is opens still told founded ready spelled reopens performed image held =
    let journal = ready.journal opens in
    let from = (performed.told told known founded ready).images image held in
    let same = image_kept old.journal before from.0 journal from.1 in
    let O : RoomView → Type 0 = λ one. IsTrue one.is_open in
    let R : RoomView → Type 0 = λ one. Reopens S image one.catalogue in
    subst R (sym performed.room)
    (end_reopens S deeds old from.0 image is performed.can performed.written spelled
    (knows_alike old.journal before.reads from.0 same.first same.second journal.knows) (reopens_kept S before.reads from.0 old.catalogue same reopens)
    (subst O performed.room still) from.2).1

-- and what the files read does
pub reads_reopen : (IsSnapshot : CatalogueLists → List ℕ → Type 0) (known : Known) (deeds : List Deed) (old new : RoomView) (before now : DiskView)
    → IsRoom old → IsTrue old.is_open → IsTrue new.is_open → IsTrue before.tells → IsDisk now → AreFounded known deeds old → Ready known old before
    → HaveSnapshots IsSnapshot deeds old → Reopens IsSnapshot before.reads old.catalogue → Performed deeds old new before now
    → Reopens IsSnapshot now.reads new.catalogue
reads_reopen S known deeds old new before now is opens still told is_now founded ready spelled reopens performed =
    images_reopen S known deeds old new before now is opens still told founded ready spelled reopens performed now.reads is_now.reads_one
