-- A session that was opened, and what was prepared before.
use Rattle.std.proofs.Common.{◌≡◌, ℕ, ◌<◌, ◌≤◌, false, List, length, refl, sym, ap, ◌∙◌, subst, arith}
use Rattle.std.specs.Prelude.{Option, Some, None, IsSome, IsTrue, true}
use Rattle.cat_journal.specs.Journal.{JournalView}
use Rattle.save_stream.specs.declared.head.SetHead.{SetHead}
use Rattle.save_session.specs.Sessions.{SessionView, room_for}
use Rattle.catalog_change.specs.declared.change.Change.{Change}
use Rattle.catalog_change.specs.declared.change.Change.TheVariants as changes
use Rattle.catalog_spelling.specs.SpelledSnapshots.{IsText}
use Rattle.room_catalog.specs.Fits.{Fits}
use Rattle.room_catalog.specs.Held.{CatalogueLists, catalogue_of}
use Rattle.room_catalog.specs.Ready.{KeepsRoom}
use Rattle.room_effects.specs.View.{RoomView, IsBetweenCommands}
use Rattle.room_effects.specs.Effects.{Open, after_done}
use Rattle.room_effects.specs.Memory.{HeldRoom, catalogue_in}
use Rattle.room_effects.specs.Needs.{CanDo}
use Rattle.room_effects.proofs.StayingSessions.{one_more}
use Rattle.room_entering.specs.Prepared.{IsFirstFile, IsPrepared}
use Rattle.room_effects.specs.Entering.{is_at_ceiling}
use Rattle.room_state.specs.Memory.{KeepsMemory, TakesMemory}
use Rattle.room_state.proofs.Prepared.{ready_kept}
use Rattle.save_begin.specs.declared.entering.Begun.{Begun}
use Rattle.save_begin.specs.Fitting.{GoesTo, IsNewHead}
use Rattle.save_begin.specs.Writing.{IsMade, MayEnter}
use Rattle.save_begin.proofs.Numbers.{below_is}

-- ---- what was prepared

file_now : (first : Option (List ℕ)) (held now : RoomView) → now.journal ≡ held.journal → now.catalogue ≡ held.catalogue → IsFirstFile first held → IsFirstFile first now
file_now None held now journal catalogue is =
    let J : JournalView → Type 0 = λ it. IsSome it.current in subst J (sym journal) is
file_now (Some snapshot) held now journal catalogue is =
    let C : CatalogueLists → Type 0 = λ it. IsText true snapshot (catalogue_of it) in
    (ap (λ (it : JournalView). it.current) journal ∙ is.0, subst C (sym catalogue) is.1)

-- it is there still where nothing of it was taken
pub prepared_now : (change : Change) (first : Option (List ℕ)) (held now : HeldRoom) → IsPrepared change first held → now.room.catalogue ≡ held.room.catalogue
    → now.room.journal ≡ held.room.journal → KeepsRoom held.memory.catalogue now.memory.catalogue → held.memory.entry ≤ now.memory.entry → IsPrepared change first now
prepared_now change first held now is same journal keeps entry = record {
  memory = λ m. (
    ready_kept change (catalogue_in held) (catalogue_in now) same keeps (is.memory m).0,
    omega (arith, (is.memory m).1, entry),
  );
  short = is.short;
  file = file_now first held.room now.room journal same is.file;
}

-- more was prepared behind it
pub prepared_more : (change : Change) (first : Option (List ℕ)) (held now : HeldRoom) → IsPrepared change first held → now.room ≡ held.room
    → KeepsMemory held.memory now.memory → IsPrepared change first now
prepared_more change first held now is same keeps =
    prepared_now change first held now is (ap (λ (room : RoomView). room.catalogue) same) (ap (λ (room : RoomView). room.journal) same) keeps.catalogue keeps.entry

-- ---- the session

pub can_open : (head : SetHead) (room : RoomView) → IsTrue room.is_open → length room.sessions < 64 → IsNewHead head room → CanDo (Open head) room
can_open head room opens few new = record { opens = opens; needs = record { few = few; new = new.new; allowed = new.allowed } }

pub may_enter : (head : SetHead) (drive : ℕ) (begun : Begun) (held now : HeldRoom) → IsBetweenCommands held.room → is_at_ceiling held.room.catalogue ≡ false
    → length held.room.sessions < held.memory.closed → IsNewHead head held.room → GoesTo head held.room drive → IsMade head begun
    → IsPrepared begun.change begun.first held → now.room ≡ after_done (Open head) held.room → TakesMemory (Open head) held.memory now.memory
    → 0 < room_for head.ssid.0 now.memory.parts → MayEnter head head.ssid drive begun now
may_enter head drive begun held now between below commits new goes made prepared opened takes part =
    let sessions = ap (λ (room : RoomView). room.sessions) opened in
    let catalogue = ap (λ (room : RoomView). room.catalogue) opened in
    let G : RoomView → Type 0 = λ room. GoesTo head room drive in
    record {
      ssid_is = refl;
      allowed = new.allowed;
      made = made;
      opened = record {
        was = held.room;
        between = between;
        new = new.new;
        sessions = sessions;
        records = ap (λ (lists : CatalogueLists). lists.records) catalogue;
      };
      fits = (let C : CatalogueLists → Type 0 = λ lists. Fits (catalogue_of lists) (changes.Begun head) in
          subst C (sym catalogue) ((below_is held.room.catalogue below).0, new.fits));
      goes = subst G (sym opened) (record { is = goes.is; takes = goes.takes });
      prepared = prepared_now begun.change begun.first held now prepared catalogue (ap (λ (room : RoomView). room.journal) opened) takes.catalogue takes.entry;
      part = part;
      commits = omega (arith, commits, takes.closed, one_more head held.room.sessions, ap (λ (all : List SessionView). length all) sessions);
    }
