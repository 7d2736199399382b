-- The room that a desk opens.
use Rattle.std.proofs.Common.{◌≡◌, ℕ, IsTrue, List, refl, sym, ◌∙◌, subst, arith, Err}
use Rattle.room_base.specs.Outside.{Told}
use Rattle.room_disk.specs.Disk.{DiskView, Image, Images, Quiet}
use Rattle.room_disk.proofs.Runs.{leaves_quiet, quiet_leaves}
use Rattle.room_effects.specs.View.{IsRoom, RoomView, opened_room}
use Rattle.room_effects.specs.Running.{nothing_known}
use Rattle.room_effects.proofs.Opening.{opened_is_ready, opened_is_room}
use Rattle.room_effects.proofs.Readiness.{ready_quiet}
use Rattle.room_effects.proofs.Standing.{reopens_kept}
use Rattle.journal_replay.specs.Answers.{ReplayCause}
use Rattle.journal_files.specs.Files.{IsDamaged, IsSnapshot, ReplaysTo}
use Rattle.journal_replay.specs.declared.fault.ReplayFault.{ReplayFault}
use Rattle.journal_replay.specs.declared.fault.ReplayFault.TheVariants as faults
use Rattle.room_turns.specs.Runs.{Passage}
use Rattle.room_turns.specs.Served.{IsServable, Leads, ReopensInRun, Served}
use Rattle.room_core.specs.Opening.{IsOpenedBy, IsRefusedBy}
use Rattle.desk.specs.Runs.{FailsToOpen}
use Rattle.desk.specs.Steps.{OpensQuietly, end_of}
use Rattle.desk.proofs.SoFar.{still}

-- a room that was just opened may serve
module _ (room : RoomView) (before mid : DiskView) (opened : IsOpenedBy room before mid) (quiet : OpensQuietly before mid) where
  pub opened_is : IsRoom room
  opened_is =
      let I : RoomView → Type 0 = λ one. IsRoom one in
      subst I (sym opened.room_is) (opened_is_room opened.opening.catalogue opened.opening.journal opened.held opened.fits)

  pub opened_opens : IsTrue room.is_open
  opened_opens = let O : RoomView → Type 0 = λ one. IsTrue one.is_open in subst O (sym opened.room_is) refl

  image_replays : IsTrue before.tells → (image : Image) → Images mid image → ReplaysTo image opened.opening.catalogue
  image_replays told image held =
      let journal = opened.journal told in
      let same = quiet.quiet told in
      reopens_kept IsSnapshot before.reads image opened.opening.catalogue
      (record { first = journal.first (image 0) (held 0) ∙ same.reads 0; second = journal.second (image 1) (held 1) ∙ same.reads 1 }) (opened.replays told)

  pub opened_servable : Told before.tells (IsServable (opened_room opened.opening.catalogue opened.opening.journal) mid)
  opened_servable = λ told. record {
    ready = opened_is_ready opened.opening.catalogue opened.opening.journal mid (opened.journal told);
    reopens = image_replays told;
  }

-- what a run leaves, seen from before the opening
module _ (passages : List Passage) (room new : RoomView) (before mid now : DiskView) (quiet : OpensQuietly before mid)
    (servable : Told before.tells (IsServable room mid)) (served : Served passages room new mid now) where
  pub leads_from : Told before.tells (Leads passages room new before now)
  leads_from = λ told.
      let leads = served.told (still before.tells mid.tells quiet.tells told) (servable told) in
      record {
        ready = leads.ready;
        catalogue = leads.catalogue;
        along = leads.along;
        images = leads.images;
        moments = quiet_leaves before mid now (ReopensInRun passages room) (quiet.quiet told) leads.moments;
      }

  pub served_from : Served passages room new before now
  served_from = record {
    answered = served.answered;
    is = served.is;
    room = served.room;
    tells = served.tells ∙ quiet.tells;
    faults = λ file. (let later = quiet.later file in let risen = served.faults file in omega (arith, later, risen));
    told = λ told ready. leads_from told;
  }

-- a run, and an opening behind it that leaves the room as it is
pub served_quietly : (passages : List Passage) (old new : RoomView) (before mid now : DiskView) → Served passages old new before mid → OpensQuietly mid now
    → Served passages old new before now
served_quietly passages old new before mid now served quiet = record {
  answered = served.answered;
  is = served.is;
  room = served.room;
  tells = quiet.tells ∙ served.tells;
  faults = λ file. (let later = quiet.later file in let risen = served.faults file in omega (arith, later, risen));
  told = λ told ready. (let leads = served.told told ready in
      let same = quiet.quiet (still before.tells mid.tells served.tells told) in
      record {
        ready = ready_quiet nothing_known new mid now same leads.ready;
        catalogue = leads.catalogue;
        along = leads.along;
        images = λ image held. leads.images image (λ file. same.leaves file (image file) (held file));
        moments = leaves_quiet before mid now (ReopensInRun passages old) leads.moments same;
      });
}

-- why a room can't be opened, as the desk says it
pub fails_by : {T : Type 0} (fault : ReplayFault) (before now : DiskView) → Told before.tells (IsRefusedBy {T = T} before.reads (Err fault))
    → ReplayCause {T = T} before now (Err fault) → Told before.tells (Quiet before now) → FailsToOpen (end_of fault) before now
fails_by (faults.Damaged file place) before now refused cause quiet = λ told.
    let same = quiet told in
    let reads : before.reads ≡ now.reads = sym (λ i. λ (one : ℕ). same.reads one i) in
    let D : Image → Type 0 = λ files. IsDamaged files file place in
    subst D reads (refused told)
fails_by (faults.Failed file) before now refused cause quiet = (file, cause.cause.0, cause.cause.1)
fails_by faults.Memory before now refused cause quiet = tt
