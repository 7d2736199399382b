-- What crashes leave over a run of a desk.
use Rattle.std.proofs.Common.{◌≡◌, IsTrue, List, [], refl, sym, ap, ◌∙◌, inl, inr, subst, arith, None}
use Rattle.room_disk.specs.Disk.{DiskView, Image, Images, IsDisk}
use Rattle.cat_journal.specs.Journal.{JournalView}
use Rattle.room_catalog.specs.Held.{CatalogueLists, catalogue_of}
use Rattle.room_effects.specs.View.{RoomView, opened_room}
use Rattle.journal_files.specs.Files.{ReplaysTo}
use Rattle.journal_files.proofs.Once.{one_catalogue}
use Rattle.room_turns.specs.Runs.{Passage, trail_of}
use Rattle.room_turns.specs.Served.{Leads, ReopensBehind, ReopensInRun}
use Rattle.desk.specs.declared.end.DeskEnd.{DeskEnd}
use Rattle.desk.specs.Headline.{AllReopenAs, Headline}
use Rattle.desk.specs.Runs.{OpensNoRoom}

module _ (passages : List Passage) (entry : CatalogueLists) (before now : DiskView) (is_disk : IsDisk before) (told : IsTrue before.tells)
    (all : AllReopenAs before entry) where
  -- what was there before reopens as before the first change
  as_before : (first : RoomView) → catalogue_of first.catalogue ≡ catalogue_of entry → (image : Image) → before.since before.moment image
      → ReopensBehind (trail_of passages first) first.catalogue image
  as_before first same image was = record {
    count = 0;
    within = omega arith;
    reopens = record { reopened = entry; replays = all image (is_disk.only_now image was); is = sym same };
  }

  pub run_headline : (catalogue : CatalogueLists) (journal : JournalView) (last : RoomView) → ReplaysTo before.reads catalogue
      → Leads passages (opened_room catalogue journal) last before now → Headline passages entry (opened_room catalogue journal) last before now
  run_headline catalogue journal last replays leads =
      let first = opened_room catalogue journal in
      let same = (one_catalogue before.reads catalogue entry replays (all before.reads is_disk.reads_one)).0 in
      record {
        at_entry = same;
        moments = λ image since. elim (leads.moments.each before.moment image (omega arith) since) [
          | inl was ↦ inl (as_before first same image was)
          | inr more ↦ more
        ];
        whole = leads.catalogue;
        ended = leads.images;
      }

  pub none_headline : (end : DeskEnd) → OpensNoRoom end passages before now
      → (first : RoomView) × ((last : RoomView) × Headline passages entry first last before now)
  none_headline end none =
      let journal : JournalView = record { current = None; last = 0; spare = 0 } in
      let first = opened_room entry journal in
      let quiet = none.quiet told in
      let P : List Passage → Type 0 = λ some. Headline some entry first first before now in (
        first,
        (
          first,
          subst P (sym none.none) (record {
            at_entry = refl;
            moments = λ image since. inl (record {
              count = 0;
              within = omega arith;
              reopens = record { reopened = entry; replays = all image (is_disk.only_now image (quiet.since before.moment image (omega arith) since)); is = refl };
            });
            whole = refl;
            ended = λ image held. all image (λ file. quiet.leaves file (image file) (held file));
          }),
        ),
      )
