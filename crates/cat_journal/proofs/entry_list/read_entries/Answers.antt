use Rattle.std.proofs.Common.{◌≡◌, ◌+◌, ◌-◌, ◌∙◌, ap, arith}
use Rattle.std.specs.Prelude.{IsTrue}
use Rattle.room_disk.proofs.Runs.{quiet_then}
use Rattle.cat_journal.specs.Reads.{ahead}
use Rattle.cat_journal.specs.declared.entry_list.EntryList.{EntryList}
use Rattle.cat_journal.proofs.Listing.{one_more, room_ahead, finds_at, counted_more}
use Rattle.cat_journal.proofs.entry_list.read_entries.Goals as goal

pub loop-list-preserved : goal.loop-list-preserved
loop-list-preserved g c =
    let start = g.D.Store.view c.args.store.now in
    let here = g.D.Store.view c.loop-list.store in
    let new = g.D.Store.view c.read_entry.new.store in
    let file = c.args.pieces.now.file in
    let held = c.loop-list.invariant in
    let list = c.loop-list.list in
    let payload = c.in-Entry.bytes in
    let made = c.in_ok-read_entry.ensures in
    let added = c.in_ok-add-in-Entry.ensures.added in
    let told_here : IsTrue start.tells → IsTrue here.tells = λ told. rw held.tells told in
    let fits = rw c.in-Entry.is at made.fits in
    record {
      within = omega (arith, ap (λ (l : EntryList). l.gate) added, fits.1, held.within);
      unclosed = ap (λ (l : EntryList). l.closed) added ∙ held.unclosed;
      counted = counted_more c.args.head.now.form c.args.head.now.number list c.add.new.self payload held.counted added;
      file = made.file ∙ held.file;
      end = made.end ∙ held.end;
      later = λ other. omega (arith, held.later other, made.cause.later other);
      tells = made.tells ∙ held.tells;
      quiet = λ told. quiet_then start here new (held.quiet told) (made.quiet (told_here told));
      found = λ told is ends. (let bytes = start.reads file in
          let pieces = c.loop-list.pieces in
          let same : here.reads pieces.file ≡ bytes = (held.quiet told).reads pieces.file ∙ ap start.reads held.file in
          let so_far = held.found told is ends in
          let room = room_ahead c.args.head.now.form c.args.head.now.number (64 + c.args.head.now.size) c.args.head.now.end
          (ahead c.args.pieces.now bytes) (ahead pieces bytes) list so_far ends in
          let found = rw c.in-Entry.is at (finds_at bytes (here.reads pieces.file) pieces c.read_entry.new.pieces (list.last + 1) (c.args.head.now.end - list.gate)
          c.in_ok-read_entry.field-0 same (held.end ∙ is) room (made.found (told_here told))) in
          one_more c.args.head.now.form c.args.head.now.number (64 + c.args.head.now.size) (ahead c.args.pieces.now bytes) (ahead pieces bytes)
          (ahead c.read_entry.new.pieces bytes) payload list c.add.new.self so_far found.0 found.1 added);
    }
