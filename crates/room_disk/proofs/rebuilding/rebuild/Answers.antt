use Rattle.std.proofs.Common.{List, ◌-◌, ◌∙◌, length, reverse, ap}
use Rattle.room_disk.specs.declared.disk_event.DiskEvent.{DiskEvent}
use Rattle.room_disk.proofs.Replaying.{fits_part, fits_front}
use Rattle.room_disk.proofs.rebuilding.rebuild.Goals as goal

pub do_all-requires : goal.do_all-requires
do_all-requires c =
    fits_part c.args.file.now.now.room c.replace.new.self.room c.args.file.now.number (reverse c.split_at.result.0.now) _
    c.replace.ensures.room (ap (λ (l : List DiskEvent). reverse l) c.split_at.ensures.front)
    (fits_front c.args.file.now.now.room c.args.file.now.number c.args.events.now (length c.args.events.now - c.unsynced.result) c.requires.fits).1

pub do_all-requires-2 : goal.do_all-requires-2
do_all-requires-2 c =
    fits_part c.args.file.now.now.room c.do_all.new.bytes.room c.args.file.now.number (reverse c.split_at.result.1.now) _
    (c.do_all.ensures.room ∙ c.replace.ensures.room) (ap (λ (l : List DiskEvent). reverse l) c.split_at.ensures.back)
    (fits_front c.args.file.now.now.room c.args.file.now.number c.args.events.now (length c.args.events.now - c.unsynced.result) c.requires.fits).0
