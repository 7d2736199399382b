use Rattle.room_disk.specs.Crash.{Overlays, Cuts, CutShort, KeepsFront, all_bytes}
use Rattle.room_disk.specs.Writing.{Then, TornThen}
use Rattle.room_disk.proofs.Writing.{changes_write, writes_reads, writes_weaker}
use Rattle.room_disk.proofs.Anew.{replaced, replacing}
use Rattle.room_disk.proofs.gate.replace_end.Goals as goal

pub returns : goal.returns
returns g c =
    let at = c.args.at in
    let bytes = all_bytes c.args.parts.now in
    let Both = Then (Cuts at) (Overlays at bytes) in
    writes_reads Both
    (writes_weaker Both (TornThen (CutShort at) (CutShort at) (KeepsFront at))
    (changes_write (g.D.Store.view c.cut_unsynced.new.store) c.in_ok-cut_unsynced.ensures c.write_parts_synced.ensures)
    (λ old new both. both) (replacing at))
    (λ told. replaced at bytes _ _ (c.requires told))
