use Rattle.std.proofs.Common.{[], ◌∷◌, ◌+◌}
use Rattle.room_disk.specs.Crash.{Overlays, KeepsFront, Torn, all_bytes}
use Rattle.room_disk.specs.Writing.{Then, TornThen}
use Rattle.room_disk.proofs.Writing.{writes_then, writes_weaker, gated_whole}
use Rattle.room_disk.proofs.Anew.{gated_parts_torn}
use Rattle.room_disk.proofs.gate.write_parts_gated.Goals as goal

pub returns : goal.returns
returns g c =
    let at = c.args.at in
    let letter = c.args.letter in
    let bytes = all_bytes c.args.parts.now in
    writes_weaker (Then (Overlays (at + 1) bytes) (Overlays at (letter ∷ [])))
    (TornThen (KeepsFront (at + 1)) (Overlays (at + 1) bytes) (Torn at (letter ∷ [])))
    (writes_then (g.D.Store.view c.write_parts_synced.new.store) (g.met.D.Store.is_disk c.args.store.now)
    c.in_ok-write_parts_synced.ensures c.open_gate.ensures)
    (gated_whole at letter bytes) (gated_parts_torn at letter bytes)
