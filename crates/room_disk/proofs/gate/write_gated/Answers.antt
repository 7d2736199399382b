use Rattle.std.proofs.Common.{[], ◌∷◌, ◌+◌}
use Rattle.room_disk.specs.Crash.{Overlays, Torn}
use Rattle.room_disk.specs.Writing.{Then, TornThen}
use Rattle.room_disk.proofs.Writing.{writes_then, writes_weaker, gated_whole, gated_torn}
use Rattle.room_disk.proofs.gate.write_gated.Goals as goal

pub returns : goal.returns
returns g c =
    let at = c.args.at in
    let letter = c.args.letter in
    let rest = c.args.rest.now in
    writes_weaker (Then (Overlays (at + 1) rest) (Overlays at (letter ∷ [])))
    (TornThen (Torn (at + 1) rest) (Overlays (at + 1) rest) (Torn at (letter ∷ [])))
    (writes_then (g.D.Store.view c.write_synced.new.store) (g.met.D.Store.is_disk c.args.store.now)
    c.in_ok-write_synced.ensures c.open_gate.ensures)
    (gated_whole at letter rest) (gated_torn at letter rest)
