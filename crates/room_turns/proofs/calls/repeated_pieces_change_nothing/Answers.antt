use Rattle.room_turns.proofs.Repeating.{repeated_piece}
use Rattle.room_turns.proofs.calls.repeated_pieces_change_nothing.Goals as goal

pub returns : goal.returns
returns g c = λ clock ssid offset piece session reply old new found short sent turn.
    repeated_piece clock ssid offset piece session reply old new (g.D.Store.view c.args.before.now) (g.D.Store.view c.args.now.now)
    (g.met.D.Store.is_disk c.args.before.now) (g.met.D.Store.is_disk c.args.now.now) found short sent turn
