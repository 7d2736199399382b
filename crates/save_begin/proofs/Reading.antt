-- What a session's reader tells of its set.
use Rattle.std.proofs.Common.{◌≡◌, ◌∙◌, ap}
use Rattle.std.specs.Option.{option_map}
use Rattle.std.specs.Prelude.{Option, Some, None, IfSome}
use Rattle.save_stream.specs.Reading.{Reading}
use Rattle.save_session.specs.Sessions.{SessionView, IsSession}
use Rattle.save_session.proofs.Heading.{reader_has_head}
use Rattle.save_begin.specs.declared.asked.Asked.{Asked}
use Rattle.save_begin.specs.Asking.{saves, saves_head}

pub saves_read : (asked : Asked) (found : Option SessionView) (reading : Reading) → option_map (λ session. session.reading) found ≡ Some reading → IfSome found IsSession
    → saves_head asked reading.head ≡ saves asked found
saves_read asked None reading is session = cc
saves_read asked (Some one) reading is session =
    let same : reading ≡ one.reading = cc in
    ap (λ (it : Reading). saves_head asked it.head) same ∙ ap (saves_head asked) (reader_has_head one session)
