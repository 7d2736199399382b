use Rattle.std.proofs.Common.{take, Ok}
use Rattle.std.specs.List.{flat_map}
use Rattle.room_base.specs.Outside.{WritesText}
use Rattle.room_base.specs.Refusals.{ssid_behind}
use Rattle.room_base.proofs.refusal_text.write_other_ssids.Given as goal

-- the first sessions were written
abbrev pub invariant-loop-ssid : goal.invariant-loop-ssid
invariant-loop-ssid g l =
    WritesText {T = Unit {0}} (flat_map ssid_behind (take l.ssid-index l.ssids))
    (g.W.Sink.view l.initial.sink) (g.W.Sink.view l.sink) (Ok tt)
