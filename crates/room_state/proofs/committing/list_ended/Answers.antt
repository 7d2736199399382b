use Rattle.std.proofs.Common.{◌<◌, List, length, ap, ◌∙◌, arith, rules}
use Rattle.std.proofs.lemmas.List.{length-map, take_all}
use Rattle.std.specs.List.{filter}
use Rattle.std.specs.Prelude.{vec_capacity, vec_len}
use Rattle.room_base.specs.declared.numbers.Ssid.{Ssid}
use Rattle.slot_changer.specs.Drives.{in_drive}
use Rattle.room_effects.specs.Effects.{ended_with}
use Rattle.room_state.specs.Commits.{asking_number}
use Rattle.room_state.proofs.Losing.{goes, listed, room_for_one}
use Rattle.room_state.proofs.committing.list_ended.Goals as goal

pub unwrap-requires : goal.unwrap-requires
unwrap-requires c =
    let held = in_drive c.args.drives.now c.args.drive in
    let asking = asking_number c.args.asking in
    let sessions = c.args.sessions.now.sessions in
    let all = ap (λ (xs : List Ssid). length (filter (goes held asking) xs)) c.ssids-ssids.ensures.value
    ∙ ap (λ (xs : List Ssid). length xs) (listed held asking sessions) ∙ length-map (ended_with held asking sessions) _ in
    let few = room_for_one (goes held asking) c.ssids-ssids.result.now c.loop-ssid.ssid-index _ c.loop-ssid-test.true c.if-goes.ensures in
    let count = ap (λ (xs : List Ssid). length xs) c.loop-ssid.invariant.items in
    let room : vec_len c.loop-ssid.closed < vec_capacity c.loop-ssid.closed =
    omega (arith, all, few, count, c.loop-ssid.invariant.count, c.loop-ssid.invariant.room, c.requires.room) in
    search rules

pub returns-clause-listed : goal.returns-clause-listed
returns-clause-listed c =
    let held = in_drive c.args.drives.now c.args.drive in
    let asking = asking_number c.args.asking in
    c.loop-ssid.invariant.items ∙ ap (λ (xs : List Ssid). filter (goes held asking) xs) (take_all _ _ c.loop-ssid-test.false ∙ c.ssids-ssids.ensures.value)
    ∙ listed held asking c.args.sessions.now.sessions
