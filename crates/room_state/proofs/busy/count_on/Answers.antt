use Rattle.std.proofs.Common.{◌+◌, ◌<◌, length, ◌∙◌, ap, sym, arith}
use Rattle.room_state.proofs.Listed.{is_open_at, listed_at, none_more_on, one_more_on}
use Rattle.room_state.proofs.busy.count_on.Goals as goal
use Rattle.room_state.proofs.busy.count_on.Goals.{then-is_on, else-is_on}

pub is_on-requires : goal.is_on-requires
is_on-requires c =
    let sessions = c.args.sessions.now.sessions in
    let ssids = c.ssids-ssids.result.now in
    let listed = listed_at sessions ssids c.loop-ssid.ssid-index _ c.ssids-ssids.ensures.sessions c.ssids-ssids.ensures.value c.ssids-ssids.ensures.count c.loop-ssid-test.true in
    is_open_at sessions ssids c.loop-ssid.ssid-index _ listed

pub loop-ssid-preserved : goal.loop-ssid-preserved
loop-ssid-preserved c =
    let sessions = c.args.sessions.now.sessions in
    let ssids = c.ssids-ssids.result.now in
    let place = c.loop-ssid.ssid-index in
    let within : place < length sessions = omega (arith, c.loop-ssid-test.true, c.ssids-ssids.ensures.count) in
    let listed = listed_at sessions ssids place _ c.ssids-ssids.ensures.sessions c.ssids-ssids.ensures.value c.ssids-ssids.ensures.count c.loop-ssid-test.true in
    elim c.if-is_on.branch [
      | then-is_on w ↦ record {
        counted = w.count-is ∙ ap (λ n. n + 1) c.loop-ssid.invariant.counted
            ∙ sym (one_more_on c.args.drive sessions ssids place _ listed within w.if-is_on.ensures);
        few = omega (arith, w.count-is, c.loop-ssid.invariant.few);
      }
      | else-is_on w ↦ record {
        counted = w.count-is ∙ c.loop-ssid.invariant.counted
            ∙ sym (none_more_on c.args.drive sessions ssids place _ listed within w.if-is_on.ensures);
        few = omega (arith, w.count-is, c.loop-ssid.invariant.few);
      }
    ]
