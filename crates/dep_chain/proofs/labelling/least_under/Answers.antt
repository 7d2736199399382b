use Rattle.std.proofs.Common.{sym}
use Rattle.dep_chain.proofs.Labels.{walk_up, walk_rest, walk_end, walk_is}
use Rattle.dep_chain.proofs.labelling.least_under.Goals as goal

pub loop-row-preserved : goal.loop-row-preserved
loop-row-preserved c =
    let rows = c.args.db.now.records in
    let there = sym c.in-Some.ensures.found in
    let least = c.loop-row.least in
    let result = c.least_with-least.result in
    let before = c.loop-row.invariant in
    let step = c.least_with-least.ensures in
    record {
      grown = λ ssid upto. step.grown ssid (before.grown ssid upto);
      is = walk_is rows c.args.sessions.now c.args.volid.0 0 c.requires c.args.ssid.0
          c.loop-row.at.0 c.in-Some.row.now c.args.so_far least result there before.up before.is
          step.is;
      up = walk_up rows c.args.sessions.now c.args.volid.0 0 c.requires c.args.ssid.0
          c.loop-row.at.0 c.in-Some.row.now there before.up;
      rest = walk_rest rows c.args.sessions.now c.args.volid.0 0 c.requires c.args.ssid.0
          c.loop-row.at.0 c.in-Some.row.now least result there step.grown step.settled before.rest;
    }

pub returns-clause-settled : goal.returns-clause-settled
returns-clause-settled c =
    let none = rw c.in_default.is at c.record.ensures.found in
    walk_end c.args.db.now.records c.args.sessions.now c.args.volid.0 0 c.requires c.args.ssid.0
    c.loop-row.at.0 c.loop-row.least (sym none) c.loop-row.invariant.rest
