use Rattle.std.proofs.Common.{◌∙◌, ap, sym}
use Rattle.std.specs.Ordering.{is_lt}
use Rattle.room_catalog.proofs.Paths.{joins}
use Rattle.room_catalog.proofs.parts.PendingParts.are_below.Goals as goal

pub returns-in-Some-Some : goal.returns-in-Some-Some
returns-in-Some-Some c =
    let both = c.in-Some-Some in
    let test = c.is_lt.ensures in
    let compared = rw (c.as_bytes.ensures.value, c.as_bytes-in-Some-Some.ensures.value) at c.cmp.ensures in
    let waiting = c.self.inside.entries.items in
    let last = rw c.deref.ensures.value at both.ensures.item.1 in
    let some = rw c.deref.ensures.value at both.ensures.item.3.0 in
    let join = joins waiting c.args.index.now both.last.now both.first.now c.self.invariant c.requires some both.ensures'.item.3.0 last both.ensures'.item.1 in
    let tested = test ∙ ap is_lt compared in
    rw (← c.self.view_is) ((λ yes. join.0 (sym tested ∙ yes)), λ ascend. tested ∙ join.1 ascend)
