use Rattle.std.proofs.Common.{◌≡◌, ◌∙◌, ap, drop, true}
use Rattle.room_base.proofs.Taking.{takes_on}
use Rattle.room_base.proofs.mem_source.MemSourceSource.take.Goals as goal

pub returns-clause-moved : goal.returns-clause-moved
returns-clause-moved c =
    let left : c.split_at.result.1.now ≡ drop c.self.inside.at c.self.inside.bytes.items =
    c.split_at.ensures.back ∙ ap (λ bytes. drop c.self.inside.at bytes) c.as_slice.ensures.value in
    rw (← c.self.view_is) (takes_on c.self.inside.bytes.items _ c.self.inside.at _ true _ _
    (rw left at c.copy_front-count.ensures.count) (rw left at c.copy_front-count.ensures.copied))
