use Rattle.std.proofs.Common.{◌≡◌, refl, sym, ◌∙◌}
use Rattle.save_stream.proofs.Waiting.{item-waits-on}
use Rattle.save_stream.proofs.progress.Progress.take_more.Goals as goal

pub returns-then-wants_numbers-clause-read : goal.returns-then-wants_numbers-clause-read
returns-then-wants_numbers-clause-read c = (
  item-waits-on c.args.self.now.head c.args.self.now.entries.items c.args.judged c.args.bytes.now (sym c.is_some.ensures ∙ c.if-is_some.true) (c.wants_numbers.ensures c.if-wants_numbers.true)
      c.requires,
  refl,
)
