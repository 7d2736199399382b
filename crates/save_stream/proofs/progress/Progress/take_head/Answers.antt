use Rattle.std.proofs.Common.{◌∙◌, ℕ, ap, refl}
use Rattle.save_stream.specs.declared.head.SetHead.{SetHead}
use Rattle.save_stream.specs.Items.{Head, as_item, with_item}
use Rattle.save_stream.specs.Reading.{Part}
use Rattle.save_stream.specs.View.{idle_reading}
use Rattle.save_stream.proofs.Items.{head-next}
use Rattle.save_stream.proofs.progress.Progress.take_head.Goals as goal

pub returns-in-Ok-clause-read : goal.returns-in-Ok-clause-read
returns-in-Ok-clause-read c = record {
  item = Head c.in-Ok.head;
  rest = c.in-Ok.rest.now;
  found = head-next c.args.self.now.head c.args.self.now.entries.items c.args.bytes.now c.requires ∙ ap (λ (p : Part SetHead). as_item Head p) c.in-Ok.ensures;
  behind_is = refl;
  taken = ap (λ (n : ℕ). with_item (idle_reading c.args.self.now) n (Head c.in-Ok.head)) c.saturating_sub-self.ensures;
}
