use Rattle.std.proofs.Common.{◌≡◌, ◌∙◌, ℕ, true, ap, length, refl, arith}
use Rattle.save_stream.specs.Items.{End, as_item, with_item}
use Rattle.save_stream.specs.Reading.{Part, end_at}
use Rattle.save_stream.specs.View.{idle_reading}
use Rattle.save_stream.proofs.Items.{rest-next}
use Rattle.save_stream.proofs.progress.Progress.take_end.Goals as goal

pub returns-in-Ok-clause-read : goal.returns-in-Ok-clause-read
returns-in-Ok-clause-read c =
    let entries = c.args.self.now.entries.items in
    let count : length entries ≡ c.len.result = omega (arith, c.len.ensures) in
    record {
      item = End c.in-Ok.field-0-0;
      rest = c.in-Ok.rest.now;
      found = rest-next c.args.self.now.head entries c.args.bytes.now true c.requires.some c.requires.begins
          ∙ ap (λ (n : ℕ). as_item End (end_at n c.args.bytes.now)) count ∙ ap (λ (p : Part ℕ). as_item End p) c.in-Ok.ensures;
      behind_is = refl;
      taken = ap (λ (n : ℕ). with_item (idle_reading c.args.self.now) n (End c.in-Ok.field-0-0)) c.saturating_sub-self.ensures;
    }
