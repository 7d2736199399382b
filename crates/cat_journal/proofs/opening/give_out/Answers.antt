use Rattle.std.proofs.Common.{ap, ◌∙◌, refl}
use Rattle.cat_journal.specs.Journal.{JournalView}
use Rattle.cat_journal.proofs.opening.give_out.Goals as goal

pub returns-clause-journal : goal.returns-clause-journal
returns-clause-journal c =
    let head = c.args.head.now in
    record {
      current = record { file = c.args.file; form = head.form; generation = head.generation; gate = c.args.list.gate };
      is = ap (λ (v : JournalView). v.current) c.at.ensures;
      this = refl;
      last = ap (λ (v : JournalView). v.last) c.at.ensures ∙ c.requires.counted;
    }
