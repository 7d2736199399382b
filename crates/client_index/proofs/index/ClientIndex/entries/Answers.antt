use Rattle.std.proofs.Common.{◌∙◌, Some, List, ap, subst}
use Rattle.save_stream.specs.declared.entry.IndexEntry.{IndexEntry}
use Rattle.client_index.specs.Sets.{Indexes, AreOrdered}
use Rattle.client_index.proofs.Putting.{entries_at, no_entries}
use Rattle.client_index.proofs.index.ClientIndex.entries.Goals as goal

pub returns-in-Ok-clause-value : goal.returns-in-Ok-clause-value
returns-in-Ok-clause-value c =
    let is = ap (λ (index : Indexes). index.sets) c.self.view_is in
    ap (λ (entries : List IndexEntry). Some entries) c.as_slice.ensures
    ∙ entries_at _ c.args.ssid c.in-Ok.at c.index.result.now (subst AreOrdered is c.self.invariant) c.in-Ok.ensures (rw (← is) c.index.ensures)

pub returns-in-Err-clause-value : goal.returns-in-Err-clause-value
returns-in-Err-clause-value c =
    no_entries _ c.args.ssid c.in-Err.field-0 c.in-Err.ensures
