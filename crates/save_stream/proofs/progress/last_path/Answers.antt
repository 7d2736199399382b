use Rattle.std.proofs.Common.{◌-◌, length, ap, sym, ◌∙◌, arith}
use Rattle.save_stream.proofs.Taking.{last_path_at}
use Rattle.save_stream.specs.declared.entry.IndexEntry.{IndexEntry}
use Rattle.save_stream.proofs.progress.last_path.Goals as goal

pub returns-in-len1-up : goal.returns-in-len1-up
returns-in-len1-up c =
    let entries = c.args.entries.now in
    c.as_bytes.ensures.value ∙ ap (λ (entry : IndexEntry). entry.path) c.last-item.is
    ∙ sym (last_path_at (length entries - 1) entries c.last-item.result (omega arith))
