use Rattle.std.proofs.lemmas.Result.{err_from_is_err_and}
use Rattle.room_disk.specs.Crash.{IsAnew, AnewTorn}
use Rattle.room_disk.proofs.Writing.{writes_failed, writes_change}
use Rattle.cat_journal.specs.Journal.{new_head, new_text}
use Rattle.cat_journal.proofs.Spelling.{file_parts}
use Rattle.cat_journal.proofs.Writing.{writes_value, anew_as}
use Rattle.cat_journal.proofs.journal.write_file.Goals as goal

pub returns-in_err-write_parts-clause-writes : goal.returns-in_err-write_parts-clause-writes
returns-in_err-write_parts-clause-writes g c =
    let text = new_text (new_head c.args.generation c.args.number) c.args.snapshot.now in
    writes_failed (IsAnew 0x4A text) (AnewTorn 0x4A text)
    (err_from_is_err_and c.from_residual.result c.from_residual.ensures.1).1
    (writes_change (anew_as 0x4A _ text
    (file_parts c.args.generation c.args.number c.args.snapshot.now _ _ c.spell_fields-fields.ensures c.digest_of-digest.ensures) c.in_err-write_parts.ensures))
    (λ old new torn. torn)

pub returns-clause-writes : goal.returns-clause-writes
returns-clause-writes g c =
    writes_value _ (anew_as 0x4A _ _
    (file_parts c.args.generation c.args.number c.args.snapshot.now _ _ c.spell_fields-fields.ensures c.digest_of-digest.ensures) c.in_ok-write_parts.ensures)
