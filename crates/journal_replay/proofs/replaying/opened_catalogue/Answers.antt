use Rattle.cat_journal.specs.Journal.{form_of}
use Rattle.journal_replay.proofs.Answering.{file_as, file_sound_if, file_told_if}
use Rattle.journal_replay.proofs.replaying.opened_catalogue.Goals as goal

pub returns-in-Some-clause-told : goal.returns-in-Some-clause-told
returns-in-Some-clause-told c = λ files gives.
    let opened = c.args.opened.now in
    file_told_if files opened c.in-Some.file opened.file c.replay_file.result c.in-Some.is gives
    (file_as c.in-Some.file c.form.result (form_of opened.journal.current) opened.number c.as_slice.result.now opened.snapshot c.as_slice-in-Some.result.now opened.entries
    c.replay_file.result c.form.ensures c.as_slice.ensures c.as_slice-in-Some.ensures c.replay_file.ensures)

pub returns-in-Some-clause-untold : goal.returns-in-Some-clause-untold
returns-in-Some-clause-untold c =
    let opened = c.args.opened.now in
    file_sound_if opened c.in-Some.file opened.file c.replay_file.result c.in-Some.is c.requires
    (file_as c.in-Some.file c.form.result (form_of opened.journal.current) opened.number c.as_slice.result.now opened.snapshot c.as_slice-in-Some.result.now opened.entries
    c.replay_file.result c.form.ensures c.as_slice.ensures c.as_slice-in-Some.ensures c.replay_file.ensures)
