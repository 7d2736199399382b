use Rattle.room_checks.proofs.Recording.{recorded}
use Rattle.room_checks.proofs.sessions.open_sets.Goals as goal

pub returns-in_err-open_set-clause-recorded : goal.returns-in_err-open_set-clause-recorded
returns-in_err-open_set-clause-recorded c = λ between. recorded c.args.room.now.room c.args.room.now.room.sessions between.records

pub returns-in_err-push-clause-recorded : goal.returns-in_err-push-clause-recorded
returns-in_err-push-clause-recorded c = λ between. recorded c.args.room.now.room c.args.room.now.room.sessions between.records

pub returns-clause-recorded : goal.returns-clause-recorded
returns-clause-recorded c = λ between. recorded c.args.room.now.room c.args.room.now.room.sessions between.records
