use Rattle.std.proofs.Common.{◌∙◌}
use Rattle.save_session.proofs.Placing.{last_in_file}
use Rattle.save_session.proofs.session.end_in_file_of.Goals as goal

pub returns-in-Some : goal.returns-in-Some
returns-in-Some c =
    let item = c.in-Some.ensures.item.3 in
    c.are_in_one_file.ensures ∙ last_in_file c.args.sections.now c.in-Some.last.now c.args.part.now item.0 (item.1 c.in-Some.last.now)
