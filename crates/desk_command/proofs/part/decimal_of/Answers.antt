use Rattle.std.proofs.Common.{rules, sym, ◌∙◌}
use Rattle.std.specs.declared.num.ParseIntError.{ParseIntError}
use Rattle.desk_command.proofs.Decimals.{parsed, not_parsed}
use Rattle.desk_command.proofs.part.decimal_of.Goals as goal

pub returns-in-Ok : goal.returns-in-Ok
returns-in-Ok c =
    sym (parsed ParseIntError c.args.part.now c.in-Ok.number c.in-Ok.ensures.value.0 (search rules) (search rules))

pub returns-in-Err : goal.returns-in-Err
returns-in-Err c =
    sym (not_parsed ParseIntError c.args.part.now c.in-Err.field-0 c.in-Err.ensures.value.0 (search rules) (search rules))
