use Rattle.std.proofs.Common.{rules, arith, ◌≡◌, ◌∙◌, sym, w8, w16, w32, to_z, of_z, FitsSigned}
use Rattle.std.proofs.lemmas.Int.{to_z_pos, to_z-of_z}
use Rattle.resource_text.proofs.Dates.{natural_day}
use Rattle.resource_text.proofs.days.day_from.Goals as goal

pub returns-in-Ok-try_from : goal.returns-in-Ok-try_from
returns-in-Ok-try_from c =
    let date = c.in-Ok.ensures.value in
    let fits : FitsSigned w32 c.to_unix_epoch_day.result = search (rules, arith, c.to_unix_epoch_day.type_inv) in
    let back : to_z w32 (of_z w32 c.to_unix_epoch_day.result) ≡ c.to_unix_epoch_day.result = to_z-of_z w32 c.to_unix_epoch_day.result fits in
    record {
      date = c.in-Ok.date;
      date_is = (date.0 ∙ to_z_pos w16 c.args.year (omega arith), date.1 ∙ to_z_pos w8 c.args.month (omega arith), date.2 ∙ to_z_pos w8 c.args.number (omega arith));
      day_is = sym c.to_unix_epoch_day.ensures.value ∙ (sym back ∙ natural_day _ c.in-Ok-try_from.day c.in-Ok-try_from.ensures.0 c.in-Ok-try_from.ensures.1);
      last = c.if-day-le-LAST_DAY.true;
    }
