use Rattle.std.proofs.Common.{sym, ap}
use Rattle.std.specs.Prelude.{is_some}
use Rattle.std.specs.Cmp.Lexicographic.{nat_list_cmp_total}
use Rattle.room_base.proofs.OrderedSearch.{none_at}
use Rattle.snapshot_laws.proofs.Ordered.{some_at}
use Rattle.snapshot_reading.proofs.names.is_there.Goals as goal

pub returns-in-Ok : goal.returns-in-Ok
returns-in-Ok g c = some_at g.T.Named.key c.args.name.now c.args.items.now c.requires _ c.in-Ok.ensures

pub returns-in-Err : goal.returns-in-Err
returns-in-Err g c = sym (ap is_some (none_at nat_list_cmp_total g.T.Named.key c.args.name.now c.args.items.now _ c.in-Err.ensures))
