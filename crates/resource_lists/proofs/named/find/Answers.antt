use Rattle.std.proofs.Common.{sym}
use Rattle.std.specs.Cmp.Lexicographic.{nat_list_cmp_total}
use Rattle.room_base.proofs.OrderedSearch.{found_read, none_at}
use Rattle.resource_lists.proofs.named.find.Goals as goal

pub returns-in-Ok : goal.returns-in-Ok
returns-in-Ok g c = sym (found_read nat_list_cmp_total g.T.Named.key c.args.name.now c.args.items.now c.requires c.in-Ok.at c.in-Ok.ensures c.index-items-at.result c.index-items-at.is)

pub returns-in-Err : goal.returns-in-Err
returns-in-Err g c = sym (none_at nat_list_cmp_total g.T.Named.key c.args.name.now c.args.items.now _ c.in-Err.ensures)
