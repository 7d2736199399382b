use Rattle.std.proofs.Common.{refl}
use Rattle.desk_request.proofs.Finding.{none_of_first}
use Rattle.desk_request.proofs.reading.search.Goals as goal

pub returns-then-not-may_end-clause-found : goal.returns-then-not-may_end-clause-found
returns-then-not-may_end-clause-found c = none_of_first c.args.bytes.now c.args.searched c.requires (c.if-not-may_end.ensures.none refl)
