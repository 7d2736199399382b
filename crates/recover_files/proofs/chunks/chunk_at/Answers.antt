use Rattle.std.proofs.Common.{rules, IsTrue}
use Rattle.recover_files.proofs.Finding.{finds, no_head}
use Rattle.recover_files.proofs.chunks.chunk_at.Goals as goal

pub returns-then-has_head-clause-found : goal.returns-then-has_head-clause-found
returns-then-has_head-clause-found c =
    let yes : IsTrue c.has_head.result = search rules in
    let has = c.has_head.ensures.0 yes in
    finds c.args.block.now c.args.at c.chunk_behind.result c.chunk_behind.ensures has.0 has.1

pub returns-else-has_head-clause-found : goal.returns-else-has_head-clause-found
returns-else-has_head-clause-found c = λ volid number units before after split.
    no_head c.args.block.now volid number units c.args.at before after
    (λ has. let yes : IsTrue c.has_head.result = c.has_head.ensures.1 has in absurd (search rules)) split
