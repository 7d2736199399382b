use Rattle.std.proofs.Common.{arith}
use Rattle.save_stream.proofs.Heads.{head-begins, bad-within, bad-head}
use Rattle.save_stream.proofs.head_reading.read_head.Goals as goal

pub overflow_sub-result : goal.overflow_sub-result
overflow_sub-result c = bad-within c.args.bytes.now c.in-Err-Wrong.behind (rw c.in-Err-Wrong.field-0-is at c.in-Err-Wrong.ensures)

pub returns-in-Ok : goal.returns-in-Ok
returns-in-Ok c = head-begins c.args.bytes.now c.in-Ok.head c.in-Ok.rest.now (λ i. omega (arith, c.type_inv.bytes i)) c.in-Ok.ensures

pub returns-in-Err-Wrong : goal.returns-in-Err-Wrong
returns-in-Err-Wrong c = bad-head c.args.bytes.now c.in-Err-Wrong.behind (rw c.in-Err-Wrong.field-0-is at c.in-Err-Wrong.ensures)
