use Rattle.std.proofs.Common.{length, take, drop, ◌-◌}
use Rattle.std.proofs.lemmas.Bool.Decides.{Decides-eqb}
use Rattle.std.proofs.lemmas.List.{take_rest}
use Rattle.std.proofs.lemmas.Slice.Eq.{slice_eq-Decides}
use Rattle.volume_block.proofs.Zeros.{zeros_if_same}
use Rattle.volume_block.proofs.decode.are_zeros.Goals as goal

pub returns-then-first-eq0 : goal.returns-then-first-eq0
returns-then-first-eq0 c =
    let bytes = c.args.bytes.now in
    let rest = take (length bytes - 1) (drop 1 bytes) in
    zeros_if_same c.eq.result bytes rest (take_rest bytes 1) c.if-first-eq0.true c.in-len1-up.len_at_least
    (slice_eq-Decides Decides-eqb rest _ c.eq.result c.eq.ensures)
