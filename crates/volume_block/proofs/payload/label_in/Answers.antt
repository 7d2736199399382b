use Rattle.std.proofs.Common.{slice_index, refl, arith, rules}
use Rattle.volume_block.specs.Valid.{IsVolid}
use Rattle.volume_block.proofs.Labels.{made_of, read_label, is_label_in, spelled_has_ranges}
use Rattle.volume_block.proofs.payload.label_in.Goals as goal

pub returns-then-has_ranges : goal.returns-then-has_ranges
returns-then-has_ranges c =
    let payload = c.args.payload.now in
    let pool_length = slice_index payload 16 in
    let label = made_of c.args.units c.args.volid c.read_u32.result c.read_u32-2.result c.read_u64.result pool_length c.in_ok-pool.pool in
    let read = read_label c.args.units payload c.args.volid c.read_u32.result c.read_u32-2.result c.read_u64.result pool_length c.in_ok-pool.pool
    c.read_u32.ensures c.read_u32-2.ensures c.read_u64.ensures refl c.in_ok-pool.ensures.0 c.in_ok-pool.ensures.1 in
    let volid : IsVolid c.args.volid.0 = search rules in
    is_label_in payload label (λ i. omega (arith, c.type_inv.payload i)) (omega arith) c.requires.units volid read (c.has_ranges.ensures.0 c.if-has_ranges.true)

pub returns-else-has_ranges : goal.returns-else-has_ranges
returns-else-has_ranges c = λ other is.
    let payload = c.args.payload.now in
    let pool_length = slice_index payload 16 in
    let label = made_of c.args.units c.args.volid c.read_u32.result c.read_u32-2.result c.read_u64.result pool_length c.in_ok-pool.pool in
    let read = read_label c.args.units payload c.args.volid c.read_u32.result c.read_u32-2.result c.read_u64.result pool_length c.in_ok-pool.pool
    c.read_u32.ensures c.read_u32-2.ensures c.read_u64.ensures refl c.in_ok-pool.ensures.0 c.in_ok-pool.ensures.1 in
    let yes = c.has_ranges.ensures.1 (spelled_has_ranges c.args.units c.args.volid.0 payload label other read refl is) in
    search rules
