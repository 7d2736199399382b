use Rattle.std.proofs.Common.{◌≡◌, ◌-◌, ◌≤◌, ℕ, length, take, drop, refl, ap, ◌∙◌, arith, rules}
use Rattle.byteorder.specs.Endian.{big_bytes}
use Rattle.volume_block.specs.Layout.{block_text}
use Rattle.volume_block.proofs.Whole.{written, length-put}
use Rattle.volume_block.proofs.encode.encode_mark.Goals as goal
use borrow.Rule.Slice.PartMut.{put_mid}

pub returns-clause-text : goal.returns-clause-text
returns-clause-text c =
    let old = c.args.into.now in
    let new = c.write_u32.new.buf in
    let volid = c.args.volid.0 in
    let long : 56 ≤ length old = omega (arith, c.requires.whole) in
    let count : length new ≡ length old - 56 = search rules in
    let size : length (put_mid 56 (length old - 56) old new) ≡ 4096 = length-put 56 old new long count ∙ c.requires.whole in
    c.finish_block.ensures
    ∙ ap (λ (n : ℕ). block_text 70 c.args.units n volid c.args.number (take 4 (drop 56 (put_mid 56 (length old - 56) old new)))) size
    ∙ ap (block_text 70 c.args.units 4096 volid c.args.number) (written 56 4 old new (big_bytes 4 c.args.count) _ long refl c.write_u32.ensures)

pub returns-clause-valid : goal.returns-clause-valid
returns-clause-valid c = let t = returns-clause-text c in search rules
