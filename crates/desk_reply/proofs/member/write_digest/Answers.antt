use Rattle.std.proofs.Common.{◌≡◌, sym, subst}
use Rattle.std.specs.Str.{IsUtf8}
use Rattle.std.proofs.lemmas.Grind.{common_steps}
use Rattle.std.proofs.Common.{arith}
use Rattle.hex.specs.Hex.{encode_lower}
use Rattle.desk_reply.proofs.Digits.{digits_are_text}
use Rattle.desk_reply.proofs.member.write_digest.Goals as goal

pub unreachable-requires : goal.unreachable-requires
unreachable-requires c =
    let same : c.encode_to_slice.new.output ≡ encode_lower c.args.digest.now = grind (arith, common_steps) in
    c.in-Err.ensures.cases.0 (subst IsUtf8 (sym same) (digits_are_text c.args.digest.now))
