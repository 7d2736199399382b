use Rattle.std.proofs.Common.{◌<◌, arith}
use Rattle.std.proofs.lemmas.Bool.Decides.{nat_tests}
use Rattle.dep_chain.proofs.Depending.{depends_lower}
use Rattle.dep_chain.proofs.bases.depends.Goals as goal

pub returns-else-ssid-other : goal.returns-else-ssid-other
returns-else-ssid-other c = (
  λ is. let above : c.args.other.0 < c.args.ssid.0 = grind (arith, nat_tests) in
      absurd (omega (arith, above)),
  λ depends. let lower = depends_lower c.requires depends in absurd (omega (arith, lower)),
)
