use Rattle.dep_chain.proofs.Depending.{depends_lower, depends_onward}
use Rattle.dep_chain.proofs.laws.dependence_goes_down.Goals as goal

pub returns : goal.returns
returns c = record {
  lower = λ rows ssid other are depends. depends_lower are depends;
  onward = λ rows ssid base other first then. depends_onward first then;
}
