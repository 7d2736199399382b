use Rattle.dep_chain.proofs.ChainLaws.{one_chain, one_fault, never_both}
use Rattle.dep_chain.proofs.laws.one_chain_or_one_fault.Goals as goal

pub returns : goal.returns
returns c = record {
  chain = λ rows ssid ssids others is also. one_chain is also;
  fault = λ rows ssid fault other is also. one_fault is also;
  never_both = λ rows ssid ssids fault is breaks. never_both is breaks;
}
