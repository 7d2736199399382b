use Rattle.dep_chain.proofs.ChainLaws.{has_what_it_stands_on}
use Rattle.dep_chain.proofs.laws.chain_is_what_it_depends_on.Goals as goal

pub returns : goal.returns
returns c = λ rows ssid other ssids is. has_what_it_stands_on other is
