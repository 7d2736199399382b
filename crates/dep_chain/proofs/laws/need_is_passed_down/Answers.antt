use Rattle.dep_chain.proofs.Depending.{stands_onward}
use Rattle.dep_chain.proofs.laws.need_is_passed_down.Goals as goal

pub returns : goal.returns
returns c = λ rows sessions moment ssid other needed
    depends. (needed.0, stands_onward rows needed.0 ssid other needed.1 depends, needed.2)
