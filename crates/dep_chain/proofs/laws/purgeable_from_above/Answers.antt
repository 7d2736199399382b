use Rattle.dep_chain.proofs.Depending.{stands_onward}
use Rattle.dep_chain.proofs.laws.purgeable_from_above.Goals as goal

pub returns : goal.returns
returns c = λ rows sessions moment ssid user row is depends found complete. record {
  row = row;
  found = found;
  complete = complete;
  browsed = λ other of_other on there too. is.browsed other of_other
      (stands_onward rows other user ssid on depends) there too;
  closed = λ other on. is.closed other (stands_onward rows other user ssid on depends);
}
