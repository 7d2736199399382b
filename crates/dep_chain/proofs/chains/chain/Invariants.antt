use Rattle.std.proofs.Common.{List, ◌++◌}
use Rattle.room_base.specs.declared.numbers.Ssid.{Ssid}
use Rattle.dep_chain.specs.declared.chains.ChainFault.{ChainFault}
use Rattle.dep_chain.specs.Chains.{Breaks, IsChain}
use Rattle.dep_chain.proofs.chains.chain.Given as goal

-- the sets so far and a chain below them are a chain, and what breaks below breaks the whole
abbrev pub invariant-loop-ssids : goal.invariant-loop-ssids
invariant-loop-ssids l = record {
  whole : (below : List Ssid) → IsChain l.db.records l.at below
      → IsChain l.db.records l.fn.ssid (l.ssids.items ++ below);
  broken : (fault : ChainFault) → Breaks l.db.records l.at fault
      → Breaks l.db.records l.fn.ssid fault;
}

abbrev pub decreases-loop-ssids : goal.decreases-loop-ssids
decreases-loop-ssids l = l.at.0
