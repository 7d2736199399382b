use Rattle.std.proofs.Common.{◌≡◌, drop}
use Rattle.client_index.specs.View.{view}
use Rattle.client_index.proofs.index.ClientIndex.view_entry.Given as goal

abbrev pub invariant-loop-ssid : goal.invariant-loop-ssid
invariant-loop-ssid l = view l.self.sets (drop l.ssid-index l.chain) l.path ≡ view l.self.sets l.chain l.path
