use Rattle.std.proofs.Common.{sym}
use Rattle.std.proofs.lemmas.List.Sorted.{searched}
use Rattle.chunk_mux.proofs.Members.{search_has, ascend_far}
use Rattle.chunk_mux.proofs.ssids.SsidSet.contains.Goals as goal

pub returns : goal.returns
returns c =
    let found = searched c.self.inside.numbers.items c.args.ssid.0 c.binary_search.result (rw (sym c.deref.ensures.value) c.binary_search.ensures.position)
    (ascend_far c.self.inside.numbers.items c.self.invariant.ascend) in
    let has = search_has c.args.ssid.0 c.self.inside.numbers.items c.binary_search.result found in
    cc (has)
