use Rattle.chunk_mux.proofs.Sections.{sections_split, sections_join}
use Rattle.chunk_mux.proofs.laws.sections_are_longest_runs.Goals as goal

pub returns-clause-split : goal.returns-clause-split
returns-clause-split c = sections_split

pub returns-clause-joined : goal.returns-clause-joined
returns-clause-joined c = λ run size each is. sections_join size run each is
