use Rattle.std.proofs.Common.{◌≡◌, ◌+◌, ◌∙◌, length, ap, arith}
use Rattle.chunk_mux.specs.declared.tiling.Tiling.TheVariants.{Whole}
use Rattle.chunk_mux.proofs.Placing.{whole_joins, joins_whole}
use Rattle.chunk_mux.proofs.laws.whole_chunks_join.Goals as goal

pub returns-clause-joined : goal.returns-clause-joined
returns-clause-joined c = λ run ssid copy size are is. (whole_joins ssid copy 0 size run are is).joins

pub returns-clause-size : goal.returns-clause-size
returns-clause-size c = λ run ssid copy size are is.
    let long = (whole_joins ssid copy 0 size run are is).long in omega (arith, long)

pub returns-clause-whole : goal.returns-clause-whole
returns-clause-whole c = λ run ssid copy bytes joins.
    joins_whole ssid copy 0 run bytes joins ∙ ap Whole (let same : 0 + length bytes ≡ length bytes = omega arith in same)
