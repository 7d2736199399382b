use Rattle.std.proofs.Common.{◌≡◌, ◌≤◌, ◌<◌, ◌∙◌, ◌+◌, length, take, sym, arith}
use Rattle.std.proofs.lemmas.List.{length-take-le}
use Rattle.room_base.specs.Outside.{Moves}
use Rattle.desk_request.proofs.Filling.{took_of_moves, piece_added, none_left}
use Rattle.desk_request.proofs.reading.take_piece.Goals as goal

pub returns-in-Ok-clause-piece : goal.returns-in-Ok-clause-piece
returns-in-Ok-clause-piece g c =
    let old = g.S.Source.view c.args.source.now in
    let new = g.S.Source.view c.take.new.self in
    let had = c.len-had.result in
    let count = c.in-Ok.count in
    let into = c.take.new.into in
    let split = c.split_at_mut-space in
    let buffer = c.args.buffer.now in
    let resized = c.in_ok-resize.ensures in
    let within : count ≤ length into = omega (arith, c.in-Ok.ensures.within) in
    let has : had ≡ length buffer.items = omega (arith, c.len-had.ensures, buffer.ok) in
    let wide : length into + had ≡ c.min.result = omega (arith, split.ensures.back_len, c.deref_mut.ensures.len, resized.len) in
    let more : had < c.min.result = omega (arith, c.min.ensures, c.requires, c.len-had.ensures) in
    record {
      more = take count into;
      added =
          piece_added buffer.items c.deref_mut.result.now split.result.0.now into _ _ _ had count c.min.result _ has (omega (arith, more))
          (c.deref_mut.ensures.value ∙ resized.items) split.ensures.front split.ensures.front_len within (omega (arith, wide, within, resized.len)) c.truncate.ensures.items;
      took = λ told. took_of_moves old new into count (c.in-Ok.ensures.moved told);
      adds = (
        sym (length-take-le count into within),
        λ none told.
            (let moves : Moves old new into count = c.in-Ok.ensures.moved (rw (sym c.in-Ok.ensures.tells) told) in
            none_left old new into count moves none (omega (arith, wide, more))),
      );
    }
