use Rattle.std.proofs.Common.{◌≤◌, ◌∙◌, ◌++◌, ℕ, List, [], Err, length, inl, inr, refl, sym, ap, subst, arith, append_assoc, append-nil}
use Rattle.std.proofs.lemmas.Result.{err_from_is_err_and}
use Rattle.desk_request.specs.Heads.{FindsHead}
use Rattle.desk_request.proofs.Finding.{never_of_long}
use Rattle.desk_request.proofs.Searching.{none_of_nothing, has_bytes, took_none, search_failed, piece_more, searched_stays, none_found, none_added, none_at_first, head_ended}
use Rattle.desk_request.proofs.reading.read_head.Goals as goal

pub pieces-init : goal.pieces-init
pieces-init g c = record {
  more = [];
  added = sym (append-nil c.args.buffer.now.items);
  took = λ told. took_none (g.S.Source.view c.args.source.now);
  none = none_of_nothing;
  still = inr refl;
  later = omega arith;
  tells = refl;
  alone = g.met.S.Source.takes_none c.args.source.now;
}

pub returns-in_err-head-clause-read : goal.returns-in_err-head-clause-read
returns-in_err-head-clause-read g c =
    let p = err_from_is_err_and c.from_residual.result c.from_residual.ensures.1 in
    let so_far = c.pieces.invariant in
    let bytes = c.pieces.buffer.items in
    let old = g.S.Source.view c.args.source.now in
    let new = g.S.Source.view c.pieces.source in
    let found : FindsHead bytes (Err c.in_err-head.field-0.0) = subst (λ (b : List ℕ). FindsHead b (Err c.in_err-head.field-0.0)) c.deref.ensures.value c.in_err-head.ensures.found in
    rw (p.1, p.2) (search_failed old new c.args.buffer.now.items bytes so_far.more c.in_err-head.field-0.0 so_far.added so_far.took so_far.still found
    (omega (arith, c.in_err-head.ensures.some, ap length c.deref.ensures.value)))

pub returns-then-len-ge-MAX_HEAD-clause-read : goal.returns-then-len-ge-MAX_HEAD-clause-read
returns-then-len-ge-MAX_HEAD-clause-read g c =
    let so_far = c.pieces.invariant in
    let bytes = c.pieces.buffer.items in
    let none = none_found c.deref.result.now bytes c.in_ok-head.field-0 c.in_default.is c.deref.ensures.value c.in_ok-head.ensures.found in
    let long : 8192 ≤ length bytes = omega (arith, c.if-len-ge-MAX_HEAD.true, c.len.ensures, c.pieces.buffer.ok) in
    record {
      more = so_far.more;
      added = so_far.added;
      took = so_far.took;
      finds = (has_bytes bytes (omega (arith, long)), none, inl (never_of_long bytes none long));
      still = so_far.still;
    }

pub returns-then-branch-eq0-clause-read : goal.returns-then-branch-eq0-clause-read
returns-then-branch-eq0-clause-read g c =
    let old = g.S.Source.view c.args.source.now in
    let new = g.S.Source.view c.take_piece.new.source in
    let so_far = c.pieces.invariant in
    let piece = c.in_ok-take_piece.ensures.piece in
    let bytes = c.take_piece.new.buffer.items in
    let none = none_found c.deref.result.now c.pieces.buffer.items c.in_ok-head.field-0 c.in_default.is c.deref.ensures.value c.in_ok-head.ensures.found in
    let added = piece.added ∙ ap (λ b. b ++ piece.more) so_far.added ∙ append_assoc c.args.buffer.now.items so_far.more piece.more in
    head_ended old new c.args.buffer.now.items bytes (so_far.more ++ piece.more) c.end_of.result added
    (piece_more old (g.S.Source.view c.pieces.source) new so_far.more piece.more so_far.tells so_far.took piece.took)
    (none_at_first c.args.buffer.now.items c.pieces.buffer.items so_far.more so_far.added so_far.still none)
    (none_added c.pieces.buffer.items bytes piece.more piece.added (sym c.if-branch-eq0.true ∙ piece.adds.0) none)
    (piece.adds.1 c.if-branch-eq0.true) (rw c.deref-then-branch-eq0.ensures.value at c.end_of.ensures)

pub pieces-preserved : goal.pieces-preserved
pieces-preserved g c =
    let so_far = c.pieces.invariant in
    let piece = c.in_ok-take_piece.ensures.piece in
    let none = none_found c.deref.result.now c.pieces.buffer.items c.in_ok-head.field-0 c.in_default.is c.deref.ensures.value c.in_ok-head.ensures.found in
    record {
      more = so_far.more ++ piece.more;
      added = piece.added ∙ ap (λ bytes. bytes ++ piece.more) so_far.added ∙ append_assoc c.args.buffer.now.items so_far.more piece.more;
      took = piece_more (g.S.Source.view c.args.source.now) (g.S.Source.view c.pieces.source) (g.S.Source.view c.take_piece.new.source) so_far.more piece.more
          so_far.tells so_far.took piece.took;
      none = searched_stays c.pieces.buffer.items c.take_piece.new.buffer.items piece.more c.len-searched.result (omega (arith, c.len-searched.ensures, c.pieces.buffer.ok)) piece.added none;
      still = inl (none_at_first c.args.buffer.now.items c.pieces.buffer.items so_far.more so_far.added so_far.still none);
      later = omega (arith, so_far.later, c.in_ok-take_piece.ensures.later);
      tells = c.in_ok-take_piece.ensures.tells ∙ so_far.tells;
      alone = g.met.S.Source.takes_then _ _ _ so_far.alone c.in_ok-take_piece.ensures.alone;
    }
