use Rattle.std.proofs.Common.{◌≢◌, ◌+◌, sym, ap, ◌∙◌, refl, arith}
use Rattle.std.proofs.lemmas.List.{length-drop, take_rest}
use Rattle.volume_block.specs.Why.{used_in}
use Rattle.volume_block.specs.Chunks.{count_in}
use Rattle.volume_block.specs.declared.block.Chunk.{Chunk}
use Rattle.volume_block.proofs.Finding.{has_room, has_size, finds_none, finds_first, next_place, read_at}
use Rattle.volume_block.proofs.chunks.next_chunk.Goals as goal

pub returns-then-at-used_length-clause-found : goal.returns-then-at-used_length-clause-found
returns-then-at-used_length-clause-found c = λ volid number units before after split.
    finds_none c.args.bytes.now volid number units c.args.at before after (c.if-at-used_length.true ∙ c.used_length.ensures) split

pub used_length-requires : goal.used_length-requires
used_length-requires c = let size = has_size c.args.bytes.now c.args.at c.requires in omega (arith, size.least)

pub slice_bounds-head_in-start : goal.slice_bounds-head_in-start
slice_bounds-head_in-start c =
    let bytes = c.args.bytes.now in
    let more : c.args.at ≢ used_in bytes = λ is. c.if-at-used_length.false (is ∙ sym c.used_length.ensures) in
    omega (arith, (has_room bytes c.args.at c.requires more).room)

pub slice_bounds-head_in-count : goal.slice_bounds-head_in-count
slice_bounds-head_in-count c =
    let bytes = c.args.bytes.now in
    let more : c.args.at ≢ used_in bytes = λ is. c.if-at-used_length.false (is ∙ sym c.used_length.ensures) in
    let room = (has_room bytes c.args.at c.requires more).room in
    omega (arith, room)

pub head_in-head-requires : goal.head_in-head-requires
head_in-head-requires c =
    let bytes = c.args.bytes.now in
    let more : c.args.at ≢ used_in bytes = λ is. c.if-at-used_length.false (is ∙ sym c.used_length.ensures) in
    let room = (has_room bytes c.args.at c.requires more).room in
    rw take_rest (omega (arith, room, length-drop (56 + c.args.at) bytes))

pub overflow_add-result-2 : goal.overflow_add-result-2
overflow_add-result-2 c =
    let bytes = c.args.bytes.now in
    let more : c.args.at ≢ used_in bytes = λ is. c.if-at-used_length.false (is ∙ sym c.used_length.ensures) in
    let room = (has_room bytes c.args.at c.requires more).room in
    let count = c.head_in-head.ensures.count ∙ ap count_in (take_rest bytes (56 + c.args.at)) in
    omega (arith, room, (has_room bytes c.args.at c.requires more).small, count)

pub returns-clause-found : goal.returns-clause-found
returns-clause-found c = λ volid number units before after split.
    let bytes = c.args.bytes.now in
    let more : c.args.at ≢ used_in bytes = λ is. c.if-at-used_length.false (is ∙ sym c.used_length.ensures) in
    let head = c.head_in-head.ensures in
    finds_first bytes volid number units c.args.at before after _ more
    (read_at bytes c.args.at _ head.ssid head.copy head.offset head.count (omega arith) refl) split

pub returns-clause-again : goal.returns-clause-again
returns-clause-again c =
    let bytes = c.args.bytes.now in
    let more : c.args.at ≢ used_in bytes = λ is. c.if-at-used_length.false (is ∙ sym c.used_length.ensures) in
    let head = c.head_in-head.ensures in
    let read = c.head_in-head.result in
    let found : Chunk = record {
      ssid = record { 0 = read.ssid };
      copy = record { 0 = read.copy };
      offset = read.offset;
      length = read.count;
      start = 56 + (c.args.at + 24);
      next = c.args.at + 24 + read.count;
    } in
    next_place bytes c.args.at found more
    (read_at bytes c.args.at found head.ssid head.copy head.offset head.count (omega arith) refl) c.requires
