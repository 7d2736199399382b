use Rattle.std.proofs.Common.{◌≡◌, ◌∙◌, ◌+◌, ◌-◌, ◌++◌, length, min, take, drop, ap, sym, arith}
use Rattle.std.proofs.lemmas.List.{drop-drop, take_all, nil_from_length}
use Rattle.desk_request.proofs.Filling.{body_given, written, from_place}
use Rattle.desk_request.proofs.reading.read_body.Goals as goal

pub returns-clause-body : goal.returns-clause-body
returns-clause-body g c =
    let before = c.args.buffer.now.items in
    let at = c.args.at in
    let there = drop at before in
    let had = c.copy_front-had.result in
    let copied = c.copy_front-had.new.into in
    let body = c.fill.new.into in
    let fills = c.in_ok-fill.ensures.fills in
    let more = fills.more in
    let len = c.in_ok-body.body.len in
    let long : length copied ≡ len = omega (arith, c.deref_mut.ensures.len, c.in_ok-body.body.ok) in
    let given : c.deref_mut-2.result.now ≡ copied = c.deref_mut-2.ensures.value ∙ written copied _ len long in
    let same : length body ≡ len = omega (arith, long, ap length given) in
    let final : take len (body ++ _) ≡ body = written body _ len same in
    let behind : take (length c.deref.result.now - at) (drop at c.deref.result.now) ≡ there = from_place c.deref.result.now before at c.deref.ensures.value in
    let enough : length more ≡ len - had = omega (arith, fills.fills, ap length given, long) in
    let had_is : had ≡ min (length there) len =
    c.copy_front-had.ensures.count ∙ ap (λ bytes. min (length bytes) (length copied)) behind ∙ ap (min (length there)) long in
    let is : body ≡ take had there ++ more =
    sym (take_all (had + length more) body (omega (arith, same, enough))) ∙ fills.filled
    ∙ ap (λ bytes. bytes ++ more) (ap (take had) given ∙ c.copy_front-had.ensures.copied ∙ ap (take had) behind) in
    let after : c.remove_front.new.list.items ≡ drop had there = c.remove_front.ensures ∙ sym (drop-drop had at before) in
    record {
      more = more;
      took = fills.took;
      gives = (
        body_given there more body had len had_is enough is ∙ ap (λ bytes. body ++ bytes) (sym after)
            ∙ ap (λ bytes. bytes ++ c.remove_front.new.list.items) (sym final),
        ap length final ∙ same ∙ c.in_ok-body.ensures.len,
        λ all. nil_from_length more (omega (arith, all, enough, c.in_ok-body.ensures.len, had_is)),
      );
    }
