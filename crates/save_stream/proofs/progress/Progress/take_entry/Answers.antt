use Rattle.std.proofs.Common.{◌≡◌, ◌∙◌, ◌++◌, ◌∷◌, [], ℕ, List, false, ap, sym, length, refl, arith}
use Rattle.save_stream.specs.declared.entry.IndexEntry.{IndexEntry}
use Rattle.save_stream.specs.Items.{Entry, as_item, with_item}
use Rattle.save_stream.specs.Reading.{Part, Front, Reading, front_at, last_path}
use Rattle.save_stream.specs.Texts.{front_from}
use Rattle.save_stream.specs.View.{idle_reading}
use Rattle.save_stream.proofs.Items.{rest-next}
use Rattle.save_stream.proofs.progress.Progress.take_entry.Goals as goal

pub returns-in_ok-push-in-Ok-clause-read : goal.returns-in_ok-push-in-Ok-clause-read
returns-in_ok-push-in-Ok-clause-read c =
    let old = idle_reading c.args.self.now in
    let entries = old.entries in
    let bytes = c.args.bytes.now in
    let front : Front = front_from c.in-Ok.front in
    let place = c.saturating_sub-place.result in
    let count : length entries ≡ c.len.result = omega (arith, c.len.ensures) in
    let last : last_path entries ≡ c.last_path-last.result.now = sym (c.last_path-last.ensures ∙ ap last_path c.deref.ensures.value) in
    record {
      item = Entry front;
      rest = c.in-Ok.rest.now;
      found = rest-next old.head entries bytes false c.requires.some c.requires.begins
          ∙ ap (λ (n : ℕ). as_item Entry (front_at n (last_path entries) bytes)) count
          ∙ ap (λ (l : List ℕ). as_item Entry (front_at c.len.result l bytes)) last ∙ ap (λ (p : Part Front). as_item Entry p) c.in-Ok.ensures;
      behind_is = refl;
      taken = ap (λ (es : List IndexEntry). let r : Reading = record old { read = place; left = c.in_ok-entry-in-Ok.entry.size; entries = es } in r) c.in_ok-push-in-Ok.ensures.items
          ∙ ap (λ (e : IndexEntry). let r : Reading = record old { read = place; left = e.size; entries = entries ++ e ∷ [] } in r) c.in_ok-entry-in-Ok.ensures
          ∙ ap (λ (n : ℕ). with_item old n (Entry front)) c.saturating_sub-place.ensures;
    }
