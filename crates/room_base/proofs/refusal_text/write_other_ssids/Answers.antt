use Rattle.std.proofs.Common.{◌≡◌, List, ℕ, [], ◌∷◌, ◌++◌, Err, Ok, ap, ◌∙◌, append-nil}
use Rattle.std.proofs.lemmas.Result.{err_from_is_err_and}
use Rattle.room_base.specs.Refusals.{ssid_behind}
use Rattle.room_base.proofs.Writing.{text_same, next_item, item_failed}
use Rattle.room_base.proofs.refusal_text.write_other_ssids.Goals as goal

-- a comma and a number, as they are written
same_text : (written digits number : List ℕ) → written ≡ digits → digits ≡ number → 44 ∷ (written ++ []) ≡ 44 ∷ number
same_text written digits number one other = ap (λ (text : List ℕ). 44 ∷ text) (append-nil written ∙ one ∙ other)

pub returns-in_err-write_parts : goal.returns-in_err-write_parts
returns-in_err-write_parts g c =
    let p = err_from_is_err_and c.from_residual.result c.from_residual.ensures.1 in
    let fault = c.in_err-write_parts.field-0.0 in
    let mid = g.W.Sink.view c.loop-ssid.sink in
    let new = g.W.Sink.view c.write_parts.new.sink in
    let same = same_text _ _ _ c.as_bytes.ensures.value c.format.ensures.text in
    rw p.1 (item_failed ssid_behind c.args.ssids.now c.loop-ssid.ssid-index record { 0 = 0 } _ mid new fault p.0 c.loop-ssid-test.true
    c.loop-ssid.invariant (text_same _ _ mid new (Err fault) same c.in_err-write_parts.ensures.written))

pub loop-ssid-preserved : goal.loop-ssid-preserved
loop-ssid-preserved g c =
    let mid = g.W.Sink.view c.loop-ssid.sink in
    let new = g.W.Sink.view c.write_parts.new.sink in
    let same = same_text _ _ _ c.as_bytes.ensures.value c.format.ensures.text in
    next_item ssid_behind c.args.ssids.now c.loop-ssid.ssid-index record { 0 = 0 } _ mid new c.loop-ssid-test.true c.loop-ssid.invariant
    (text_same _ _ mid new (Ok tt) same c.in_ok-write_parts.ensures.written)
