use Rattle.std.proofs.Common.{◌≡◌, ◌*◌, ◌/◌, ℕ, length, take, drop, ap, ◌∙◌, arith, rules}
use Rattle.std.proofs.lemmas.List.{length-take, length-drop}
use Rattle.volume_block.specs.Layout.{block_text}
use Rattle.volume_block.proofs.encode.seal_data.Goals as goal

pub returns-clause-text : goal.returns-clause-text
returns-clause-text c = λ units sized.
    let told : length c.args.into.now / 4096 ≡ units = omega (arith, sized) in
    let payload = take c.args.used (drop 56 c.args.into.now) in
    c.finish_block.ensures
    ∙ ap (λ (u : ℕ). block_text 68 u (length c.args.into.now) c.args.volid.0 c.args.number payload) told
    ∙ ap (λ (size : ℕ). block_text 68 units size c.args.volid.0 c.args.number payload) sized

pub returns-clause-holds : goal.returns-clause-holds
returns-clause-holds c = λ units chunks filled.
    record {
      of_volume = search rules;
      placed = search rules;
      of_units = filled.of_units;
      allowed = filled.allowed;
      text = returns-clause-text c units filled.sized ∙ ap (block_text 68 units (4096 * units) c.args.volid.0 c.args.number) filled.text;
    }

pub returns-clause-valid : goal.returns-clause-valid
returns-clause-valid c = λ units chunks filled. (
  chunks,
  returns-clause-holds c units chunks filled,
  omega (arith, length-take c.args.used (drop 56 c.args.into.now), length-drop 56 c.args.into.now, ap length filled.text),
)
