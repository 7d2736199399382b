use Rattle.std.proofs.Common.{◌≡◌, List, [], ◌∷◌, length, refl, subst, arith}
use Rattle.media_db.specs.declared.records.Record.{Record}
use Rattle.media_db.proofs.Chains.{IsBehind, last_of, no_last}
use Rattle.media_db.proofs.usable.last_base.Goals as goal

empty : (rows : List Record) → length rows ≡ 0 → rows ≡ []
empty [] none = refl
empty (row ∷ rows) none = absurd (omega arith)

pub returns-then-can_be_base : goal.returns-then-can_be_base
returns-then-can_be_base c =
    let behind = subst (λ (rows : List Record). IsBehind c.args.records.now c.args.client.now c.args.set.now c.args.below rows) c.in-Some.ensures.cases.0 c.loop-row.invariant in
    last_of c.args.records.now c.args.client.now c.args.set.now c.args.below c.in-Some.before.now c.in-Some.row.now c.requires behind (c.if-can_be_base.ensures.0 refl)

pub returns : goal.returns
returns c =
    let none = empty c.loop-row.rows.now c.in_default.ensures.cases in
    let behind = subst (λ (rows : List Record). IsBehind c.args.records.now c.args.client.now c.args.set.now c.args.below rows) none c.loop-row.invariant in
    no_last c.args.records.now c.args.client.now c.args.set.now c.args.below behind
