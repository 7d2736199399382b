use Rattle.std.proofs.Common.{inr, refl}
use Rattle.volume_block.specs.declared.block.Block.TheVariants as kinds
use Rattle.volume_store.proofs.Finding.{other_units}
use Rattle.volume_store.proofs.marks.open_mark_of.Goals as goal

pub returns-in-Ok-Label : goal.returns-in-Ok-Label
returns-in-Ok-Label c = record {
  found = inr (record { opens = c.requires.open; no_mark = λ count valid. absurd (cc (c.in-Ok-Label.ensures.only (kinds.Mark count c.args.units) refl valid)) });
  count = tt;
}

pub returns-in-Ok-Data : goal.returns-in-Ok-Data
returns-in-Ok-Data c = record {
  found = inr (record { opens = c.requires.open; no_mark = λ count valid. absurd (cc (c.in-Ok-Data.ensures.only (kinds.Mark count c.args.units) refl valid)) });
  count = tt;
}

pub returns-in-Err : goal.returns-in-Err
returns-in-Err c = record {
  found = inr (record { opens = c.requires.open; no_mark = λ count valid. c.in-Err.ensures.judged.invalid (kinds.Mark count c.args.units) refl valid });
  count = tt;
}

pub returns-else-told-units-clause-found : goal.returns-else-told-units-clause-found
returns-else-told-units-clause-found c =
    let mark = rw c.in-Ok-Mark.field-0-is at c.in-Ok-Mark.ensures.judged in
    inr (record {
      opens = c.requires.open;
      no_mark = other_units c.args.bytes.now c.args.volid.0 c.args.number c.in-Ok-Mark.count c.in-Ok-Mark.told c.args.units
          mark c.if-told-units.false;
    })
