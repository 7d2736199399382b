use Rattle.std.proofs.Common.{arith, refl}
use Rattle.journal_replay.proofs.FirstCatalogue.{none_of_bad, none_of_number}
use Rattle.journal_replay.proofs.snapshot.first_catalogue.Goals as goal

pub returns-then-number : goal.returns-then-number
returns-then-number c =
    (refl, refl, none_of_number c.args.number c.args.snapshot.now c.in-Ok.catalogue c.in-Ok.ensures (λ same. omega (arith, same, c.number.ensures.number)))

pub returns-in-Err-Bad : goal.returns-in-Err-Bad
returns-in-Err-Bad c =
    (refl, refl, none_of_bad c.args.number c.args.snapshot.now c.in-Err-Bad.field-0-0 (rw c.in-Err-Bad.field-0-is at c.in-Err-Bad.ensures))
