use Rattle.std.proofs.Common.{arith}
use Rattle.room_effects.specs.Memory.{catalogue_in}
use Rattle.room_state.proofs.Prepared.{ready_behind, ready_kept}
use Rattle.room_state.proofs.laws.prepared_entries_stay.Goals as goal

pub returns : goal.returns
returns c = record {
  kept = λ m change held now same room entry ready. (
    ready_kept change (catalogue_in held) (catalogue_in now) same room ready.0,
    omega (arith, entry, ready.1),
  );
  behind = λ m first second held now before takes entry ready. (
    ready_behind first second (catalogue_in held) (catalogue_in now) before ready.0 takes,
    omega (arith, entry, ready.1),
  );
}
