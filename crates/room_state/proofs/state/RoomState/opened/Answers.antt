use Rattle.std.proofs.Common.{◌≡◌, Bool, true, false, arith}
use Rattle.room_effects.proofs.StayingDrives.{are_no_volumes}
use Rattle.room_state.proofs.state.RoomState.opened.Goals as goal

pub invariant_of-result : goal.invariant_of-result
invariant_of-result c = rw (c.new.ensures, c.new-2.ensures, c.of.ensures) (record {
  catalogue = c.number-held.ensures.held;
  sessions = record { ascending = tt; each = tt };
  few = omega arith;
  drives = are_no_volumes;
  on_drives = tt;
  journal = c.requires;
  emptied = λ shut. absurd (let no : ◌≡◌ {A = Bool} true false = shut in cc);
})
