use Rattle.std.proofs.Common.{ℕ, List, subst}
use Rattle.std.specs.Prelude.{None, Some}
use Rattle.room_catalog.specs.Held.{HeldCatalogue}
use Rattle.room_catalog.specs.Invariant.{IsHeld}
use Rattle.save_stream.specs.Heads.{head_of_parts}
use Rattle.room_placing.specs.Placing.{IsDriveFor}
use Rattle.save_begin.proofs.Heads.{short_names}
use Rattle.save_begin.proofs.choosing.choose.Goals as goal

pub head_size-requires : goal.head_size-requires
head_size-requires c =
    let H : HeldCatalogue → Type 0 = λ held. IsHeld held.lists in
    short_names c.args.m c.args.asked.now c.args.wanted c.args.room.now.room (head_of_parts c.head_for-parts.result) c.head_for-parts.ensures c.requires
    (subst H c.catalogue.ensures c.number-held.ensures.held)

pub returns-in-Some-clause-head : goal.returns-in-Some-clause-head
returns-in-Some-clause-head c =
    let room = c.args.room.now.room in
    let parts = c.head_for-parts.result in
    let P : List ℕ → Type 0 = λ pool. IsDriveFor None pool c.head_size.result room (Some c.in-Some.drive) in
    let S : ℕ → Type 0 = λ size. IsDriveFor None parts.pool.now size room (Some c.in-Some.drive) in (
      head_of_parts parts,
      c.head_for-parts.ensures,
      Some c.in-Some.drive,
      subst S c.head_size.ensures (subst P c.as_bytes.ensures.value c.in-Some.ensures.drive),
      c.made_choice.ensures.made,
    )
