use Rattle.std.proofs.Common.{refl, sym}
use Rattle.media_db.specs.Edits.{copy_no}
use Rattle.media_db.proofs.CopyLists.{position_changed, no_position}
use Rattle.media_db.proofs.edits.finish_copy_of.Goals as goal

pub returns-in-Some : goal.returns-in-Some
returns-in-Some c =
    let place = rw c.deref.ensures.value at c.in-Some.ensures.place in
    position_changed copy_no c.args.no.0 _ c.args.copies.now.items c.in-Some.at (sym place) c.index_mut-copy.result.now _ c.index_mut-copy.ensures.value refl

pub returns-in_default : goal.returns-in_default
returns-in_default c =
    let place = rw c.deref.ensures.value at c.in_default.ensures.place in
    no_position copy_no c.args.no.0 _ c.args.copies.now.items (sym place)
