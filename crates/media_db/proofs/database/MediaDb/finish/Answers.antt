use Rattle.std.proofs.Common.{refl, sym, subst}
use Rattle.media_db.specs.Edits.{finished}
use Rattle.media_db.specs.Rows.{AreRecords}
use Rattle.media_db.proofs.Updates.{edited_at, edited_none, records_edited}
use Rattle.media_db.proofs.database.MediaDb.finish.Goals as goal

pub invariant_of-self : goal.invariant_of-self
invariant_of-self c =
    let place = rw c.deref.ensures.value at c.in-Ok.ensures in
    let edit = edited_at (finished c.args.files c.args.bytes c.args.digest c.args.sections) c.args.ssid.0 c.self.inside.records.items c.in-Ok.at c.self.invariant.0 place c.index_mut.result.now c.finish.new.self c.index_mut.ensures.value c.finish.ensures in
    (subst AreRecords (sym edit) (records_edited (finished c.args.files c.args.bytes c.args.digest c.args.sections) (record { ssid = λ row. refl; base = λ row. refl }) c.args.ssid.0 _ c.self.invariant.0), c.self.invariant.1)

pub returns-in-Ok : goal.returns-in-Ok
returns-in-Ok c =
    let place = rw c.deref.ensures.value at c.in-Ok.ensures in
    let edit = edited_at (finished c.args.files c.args.bytes c.args.digest c.args.sections) c.args.ssid.0 c.self.inside.records.items c.in-Ok.at c.self.invariant.0 place c.index_mut.result.now c.finish.new.self c.index_mut.ensures.value c.finish.ensures in
    rw (← c.self.view_is, edit) refl

pub returns-in_default : goal.returns-in_default
returns-in_default c =
    let gap = rw c.deref.ensures.value at c.in_default.ensures in
    let same = edited_none (finished c.args.files c.args.bytes c.args.digest c.args.sections) c.args.ssid.0 c.self.inside.records.items _ gap in
    rw (← c.self.view_is, ← same) refl
