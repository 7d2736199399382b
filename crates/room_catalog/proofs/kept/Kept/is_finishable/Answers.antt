use Rattle.std.proofs.Common.{◌∙◌, ap, sym, subst}
use Rattle.std.specs.Option.{option_copied}
use Rattle.std.proofs.lemmas.Cmp.{nat_cmp_total}
use Rattle.room_base.proofs.OrderedLaws.{each_found}
use Rattle.save_stream.specs.Spelling.{IsHead}
use Rattle.media_db.specs.Rows.{ssid_of}
use Rattle.catalog_change.specs.Catalogues.{IsRecord}
use Rattle.room_catalog.proofs.kept.Kept.is_finishable.Goals as goal

-- the head of a record is allowed
pub head_length-requires : goal.head_length-requires
head_length-requires c =
    let db = c.args.self.now.db in
    let found = sym c.record.ensures.found ∙ ap option_copied c.in-Some.is in
    let row = each_found nat_cmp_total ssid_of (IsRecord c.args.self.now.next_ssid.0) c.args.ssid.0 c.in-Some.row.now db.records c.requires.records.each found in
    subst IsHead (sym c.parts_of.ensures) row.head
