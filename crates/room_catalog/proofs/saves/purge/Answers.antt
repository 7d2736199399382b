use Rattle.std.proofs.Common.{◌∙◌, List, get_or, refl, sym, ap}
use Rattle.media_db.specs.declared.records.Record.{Record}
use Rattle.media_db.specs.Edits.{purged_by}
use Rattle.media_db.specs.Rows.{Database, update_row}
use Rattle.room_base.specs.declared.numbers.Ssid.{Ssid}
use Rattle.room_catalog.specs.Changing.{purge_each}
use Rattle.room_catalog.proofs.Stepping.{walk_at}
use Rattle.room_catalog.proofs.saves.purge.Goals as goal

pub loop-ssid-preserved : goal.loop-ssid-preserved
loop-ssid-preserved c =
    let ssids = c.args.ssids.now in
    let i = c.loop-ssid.ssid-index in
    let purge = λ (ssid : Ssid) (rows : List Record). update_row ssid.0 (purged_by c.args.number) rows in
    let rows = walk_at purge (purge_each c.args.number) (λ s. refl) (λ x xs s. refl) ssids i (record { 0 = 0 }) c.args.db.now.records c.loop-ssid-test.true in
    record {
      records = ap (λ (db : Database). db.records) c.purge.ensures ∙ ap (purge (get_or ssids i (record { 0 = 0 }))) c.loop-ssid.invariant.records ∙ sym rows;
      volumes = ap (λ (db : Database). db.volumes) c.purge.ensures ∙ c.loop-ssid.invariant.volumes;
      record_room = ap (λ (db : Database). db.record_room) c.purge.ensures ∙ c.loop-ssid.invariant.record_room;
      volume_room = ap (λ (db : Database). db.volume_room) c.purge.ensures ∙ c.loop-ssid.invariant.volume_room;
    }
