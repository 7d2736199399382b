use Rattle.std.proofs.Common.{ap, sym, ◌∙◌}
use Rattle.room_catalog.specs.Held.{HeldCatalogue, catalogue_of}
use Rattle.save_finish.proofs.Recorded.{head_allowed}
use Rattle.save_finish.proofs.again.finished_again.Goals as goal

pub row_again-requires : goal.row_again-requires
row_again-requires c =
    head_allowed c.args.ssid.0 (catalogue_of c.catalogue.result.now.lists) c.db.result.now.records c.in-Some.row.now c.number-held.ensures.allowed
    (c.db.ensures.records ∙ ap (λ (held : HeldCatalogue). held.lists.records) (c.catalogue-2.ensures ∙ sym c.catalogue.ensures)) c.in-Some.ensures.found
