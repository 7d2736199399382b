use Rattle.std.proofs.Common.{◌≡◌, List, subst, ap, ◌∙◌}
use Rattle.std.specs.Option.{option_copied}
use Rattle.std.specs.Prelude.{Option}
use Rattle.media_db.specs.declared.records.Record.{Record}
use Rattle.catalog_change.specs.declared.resource.Client.{Client}
use Rattle.catalog_change.specs.Resources.{client_name}
use Rattle.resource_lists.specs.Kinds.{find_named}
use Rattle.room_catalog.specs.Held.{HeldCatalogue}
use Rattle.sched_levels.specs.Bases.{IsBaseFor}
use Rattle.save_begin.specs.Asking.{client_of}
use Rattle.save_begin.specs.Heading.{browse_until, retain_until}
use Rattle.save_begin.proofs.Heads.{head_is}
use Rattle.save_begin.proofs.heading.head_for.Goals as goal

pub returns : goal.returns
returns c =
    let asked = c.args.asked.now in
    let room = c.args.room.now.room in
    let level = c.base_for-rank.result.0 in
    let base = c.base_for-rank.result.1 in
    let client : option_copied c.client-client.result ≡ client_of asked.client room =
    c.client-client.ensures
    ∙ ap (λ name. find_named client_name name c.catalogue-catalogue.result.now.lists.resources.clients) c.as_bytes.ensures.value
    ∙ ap (λ (held : HeldCatalogue). find_named client_name asked.client held.lists.resources.clients) c.catalogue-catalogue.ensures in
    let B : List Record → Type 0 = λ rows. IsBaseFor rows asked.client asked.set c.args.wanted level base in
    record {
      base = subst B (c.db.ensures.records ∙ ap (λ (held : HeldCatalogue). held.lists.records) c.catalogue-catalogue.ensures) c.base_for-rank.ensures;
      pool = c.pool_for.ensures;
      is = head_is c.args.m asked level base c.pool_for.result.now room c.next_ssid.result c.browse_until.result c.retain_until.result c.args.group.now
          (c.next_ssid.ensures ∙ ap (λ (held : HeldCatalogue). held.lists.next_ssid) c.catalogue-catalogue.ensures)
          (c.browse_until.ensures ∙ ap (λ (one : Option Client). browse_until c.args.m room one) client)
          (c.retain_until.ensures ∙ ap (λ (one : Option Client). retain_until c.args.m room one) client)
          c.requires;
    }
