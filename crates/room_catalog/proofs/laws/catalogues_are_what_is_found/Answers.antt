use Rattle.std.specs.Cmp.Lexicographic.{nat_list_cmp_total}
use Rattle.std.proofs.lemmas.Cmp.{nat_cmp_total}
use Rattle.room_base.proofs.OrderedLaws.{same_lists}
use Rattle.media_db.specs.Rows.{ssid_of, volid_of}
use Rattle.catalog_change.specs.Catalogues.{slot_number}
use Rattle.catalog_change.specs.Resources.{client_name, group_name, policy_name, pool_name, schedule_name}
use Rattle.room_catalog.proofs.laws.catalogues_are_what_is_found.Goals as goal

pub returns : goal.returns
returns c = λ one other is also alike. record {
  policies = same_lists nat_list_cmp_total policy_name one.policies other.policies is.resources.policies.order also.resources.policies.order alike.policies;
  pools = same_lists nat_list_cmp_total pool_name one.pools other.pools is.resources.pools.order also.resources.pools.order alike.pools;
  clients = same_lists nat_list_cmp_total client_name one.clients other.clients is.resources.clients.order also.resources.clients.order alike.clients;
  schedules = same_lists nat_list_cmp_total schedule_name one.schedules other.schedules is.resources.schedules.order also.resources.schedules.order alike.schedules;
  groups = same_lists nat_list_cmp_total group_name one.groups other.groups is.resources.groups.order also.resources.groups.order alike.groups;
  slots = same_lists nat_cmp_total slot_number one.slots other.slots is.slots.order also.slots.order alike.slots;
  volumes = same_lists nat_cmp_total volid_of one.volumes other.volumes is.volumes.order also.volumes.order alike.volumes;
  records = same_lists nat_cmp_total ssid_of one.records other.records is.records.order also.records.order alike.records;
}
