use Rattle.std.proofs.Common.{sym}
use Rattle.std.proofs.lemmas.Cmp.{nat_cmp_total}
use Rattle.room_base.proofs.OrderedSearch.{found_read, none_at}
use Rattle.media_db.specs.Rows.{ssid_of}
use Rattle.media_db.proofs.Chains.{base_has_lower}
use Rattle.media_db.proofs.Updates.{place_ssid}
use Rattle.media_db.proofs.place.find_record_in.Goals as goal

pub returns-in-Ok-clause-found : goal.returns-in-Ok-clause-found
returns-in-Ok-clause-found c = sym (found_read nat_cmp_total ssid_of c.args.ssid.0 c.args.records.now c.requires.ascending c.in-Ok.at c.in-Ok.ensures c.index-records-at.result c.index-records-at.is)

pub returns-in-Ok-clause-ssid : goal.returns-in-Ok-clause-ssid
returns-in-Ok-clause-ssid c = place_ssid c.args.ssid c.args.records.now c.in-Ok.at c.in-Ok.ensures c.index-records-at.result c.index-records-at.is

pub returns-in-Ok-clause-base : goal.returns-in-Ok-clause-base
returns-in-Ok-clause-base c = base_has_lower c.args.records.now c.args.ssid.0 c.index-records-at.result c.requires (found_read nat_cmp_total ssid_of c.args.ssid.0 c.args.records.now c.requires.ascending c.in-Ok.at c.in-Ok.ensures c.index-records-at.result c.index-records-at.is)

pub returns-in-Err-clause-found : goal.returns-in-Err-clause-found
returns-in-Err-clause-found c = sym (none_at nat_cmp_total ssid_of c.args.ssid.0 c.args.records.now _ c.in-Err.ensures)
