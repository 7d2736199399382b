use Rattle.std.proofs.Common.{◌∙◌, length, sym, arith}
use Rattle.volume_block.proofs.Forms.{units_range}
use Rattle.room_run.specs.Put.{site_units}
use Rattle.room_run.proofs.PutRuns.{has_room, some_blocks, site_has_units, is_file_of, sealed_for}
use Rattle.room_run.proofs.store.store_file.Goals as goal

pub seal-region-requires-clause-some : goal.seal-region-requires-clause-some
seal-region-requires-clause-some g c =
    let site = c.args.site.now in
    let bytes = c.args.bytes.now in
    let file = is_file_of c.args.cart.0 site bytes c.in-Ok.buffer c.push.new.self c.units.result c.number-number.result c.requires.ready c.units.ensures c.number-number.ensures c.in-Ok.ensures c.push.ensures.blocks in
    let some = (units_range (site_units site) (site_has_units c.args.cart.0 (length bytes) site c.requires.ready)).0 in
    omega (arith, file.counted, some_blocks (site_units site) (length bytes) some c.requires.size.0)

pub store_region-requires-clause-sealed : goal.store_region-requires-clause-sealed
store_region-requires-clause-sealed g c =
    let site = c.args.site.now in
    let bytes = c.args.bytes.now in
    let buffer = c.push.new.self in
    let file = is_file_of c.args.cart.0 site bytes c.in-Ok.buffer buffer c.units.result c.number-number.result c.requires.ready c.units.ensures c.number-number.ensures c.in-Ok.ensures c.push.ensures.blocks in (
      buffer.blocks,
      sym c.blocks-count.ensures.count,
      sealed_for site bytes buffer c.volid.result.0 c.mark.result c.seal-region.result.now file c.volid.ensures c.mark.ensures c.seal-region.ensures.sealed,
    )

pub store_region-requires-clause-ready : goal.store_region-requires-clause-ready
store_region-requires-clause-ready g c =
    let site = c.args.site.now in
    let bytes = c.args.bytes.now in
    let file = is_file_of c.args.cart.0 site bytes c.in-Ok.buffer c.push.new.self c.units.result c.number-number.result c.requires.ready c.units.ensures c.number-number.ensures c.in-Ok.ensures c.push.ensures.blocks in
    has_room c.args.cart.0 (length bytes) c.blocks-count.result site c.requires.ready (c.blocks-count.ensures.count ∙ file.counted)

pub returns-in-Ok-store_region-clause-stored : goal.returns-in-Ok-store_region-clause-stored
returns-in-Ok-store_region-clause-stored g c = λ told clock at.
    let site = c.args.site.now in
    let bytes = c.args.bytes.now in
    let buffer = c.push.new.self in
    let file = is_file_of c.args.cart.0 site bytes c.in-Ok.buffer buffer c.units.result c.number-number.result c.requires.ready c.units.ensures c.number-number.ensures c.in-Ok.ensures c.push.ensures.blocks in
    c.in-Ok-store_region.ensures.stored told clock buffer.blocks bytes
    (sealed_for site bytes buffer c.volid.result.0 c.mark.result c.seal-region.result.now file c.volid.ensures c.mark.ensures c.seal-region.ensures.sealed) file.joined at

pub returns-in-Ok-store_region-clause-moments : goal.returns-in-Ok-store_region-clause-moments
returns-in-Ok-store_region-clause-moments g c = λ told clock at settled.
    let site = c.args.site.now in
    let bytes = c.args.bytes.now in
    let buffer = c.push.new.self in
    let file = is_file_of c.args.cart.0 site bytes c.in-Ok.buffer buffer c.units.result c.number-number.result c.requires.ready c.units.ensures c.number-number.ensures c.in-Ok.ensures c.push.ensures.blocks in
    c.in-Ok-store_region.ensures.moments told clock buffer.blocks bytes
    (sealed_for site bytes buffer c.volid.result.0 c.mark.result c.seal-region.result.now file c.volid.ensures c.mark.ensures c.seal-region.ensures.sealed) file.joined at settled

pub returns-clause-moments : goal.returns-clause-moments
returns-clause-moments g c = λ told clock at settled.
    let site = c.args.site.now in
    let bytes = c.args.bytes.now in
    let buffer = c.push.new.self in
    let file = is_file_of c.args.cart.0 site bytes c.in-Ok.buffer buffer c.units.result c.number-number.result c.requires.ready c.units.ensures c.number-number.ensures c.in-Ok.ensures c.push.ensures.blocks in
    c.in-Err.ensures.moments told clock buffer.blocks bytes
    (sealed_for site bytes buffer c.volid.result.0 c.mark.result c.seal-region.result.now file c.volid.ensures c.mark.ensures c.seal-region.ensures.sealed) file.joined at settled
