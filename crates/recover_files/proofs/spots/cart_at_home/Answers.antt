use Rattle.std.proofs.Common.{sym}
use Rattle.std.proofs.lemmas.Cmp.{nat_cmp_total}
use Rattle.room_base.proofs.OrderedLaws.{each_found}
use Rattle.media_db.specs.Rows.{volid_of}
use Rattle.recover_files.specs.StreamAt.{LiesOnCart}
use Rattle.recover_files.proofs.spots.cart_at_home.Goals as goal

pub returns-in-Some-clause-cart : goal.returns-in-Some-clause-cart
returns-in-Some-clause-cart c =
    each_found nat_cmp_total volid_of LiesOnCart c.args.volid.0 c.in-Some.volume.now c.args.db.now.volumes c.requires
    (sym c.in-Some.ensures.found)
