use Rattle.std.proofs.Common.{◌≡◌, ◌∷◌, [], ◌++◌, List, length, sym, ap, subst, ◌∙◌, append_assoc, arith}
use Rattle.std.specs.Vec.Iter.{into_iter_items}
use Rattle.std.specs.Ordering.{nat_cmp}
use Rattle.room_base.specs.Ordered.{Ascends}
use Rattle.media_db.specs.Rows.{Database, volid_of}
use Rattle.media_db.specs.declared.volumes.VolumeRec.{VolumeRec}
use Rattle.snapshot_laws.proofs.Storing.{none-left, put-next}
use Rattle.snapshot_reading.proofs.decode.db_of.Goals as goal

pub loop-volume-preserved : goal.loop-volume-preserved
loop-volume-preserved c =
    let at = c.loop-volume in
    let x = c.in-Some.volume in
    let steps : into_iter_items at.volume-iterator ≡ x ∷ into_iter_items c.next.new.self = c.in-Some.ensures.steps.0 in
    let left : at.yielded ++ x ∷ into_iter_items c.next.new.self ≡ c.args.volumes.items = rw (← steps) at.invariant.left in
    let order : Ascends nat_cmp volid_of (at.yielded ++ x ∷ into_iter_items c.next.new.self) = subst (λ (xs : List VolumeRec). Ascends nat_cmp volid_of xs) (sym left) c.requires in
    let same = c.in_ok-reserve_volume.ensures.rest in
    let volumes : c.reserve_volume.new.self.volumes ≡ at.yielded = ap (λ (db : Database). db.volumes) same ∙ at.invariant.volumes in
    let was = at.invariant.len in
    let gone = c.in-Some.ensures.steps.1 in
    let short = ap (λ (xs : List VolumeRec). length xs) steps in
    record {
      left = append_assoc at.yielded (x ∷ []) _ ∙ left;
      len = omega arith;
      volumes = rw volumes at c.put_volume.ensures.volumes ∙ put-next volid_of at.yielded x (into_iter_items c.next.new.self) order;
      records = c.put_volume.ensures.records ∙ ap (λ (db : Database). db.records) same ∙ at.invariant.records;
    }

pub returns-clause-volumes : goal.returns-clause-volumes
returns-clause-volumes c =
    let at = c.loop-volume in
    at.invariant.volumes ∙ none-left at.yielded (into_iter_items at.volume-iterator) c.args.volumes.items at.invariant.left (sym at.invariant.len ∙ c.in-None.ensures.steps.0)
