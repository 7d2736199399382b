use Rattle.std.proofs.Common.{◌≡◌, ◌∷◌, [], ◌++◌, List, map, length, sym, ap, ◌∙◌, append_assoc, arith}
use Rattle.std.specs.Vec.Iter.{into_iter_items}
use Rattle.client_index.specs.Sets.{number_of}
use Rattle.media_db.specs.Rows.{Database, HasLowerBase, ssid_of}
use Rattle.save_stream.specs.Spelling.{PathsAscend}
use Rattle.catalog_spelling.specs.declared.snapshot_fields.ListedRecord.{ListedRecord}
use Rattle.catalog_spelling.specs.Storing.{set_of}
use Rattle.snapshot_laws.proofs.Storing.{each-at, none-left, put-mapped, row-of, ascends-at}
use Rattle.snapshot_reading.proofs.decode.stored.Goals as goal

pub put_record-requires-clause-base : goal.put_record-requires-clause-base
put_record-requires-clause-base c =
    let at = c.loop-listed in
    let steps : into_iter_items at.listed-iterator ≡ c.in-Some.listed ∷ into_iter_items c.next.new.self = c.in-Some.ensures.steps.0 in
    each-at (λ (listed : ListedRecord). HasLowerBase listed.row) at.yielded c.in-Some.listed (into_iter_items c.next.new.self) c.args.records.items (rw (← steps) at.invariant.left) c.requires.records.bases

pub put-requires-clause-ascend : goal.put-requires-clause-ascend
put-requires-clause-ascend c =
    let at = c.loop-listed in
    let steps : into_iter_items at.listed-iterator ≡ c.in-Some.listed ∷ into_iter_items c.next.new.self = c.in-Some.ensures.steps.0 in
    rw c.into_list.ensures (each-at (λ (listed : ListedRecord). PathsAscend listed.index) at.yielded c.in-Some.listed (into_iter_items c.next.new.self) c.args.records.items (rw (← steps) at.invariant.left) c.requires.records.paths)

pub loop-listed-preserved : goal.loop-listed-preserved
loop-listed-preserved c =
    let at = c.loop-listed in
    let x = c.in-Some.listed in
    let steps : into_iter_items at.listed-iterator ≡ x ∷ into_iter_items c.next.new.self = c.in-Some.ensures.steps.0 in
    let left : at.yielded ++ x ∷ into_iter_items c.next.new.self ≡ c.args.records.items = rw (← steps) at.invariant.left in
    let order = ascends-at at.yielded x (into_iter_items c.next.new.self) c.args.records.items left c.requires.records.order in
    let same = c.in_ok-reserve_record.ensures.rest in
    let rows : c.reserve_record.new.self.records ≡ map row-of at.yielded = ap (λ (db : Database). db.records) same ∙ at.invariant.records in
    let sets : c.reserve.new.self.sets ≡ map set_of at.yielded = c.in_ok-reserve.ensures.sets ∙ at.invariant.index in
    let was = at.invariant.len in
    let gone = c.in-Some.ensures.steps.1 in
    let short = ap (λ (xs : List ListedRecord). length xs) steps in
    record {
      left = append_assoc at.yielded (x ∷ []) _ ∙ left;
      len = omega arith;
      records = rw rows at c.put_record.ensures.records ∙ put-mapped ssid_of row-of at.yielded x (into_iter_items c.next.new.self) order;
      volumes = c.put_record.ensures.volumes ∙ ap (λ (db : Database). db.volumes) same ∙ at.invariant.volumes;
      index = rw (sets, c.into_list.ensures) at c.put.ensures.sets ∙ put-mapped number_of set_of at.yielded x (into_iter_items c.next.new.self) order;
    }

pub returns-clause-records : goal.returns-clause-records
returns-clause-records c =
    let at = c.loop-listed in
    let all = none-left at.yielded (into_iter_items at.listed-iterator) c.args.records.items at.invariant.left (sym at.invariant.len ∙ c.in-None.ensures.steps.0) in
    at.invariant.records ∙ ap (λ (xs : List ListedRecord). map row-of xs) all

pub returns-clause-index : goal.returns-clause-index
returns-clause-index c =
    let at = c.loop-listed in
    let all = none-left at.yielded (into_iter_items at.listed-iterator) c.args.records.items at.invariant.left (sym at.invariant.len ∙ c.in-None.ensures.steps.0) in
    at.invariant.index ∙ ap (λ (xs : List ListedRecord). map set_of xs) all
