use Rattle.std.proofs.Common.{◌≡◌, ◌<◌, ◌∷◌, [], List, length, take, ap, sym, subst, refl, ◌∙◌, arith, inl}
use Rattle.std.specs.Prelude.{Ok, Err}
use Rattle.std.specs.Vec.Iter.{into_iter_items}
use Rattle.save_stream.specs.declared.entry.IndexEntry.{IndexEntry}
use Rattle.catalog_change.specs.Changes.{max_part}
use Rattle.room_effects.specs.Effects.{EnterPart}
use Rattle.room_effects.specs.Memory.{HasMemoryFor}
use Rattle.room_effects.specs.Needs.{CanDo}
use Rattle.room_effects.specs.Running.{Does}
use Rattle.room_effects.proofs.Does.{does_none}
use Rattle.room_effects.proofs.Memory.{after_one}
use Rattle.room_state.specs.Memory.{TakesMemory}
use Rattle.save_finish.specs.Ending.{part_count, part_of}
use Rattle.save_finish.specs.Parts.{IsListFor}
use Rattle.save_finish.proofs.IndexParts.{behind_part, one_less, popped}
use Rattle.save_finish.proofs.Waiting.{can_enter_part, entered_more, memory_for_part, none_from, parts_more, parts_stop}
use Rattle.save_finish.proofs.index.enter_parts.Goals as goal

pub loop-part-init : goal.loop-part-init
loop-part-init g c = record {
  does = does_none {T = Unit {0}} tt c.args.room.now.room (g.D.Store.view c.args.store.now);
  between = c.requires.between;
  entered = record { from = none_from c.args.room.now c.requires.may.file c.requires.form; parts = inl refl };
  rest = c.into_iter-entries.ensures.rest;
  each = c.requires.lists.each;
  lists = (let count = c.part_count-count.ensures ∙ ap part_count c.requires.may.files in omega (arith, c.requires.lists.count, count));
  count = c.part_count-count.ensures ∙ ap part_count c.requires.may.files;
}

pub next_part-next-requires : goal.next_part-next-requires
next_part-next-requires g c = (popped IsListFor c.loop-part.lists.items c.pop.new.self.items c.in-Some.list c.in-Some.ensures.items c.loop-part.invariant.each).0

pub enter_part-requires-clause-can : goal.enter_part-requires-clause-can
enter_part-requires-clause-can g c =
    let index = c.args.index.items in
    let part = c.loop-part.part in
    let within : part < part_count (length index) = omega (arith, c.loop-part-test.true, c.loop-part.invariant.count) in
    let same : c.next_part-next.result ≡ part_of part index =
    c.next_part-next.ensures.part ∙ ap (λ (entries : List IndexEntry). take max_part entries) c.loop-part.invariant.rest in
    let C : List IndexEntry → Type 0 = λ entries. CanDo (EnterPart c.args.m c.args.ssid part entries) c.loop-part.room.room in
    subst C (sym same) (can_enter_part c.args.m c.args.ssid c.args.stream.now index c.args.room.now c.loop-part.room part c.requires.may c.requires.memory c.loop-part.invariant.entered
    c.requires.moment within)

pub enter_part-requires-clause-memory : goal.enter_part-requires-clause-memory
enter_part-requires-clause-memory g c =
    let index = c.args.index.items in
    let part = c.loop-part.part in
    let within : part < part_count (length index) = omega (arith, c.loop-part-test.true, c.loop-part.invariant.count) in
    let same : c.next_part-next.result ≡ part_of part index =
    c.next_part-next.ensures.part ∙ ap (λ (entries : List IndexEntry). take max_part entries) c.loop-part.invariant.rest in
    let H : List IndexEntry → Type 0 = λ entries. HasMemoryFor (EnterPart c.args.m c.args.ssid part entries) c.loop-part.room in
    subst H (sym same) (memory_for_part c.args.m c.args.ssid c.args.stream.now index c.args.room.now c.loop-part.room part c.requires.may c.requires.memory c.loop-part.invariant.entered within)

pub returns-in-Err-clause-does : goal.returns-in-Err-clause-does
returns-in-Err-clause-does g c =
    let index = c.args.index.items in
    let part = c.loop-part.part in
    let within : part < part_count (length index) = omega (arith, c.loop-part-test.true, c.loop-part.invariant.count) in
    let same : c.next_part-next.result ≡ part_of part index =
    c.next_part-next.ensures.part ∙ ap (λ (entries : List IndexEntry). take max_part entries) c.loop-part.invariant.rest in
    let disk = g.D.Store.view c.loop-part.store in
    let next = g.D.Store.view c.enter_part.new.store in
    let D : List IndexEntry → Type 0 = λ entries. Does {T = Unit {0}} (EnterPart c.args.m c.args.ssid part entries ∷ []) (Err c.in-Err.fault) c.loop-part.room.room c.enter_part.new.room.room disk next in
    parts_stop c.args.m c.args.ssid index part c.args.room.now.room c.loop-part.room.room c.enter_part.new.room.room (g.D.Store.view c.args.store.now) disk next
    c.loop-part.invariant.does c.in-Err.fault (part_count (length index)) within (subst D same c.in-Err.ensures.does)

pub loop-part-preserved : goal.loop-part-preserved
loop-part-preserved g c =
    let index = c.args.index.items in
    let part = c.loop-part.part in
    let same : c.next_part-next.result ≡ part_of part index =
    c.next_part-next.ensures.part ∙ ap (λ (entries : List IndexEntry). take max_part entries) c.loop-part.invariant.rest in
    let disk = g.D.Store.view c.loop-part.store in
    let next = g.D.Store.view c.enter_part.new.store in
    let mid = c.loop-part.room in
    let new = c.enter_part.new.room in
    let D : List IndexEntry → Type 0 = λ entries. Does {T = Unit {0}} (EnterPart c.args.m c.args.ssid part entries ∷ []) (Ok tt) mid.room new.room disk next in
    let M : List IndexEntry → Type 0 = λ entries. TakesMemory (EnterPart c.args.m c.args.ssid part entries) mid.memory new.memory in
    let one = subst D same c.in-Ok.ensures.does in
    let made = after_one {T = Unit {0}} (EnterPart c.args.m c.args.ssid part (part_of part index)) tt mid.room new.room disk next one in
    let less = one_less c.loop-part.lists.items c.pop.new.self.items c.in-Some.list c.in-Some.ensures.items in
    record {
      does = parts_more c.args.m c.args.ssid index part c.args.room.now.room mid.room new.room (g.D.Store.view c.args.store.now) disk next c.loop-part.invariant.does one;
      between = c.in-Ok.ensures.between;
      entered = entered_more c.args.m c.args.ssid c.args.stream.now index c.args.room.now mid part c.requires.may c.requires.memory c.loop-part.invariant.entered new made
          (subst M same c.in-Ok.ensures.memory);
      rest = behind_part part index (into_iter_items c.loop-part.entries) (into_iter_items c.next_part-next.new.entries) c.loop-part.invariant.rest c.next_part-next.ensures.rest;
      each = (popped IsListFor c.loop-part.lists.items c.pop.new.self.items c.in-Some.list c.in-Some.ensures.items c.loop-part.invariant.each).1;
      lists = omega (arith, c.loop-part.invariant.lists, less);
      count = c.loop-part.invariant.count;
    }
