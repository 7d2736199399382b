use Rattle.std.proofs.Common.{◌≡◌, ◌∙◌, length, subst, sym, ap, arith}
use Rattle.resource_lists.specs.Room.{HasRoomFor}
use Rattle.resource_lists.proofs.Defining.{Adds, adds_all, adds_none, adds_one, room_for_first}
use Rattle.resource_lists.proofs.resources.Resources.define.Goals as goal

pub loop-resource-init : goal.loop-resource-init
loop-resource-init c =
    let items = c.into_iter-resource-iterator.ensures.into_iter_gives in
    let list = c.into_list-resource-items.result in
    let whole : length list.items ≡ list.len = sym list.ok.0 in
    record {
      adds = subst (Adds c.args.new c.args.self.now c.args.self.now) (sym (items.0 ∙ c.into_list-resource-items.ensures)) (adds_none c.args.new c.args.self.now c.requires.room);
      len = items.1 ∙ list.ok.0 ∙ sym (ap length items.0);
    }

pub add-requires : goal.add-requires
add-requires c =
    let steps = c.in-Some.ensures.steps.0 in
    record { room = room_for_first c.in-Some.resource _ c.loop-resource.self.room (subst (HasRoomFor c.loop-resource.self.room) steps c.loop-resource.invariant.adds.room) }

pub loop-resource-preserved : goal.loop-resource-preserved
loop-resource-preserved c =
    let steps = c.in-Some.ensures.steps.0 in
    record {
      adds = adds_one c.in-Some.resource _ c.args.new c.args.self.now c.loop-resource.self c.add.new.self
          (subst (Adds c.args.new c.args.self.now c.loop-resource.self) steps c.loop-resource.invariant.adds) c.add.ensures.lists c.add.ensures.room;
      len = omega (arith, c.in-Some.ensures.steps.1, c.loop-resource.invariant.len, ap length steps);
    }

pub returns-clause-lists : goal.returns-clause-lists
returns-clause-lists c = (adds_all c.args.new c.args.self.now c.loop-resource.self _ c.loop-resource.invariant.adds (sym c.loop-resource.invariant.len ∙ c.in-None.ensures.steps.0)).0

pub returns-clause-room : goal.returns-clause-room
returns-clause-room c = (adds_all c.args.new c.args.self.now c.loop-resource.self _ c.loop-resource.invariant.adds (sym c.loop-resource.invariant.len ∙ c.in-None.ensures.steps.0)).1
