use Rattle.std.proofs.Common.{ap, subst, sym, inl, inr, arith}
use Rattle.std.proofs.lemmas.Cmp.{nat_cmp_total}
use Rattle.room_base.proofs.OrderedUpdates.{put_at, put_between}
use Rattle.client_index.specs.Sets.{Indexes, AreOrdered, number_of}
use Rattle.client_index.proofs.Putting.{put_ordered, no_entries, none_there}
use Rattle.client_index.proofs.index.ClientIndex.put.Goals as goal

pub invariant_of-self : goal.invariant_of-self
invariant_of-self c =
    let is = ap (λ (index : Indexes). index.sets) c.self.view_is in
    let place = rw (← is) at c.in-Ok.ensures in
    rw c.of.ensures (subst AreOrdered (sym (put_at nat_cmp_total number_of _ (record { ssid = c.args.ssid; entries = c.args.entries.items }) c.in-Ok.at c.self.invariant.numbers place)) (put_ordered _ _ c.requires.ascend c.self.invariant))

pub returns-in-Ok-clause-sets : goal.returns-in-Ok-clause-sets
returns-in-Ok-clause-sets c =
    let is = ap (λ (index : Indexes). index.sets) c.self.view_is in
    let place = rw (← is) at c.in-Ok.ensures in
    rw (c.of.ensures, ← is) (put_at nat_cmp_total number_of _ (record { ssid = c.args.ssid; entries = c.args.entries.items }) c.in-Ok.at c.self.invariant.numbers place)

pub insert_in_room-requires-clause-room : goal.insert_in_room-requires-clause-room
insert_in_room-requires-clause-room c =
    let is = ap (λ (index : Indexes). index.sets) c.self.view_is in
    let room = ap (λ (index : Indexes). index.room) c.self.view_is in
    elim c.requires.room [
      | inl some ↦ omega (arith, room)
      | inr has ↦ absurd (none_there _ (no_entries _ c.args.ssid c.in-Err.at c.in-Err.ensures) has)
    ]

pub invariant_of-self-in-Err : goal.invariant_of-self-in-Err
invariant_of-self-in-Err c =
    let is = ap (λ (index : Indexes). index.sets) c.self.view_is in
    let place = rw (← is) at c.in-Err.ensures in
    let put = put_between nat_cmp_total number_of _ (record { ssid = c.args.ssid; entries = c.args.entries.items }) c.in-Err.at place in
    rw (c.insert_in_room.ensures.items, c.of.ensures) (subst AreOrdered (sym put) (put_ordered _ _ c.requires.ascend c.self.invariant))

pub returns-in-Err-clause-sets : goal.returns-in-Err-clause-sets
returns-in-Err-clause-sets c =
    let is = ap (λ (index : Indexes). index.sets) c.self.view_is in
    let place = rw (← is) at c.in-Err.ensures in
    rw (c.insert_in_room.ensures.items, c.of.ensures, ← is) (put_between nat_cmp_total number_of _ (record { ssid = c.args.ssid; entries = c.args.entries.items }) c.in-Err.at place)

pub returns-in-Err-clause-in_place : goal.returns-in-Err-clause-in_place
returns-in-Err-clause-in_place c = λ has.
    let is = ap (λ (index : Indexes). index.sets) c.self.view_is in
    absurd (none_there _ (no_entries _ c.args.ssid c.in-Err.at c.in-Err.ensures) has)
