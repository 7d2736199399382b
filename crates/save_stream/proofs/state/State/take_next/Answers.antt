use Rattle.std.proofs.Common.{◌≡◌, ◌∙◌, ◌+◌, ℕ, List, drop, length, refl, sym, ap, subst, arith}
use Rattle.std.proofs.Math.ListN.{drop_of_length-le}
use Rattle.std.proofs.lemmas.List.{drop_at}
use Rattle.save_stream.specs.Reading.{Reading, Advances}
use Rattle.save_stream.specs.View.{idle_reading, reading_of}
use Rattle.save_stream.proofs.Onward.{next-took, next-waited, next-faulted}
use Rattle.save_stream.proofs.state.State.take_next.Goals as goal

pub overflow_sub-result : goal.overflow_sub-result
overflow_sub-result c =
    let took = next-took (idle_reading c.args.self.now.progress) (idle_reading c.take_item.new.self) (drop c.args.self.now.done c.args.self.now.pending.items) c.args.bytes.now
    (c.args.self.now.progress.read + length c.args.bytes.now) c.in-Ok-Some.behind (drop_of_length-le c.args.self.now.pending.items (omega (arith, c.requires.none)))
    c.requires.waiting c.requires.going.0 c.requires.going.1 (λ i. omega (arith, c.type_inv.bytes i)) refl (rw c.in-Ok-Some.field-0-is at c.in-Ok-Some.ensures.read) in
    omega (arith, took.0)

pub returns-in-Ok-Some-clause-read : goal.returns-in-Ok-Some-clause-read
returns-in-Ok-Some-clause-read c =
    let took = next-took (idle_reading c.args.self.now.progress) (idle_reading c.take_item.new.self) (drop c.args.self.now.done c.args.self.now.pending.items) c.args.bytes.now
    (c.args.self.now.progress.read + length c.args.bytes.now) c.in-Ok-Some.behind (drop_of_length-le c.args.self.now.pending.items (omega (arith, c.requires.none)))
    c.requires.waiting c.requires.going.0 c.requires.going.1 (λ i. omega (arith, c.type_inv.bytes i)) refl (rw c.in-Ok-Some.field-0-is at c.in-Ok-Some.ensures.read) in
    took.1

pub returns-in-Ok-Some-clause-waiting : goal.returns-in-Ok-Some-clause-waiting
returns-in-Ok-Some-clause-waiting c =
    let took = next-took (idle_reading c.args.self.now.progress) (idle_reading c.take_item.new.self) (drop c.args.self.now.done c.args.self.now.pending.items) c.args.bytes.now
    (c.args.self.now.progress.read + length c.args.bytes.now) c.in-Ok-Some.behind (drop_of_length-le c.args.self.now.pending.items (omega (arith, c.requires.none)))
    c.requires.waiting c.requires.going.0 c.requires.going.1 (λ i. omega (arith, c.type_inv.bytes i)) refl (rw c.in-Ok-Some.field-0-is at c.in-Ok-Some.ensures.read) in
    took.2

pub returns-in_ok-extend_from_slice-in-Ok-None-clause-read : goal.returns-in_ok-extend_from_slice-in-Ok-None-clause-read
returns-in_ok-extend_from_slice-in-Ok-None-clause-read c =
    let base = idle_reading c.args.self.now.progress in
    let items = c.args.self.now.pending.items in
    let bytes = c.args.bytes.now in
    let old = reading_of c.args.self.now in
    let next = rw c.in-Ok-None.field-0-is at c.in-Ok-None.ensures.read in
    let pending : drop c.len-done.result c.extend_from_slice.new.self.items ≡ bytes =
    ap (drop c.len-done.result) c.in_ok-extend_from_slice-in-Ok-None.ensures.items ∙ drop_at items bytes c.len-done.result (omega (arith, c.len-done.ensures)) in
    let onward = next-waited base (drop c.args.self.now.done items) bytes (drop_of_length-le items (omega (arith, c.requires.none))) c.requires.waiting c.requires.going.0
    c.requires.going.1 (λ i. omega (arith, c.type_inv.bytes i)) c.requires.some next.0 in
    subst (λ (r : Reading). Advances old (record r { read = base.read + length bytes; pending = drop c.len-done.result c.extend_from_slice.new.self.items }) bytes (length bytes)) (sym next.1)
    (subst (λ (q : List ℕ). Advances old (record base { read = base.read + length bytes; pending = q }) bytes (length bytes)) (sym pending) onward.0)

pub returns-in-Err-clause-read : goal.returns-in-Err-clause-read
returns-in-Err-clause-read c =
    next-faulted (idle_reading c.args.self.now.progress) (drop c.args.self.now.done c.args.self.now.pending.items) c.args.bytes.now c.in-Err.fault
    (c.args.self.now.progress.read + length c.args.bytes.now) (drop_of_length-le c.args.self.now.pending.items (omega (arith, c.requires.none)))
    c.requires.waiting c.requires.going.0 c.requires.going.1 (λ i. omega (arith, c.type_inv.bytes i)) refl c.in-Err.ensures.read
