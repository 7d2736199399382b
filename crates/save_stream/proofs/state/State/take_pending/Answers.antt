use Rattle.std.proofs.Common.{◌≡◌, ◌∙◌, ◌+◌, ◌-◌, ℕ, List, [], take, drop, length, refl, sym, ap, subst, arith}
use Rattle.std.proofs.Math.ListN.{drop_of_length-le}
use Rattle.std.proofs.lemmas.List.{length-take, length-drop}
use Rattle.save_stream.specs.Items.{IsWaiting}
use Rattle.save_stream.specs.Reading.{Reading, Advances}
use Rattle.save_stream.specs.View.{idle_reading, reading_of}
use Rattle.save_stream.proofs.Onward.{take-all, pending-took, pending-waited, pending-faulted, kept-front}
use Rattle.save_stream.proofs.state.State.take_pending.Goals as goal

pub overflow_sub-done : goal.overflow_sub-done
overflow_sub-done c =
    let took = pending-took (idle_reading c.args.self.now.progress) (idle_reading c.take_more.new.self) c.args.self.now.pending.items c.args.bytes.now
    (take (length c.deref.result.now - c.args.self.now.done) (drop c.args.self.now.done c.deref.result.now)) [] c.args.self.now.done c.min-count.result (c.args.self.now.progress.read + c.min-count.result) c.in-Ok-Some.behind
    (omega (arith, c.requires.some_pending)) (omega (arith, c.min-count.ensures)) (take-all (drop c.args.self.now.done c.deref.result.now) _ (omega (arith, length-drop c.args.self.now.done c.deref.result.now))
    ∙ ap (drop c.args.self.now.done) (c.deref.ensures.value ∙ c.in_ok-extend_from_slice.ensures.items)) refl c.requires.waiting c.requires.going.0 c.requires.going.1
    (λ i. omega (arith, c.type_inv.bytes i)) refl (rw c.in-Ok-Some.field-0-is at c.in-Ok-Some.ensures.read) in
    omega (arith, took.0, c.len-in-Ok-Some.ensures, c.in_ok-extend_from_slice.ensures.len, c.min-count.ensures, length-take c.min-count.result c.args.bytes.now)

pub overflow_sub-result : goal.overflow_sub-result
overflow_sub-result c =
    let took = pending-took (idle_reading c.args.self.now.progress) (idle_reading c.take_more.new.self) c.args.self.now.pending.items c.args.bytes.now
    (take (length c.deref.result.now - c.args.self.now.done) (drop c.args.self.now.done c.deref.result.now)) [] c.args.self.now.done c.min-count.result (c.args.self.now.progress.read + c.min-count.result) c.in-Ok-Some.behind
    (omega (arith, c.requires.some_pending)) (omega (arith, c.min-count.ensures)) (take-all (drop c.args.self.now.done c.deref.result.now) _ (omega (arith, length-drop c.args.self.now.done c.deref.result.now))
    ∙ ap (drop c.args.self.now.done) (c.deref.ensures.value ∙ c.in_ok-extend_from_slice.ensures.items)) refl c.requires.waiting c.requires.going.0 c.requires.going.1
    (λ i. omega (arith, c.type_inv.bytes i)) refl (rw c.in-Ok-Some.field-0-is at c.in-Ok-Some.ensures.read) in
    omega (arith, took.0)

pub returns-in-Ok-Some-clause-read : goal.returns-in-Ok-Some-clause-read
returns-in-Ok-Some-clause-read c =
    let took = pending-took (idle_reading c.args.self.now.progress) (idle_reading c.take_more.new.self) c.args.self.now.pending.items c.args.bytes.now
    (take (length c.deref.result.now - c.args.self.now.done) (drop c.args.self.now.done c.deref.result.now)) [] c.args.self.now.done c.min-count.result (c.args.self.now.progress.read + c.min-count.result) c.in-Ok-Some.behind
    (omega (arith, c.requires.some_pending)) (omega (arith, c.min-count.ensures)) (take-all (drop c.args.self.now.done c.deref.result.now) _ (omega (arith, length-drop c.args.self.now.done c.deref.result.now))
    ∙ ap (drop c.args.self.now.done) (c.deref.ensures.value ∙ c.in_ok-extend_from_slice.ensures.items)) refl c.requires.waiting c.requires.going.0 c.requires.going.1
    (λ i. omega (arith, c.type_inv.bytes i)) refl (rw c.in-Ok-Some.field-0-is at c.in-Ok-Some.ensures.read) in
    let none : drop (c.len-in-Ok-Some.result - c.in-Ok-Some.behind) c.truncate.new.self.items ≡ [] =
    drop_of_length-le c.truncate.new.self.items
    (omega (arith, ap (λ (t : List ℕ). length t) c.truncate.ensures.items, length-take (c.len-in-Ok-Some.result - c.in-Ok-Some.behind) c.extend_from_slice.new.self.items)) in
    subst (λ (q : List ℕ). Advances (reading_of c.args.self.now) (record (idle_reading c.take_more.new.self) { pending = q }) c.args.bytes.now (c.min-count.result - c.in-Ok-Some.behind)) (sym none)
    took.1

pub returns-in-Ok-Some-clause-waiting : goal.returns-in-Ok-Some-clause-waiting
returns-in-Ok-Some-clause-waiting c =
    let took = pending-took (idle_reading c.args.self.now.progress) (idle_reading c.take_more.new.self) c.args.self.now.pending.items c.args.bytes.now
    (take (length c.deref.result.now - c.args.self.now.done) (drop c.args.self.now.done c.deref.result.now)) [] c.args.self.now.done c.min-count.result (c.args.self.now.progress.read + c.min-count.result) c.in-Ok-Some.behind
    (omega (arith, c.requires.some_pending)) (omega (arith, c.min-count.ensures)) (take-all (drop c.args.self.now.done c.deref.result.now) _ (omega (arith, length-drop c.args.self.now.done c.deref.result.now))
    ∙ ap (drop c.args.self.now.done) (c.deref.ensures.value ∙ c.in_ok-extend_from_slice.ensures.items)) refl c.requires.waiting c.requires.going.0 c.requires.going.1
    (λ i. omega (arith, c.type_inv.bytes i)) refl (rw c.in-Ok-Some.field-0-is at c.in-Ok-Some.ensures.read) in
    let none : drop (c.len-in-Ok-Some.result - c.in-Ok-Some.behind) c.truncate.new.self.items ≡ [] =
    drop_of_length-le c.truncate.new.self.items
    (omega (arith, ap (λ (t : List ℕ). length t) c.truncate.ensures.items, length-take (c.len-in-Ok-Some.result - c.in-Ok-Some.behind) c.extend_from_slice.new.self.items)) in
    subst (λ (q : List ℕ). IsWaiting (record (idle_reading c.take_more.new.self) { pending = q })) (sym none) took.2

pub returns-in-Ok-Some-clause-kept : goal.returns-in-Ok-Some-clause-kept
returns-in-Ok-Some-clause-kept c =
    let took = pending-took (idle_reading c.args.self.now.progress) (idle_reading c.take_more.new.self) c.args.self.now.pending.items c.args.bytes.now
    (take (length c.deref.result.now - c.args.self.now.done) (drop c.args.self.now.done c.deref.result.now)) [] c.args.self.now.done c.min-count.result (c.args.self.now.progress.read + c.min-count.result) c.in-Ok-Some.behind
    (omega (arith, c.requires.some_pending)) (omega (arith, c.min-count.ensures)) (take-all (drop c.args.self.now.done c.deref.result.now) _ (omega (arith, length-drop c.args.self.now.done c.deref.result.now))
    ∙ ap (drop c.args.self.now.done) (c.deref.ensures.value ∙ c.in_ok-extend_from_slice.ensures.items)) refl c.requires.waiting c.requires.going.0 c.requires.going.1
    (λ i. omega (arith, c.type_inv.bytes i)) refl (rw c.in-Ok-Some.field-0-is at c.in-Ok-Some.ensures.read) in
    record {
      progress = c.in-Ok-Some.ensures.kept;
      pending = kept-front c.args.self.now.pending.items _ c.truncate.new.self.items (c.len-in-Ok-Some.result - c.in-Ok-Some.behind)
          (omega (arith, took.0, c.len-in-Ok-Some.ensures, c.in_ok-extend_from_slice.ensures.len, c.min-count.ensures, length-take c.min-count.result c.args.bytes.now))
          (c.truncate.ensures.items ∙ ap (take (c.len-in-Ok-Some.result - c.in-Ok-Some.behind)) c.in_ok-extend_from_slice.ensures.items);
    }

pub returns-in-Ok-None-clause-read : goal.returns-in-Ok-None-clause-read
returns-in-Ok-None-clause-read c =
    let next = rw c.in-Ok-None.field-0-is at c.in-Ok-None.ensures.read in
    let onward = pending-waited (idle_reading c.args.self.now.progress) c.args.self.now.pending.items c.args.bytes.now (take (length c.deref.result.now - c.args.self.now.done) (drop c.args.self.now.done c.deref.result.now))
    c.extend_from_slice.new.self.items c.args.self.now.done c.min-count.result (omega (arith, c.requires.some_pending)) (omega (arith, c.min-count.ensures))
    (omega (arith, c.requires.some, c.min-count.ensures)) (take-all (drop c.args.self.now.done c.deref.result.now) _ (omega (arith, length-drop c.args.self.now.done c.deref.result.now))
    ∙ ap (drop c.args.self.now.done) (c.deref.ensures.value ∙ c.in_ok-extend_from_slice.ensures.items)) c.in_ok-extend_from_slice.ensures.items c.requires.waiting c.requires.going.0 c.requires.going.1
    (λ i. omega (arith, c.type_inv.bytes i)) next.0 in
    subst (λ (r : Reading). Advances (reading_of c.args.self.now) (record r { read = c.args.self.now.progress.read + c.min-count.result; pending = drop c.args.self.now.done c.extend_from_slice.new.self.items }) c.args.bytes.now c.min-count.result) (sym next.1) onward.0

pub returns-in-Ok-None-clause-waiting : goal.returns-in-Ok-None-clause-waiting
returns-in-Ok-None-clause-waiting c =
    let next = rw c.in-Ok-None.field-0-is at c.in-Ok-None.ensures.read in
    let onward = pending-waited (idle_reading c.args.self.now.progress) c.args.self.now.pending.items c.args.bytes.now (take (length c.deref.result.now - c.args.self.now.done) (drop c.args.self.now.done c.deref.result.now))
    c.extend_from_slice.new.self.items c.args.self.now.done c.min-count.result (omega (arith, c.requires.some_pending)) (omega (arith, c.min-count.ensures))
    (omega (arith, c.requires.some, c.min-count.ensures)) (take-all (drop c.args.self.now.done c.deref.result.now) _ (omega (arith, length-drop c.args.self.now.done c.deref.result.now))
    ∙ ap (drop c.args.self.now.done) (c.deref.ensures.value ∙ c.in_ok-extend_from_slice.ensures.items)) c.in_ok-extend_from_slice.ensures.items c.requires.waiting c.requires.going.0 c.requires.going.1
    (λ i. omega (arith, c.type_inv.bytes i)) next.0 in
    subst (λ (r : Reading). IsWaiting (record r { read = c.args.self.now.progress.read + c.min-count.result; pending = drop c.args.self.now.done c.extend_from_slice.new.self.items })) (sym next.1) onward.1

pub returns-in-Err-clause-read : goal.returns-in-Err-clause-read
returns-in-Err-clause-read c =
    pending-faulted (idle_reading c.args.self.now.progress) c.args.self.now.pending.items c.args.bytes.now (take (length c.deref.result.now - c.args.self.now.done) (drop c.args.self.now.done c.deref.result.now)) c.args.self.now.done c.min-count.result
    c.in-Err.fault (c.args.self.now.progress.read + c.min-count.result) (omega (arith, c.requires.some_pending)) (omega (arith, c.min-count.ensures)) (take-all (drop c.args.self.now.done c.deref.result.now) _ (omega (arith, length-drop c.args.self.now.done c.deref.result.now))
    ∙ ap (drop c.args.self.now.done) (c.deref.ensures.value ∙ c.in_ok-extend_from_slice.ensures.items))
    c.requires.waiting c.requires.going.0 c.requires.going.1 (λ i. omega (arith, c.type_inv.bytes i)) refl c.in-Err.ensures.read
