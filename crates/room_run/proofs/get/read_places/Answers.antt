use Rattle.std.proofs.Common.{rules, Err, ◌≡◌, ◌∙◌, ◌+◌, ◌*◌, ◌++◌, ℕ, List, length, take, drop, sym, ap, subst, arith}
use Rattle.std.proofs.Math.Seq.{take-append_seam}
use Rattle.std.specs.Prelude.{IsTrue}
use Rattle.volume_block.specs.Chunks.{ChunkText}
use Rattle.volume_block.specs.Layout.{data_size}
use Rattle.volume_block.specs.Valid.{HoldsChunks}
use Rattle.volume_store.specs.Committed.{data_at}
use Rattle.volume_store.specs.Writes.{cart_file}
use Rattle.room_disk.proofs.Runs.{quiet_then}
use Rattle.room_run.specs.Stages.{IsDataRead, JudgesPlaces}
use Rattle.room_run.proofs.GetRuns.{read_more, data_given}
use Rattle.room_run.proofs.get.read_places.Goals as goal

pub returns-in_err-read_data-clause-given : goal.returns-in_err-read_data-clause-given
returns-in_err-read_data-clause-given g c = λ told file mark count are.
    let number = cart_file c.args.cart.0 in
    let index = c.loop-index.index in
    let volid = c.args.label.now.volid.0 in
    let units = c.args.label.now.units in
    let old = g.D.Store.view c.args.disk.now in
    let here = g.D.Store.view c.loop-index.disk in
    let fault = c.in_err-read_data.field-0.0 in
    let block = take (data_size units) c.read_data.new.block in
    let told_here : IsTrue here.tells = rw c.loop-index.invariant.1 told in
    let kept : here.reads number ≡ old.reads number = (c.loop-index.invariant.2 told).reads number in
    let Units : ℕ → Type 0 = λ (u : ℕ). IsDataRead (here.reads number) volid units (c.args.place.mark + 1 + u * index) block (Err fault) in
    let Disk : List ℕ → Type 0 = λ (disk : List ℕ). IsDataRead disk volid units (c.args.place.mark + 1 + units * index) block (Err fault) in
    let Mark : ℕ → Type 0 = λ (place : ℕ). IsDataRead (old.reads number) volid units (place + 1 + units * index) block (Err fault) in
    let fact : JudgesPlaces units file fault =
    data_given (old.reads number) volid units index c.loop-index.bytes.items block file fault
    (c.loop-index.invariant.3 told file mark count are) (omega (arith, c.loop-index-test.true, count)) are
    (subst Mark mark (subst Disk kept (subst Units c.from.ensures (c.in_err-read_data.ensures.read told_here)))) in
    search rules

pub loop-index-preserved : goal.loop-index-preserved
loop-index-preserved g c =
    let number = cart_file c.args.cart.0 in
    let index = c.loop-index.index in
    let volid = c.args.label.now.volid.0 in
    let units = c.args.label.now.units in
    let old = g.D.Store.view c.args.disk.now in
    let here = g.D.Store.view c.loop-index.disk in
    let new = g.D.Store.view c.read_data.new.disk in (
      λ other. omega (arith, c.loop-index.invariant.0 other, c.in_ok-read_data.ensures.cause.later other),
      c.in_ok-read_data.ensures.tells ∙ c.loop-index.invariant.1,
      λ told. (let told_here : IsTrue here.tells = rw c.loop-index.invariant.1 told in
          quiet_then old here new (c.loop-index.invariant.2 told) (c.in_ok-read_data.ensures.quiet told_here)),
      λ told file mark count are.
          (let told_here : IsTrue here.tells = rw c.loop-index.invariant.1 told in
          let kept : here.reads number ≡ old.reads number = (c.loop-index.invariant.2 told).reads number in
          let place : c.args.place.mark + 1 + units * index ≡ file.mark + 1 + units * index = ap (λ (m : ℕ). m + 1 + units * index) mark in
          let block : take (data_size units) c.read_data.new.block ≡ data_at units (old.reads number) (file.mark + 1 + units * index) =
          (rw c.from.ensures at (c.in_ok-read_data.ensures.read told_here)) ∙ ap (λ (bytes : List ℕ). data_at units bytes (c.args.place.mark + 1 + units * index)) kept ∙ ap (data_at units (old.reads number)) place in
          let Held : List ℕ → Type 0 = λ (bytes : List ℕ). (chunks : List ChunkText) × HoldsChunks bytes volid (c.args.place.mark + 1 + units * index) units chunks in
          let Number : ℕ → Type 0 = λ (n : ℕ). (chunks : List ChunkText) × HoldsChunks (data_at units (old.reads number) (file.mark + 1 + units * index)) volid n units chunks in
          read_more (old.reads number) volid units (file.mark + 1) index c.loop-index.bytes.items c.append_chunks.new.bytes.items file.places
          (c.loop-index.invariant.3 told file mark count are) (omega (arith, c.loop-index-test.true, count)) are
          (subst Number place (subst Held block (rw c.from.ensures at c.in_ok-read_data.ensures.holds)))
          (λ chunks held.
          let Block : List ℕ → Type 0 = λ (bytes : List ℕ). HoldsChunks bytes volid (file.mark + 1 + units * index) units chunks in
          let Slice : List ℕ → Type 0 = λ (bytes : List ℕ). HoldsChunks (take (data_size units) bytes) volid (file.mark + 1 + units * index) units chunks in
          let rest : List ℕ = drop (length c.read_data.new.block) c.loop-index.block.items in
          let whole : c.loop-index.block.len ≡ length c.read_data.new.block = search rules in
          let lent : c.deref.result.now ≡ c.read_data.new.block =
          c.deref.ensures.value ∙ ap (λ (n : ℕ). take n (c.read_data.new.block ++ rest)) whole ∙ take-append_seam c.read_data.new.block rest in
          c.in-Ok-append_chunks.ensures.appended volid (file.mark + 1 + units * index) units chunks (subst Slice (sym lent) (subst Block (sym block) held)))),
      c.loop-index.invariant.4,
    )
