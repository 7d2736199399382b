use Rattle.std.proofs.Common.{[], List, ℕ, inl, inr}
use Rattle.std.specs.Prelude.{IsTrue}
use Rattle.std.proofs.lemmas.Result.{IfOk-weaker}
use Rattle.room_disk.specs.Disk.{OnFile}
use Rattle.room_disk.proofs.Runs.{on_file_weaker, on_file_then, leaves_then, leaves_weaker}
use Rattle.room_disk.proofs.Writing.{settled_moments}
use Rattle.volume_store.specs.Committed.{Committed}
use Rattle.volume_store.specs.Writes.{cart_file, with_file, IsBeingLabelled, AddsFile, MayAddFile}
use Rattle.room_run.specs.Put.{IsFirstFile}
use Rattle.room_run.proofs.store.store_first_file.Goals as goal

pub returns-in_err-write_label-clause-moments : goal.returns-in_err-write_label-clause-moments
returns-in_err-write_label-clause-moments g c = λ told blocks sealed settled.
    let label = c.args.label.now in
    let file = cart_file label.cart.0 in
    let old = g.D.Store.view c.args.disk.now in
    let new = g.D.Store.view c.write_label.new.store in
    on_file_weaker file (IsBeingLabelled label (old.reads file)) (IsFirstFile label blocks (old.reads file)) old new
    (settled_moments file (IsBeingLabelled label) old new settled (c.in_err-write_label.ensures.moments told)) (λ bytes labelling. inl labelling)

pub returns-clause-stored : goal.returns-clause-stored
returns-clause-stored g c = λ told blocks sealed.
    let label = c.args.label.now in
    let file = cart_file label.cart.0 in
    let mid = g.D.Store.view c.write_label.new.store in
    let new = g.D.Store.view c.commit.new.store in
    let told_mid : IsTrue mid.tells = rw c.in_ok-write_label.ensures.tells told in
    IfOk-weaker c.commit.result (λ _. AddsFile label 1 c.args.region.now (mid.reads file) (new.reads file))
    (λ _. Committed (new.reads file) (with_file label [] 1 blocks))
    (λ _ adds. adds.added [] blocks sealed (c.in_ok-write_label.ensures.whole told).empty) (c.commit.ensures.writes.whole told_mid)

pub returns-clause-moments : goal.returns-clause-moments
returns-clause-moments g c = λ told blocks sealed settled.
    let label = c.args.label.now in
    let file = cart_file label.cart.0 in
    let old = g.D.Store.view c.args.disk.now in
    let mid = g.D.Store.view c.write_label.new.store in
    let new = g.D.Store.view c.commit.new.store in
    let told_mid : IsTrue mid.tells = rw c.in_ok-write_label.ensures.tells told in
    let P : List ℕ → Type 0 = IsFirstFile label blocks (old.reads file) in
    let Added : List ℕ → Type 0 = MayAddFile label 1 c.args.region.now (mid.reads file) in
    leaves_then old mid new (OnFile file P old)
    (on_file_weaker file (IsBeingLabelled label (old.reads file)) P old mid
    (settled_moments file (IsBeingLabelled label) old mid settled (c.in_ok-write_label.ensures.moments told)) (λ bytes labelling. inl labelling))
    (leaves_weaker mid new (OnFile file Added mid) (OnFile file P old)
    (settled_moments file (MayAddFile label 1 c.args.region.now) mid new (c.in_ok-write_label.ensures.settled told) (c.commit.ensures.writes.moments told_mid))
    (on_file_then file Added P old mid (c.in_ok-write_label.ensures.others told)
    (λ bytes may. elim (may [] blocks sealed (c.in_ok-write_label.ensures.whole told).empty) [ inl absent ↦ inl (inr (inr absent)) | inr whole ↦ inr whole ])))
