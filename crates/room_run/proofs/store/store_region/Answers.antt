use Rattle.std.proofs.Common.{ℕ, [], sym, subst}
use Rattle.std.specs.Prelude.{OnOk}
use Rattle.std.proofs.lemmas.Result.{IfOk-weaker}
use Rattle.room_disk.specs.Disk.{Settled, Leaves, OnFile}
use Rattle.room_disk.proofs.Runs.{on_file_weaker}
use Rattle.room_disk.proofs.Writing.{settled_moments}
use Rattle.volume_store.specs.Committed.{Committed}
use Rattle.volume_store.specs.Writes.{cart_file, with_file, AddsFile, MayAddFile}
use Rattle.room_run.specs.Put.{HasOneFileMore, IsPut, IsFirstFile}
use Rattle.room_run.proofs.PutRuns.{first_is_one_more, next_is_one_more, first_is_put, next_is_put}
use Rattle.room_run.proofs.store.store_region.Goals as goal

pub returns-in-New-clause-stored : goal.returns-in-New-clause-stored
returns-in-New-clause-stored g c = λ told clock blocks bytes sealed joined site.
    let label = c.in-New.label in
    let cart = c.args.cart.0 in
    let before = (g.D.Store.view c.args.disk.now).reads (cart_file cart) in
    let new = g.D.Store.view c.store_first_file.new.disk in
    let ready = rw c.in-New.is at c.requires.ready in
    let known = rw c.in-New.is at site in
    let joins = rw c.in-New.is at joined in
    let P : ℕ → Type 0 = λ (k : ℕ). OnOk c.store_first_file.result (Committed (new.reads (cart_file k)) (with_file label [] 1 blocks)) in
    rw c.in-New.is (IfOk-weaker c.store_first_file.result (λ _. Committed (new.reads (cart_file cart)) (with_file label [] 1 blocks)) (λ _. HasOneFileMore clock cart bytes before 1 (new.reads (cart_file cart)))
    (λ _ stored. first_is_one_more clock cart bytes before (new.reads (cart_file cart)) label blocks joins known.0 known.1 stored)
    (subst P ready.0 (c.store_first_file.ensures.stored told blocks (rw c.in-New.is at sealed))))

pub returns-in-New-clause-moments : goal.returns-in-New-clause-moments
returns-in-New-clause-moments g c = λ told clock blocks bytes sealed joined site settled.
    let label = c.in-New.label in
    let cart = c.args.cart.0 in
    let old = g.D.Store.view c.args.disk.now in
    let new = g.D.Store.view c.store_first_file.new.disk in
    let ready = rw c.in-New.is at c.requires.ready in
    let known = rw c.in-New.is at site in
    let joins = rw c.in-New.is at joined in
    let S : ℕ → Type 0 = λ (k : ℕ). Settled old (cart_file k) in
    let P : ℕ → Type 0 = λ (k : ℕ). Leaves old new (OnFile (cart_file k) (IsFirstFile label blocks (old.reads (cart_file k))) old) in
    on_file_weaker (cart_file cart) (IsFirstFile label blocks (old.reads (cart_file cart))) (IsPut clock cart bytes (old.reads (cart_file cart))) old new
    (subst P ready.0 (c.store_first_file.ensures.moments told blocks (rw c.in-New.is at sealed) (subst S (sym ready.0) settled)))
    (λ disk first. first_is_put clock cart bytes (old.reads (cart_file cart)) disk label blocks joins known.0 known.1 first)

pub returns-in-Next-clause-stored : goal.returns-in-Next-clause-stored
returns-in-Next-clause-stored g c = λ told clock blocks bytes sealed joined site.
    let volume = c.in-Next.volume in
    let label = volume.label in
    let mark = volume.mark in
    let number = c.in-Next.number in
    let cart = c.args.cart.0 in
    let old = g.D.Store.view c.args.disk.now in
    let new = g.D.Store.view c.commit.new.store in
    let before = old.reads (cart_file cart) in
    let ready = rw c.in-Next.is at c.requires.ready in
    let known = rw c.in-Next.is at site in
    let joins = rw c.in-Next.is at joined in
    let files = known.0 in
    let region = c.args.region.now in
    let P : ℕ → Type 0 = λ (k : ℕ). OnOk c.commit.result (AddsFile label mark region (old.reads (cart_file k)) (new.reads (cart_file k))) in
    rw c.in-Next.is (IfOk-weaker c.commit.result (λ _. AddsFile label mark region before (new.reads (cart_file cart))) (λ _. HasOneFileMore clock cart bytes before number (new.reads (cart_file cart)))
    (λ _ adds. next_is_one_more clock cart mark number bytes before (new.reads (cart_file cart)) label files blocks joins known.1 known.2
    (adds.added files blocks (rw c.in-Next.is at sealed) known.1.1))
    (subst P ready.0 (c.commit.ensures.writes.whole told)))

pub returns-in-Next-clause-moments : goal.returns-in-Next-clause-moments
returns-in-Next-clause-moments g c = λ told clock blocks bytes sealed joined site settled.
    let volume = c.in-Next.volume in
    let label = volume.label in
    let mark = volume.mark in
    let number = c.in-Next.number in
    let cart = c.args.cart.0 in
    let old = g.D.Store.view c.args.disk.now in
    let new = g.D.Store.view c.commit.new.store in
    let before = old.reads (cart_file cart) in
    let ready = rw c.in-Next.is at c.requires.ready in
    let known = rw c.in-Next.is at site in
    let joins = rw c.in-Next.is at joined in
    let files = known.0 in
    let S : ℕ → Type 0 = λ (k : ℕ). Settled old (cart_file k) in
    let May = MayAddFile label mark c.args.region.now in
    let P : ℕ → Type 0 = λ (k : ℕ). Leaves old new (OnFile (cart_file k) (May (old.reads (cart_file k))) old) in
    on_file_weaker (cart_file cart) (May before) (IsPut clock cart bytes before) old new
    (subst P ready.0 (settled_moments (cart_file volume.cart.0) May old new (subst S (sym ready.0) settled) (c.commit.ensures.writes.moments told)))
    (λ disk may. next_is_put clock cart mark number bytes before disk label files blocks joins known.1 known.2
    (may files blocks (rw c.in-Next.is at sealed) known.1.1))
