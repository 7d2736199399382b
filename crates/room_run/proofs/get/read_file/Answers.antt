use Rattle.std.proofs.Common.{rules, ◌≡◌, ◌+◌, ℕ, List, sym, subst, refl, inr}
use Rattle.std.specs.Prelude.{IsTrue}
use Rattle.volume_store.specs.Committed.{HasLabel, AreDataPlaces}
use Rattle.volume_store.specs.Writes.{cart_file}
use Rattle.room_run.specs.Raw.{IsFileOn}
use Rattle.room_run.specs.Stages.{JudgesFile}
use Rattle.room_run.proofs.GetRuns.{places_of}
use Rattle.room_run.proofs.get.read_file.Goals as goal

pub returns-in_err-label-clause-read : goal.returns-in_err-label-clause-read
returns-in_err-label-clause-read g c = λ told.
    let fact = c.in_err-label.ensures.found told c.args.number in search rules

pub returns-in_err-place-clause-read : goal.returns-in_err-place-clause-read
returns-in_err-place-clause-read g c = λ told.
    let number = cart_file c.args.cart.0 in
    let old = g.D.Store.view c.args.disk.now in
    let mid = g.D.Store.view c.find_raw_label.new.disk in
    let told_mid : IsTrue mid.tells = rw c.in_ok-label.ensures.tells told in
    let first : mid.reads number ≡ old.reads number = (c.in_ok-label.ensures.quiet told).reads number in
    let Has : List ℕ → Type 0 = λ (disk : List ℕ). HasLabel disk c.in_ok-label.label in
    let Judged : List ℕ → Type 0 = λ (disk : List ℕ). JudgesFile c.args.number disk c.in_err-place.field-0.0 in
    let fact = subst Judged first (c.in_err-place.ensures.found told_mid (subst Has (sym first) (c.in_ok-label.ensures.found told c.args.number))) in
    search rules

pub returns-in-Ok-clause-read : goal.returns-in-Ok-clause-read
returns-in-Ok-clause-read g c = λ told.
    let number = cart_file c.args.cart.0 in
    let old = g.D.Store.view c.args.disk.now in
    let mid = g.D.Store.view c.find_raw_label.new.disk in
    let here = g.D.Store.view c.find_place.new.disk in
    let told_mid : IsTrue mid.tells = rw c.in_ok-label.ensures.tells told in
    let told_here : IsTrue here.tells = rw c.in_ok-place.ensures.tells told_mid in
    let first : mid.reads number ≡ old.reads number = (c.in_ok-label.ensures.quiet told).reads number in
    let then : here.reads number ≡ mid.reads number = (c.in_ok-place.ensures.quiet told_mid).reads number in
    let label = c.in_ok-label.label in
    let has = c.in_ok-label.ensures.found told c.args.number in
    let Has : List ℕ → Type 0 = λ (disk : List ℕ). HasLabel disk label in
    let found = c.in_ok-place.ensures.found told_mid (subst Has (sym first) has) in
    let Places : List ℕ → Type 0 = λ (disk : List ℕ). AreDataPlaces disk label.volid.0 label.units (found.0.mark + 1) found.0.places in
    let On : List ℕ → Type 0 = λ (disk : List ℕ). IsFileOn disk c.args.number label found.0 in
    let given = c.in-Ok.ensures.given told_here found.0 found.2 found.3 (subst Places (sym then) (places_of (mid.reads number) c.args.number label found.0 found.1)) in
    (label, (found.0, subst On first found.1, given))

pub returns-in-Err-Damaged-clause-read : goal.returns-in-Err-Damaged-clause-read
returns-in-Err-Damaged-clause-read g c = λ told.
    let number = cart_file c.args.cart.0 in
    let old = g.D.Store.view c.args.disk.now in
    let mid = g.D.Store.view c.find_raw_label.new.disk in
    let here = g.D.Store.view c.find_place.new.disk in
    let told_mid : IsTrue mid.tells = rw c.in_ok-label.ensures.tells told in
    let told_here : IsTrue here.tells = rw c.in_ok-place.ensures.tells told_mid in
    let first : mid.reads number ≡ old.reads number = (c.in_ok-label.ensures.quiet told).reads number in
    let then : here.reads number ≡ mid.reads number = (c.in_ok-place.ensures.quiet told_mid).reads number in
    let label = c.in_ok-label.label in
    let has = c.in_ok-label.ensures.found told c.args.number in
    let Has : List ℕ → Type 0 = λ (disk : List ℕ). HasLabel disk label in
    let found = c.in_ok-place.ensures.found told_mid (subst Has (sym first) has) in
    let Places : List ℕ → Type 0 = λ (disk : List ℕ). AreDataPlaces disk label.volid.0 label.units (found.0.mark + 1) found.0.places in
    let On : List ℕ → Type 0 = λ (disk : List ℕ). IsFileOn disk c.args.number label found.0 in
    let given = (rw c.in-Err-Damaged.field-0-is at c.in-Err-Damaged.ensures).given told_here found.0 found.2 found.3 (subst Places (sym then) (places_of (mid.reads number) c.args.number label found.0 found.1)) in
    inr (label, (found.0, subst On first found.1, refl, given))
