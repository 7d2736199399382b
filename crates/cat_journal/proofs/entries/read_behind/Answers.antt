use Rattle.std.proofs.Common.{◌≡◌, ◌≢◌, ◌+◌, ◌++◌, ◌∙◌, List, ℕ, length, ap, sym, arith}
use Rattle.std.specs.Prelude.{IsTrue, None}
use Rattle.sha2.specs.Sha256.{sha256}
use Rattle.cat_journal.specs.Reads.{ahead, IsOf}
use Rattle.cat_journal.proofs.Handing.{fills_at, takes_at}
use Rattle.cat_journal.proofs.Finding.{no_fields, no_such, no_bytes, no_digest, wrong_digest, is_first}
use Rattle.cat_journal.proofs.entries.read_behind.Goals as goal

pub returns-then-not-branch-clause-found : goal.returns-then-not-branch-clause-found
returns-then-not-branch-clause-found g c = λ told is left.
    let before = ahead c.args.pieces.now ((g.D.Store.view c.args.store.now).reads c.args.pieces.now.file) in
    let short = rw c.if-not-branch.true at (c.in_ok-take.ensures.filled told is) in
    no_fields (c.args.last + 1) before (omega (arith, short, c.take.ensures.size))

pub returns-in_default-clause-found : goal.returns-in_default-clause-found
returns-in_default-clause-found g c = λ told is left.
    let bytes = (g.D.Store.view c.args.store.now).reads c.args.pieces.now.file in
    let split = rw c.if-not-branch.false at (c.in_ok-take.ensures.filled told is) in
    no_such (c.args.last + 1) c.args.room (ahead c.args.pieces.now bytes) c.take.new.into (ahead c.take.new.self bytes) (omega (arith, c.take.ensures.size))
    split left c.in_default.ensures.found

pub returns-in_default-2-clause-found : goal.returns-in_default-2-clause-found
returns-in_default-2-clause-found g c = λ told is left.
    let start = g.D.Store.view c.args.store.now in
    let late = g.D.Store.view c.take.new.store in
    let bytes = start.reads c.args.pieces.now.file in
    let first = c.in_ok-take.ensures in
    let second = c.in_ok-bytes.ensures in
    let here = c.take.new.self in
    let behind = c.take_bytes.new.pieces in
    let told_late : IsTrue late.tells = rw first.tells told in
    let same : late.reads here.file ≡ bytes = (first.quiet told).reads here.file ∙ ap start.reads first.file in
    let of_late : IsOf here bytes = first.end ∙ is in
    let split = rw c.if-not-branch.false at (first.filled told is) in
    let sized : length c.take.new.into ≡ 12 = omega (arith, c.take.ensures.size) in
    let none : c.in_ok-bytes.field-0 ≡ None = c.in_default-2.is in
    let short = rw none at (takes_at bytes (late.reads here.file) here behind c.in-Some.size c.in_ok-bytes.field-0 same of_late (second.found told_late)) in
    no_bytes (c.args.last + 1) c.in-Some.size (ahead c.args.pieces.now bytes) c.take.new.into (ahead here bytes) sized split c.in-Some.ensures.found.1 short

pub returns-then-not-branch-2-clause-found : goal.returns-then-not-branch-2-clause-found
returns-then-not-branch-2-clause-found g c = λ told is left.
    let start = g.D.Store.view c.args.store.now in
    let late = g.D.Store.view c.take.new.store in
    let bytes = start.reads c.args.pieces.now.file in
    let first = c.in_ok-take.ensures in
    let second = c.in_ok-bytes.ensures in
    let here = c.take.new.self in
    let behind = c.take_bytes.new.pieces in
    let told_late : IsTrue late.tells = rw first.tells told in
    let same : late.reads here.file ≡ bytes = (first.quiet told).reads here.file ∙ ap start.reads first.file in
    let of_late : IsOf here bytes = first.end ∙ is in
    let split = rw c.if-not-branch.false at (first.filled told is) in
    let sized : length c.take.new.into ≡ 12 = omega (arith, c.take.ensures.size) in
    let goes = rw c.in-Some-2.is at (takes_at bytes (late.reads here.file) here behind c.in-Some.size c.in_ok-bytes.field-0 same of_late (second.found told_late)) in
    let last = g.D.Store.view c.take_bytes.new.store in
    let third = c.in_ok-take-2.ensures in
    let told_last : IsTrue last.tells = rw second.tells told_late in
    let same_last : last.reads behind.file ≡ bytes =
    (second.quiet told_late).reads behind.file ∙ ap late.reads second.file ∙ same in
    let of_last : IsOf behind bytes = second.end ∙ of_late in
    let long = rw c.in-Some-2.is at second.size in
    let ends = rw c.if-not-branch-2.true at
    (fills_at bytes (last.reads behind.file) behind c.take-2.new.self c.take-2.new.into c.in_ok-take-2.field-0 same_last of_last (third.filled told_last)) in
    no_digest (c.args.last + 1) c.in-Some.size (ahead c.args.pieces.now bytes) c.take.new.into (ahead here bytes) c.in-Some-2.bytes (ahead behind bytes)
    sized split c.in-Some.ensures.found.1 long goes (omega (arith, ends, c.take-2.ensures.size))

pub returns-then-not-has_digest-clause-found : goal.returns-then-not-has_digest-clause-found
returns-then-not-has_digest-clause-found g c = λ told is left.
    let start = g.D.Store.view c.args.store.now in
    let late = g.D.Store.view c.take.new.store in
    let bytes = start.reads c.args.pieces.now.file in
    let first = c.in_ok-take.ensures in
    let second = c.in_ok-bytes.ensures in
    let here = c.take.new.self in
    let behind = c.take_bytes.new.pieces in
    let told_late : IsTrue late.tells = rw first.tells told in
    let same : late.reads here.file ≡ bytes = (first.quiet told).reads here.file ∙ ap start.reads first.file in
    let of_late : IsOf here bytes = first.end ∙ is in
    let split = rw c.if-not-branch.false at (first.filled told is) in
    let sized : length c.take.new.into ≡ 12 = omega (arith, c.take.ensures.size) in
    let goes = rw c.in-Some-2.is at (takes_at bytes (late.reads here.file) here behind c.in-Some.size c.in_ok-bytes.field-0 same of_late (second.found told_late)) in
    let last = g.D.Store.view c.take_bytes.new.store in
    let third = c.in_ok-take-2.ensures in
    let told_last : IsTrue last.tells = rw second.tells told_late in
    let same_last : last.reads behind.file ≡ bytes =
    (second.quiet told_late).reads behind.file ∙ ap late.reads second.file ∙ same in
    let of_last : IsOf behind bytes = second.end ∙ of_late in
    let long = rw c.in-Some-2.is at second.size in
    let ends = rw c.if-not-branch-2.false at
    (fills_at bytes (last.reads behind.file) behind c.take-2.new.self c.take-2.new.into c.in_ok-take-2.field-0 same_last of_last (third.filled told_last)) in
    let shown : c.as_slice.result.now ≡ c.in-Some-2.bytes = c.as_slice.ensures in
    let wrong : sha256 (c.take.new.into ++ c.in-Some-2.bytes) ≢ c.take-2.new.into =
    λ equal. (let yes_it_is : IsTrue c.has_digest.result =
    c.has_digest.ensures.1 (ap (λ (t : List ℕ). sha256 (c.take.new.into ++ t)) shown ∙ equal) in
    cc (yes_it_is, c.if-not-has_digest.true)) in
    wrong_digest (c.args.last + 1) c.in-Some.size (ahead c.args.pieces.now bytes) c.take.new.into (ahead here bytes) c.in-Some-2.bytes (ahead behind bytes)
    c.take-2.new.into (ahead c.take-2.new.self bytes) sized split c.in-Some.ensures.found.1 long goes (omega (arith, c.take-2.ensures.size)) ends wrong

pub returns-clause-found : goal.returns-clause-found
returns-clause-found g c = λ told is left.
    let start = g.D.Store.view c.args.store.now in
    let late = g.D.Store.view c.take.new.store in
    let bytes = start.reads c.args.pieces.now.file in
    let first = c.in_ok-take.ensures in
    let second = c.in_ok-bytes.ensures in
    let here = c.take.new.self in
    let behind = c.take_bytes.new.pieces in
    let told_late : IsTrue late.tells = rw first.tells told in
    let same : late.reads here.file ≡ bytes = (first.quiet told).reads here.file ∙ ap start.reads first.file in
    let of_late : IsOf here bytes = first.end ∙ is in
    let split = rw c.if-not-branch.false at (first.filled told is) in
    let sized : length c.take.new.into ≡ 12 = omega (arith, c.take.ensures.size) in
    let goes = rw c.in-Some-2.is at (takes_at bytes (late.reads here.file) here behind c.in-Some.size c.in_ok-bytes.field-0 same of_late (second.found told_late)) in
    let last = g.D.Store.view c.take_bytes.new.store in
    let third = c.in_ok-take-2.ensures in
    let told_last : IsTrue last.tells = rw second.tells told_late in
    let same_last : last.reads behind.file ≡ bytes =
    (second.quiet told_late).reads behind.file ∙ ap late.reads second.file ∙ same in
    let of_last : IsOf behind bytes = second.end ∙ of_late in
    let long = rw c.in-Some-2.is at second.size in
    let ends = rw c.if-not-branch-2.false at
    (fills_at bytes (last.reads behind.file) behind c.take-2.new.self c.take-2.new.into c.in_ok-take-2.field-0 same_last of_last (third.filled told_last)) in
    let shown : c.as_slice.result.now ≡ c.in-Some-2.bytes = c.as_slice.ensures in
    let right : sha256 (c.take.new.into ++ c.in-Some-2.bytes) ≡ c.take-2.new.into =
    ap (λ (t : List ℕ). sha256 (c.take.new.into ++ t)) (sym shown) ∙ c.has_digest.ensures.0 c.if-not-has_digest.false in
    is_first (c.args.last + 1) c.in-Some.size (ahead c.args.pieces.now bytes) c.take.new.into (ahead here bytes) c.in-Some-2.bytes (ahead behind bytes)
    c.take-2.new.into (ahead c.take-2.new.self bytes) c.in-Some.ensures.spelled split long goes ends right
