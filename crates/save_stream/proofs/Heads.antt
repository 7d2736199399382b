-- Heads at the front of bytes.
use Rattle.std.proofs.Common.{◌≡◌, ℕ, ◌+◌, ◌-◌, ◌≤◌, List, [], ◌++◌, length, None, Result, Ok, Err, refl, sym, ap, subst, ◌∙◌, arith, inl, inr}
use Rattle.std.specs.Prelude.{◌⊎◌}
use Rattle.std.proofs.lemmas.List.{length-append, append_cancel_left}
use Rattle.save_stream.specs.declared.fault.HeadFault.{HeadFault}
use Rattle.save_stream.specs.declared.fault.HeadFault.TheVariants as faults
use Rattle.save_stream.specs.declared.head.SetHead.{SetHead}
use Rattle.save_stream.specs.declared.stop.Stop.TheVariants as stops
use Rattle.save_stream.specs.BadField.{head_fields, no_field, HasBadField}
use Rattle.save_stream.specs.Heads.{BeginsWith, EndsInHead, HasBadHead, ReadsHead}
use Rattle.save_stream.specs.Items.{Head, as_item, item_at}
use Rattle.save_stream.specs.Reading.{Part, Reading, start, reads, head_at}
use Rattle.save_stream.specs.Spelling.{IsHead, head_text}
use Rattle.save_stream.proofs.Again.{head-again}
use Rattle.save_stream.proofs.Fields.{one-head}
use Rattle.save_stream.proofs.Judged.{Follows, head-follows}
use Rattle.save_stream.proofs.Items.{ReadsOn, reads-at-once}
use Rattle.save_stream.proofs.Onward.{item-waits}
use Rattle.save_stream.proofs.Sound.{IsBytes, FollowsReading, When, head-takes}
use Rattle.save_stream.proofs.Steps.{IsBytes-none}
use Rattle.save_stream.proofs.Stopping.{head-leads, leads-nowhere}

pub head-begins : (bytes : List ℕ) (head : SetHead) (rest : List ℕ) → IsBytes bytes → head_at bytes ≡ Ok (head, rest) → BeginsWith bytes head rest
head-begins bytes head rest fit is =
    let took = subst (λ (p : Part SetHead). When p (λ h r. FollowsReading bytes (head_text h) r × IsHead h)) is (head-takes bytes fit) in
    record { allowed = took.1; parts = took.0.parts }

pub bad-within : (bytes : List ℕ) (behind : ℕ) → head_at bytes ≡ Err (stops.Wrong behind) → behind ≤ length bytes
bad-within bytes behind is =
    let bad = subst (λ (p : Part SetHead). Follows bytes head_fields p (λ _. no_field)) is (head-follows bytes) in
    omega (arith, bad.1.1.2, ap (λ (t : List ℕ). length t) bad.1.1.1, length-append bad.0 (bad.1.0 ++ bad.1.1.0))

pub bad-head : (bytes : List ℕ) (behind : ℕ) → head_at bytes ≡ Err (stops.Wrong behind) → HasBadHead bytes (length bytes - behind)
bad-head bytes behind is =
    let bad = subst (λ (p : Part SetHead). Follows bytes head_fields p (λ _. no_field)) is (head-follows bytes) in
    record {
      before = bad.0;
      bad = bad.1.0;
      rest = bad.1.1.0;
      parts = bad.1.1.1;
      offset_is = omega (arith, bad.1.1.2, ap (λ (t : List ℕ). length t) bad.1.1.1, length-append bad.0 (bad.1.0 ++ bad.1.1.0));
      first_bad = bad.1.1.3;
    }

abbrev answers : SetHead → List ℕ → Result (SetHead × List ℕ) HeadFault
answers head rest = Ok (head, rest)

abbrev fails : HeadFault → Result (SetHead × List ℕ) HeadFault
fails fault = Err fault

abbrev found : SetHead → List ℕ → Part SetHead
found head rest = Ok (head, rest)

abbrev waiting : Part SetHead
waiting = Err stops.More

abbrev wrong : ℕ → Part SetHead
wrong behind = Err (stops.Wrong behind)

found-not-waiting : (head : SetHead) (rest : List ℕ) → found head rest ≡ waiting → ⊥
found-not-waiting head rest is = cc

found-not-wrong : (head : SetHead) (rest : List ℕ) (behind : ℕ) → found head rest ≡ wrong behind → ⊥
found-not-wrong head rest behind is = cc

-- at the front of a head's text nothing but that head is read
pub head-exact : (head : SetHead) (rest : List ℕ) (answer : Result (SetHead × List ℕ) HeadFault) → IsHead head
    → ReadsHead (λ (x : SetHead × List ℕ). x.0) (λ (x : SetHead × List ℕ). x.1) (head_text head ++ rest) answer
    → (answer ≡ Ok (head, rest)) ⊎ (answer ≡ Err faults.Memory)
head-exact head rest (Ok x) allowed reads =
    let same : x.0 ≡ head = one-head x.0 head x.1 rest reads.allowed allowed (sym reads.parts) in
    let behind : x.1 ≡ rest = append_cancel_left (head_text head) x.1 rest (ap (λ (h : SetHead). head_text h ++ x.1) (sym same) ∙ sym reads.parts) in
    inl (ap (λ (h : SetHead). answers h x.1) same ∙ ap (answers head) behind)
head-exact head rest (Err faults.Incomplete) allowed reads = absurd (found-not-waiting head rest (sym (head-again head rest allowed) ∙ reads))
head-exact head rest (Err (faults.Bad offset)) allowed reads =
    let tail = reads.bad ++ reads.rest in
    let stops = leads-nowhere (head_at (reads.before ++ tail)) tail reads.bad (head-leads reads.before reads.bad reads.rest reads.first_bad) in
    absurd (found-not-wrong head rest (length tail) (sym (head-again head rest allowed) ∙ ap head_at reads.parts ∙ stops))
head-exact head rest (Err faults.Memory) allowed reads = inr refl

-- what is read of bytes that end inside a head
pub incomplete-head : (bytes : List ℕ) → IsBytes bytes → EndsInHead bytes → (reading : Reading) × (reads start bytes ≡ Ok reading) × (reading.head ≡ None)
incomplete-head bytes fit ends =
    let waits : item_at None [] bytes ≡ Err stops.More = ap (as_item Head) ends in
    let on = subst (ReadsOn start bytes) waits (reads-at-once bytes start refl refl (omega arith) IsBytes-none fit (item-waits None [])) in
    (record start { read = 0 + length bytes; pending = [] ++ bytes }, on, refl)

pub bad-head-field : (bytes : List ℕ) (offset : ℕ) → HasBadHead bytes offset → HasBadField bytes offset
bad-head-field bytes offset has = record {
  whole = [];
  reading = start;
  before = has.before;
  bad = has.bad;
  rest = has.rest;
  parts = has.parts;
  offset_is = omega (arith, has.offset_is);
  read = refl;
  idle = (refl, refl);
  first_bad = has.first_bad;
}
