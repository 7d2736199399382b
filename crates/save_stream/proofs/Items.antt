-- What is read of many bytes at once is what is read of them one by one.
use Rattle.std.proofs.Common.{◌≡◌, ℕ, suc, ◌+◌, ◌-◌, ◌≤◌, ◌<◌, Bool, true, false, List, [], ◌∷◌, ◌++◌, length, drop, Option, Some, None, Result, Ok, Err, refl, sym, ap, subst, ◌∙◌, append_assoc, arith}
use Rattle.std.specs.Prelude.{IsSome}
use Rattle.std.proofs.lemmas.List.{length-append, append-nil, nil_from_length}
use Rattle.save_stream.specs.declared.entry.IndexEntry.{IndexEntry}
use Rattle.save_stream.specs.declared.fault.StreamFault.{StreamFault}
use Rattle.save_stream.specs.declared.fault.StreamFault.TheVariants as faults
use Rattle.save_stream.specs.declared.head.SetHead.{SetHead}
use Rattle.save_stream.specs.declared.stop.Stop.TheVariants as stops
use Rattle.save_stream.specs.Spelling.{max_entries, IsHead, head_text, entry_front, end_text}
use Rattle.save_stream.specs.Items.{Item, Head, Entry, End, as_item, rest_at, item_at, with_item}
use Rattle.save_stream.specs.Reading.{Part, Reading, Front, read_alone, settled, settle, settle_by, begins_end, with_head, with_entry, with_end, last_path, with_byte, after_byte, then_reads, reads, head_at, front_at, end_at, kind_at}
use Rattle.save_stream.specs.Standing.{Waits, WaitsIf}
use Rattle.save_stream.proofs.Growing.{Extends, head-grows, front-grows, end-grows}
use Rattle.save_stream.proofs.Sound.{IsBytes, FollowsReading, When, head-takes, end-takes}
use Rattle.save_stream.proofs.Standing.{end-waits, front-waits, end-whole, head-whole, front-whole}
use Rattle.save_stream.proofs.Steps.{IsBytes-more, done}
use Rattle.save_stream.proofs.Whole.{next-byte}

-- ---- pending bytes are read as an item

settle_item : Reading → Part Item → Result Reading StreamFault
settle_item now (Ok x) = Ok (with_item now now.read x.0)
settle_item now (Err stops.More) = Ok now
settle_item now (Err (stops.Wrong behind)) = Err (faults.Bad (now.read - behind))
settle_item now (Err stops.Full) = Err (faults.TooMany max_entries)
settle_item now (Err stops.Memory) = Err faults.Memory

item-settles : {X : Type 0} (item : X → Item) (made : X → Reading) (now : Reading) (part : Part X) → ((x : X) → made x ≡ with_item now now.read (item x))
    → settled made now (read_alone part) ≡ settle_item now (as_item item part)
unfolding settle_item
item-settles item made now (Ok x) is = ap (λ (r : Reading). done r) (is x.0)
item-settles item made now (Err stops.More) is = refl
item-settles item made now (Err (stops.Wrong behind)) is = refl
item-settles item made now (Err stops.Full) is = refl
item-settles item made now (Err stops.Memory) is = refl

rest-settles : (test : Bool) (now : Reading) → settle_by test now ≡ settle_item now (rest_at test now.entries now.pending)
rest-settles true now = item-settles End (with_end now) now (end_at (length now.entries) now.pending) (λ x. refl)
rest-settles false now = item-settles Entry (with_entry now) now (front_at (length now.entries) (last_path now.entries) now.pending) (λ x. refl)

settle-at : (read left : ℕ) (ended : Bool) (head : Option SetHead) (entries : List IndexEntry) (pending : List ℕ)
    → let now : Reading = record { read = read; left = left; ended = ended; head = head; entries = entries; pending = pending } in
    settle now ≡ settle_item now (item_at head entries pending)
unfolding settle
settle-at read left ended None entries pending =
    let now : Reading = record { read = read; left = left; ended = ended; head = None; entries = entries; pending = pending } in
    item-settles Head (with_head now) now (head_at pending) (λ x. refl)
settle-at read left ended (Some head) entries pending =
    rest-settles (begins_end pending) (record { read = read; left = left; ended = ended; head = Some head; entries = entries; pending = pending })

settle-is : (now : Reading) → settle now ≡ settle_item now (item_at now.head now.entries now.pending)
settle-is now = settle-at now.read now.left now.ended now.head now.entries now.pending

-- ---- which item is next

pub head-next : (head : Option SetHead) (entries : List IndexEntry) (bytes : List ℕ) → head ≡ None → item_at head entries bytes ≡ as_item Head (head_at bytes)
head-next None entries bytes none = refl
head-next (Some head) entries bytes none = absurd cc

pub rest-next : (head : Option SetHead) (entries : List IndexEntry) (bytes : List ℕ) (test : Bool) → IsSome head → begins_end bytes ≡ test → item_at head entries bytes ≡ rest_at test entries bytes
rest-next None entries bytes test some is = absurd cc
rest-next (Some head) entries bytes test some is = ap (λ (t : Bool). rest_at t entries bytes) is

-- ---- an item of more bytes

item-extends-as : {X : Type 0} (item : X → Item) (more : List ℕ) (part longer : Part X) → Extends more part longer → Extends more (as_item item part) (as_item item longer)
item-extends-as item more (Ok x) longer is = ap (as_item item) is
item-extends-as item more (Err stops.More) longer is = tt
item-extends-as item more (Err (stops.Wrong behind)) longer is = ap (as_item item) is
item-extends-as item more (Err stops.Full) longer is = ap (as_item item) is
item-extends-as item more (Err stops.Memory) longer is = ap (as_item item) is

rest-extends : (test : Bool) (entries : List IndexEntry) (bytes more : List ℕ) → Extends more (rest_at test entries bytes) (rest_at test entries (bytes ++ more))
rest-extends true entries bytes more = item-extends-as End more _ _ (end-grows (length entries) bytes more).extends
rest-extends false entries bytes more = item-extends-as Entry more _ _ (front-grows (length entries) (last_path entries) bytes more).extends

item-extends : (head : Option SetHead) (entries : List IndexEntry) (bytes more : List ℕ) → Extends more (item_at head entries bytes) (item_at head entries (bytes ++ more))
unfolding front_at kind_at
item-extends None entries bytes more = item-extends-as Head more _ _ (head-grows bytes more).extends
item-extends (Some head) entries [] more = tt
item-extends (Some head) entries (first ∷ bytes) more = rest-extends (begins_end (first ∷ bytes)) entries (first ∷ bytes) more

-- ---- what an item was read as

part_rest : {X : Type 0} → Part X → List ℕ
part_rest (Ok x) = x.1
part_rest (Err stop) = []

abbrev found : {X : Type 0} → X → List ℕ → Part X
found x rest = Ok (x, rest)

as-more : {X : Type 0} (item : X → Item) (part : Part X) → as_item item part ≡ Err stops.More → part ≡ Err stops.More
as-more item (Ok x) is = absurd cc
as-more item (Err stops.More) is = refl
as-more item (Err (stops.Wrong behind)) is = absurd cc
as-more item (Err stops.Full) is = absurd cc
as-more item (Err stops.Memory) is = absurd cc

as-found : {X : Type 0} (item : X → Item) (part : Part X) (y : Item) (rest : List ℕ) → as_item item part ≡ found y rest → (x : X) × (part ≡ Ok (x, rest))
unfolding part_rest
as-found item (Ok x) y rest is = (x.0, ap (λ (r : List ℕ). found x.0 r) (ap (λ (p : Part Item). part_rest p) is))
as-found item (Err stop) y rest is = absurd cc

-- ---- nothing stands behind what a last byte completes

none-behind : (bytes text rest : List ℕ) → bytes ≡ text → bytes ≡ text ++ rest → rest ≡ []
none-behind bytes text rest one other =
    nil_from_length rest (omega (arith, ap (λ (t : List ℕ). length t) one, ap (λ (t : List ℕ). length t) other, length-append text rest))

head-none : (pending : List ℕ) (byte : ℕ) (head : SetHead) (rest : List ℕ) → IsBytes (pending ++ byte ∷ []) → head_at pending ≡ Err stops.More
    → head_at (pending ++ byte ∷ []) ≡ Ok (head, rest) → rest ≡ []
head-none pending byte head rest bytes waits is =
    let took = subst (λ (p : Part SetHead). When p (λ h r. FollowsReading (pending ++ byte ∷ []) (head_text h) r × IsHead h)) is (head-takes (pending ++ byte ∷ []) bytes) in
    none-behind _ (head_text head) rest (head-whole pending byte head rest bytes waits is).0 took.0.parts

end-none : (count : ℕ) (pending : List ℕ) (byte number : ℕ) (rest : List ℕ) → count ≤ max_entries → IsBytes (pending ++ byte ∷ []) → end_at count pending ≡ Err stops.More
    → end_at count (pending ++ byte ∷ []) ≡ Ok (number, rest) → rest ≡ []
end-none count pending byte number rest room bytes waits is =
    let took : FollowsReading (pending ++ byte ∷ []) (end_text count) rest =
    subst (λ (p : Part ℕ). When p (λ n r. FollowsReading (pending ++ byte ∷ []) (end_text count) r)) is (end-takes count (pending ++ byte ∷ []) bytes) in
    none-behind _ (end_text count) rest (end-whole count pending byte number rest room bytes waits is) took.parts

front-none : (count : ℕ) (last pending : List ℕ) (byte : ℕ) (front : Front) (rest : List ℕ) → IsBytes (pending ++ byte ∷ []) → front_at count last pending ≡ Err stops.More
    → front_at count last (pending ++ byte ∷ []) ≡ Ok (front, rest) → rest ≡ []
front-none count last pending byte front rest bytes waits is =
    let whole = front-whole count last pending byte front rest bytes waits is in
    none-behind _ (entry_front front.kind front.path front.mtime front.size) rest whole.0 whole.1.took.parts

rest-waits : (test : Bool) (entries : List IndexEntry) (pending : List ℕ) → rest_at test entries pending ≡ Err stops.More → WaitsIf test entries pending
rest-waits true entries pending is = as-more End (end_at (length entries) pending) is
rest-waits false entries pending is = as-more Entry (front_at (length entries) (last_path entries) pending) is

rest-none : (test : Bool) (entries : List IndexEntry) (pending : List ℕ) (byte : ℕ) (item : Item) (rest : List ℕ) → begins_end (pending ++ byte ∷ []) ≡ test
    → length entries ≤ max_entries → IsBytes (pending ++ byte ∷ []) → Waits entries pending → rest_at test entries (pending ++ byte ∷ []) ≡ Ok (item, rest) → rest ≡ []
rest-none true entries pending byte item rest ends count bytes waits is =
    let number = as-found End (end_at (length entries) (pending ++ byte ∷ [])) item rest is in
    end-none (length entries) pending byte number.0 rest count bytes (end-waits entries pending byte waits ends) number.1
rest-none false entries pending byte item rest ends count bytes waits is =
    let front = as-found Entry (front_at (length entries) (last_path entries) (pending ++ byte ∷ [])) item rest is in
    front-none (length entries) (last_path entries) pending byte front.0 rest bytes (front-waits entries pending byte waits ends) front.1

item-none : (head : Option SetHead) (entries : List IndexEntry) (pending : List ℕ) (byte : ℕ) (item : Item) (rest : List ℕ) → length entries ≤ max_entries
    → IsBytes (pending ++ byte ∷ []) → item_at head entries pending ≡ Err stops.More → item_at head entries (pending ++ byte ∷ []) ≡ Ok (item, rest) → rest ≡ []
item-none None entries pending byte item rest count bytes waits is =
    let head = as-found Head (head_at (pending ++ byte ∷ [])) item rest is in
    head-none pending byte head.0 rest bytes (as-more Head (head_at pending) waits) head.1
item-none (Some head) entries pending byte item rest count bytes waits is =
    rest-none (begins_end (pending ++ byte ∷ [])) entries pending byte item rest refl count bytes (rest-waits (begins_end pending) entries pending waits) is

-- ---- bytes behind those that are pending

-- what is read of bytes, where they are read as this behind those that are pending
abbrev pub ReadsOn : Reading → List ℕ → Part Item → Type 0
ReadsOn now bytes (Ok x) =
    (reads now bytes ≡ reads (with_item now (now.read + length bytes - length x.1) x.0) x.1) × (length x.1 < length bytes)
    × (x.1 ≡ drop (length bytes - length x.1) bytes)
ReadsOn now bytes (Err stops.More) = reads now bytes ≡ Ok (record now { read = now.read + length bytes; pending = now.pending ++ bytes })
ReadsOn now bytes (Err (stops.Wrong behind)) = reads now bytes ≡ Err (faults.Bad (now.read + length bytes - behind))
ReadsOn now bytes (Err stops.Full) = reads now bytes ≡ Err (faults.TooMany max_entries)
ReadsOn now bytes (Err stops.Memory) = reads now bytes ≡ Err faults.Memory

pub with_item-same : (now : Reading) (read other : ℕ) (pending : List ℕ) (item : Item) → with_item (record now { read = other; pending = pending }) read item ≡ with_item now read item
with_item-same now read other pending (Head head) = refl
with_item-same now read other pending (Entry front) = refl
with_item-same now read other pending (End count) = refl

pub with_item-read : (now : Reading) (read : ℕ) (item : Item) → (with_item now read item).read ≡ read
with_item-read now read (Head head) = refl
with_item-read now read (Entry front) = refl
with_item-read now read (End count) = refl

onward : List ℕ → Result Reading StreamFault → Result Reading StreamFault
onward bytes read = then_reads read (λ next. reads next bytes)

-- a byte that completes nothing
reads-on : (now : Reading) (byte : ℕ) (bytes : List ℕ) (part : Part Item) → after_byte now byte ≡ done (with_byte now byte) → ReadsOn (with_byte now byte) bytes part
    → ReadsOn now (byte ∷ bytes) part
unfolding onward
reads-on now byte bytes (Ok x) first behind = (
  ap (onward bytes) first ∙ behind.0
      ∙ ap (λ (r : Reading). reads r x.1)
      (with_item-same now (now.read + 1 + length bytes - length x.1) (now.read + 1) (now.pending ++ byte ∷ []) x.0
      ∙ ap (λ (n : ℕ). with_item now n x.0) (omega arith)),
  omega (arith, behind.1),
  (let more : suc (length bytes - length x.1) ≡ length (byte ∷ bytes) - length x.1 = omega (arith, behind.1) in
      behind.2 ∙ ap (λ (n : ℕ). drop n (byte ∷ bytes)) more),
)
reads-on now byte bytes (Err stops.More) first behind =
    ap (onward bytes) first ∙ behind
    ∙ ap (λ (n : ℕ). done (record now { read = n; pending = (now.pending ++ byte ∷ []) ++ bytes })) (omega arith)
    ∙ ap (λ (p : List ℕ). done (record now { read = now.read + length (byte ∷ bytes); pending = p })) (append_assoc now.pending (byte ∷ []) bytes)
reads-on now byte bytes (Err (stops.Wrong at)) first behind =
    ap (onward bytes) first ∙ behind ∙ ap (λ (n : ℕ). Err (faults.Bad (n - at))) (omega arith)
reads-on now byte bytes (Err stops.Full) first behind = ap (onward bytes) first ∙ behind
reads-on now byte bytes (Err stops.Memory) first behind = ap (onward bytes) first ∙ behind

-- the next byte, behind which the pending bytes are read as this
step-on : (now : Reading) (byte : ℕ) (bytes : List ℕ) (part : Part Item) → length now.entries ≤ max_entries → IsBytes (now.pending ++ byte ∷ [])
    → item_at now.head now.entries now.pending ≡ Err stops.More → item_at now.head now.entries (now.pending ++ byte ∷ []) ≡ part
    → after_byte now byte ≡ settle_item (with_byte now byte) part
    → Extends bytes part (item_at now.head now.entries ((now.pending ++ byte ∷ []) ++ bytes))
    → (part ≡ Err stops.More → ReadsOn (with_byte now byte) bytes (item_at now.head now.entries ((now.pending ++ byte ∷ []) ++ bytes)))
    → ReadsOn now (byte ∷ bytes) (item_at now.head now.entries ((now.pending ++ byte ∷ []) ++ bytes))
unfolding onward settle_item
step-on now byte bytes (Ok x) count fit waits is step longer more =
    let none = item-none now.head now.entries now.pending byte x.0 x.1 count fit waits is in
    let all : item_at now.head now.entries ((now.pending ++ byte ∷ []) ++ bytes) ≡ found x.0 bytes = longer ∙ ap (λ (r : List ℕ). found x.0 (r ++ bytes)) none in
    subst (ReadsOn now (byte ∷ bytes)) (sym all) (
      ap (onward bytes) step
          ∙ ap (λ (r : Reading). reads r bytes)
          (with_item-same now (now.read + 1) (now.read + 1) (now.pending ++ byte ∷ []) x.0 ∙ ap (λ (n : ℕ). with_item now n x.0) (omega arith)),
      omega arith,
      (let one : 1 ≡ length (byte ∷ bytes) - length bytes = omega arith in ap (λ (n : ℕ). drop n (byte ∷ bytes)) one),
    )
step-on now byte bytes (Err stops.More) count fit waits is step longer more = reads-on now byte bytes _ step (more refl)
step-on now byte bytes (Err (stops.Wrong at)) count fit waits is step longer more =
    subst (ReadsOn now (byte ∷ bytes)) (sym longer) (ap (onward bytes) step ∙ ap (λ (n : ℕ). Err (faults.Bad n)) (omega arith))
step-on now byte bytes (Err stops.Full) count fit waits is step longer more = subst (ReadsOn now (byte ∷ bytes)) (sym longer) (ap (onward bytes) step)
step-on now byte bytes (Err stops.Memory) count fit waits is step longer more = subst (ReadsOn now (byte ∷ bytes)) (sym longer) (ap (onward bytes) step)

-- bytes are read behind those that are pending as if all were read at once
pub reads-at-once : (bytes : List ℕ) (now : Reading) → now.ended ≡ false → now.left ≡ 0 → length now.entries ≤ max_entries → IsBytes now.pending → IsBytes bytes
    → item_at now.head now.entries now.pending ≡ Err stops.More → ReadsOn now bytes (item_at now.head now.entries (now.pending ++ bytes))
reads-at-once [] now going left count pending fit waits =
    let all : item_at now.head now.entries (now.pending ++ []) ≡ Err stops.More = ap (item_at now.head now.entries) (append-nil now.pending) ∙ waits in
    subst (ReadsOn now []) (sym all)
    (ap (λ (n : ℕ). done (record now { read = n })) (omega arith) ∙ ap (λ (p : List ℕ). done (record now { read = now.read + 0; pending = p })) (sym (append-nil now.pending)))
reads-at-once (byte ∷ bytes) now going left count pending fit waits =
    let part = item_at now.head now.entries (now.pending ++ byte ∷ []) in
    let more = IsBytes-more now.pending byte pending (fit 0) in
    let step : after_byte now byte ≡ settle_item (with_byte now byte) part = next-byte now byte going left ∙ settle-is (with_byte now byte) in
    let group : (now.pending ++ byte ∷ []) ++ bytes ≡ now.pending ++ byte ∷ bytes = append_assoc now.pending (byte ∷ []) bytes in
    subst (λ (t : List ℕ). ReadsOn now (byte ∷ bytes) (item_at now.head now.entries t)) group
    (step-on now byte bytes part count more waits refl step (item-extends now.head now.entries (now.pending ++ byte ∷ []) bytes)
    (λ is. reads-at-once bytes (with_byte now byte) going left count more (λ i. fit (suc i)) is))
