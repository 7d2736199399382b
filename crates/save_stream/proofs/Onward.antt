-- A reader goes on by the item at the front of bytes, or by all of them.
use Rattle.std.proofs.Common.{◌≡◌, ℕ, zero, suc, ◌+◌, ◌-◌, ◌≤◌, ◌<◌, Bool, true, false, List, [], ◌∷◌, ◌++◌, length, take, drop, Option, Some, None, Result, Ok, Err, refl, sym, ap, subst, ◌∙◌, arith}
use Rattle.std.proofs.Math.Seq.{take-append-add}
use Rattle.std.proofs.lemmas.List.{length-append, length-take, append-nil, drop-append-le, drop_at, take_at, take-append-drop}
use Rattle.save_stream.specs.declared.entry.IndexEntry.{IndexEntry}
use Rattle.save_stream.specs.declared.fault.StreamFault.{StreamFault}
use Rattle.save_stream.specs.declared.fault.StreamFault.TheVariants as faults
use Rattle.save_stream.specs.declared.head.SetHead.{SetHead}
use Rattle.save_stream.specs.declared.stop.Stop.TheVariants as stops
use Rattle.save_stream.specs.Spelling.{max_entries}
use Rattle.save_stream.specs.Items.{Item, Head, Entry, End, as_item, rest_at, item_at, with_item, IsWaiting, TakesItem, FaultsAt}
use Rattle.save_stream.specs.Reading.{Part, Reading, Front, begins_end, last_path, then_reads, reads, head_at, numbers_at, given_byte_at, front_at, kind_at, end_at, entry_from, Faults, Advances}
use Rattle.save_stream.proofs.Items.{ReadsOn, reads-at-once, with_item-same, with_item-read}
use Rattle.save_stream.proofs.OneSpelling.{reads-append}
use Rattle.save_stream.proofs.Sound.{IsBytes, IsBytes-take, When, FrontIs, front-takes}
use Rattle.save_stream.proofs.Steps.{IsBytes-none}

pub IsBytes-append : (one other : List ℕ) → IsBytes one → IsBytes other → IsBytes (one ++ other)
IsBytes-append [] other first second i = second i
IsBytes-append (byte ∷ one) other first second zero = first 0
IsBytes-append (byte ∷ one) other first second (suc i) = IsBytes-append one other (λ k. first (suc k)) second i

-- ---- behind an item

pub item-waits : (head : Option SetHead) (entries : List IndexEntry) → item_at head entries [] ≡ Err stops.More
unfolding head_at numbers_at given_byte_at front_at kind_at
item-waits None entries = refl
item-waits (Some head) entries = refl

front-room : (count : ℕ) (last bytes : List ℕ) (part : Part Front) (front : Front) (rest : List ℕ) → When part (FrontIs count last bytes) → as_item Entry part ≡ Ok (Entry front, rest)
    → count < max_entries
front-room count last bytes (Ok x) front rest fits is = fits.room
front-room count last bytes (Err stop) front rest fits is = absurd cc

item_in : Part Item → Item
item_in (Ok x) = x.0
item_in (Err stop) = End 0

head-no-entry : (part : Part SetHead) (front : Front) (rest : List ℕ) → as_item Head part ≡ Ok (Entry front, rest) → ⊥
unfolding item_in
head-no-entry (Ok x) front rest is = let same : Head x.0 ≡ Entry front = ap item_in is in absurd cc
head-no-entry (Err stop) front rest is = absurd cc

end-no-entry : (part : Part ℕ) (front : Front) (rest : List ℕ) → as_item End part ≡ Ok (Entry front, rest) → ⊥
unfolding item_in
end-no-entry (Ok x) front rest is = let same : End x.0 ≡ Entry front = ap item_in is in absurd cc
end-no-entry (Err stop) front rest is = absurd cc

rest-room : (test : Bool) (entries : List IndexEntry) (bytes : List ℕ) (front : Front) (rest : List ℕ) → IsBytes bytes → rest_at test entries bytes ≡ Ok (Entry front, rest)
    → length entries < max_entries
rest-room true entries bytes front rest fit is = absurd (end-no-entry (end_at (length entries) bytes) front rest is)
rest-room false entries bytes front rest fit is =
    front-room (length entries) (last_path entries) bytes (front_at (length entries) (last_path entries) bytes) front rest (front-takes (length entries) (last_path entries) bytes fit) is

item-room : (head : Option SetHead) (entries : List IndexEntry) (bytes : List ℕ) (front : Front) (rest : List ℕ) → IsBytes bytes
    → item_at head entries bytes ≡ Ok (Entry front, rest) → length entries < max_entries
item-room None entries bytes front rest fit is = absurd (head-no-entry (head_at bytes) front rest is)
item-room (Some head) entries bytes front rest fit is = rest-room (begins_end bytes) entries bytes front rest fit is

with-count : (now : Reading) (read : ℕ) (bytes : List ℕ) (item : Item) (rest : List ℕ) → IsBytes bytes → length now.entries ≤ max_entries
    → item_at now.head now.entries bytes ≡ Ok (item, rest) → length ((with_item now read item).entries) ≤ max_entries
with-count now read bytes (Head head) rest fit count is = count
with-count now read bytes (Entry front) rest fit count is =
    omega (arith, item-room now.head now.entries bytes front rest fit is, length-append now.entries (entry_from read front ∷ []))
with-count now read bytes (End number) rest fit count is = count

with-none : (now : Reading) (read : ℕ) (item : Item) → (with_item now read item).pending ≡ []
with-none now read (Head head) = refl
with-none now read (Entry front) = refl
with-none now read (End number) = refl

item-waiting : (now : Reading) (read : ℕ) (bytes : List ℕ) (item : Item) (rest : List ℕ) → IsBytes bytes → length now.entries ≤ max_entries
    → item_at now.head now.entries bytes ≡ Ok (item, rest) → IsWaiting (with_item now read item)
item-waiting now read bytes item rest fit count is =
    let next = with_item now read item in
    record {
      waits = λ _. ap (item_at next.head next.entries) (with-none now read item) ∙ item-waits next.head next.entries;
      bytes = subst IsBytes (sym (with-none now read item)) IsBytes-none;
      count = with-count now read bytes item rest fit count is;
    }

-- ---- bytes that are taken behind those that are pending

-- an item was taken, behind which there are so many of these bytes
abbrev pub Took : Reading → Reading → List ℕ → ℕ → ℕ → Type 0
Took old new bytes size behind = (behind < size) × Advances old new bytes (size - behind) × IsWaiting new

pub took : (old new : Reading) (end behind : ℕ) (bytes front after : List ℕ) → IsWaiting old → old.ended ≡ false → old.left ≡ 0 → IsBytes front → bytes ≡ front ++ after
    → end ≡ old.read + length front → TakesItem (record old { pending = [] }) new end (old.pending ++ front) behind → Took old new bytes (length front) behind
took old new end behind bytes front after waiting going left fit parts ends takes =
    let item = takes.item in
    let rest = takes.rest in
    let count : ℕ = length front - length rest in
    let on = subst (ReadsOn old front) takes.found (reads-at-once front old going left waiting.count waiting.bytes fit (waiting.waits going)) in
    let next = with_item old (old.read + length front - length rest) item in
    let new-is : new ≡ next =
    takes.taken ∙ with_item-same old (end - length rest) old.read [] item ∙ ap (λ (n : ℕ). with_item old (n - length rest) item) ends in
    let tail : rest ++ after ≡ drop count bytes =
    ap (λ (r : List ℕ). r ++ after) on.2 ∙ sym (drop-append-le count front after (omega arith)) ∙ ap (drop count) (sym parts) in
    let same : length front - behind ≡ count = ap (λ (n : ℕ). length front - n) takes.behind_is in
    let sizes : length bytes ≡ length front + length after = ap (λ (t : List ℕ). length t) parts ∙ length-append front after in
    subst (λ (r : Reading). Took old r bytes (length front) behind) (sym new-is) (
      omega (arith, on.1, takes.behind_is),
      record {
        some = omega (arith, on.1, takes.behind_is);
        within = omega (arith, sizes);
        read = with_item-read old (old.read + length front - length rest) item ∙ omega (arith, on.1, takes.behind_is);
        rest = ap (reads old) parts ∙ reads-append front old after ∙ ap (λ (r : Result Reading StreamFault). then_reads r (λ n. reads n after)) on.0
            ∙ sym (reads-append rest next after) ∙ ap (reads next) tail ∙ ap (λ (n : ℕ). reads next (drop n bytes)) (sym same);
      },
      item-waiting old (old.read + length front - length rest) (old.pending ++ front) item rest (IsBytes-append old.pending front waiting.bytes fit) waiting.count takes.found,
    )

-- all of the bytes are pending
abbrev pub waited_reading : Reading → List ℕ → Reading
waited_reading old front = record old { read = old.read + length front; pending = old.pending ++ front }

pub waited : (old : Reading) (bytes front after : List ℕ) → IsWaiting old → old.ended ≡ false → old.left ≡ 0 → IsBytes front → bytes ≡ front ++ after → 0 < length front
    → item_at old.head old.entries (old.pending ++ front) ≡ Err stops.More
    → Advances old (waited_reading old front) bytes (length front) × IsWaiting (waited_reading old front)
waited old bytes front after waiting going left fit parts some more =
    let on = subst (ReadsOn old front) more (reads-at-once front old going left waiting.count waiting.bytes fit (waiting.waits going)) in
    let next = waited_reading old front in (
      record {
        some = some;
        within = omega (arith, ap (λ (t : List ℕ). length t) parts, length-append front after);
        read = refl;
        rest = ap (reads old) parts ∙ reads-append front old after ∙ ap (λ (r : Result Reading StreamFault). then_reads r (λ n. reads n after)) on
            ∙ ap (reads next) (sym (drop_at front after (length front) refl) ∙ ap (drop (length front)) (sym parts));
      },
      record { waits = λ _. more; bytes = IsBytes-append old.pending front waiting.bytes fit; count = waiting.count },
    )

pub faulted : (old : Reading) (fault : StreamFault) (end : ℕ) (bytes front after : List ℕ) → IsWaiting old → old.ended ≡ false → old.left ≡ 0 → IsBytes front
    → bytes ≡ front ++ after → end ≡ old.read + length front → FaultsAt fault end (item_at old.head old.entries (old.pending ++ front)) → Faults fault (reads old bytes)
faulted old faults.Memory end bytes front after waiting going left fit parts ends is = tt
faulted old (faults.Bad offset) end bytes front after waiting going left fit parts ends is =
    let on = subst (ReadsOn old front) is.1 (reads-at-once front old going left waiting.count waiting.bytes fit (waiting.waits going)) in
    ap (reads old) parts ∙ reads-append front old after ∙ ap (λ (r : Result Reading StreamFault). then_reads r (λ n. reads n after)) on
    ∙ ap (λ (n : ℕ). Err (faults.Bad (n - is.0))) (sym ends) ∙ ap (λ (n : ℕ). Err (faults.Bad n)) (sym is.2)
faulted old (faults.TooMany limit) end bytes front after waiting going left fit parts ends is =
    let on = subst (ReadsOn old front) is.0 (reads-at-once front old going left waiting.count waiting.bytes fit (waiting.waits going)) in
    ap (reads old) parts ∙ reads-append front old after ∙ ap (λ (r : Result Reading StreamFault). then_reads r (λ n. reads n after)) on
    ∙ ap (λ (n : ℕ). Err (faults.TooMany n)) (sym is.1)

-- ---- nothing is pending

pub next-took : (base new : Reading) (pending bytes : List ℕ) (end behind : ℕ) → pending ≡ [] → IsWaiting (record base { pending = pending }) → base.ended ≡ false → base.left ≡ 0
    → IsBytes bytes → end ≡ base.read + length bytes → TakesItem (record base { pending = [] }) (record new { pending = [] }) end bytes behind
    → Took (record base { pending = pending }) (record new { pending = pending }) bytes (length bytes) behind
next-took base new pending bytes end behind none waiting going left fit ends takes =
    subst (λ (p : List ℕ). IsWaiting (record base { pending = p }) → Took (record base { pending = p }) (record new { pending = p }) bytes (length bytes) behind) (sym none)
    (λ waits. took (record base { pending = [] }) (record new { pending = [] }) end behind bytes bytes [] waits going left fit (sym (append-nil bytes)) ends takes) waiting

pub next-waited : (base : Reading) (pending bytes : List ℕ) → pending ≡ [] → IsWaiting (record base { pending = pending }) → base.ended ≡ false → base.left ≡ 0
    → IsBytes bytes → 0 < length bytes → item_at base.head base.entries bytes ≡ Err stops.More
    → let next : Reading = record base { read = base.read + length bytes; pending = bytes } in
    Advances (record base { pending = pending }) next bytes (length bytes) × IsWaiting next
next-waited base pending bytes none waiting going left fit some more =
    let next : Reading = record base { read = base.read + length bytes; pending = bytes } in
    subst (λ (p : List ℕ). IsWaiting (record base { pending = p }) → Advances (record base { pending = p }) next bytes (length bytes) × IsWaiting next) (sym none)
    (λ waits. waited (record base { pending = [] }) bytes bytes [] waits going left fit (sym (append-nil bytes)) some more) waiting

pub next-faulted : (base : Reading) (pending bytes : List ℕ) (fault : StreamFault) (end : ℕ) → pending ≡ [] → IsWaiting (record base { pending = pending }) → base.ended ≡ false
    → base.left ≡ 0 → IsBytes bytes → end ≡ base.read + length bytes → FaultsAt fault end (item_at base.head base.entries bytes) → Faults fault (reads (record base { pending = pending }) bytes)
next-faulted base pending bytes fault end none waiting going left fit ends is =
    subst (λ (p : List ℕ). IsWaiting (record base { pending = p }) → Faults fault (reads (record base { pending = p }) bytes)) (sym none)
    (λ waits. faulted (record base { pending = [] }) fault end bytes bytes [] waits going left fit (sym (append-nil bytes)) ends is) waiting

-- ---- some bytes are pending

pub pending-took : (base new : Reading) (items bytes parsed left : List ℕ) (done count end behind : ℕ) → done ≤ length items → count ≤ length bytes
    → parsed ≡ drop done (items ++ take count bytes) → left ≡ [] → IsWaiting (record base { pending = drop done items }) → base.ended ≡ false → base.left ≡ 0
    → IsBytes bytes → end ≡ base.read + count → TakesItem (record base { pending = [] }) (record new { pending = [] }) end parsed behind
    → Took (record base { pending = drop done items }) (record new { pending = left }) bytes count behind
pending-took base new items bytes parsed left done count end behind within some is none waiting going idle fit ends takes =
    let front = take count bytes in
    let old : Reading = record base { pending = drop done items } in
    let next : Reading = record new { pending = [] } in
    let size : length front ≡ count = omega (arith, length-take count bytes) in
    let all : parsed ≡ drop done items ++ front = is ∙ drop-append-le done items front within in
    let takes-all = subst (λ (t : List ℕ). TakesItem (record base { pending = [] }) next end t behind) all takes in
    let taken : Took old next bytes (length front) behind =
    took old next end behind bytes front (drop count bytes) waiting going idle (IsBytes-take count bytes fit) (sym (take-append-drop count bytes))
    (ends ∙ ap (λ (n : ℕ). base.read + n) (sym size)) takes-all in
    subst (λ (q : List ℕ). Took old (record new { pending = q }) bytes count behind) (sym none) (subst (λ (n : ℕ). Took old next bytes n behind) size taken)

pub pending-waited : (base : Reading) (items bytes parsed grown : List ℕ) (done count : ℕ) → done ≤ length items → count ≤ length bytes → 0 < count
    → parsed ≡ drop done (items ++ take count bytes) → grown ≡ items ++ take count bytes → IsWaiting (record base { pending = drop done items }) → base.ended ≡ false
    → base.left ≡ 0 → IsBytes bytes → item_at base.head base.entries parsed ≡ Err stops.More
    → let next : Reading = record base { read = base.read + count; pending = drop done grown } in
    Advances (record base { pending = drop done items }) next bytes count × IsWaiting next
pending-waited base items bytes parsed grown done count within fits some is grows waiting going idle fit more =
    let front = take count bytes in
    let old : Reading = record base { pending = drop done items } in
    let size : length front ≡ count = omega (arith, length-take count bytes) in
    let all : parsed ≡ drop done items ++ front = is ∙ drop-append-le done items front within in
    let now : drop done grown ≡ drop done items ++ front = ap (drop done) grows ∙ drop-append-le done items front within in
    let P : ℕ → List ℕ → Type 0 = λ n q. Advances old (record base { read = base.read + n; pending = q }) bytes n × IsWaiting (record base { read = base.read + n; pending = q }) in
    let here : P (length front) (drop done items ++ front) =
    waited old bytes front (drop count bytes) waiting going idle (IsBytes-take count bytes fit) (sym (take-append-drop count bytes)) (omega (arith, some, size))
    (ap (item_at base.head base.entries) (sym all) ∙ more) in
    subst (P count) (sym now) (subst (λ (n : ℕ). P n (drop done items ++ front)) size here)

pub pending-faulted : (base : Reading) (items bytes parsed : List ℕ) (done count : ℕ) (fault : StreamFault) (end : ℕ) → done ≤ length items → count ≤ length bytes
    → parsed ≡ drop done (items ++ take count bytes) → IsWaiting (record base { pending = drop done items }) → base.ended ≡ false → base.left ≡ 0 → IsBytes bytes
    → end ≡ base.read + count → FaultsAt fault end (item_at base.head base.entries parsed) → Faults fault (reads (record base { pending = drop done items }) bytes)
pending-faulted base items bytes parsed done count fault end within fits is waiting going idle fit ends at =
    let front = take count bytes in
    let size : length front ≡ count = omega (arith, length-take count bytes) in
    let all : parsed ≡ drop done items ++ front = is ∙ drop-append-le done items front within in
    faulted (record base { pending = drop done items }) fault end bytes front (drop count bytes) waiting going idle (IsBytes-take count bytes fit)
    (sym (take-append-drop count bytes)) (ends ∙ ap (λ (n : ℕ). base.read + n) (sym size))
    (subst (λ (t : List ℕ). FaultsAt fault end (item_at base.head base.entries t)) all at)

pub take-all : (bytes : List ℕ) (size : ℕ) → length bytes ≡ size → take size bytes ≡ bytes
take-all bytes size is = ap (take size) (sym (append-nil bytes)) ∙ take_at bytes [] size is

-- what is cut off behind the first bytes leaves these
pub kept-front : (items front kept : List ℕ) (size : ℕ) → length items ≤ size → kept ≡ take size (items ++ front) → (more : List ℕ) × (kept ≡ items ++ more)
kept-front items front kept size within is =
    let whole : size ≡ length items + (size - length items) = omega arith in (
      take (size - length items) front,
      is ∙ ap (λ (n : ℕ). take n (items ++ front)) whole ∙ take-append-add items front (size - length items),
    )
