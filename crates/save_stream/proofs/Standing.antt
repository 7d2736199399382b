-- Each byte leaves a reader where its text says.
use Rattle.std.proofs.Common.{◌≡◌, ℕ, ◌+◌, ◌-◌, ◌≤◌, Bool, true, false, List, [], ◌∷◌, ◌++◌, length, take, Ok, Err, refl, sym, ap, subst, ◌∙◌, append_assoc, arith}
use Rattle.std.specs.List.{flat_map, AllByRecursion}
use Rattle.std.proofs.Math.Seq.{take-append-add}
use Rattle.std.proofs.lemmas.Grind.{flat_map-append}
use Rattle.std.proofs.lemmas.List.{length-append, append-nil, nil_from_length, take_at}
use Rattle.save_stream.specs.declared.entry.EntryKind.{EntryKind}
use Rattle.save_stream.specs.declared.entry.EntryKind.TheVariants as kinds
use Rattle.save_stream.specs.declared.entry.IndexEntry.{IndexEntry}
use Rattle.save_stream.specs.declared.head.SetHead.{SetHead}
use Rattle.save_stream.specs.declared.stop.Stop.TheVariants as stops
use Rattle.save_stream.specs.Spelling.{max_entries, IsHead, Saved, IsSaved, HasFields, Ascend, IsBelow, head_text, entry_front, entry_text, end_text, index_entry, index_from}
use Rattle.save_stream.specs.Reading.{Part, Front, begins_end, entry_from, last_path, head_at, front_at, end_at, kind_at, given_byte_at}
use Rattle.save_stream.specs.Standing.{Spells, Waits, WaitsIf}
use Rattle.save_stream.proofs.Again.{FitsKind, head-again, front-again, end-again}
use Rattle.save_stream.proofs.Sound.{IsBytes, FollowsReading, When, FrontIs, head-takes, front-takes, end-takes}
use Rattle.save_stream.proofs.Whole.{length-index_from}

-- ---- nothing stands behind what a last byte completes

whole : {X : Type 0} → X → List ℕ → Part X
whole x rest = Ok (x, rest)

more : {X : Type 0} → Part X
more = Err stops.More

ok-no-more : {X : Type 0} (x : X) (rest : List ℕ) → whole x rest ≡ more → ⊥
unfolding whole more
ok-no-more x rest is = cc

pub no-rest : {X : Type 0} (parse : List ℕ → Part X) (text pending rest : List ℕ) (byte : ℕ) (x : X) → ((rest : List ℕ) → parse (text ++ rest) ≡ Ok (x, rest))
    → pending ++ byte ∷ [] ≡ text ++ rest → parse pending ≡ Err stops.More → rest ≡ []
unfolding whole more
no-rest parse text pending [] byte x again is waits = refl
no-rest {X = X} parse text pending (next ∷ rest) byte x again is waits =
    let sizes : length pending + 1 ≡ length text + length (next ∷ rest) =
    omega (arith, length-append pending (byte ∷ []), length-append text (next ∷ rest), ap (λ (l : List ℕ). length l) is) in
    let front : pending ≡ text ++ take (length pending - length text) (next ∷ rest) =
    sym (take_at pending (byte ∷ []) (length pending) refl) ∙ ap (take (length pending)) is
    ∙ ap (λ (n : ℕ). take n (text ++ next ∷ rest)) (omega arith) ∙ take-append-add text (next ∷ rest) (length pending - length text) in
    absurd (ok-no-more x (take (length pending - length text) (next ∷ rest)) (sym (ap parse front ∙ again (take (length pending - length text) (next ∷ rest))) ∙ waits))

-- ---- the bytes of an entry or an end that is to come

pub none-waits : (entries : List IndexEntry) → Waits entries []
unfolding front_at kind_at
none-waits entries = refl

pub end-waits : (entries : List IndexEntry) (pending : List ℕ) (byte : ℕ) → Waits entries pending → begins_end (pending ++ byte ∷ []) ≡ true
    → end_at (length entries) pending ≡ Err stops.More
unfolding end_at given_byte_at
end-waits entries [] byte waits ends = refl
end-waits entries (first ∷ pending) byte waits ends = subst (λ (test : Bool). WaitsIf test entries (first ∷ pending)) ends waits

pub front-waits : (entries : List IndexEntry) (pending : List ℕ) (byte : ℕ) → Waits entries pending → begins_end (pending ++ byte ∷ []) ≡ false
    → front_at (length entries) (last_path entries) pending ≡ Err stops.More
unfolding front_at kind_at
front-waits entries [] byte waits ends = refl
front-waits entries (first ∷ pending) byte waits ends = subst (λ (test : Bool). WaitsIf test entries (first ∷ pending)) ends waits

-- what a last byte completes: nothing stands behind it
pub end-whole : (count : ℕ) (pending : List ℕ) (byte number : ℕ) (rest : List ℕ) → count ≤ max_entries → IsBytes (pending ++ byte ∷ []) → end_at count pending ≡ Err stops.More
    → end_at count (pending ++ byte ∷ []) ≡ Ok (number, rest) → pending ++ byte ∷ [] ≡ end_text count
end-whole count pending byte number rest room bytes waits is =
    let took : FollowsReading (pending ++ byte ∷ []) (end_text count) rest =
    subst (λ (p : Part ℕ). When p (λ n r. FollowsReading (pending ++ byte ∷ []) (end_text count) r)) is (end-takes count (pending ++ byte ∷ []) bytes) in
    let none : rest ≡ [] = no-rest (end_at count) (end_text count) pending rest byte count (λ r. end-again count r (omega (arith, room))) took.parts waits in
    took.parts ∙ ap (λ (r : List ℕ). end_text count ++ r) none ∙ append-nil (end_text count)

pub head-whole : (pending : List ℕ) (byte : ℕ) (head : SetHead) (rest : List ℕ) → IsBytes (pending ++ byte ∷ []) → head_at pending ≡ Err stops.More
    → head_at (pending ++ byte ∷ []) ≡ Ok (head, rest) → (pending ++ byte ∷ [] ≡ head_text head) × IsHead head
head-whole pending byte head rest bytes waits is =
    let took = subst (λ (p : Part SetHead). When p (λ h r. FollowsReading (pending ++ byte ∷ []) (head_text h) r × IsHead h)) is (head-takes (pending ++ byte ∷ []) bytes) in
    let none : rest ≡ [] = no-rest head_at (head_text head) pending rest byte head (λ r. head-again head r took.1) took.0.parts waits in
    (took.0.parts ∙ ap (λ (r : List ℕ). head_text head ++ r) none ∙ append-nil (head_text head), took.1)

text_of : Front → List ℕ
text_of front = entry_front front.kind front.path front.mtime front.size

pub front-whole : (count : ℕ) (last pending : List ℕ) (byte : ℕ) (front : Front) (rest : List ℕ) → IsBytes (pending ++ byte ∷ []) → front_at count last pending ≡ Err stops.More
    → front_at count last (pending ++ byte ∷ []) ≡ Ok (front, rest)
    → (pending ++ byte ∷ [] ≡ entry_front front.kind front.path front.mtime front.size) × FrontIs count last (pending ++ byte ∷ []) front rest
front-whole count last pending byte front rest bytes waits is =
    let text = entry_front front.kind front.path front.mtime front.size in
    let took = subst (λ (p : Part Front). When p (FrontIs count last (pending ++ byte ∷ []))) is (front-takes count last (pending ++ byte ∷ []) bytes) in
    let none : rest ≡ [] = no-rest (front_at count last) text pending rest byte front
    (λ r. front-again count last front.kind front.path front.mtime front.size r took.room took.length took.path took.below took.fields) took.took.parts waits in
    (took.took.parts ∙ ap (λ (r : List ℕ). text ++ r) none ∙ append-nil text, took)

-- ---- one entry more

last_saved : List ℕ → List Saved → List ℕ
last_saved last [] = last
last_saved last (entry ∷ entries) = last_saved entry.path entries

Ascend-append : (last : List ℕ) (entries : List Saved) (entry : Saved) → Ascend last entries → IsBelow (last_saved last entries) entry.path → Ascend last (entries ++ entry ∷ [])
unfolding last_saved
Ascend-append last [] entry order below = (below, tt)
Ascend-append last (first ∷ entries) entry order below = (order.0, Ascend-append first.path entries entry order.1 below)

each-append : (entries : List Saved) (entry : Saved) → AllByRecursion IsSaved entries → IsSaved entry → AllByRecursion IsSaved (entries ++ entry ∷ [])
each-append [] entry each is = (is, tt)
each-append (first ∷ entries) entry each is = (each.0, each-append entries entry each.1 is)

index-append : (at : ℕ) (entries : List Saved) (entry : Saved)
    → index_from at (entries ++ entry ∷ []) ≡ index_from at entries ++ index_entry (at + length (flat_map entry_text entries)) entry ∷ []
index-append at [] entry = ap (λ (n : ℕ). index_entry n entry ∷ []) (omega arith)
index-append at (first ∷ entries) entry =
    ap (λ (es : List IndexEntry). index_entry at first ∷ es)
    (index-append (at + length (entry_text first)) entries entry
    ∙ ap (λ (n : ℕ). index_from (at + length (entry_text first)) entries ++ index_entry n entry ∷ []) (omega (arith, length-append (entry_text first) (flat_map entry_text entries))))

last-is : (at : ℕ) (last : List ℕ) (entry : Saved) (entries : List Saved) → last_path (index_from at (entry ∷ entries)) ≡ last_saved last (entry ∷ entries)
unfolding last_saved
last-is at last entry [] = refl
last-is at last entry (next ∷ entries) = last-is (at + length (entry_text entry)) entry.path next entries

last-path-is : (at : ℕ) (entries : List Saved) → last_path (index_from at entries) ≡ last_saved [] entries
unfolding last_saved
last-path-is at [] = refl
last-path-is at (entry ∷ entries) = last-is at [] entry entries

has-fields : (kind : EntryKind) (mtime size : ℕ) (missing : List ℕ) → FitsKind kind mtime size → length missing ≡ size → HasFields kind mtime missing
has-fields kinds.File mtime size missing fits is = (fits.0, omega (arith, fits.1))
has-fields kinds.Folder mtime size missing fits is = (fits.0, nil_from_length missing (is ∙ fits.1))
has-fields kinds.Gone mtime size missing fits is = (fits.0, nil_from_length missing (is ∙ fits.1))

abbrev pub saved_of : Front → List ℕ → Saved
saved_of front missing = record { kind = front.kind; path = front.path; mtime = front.mtime; bytes = missing }

pub spells-more : (text : List ℕ) (head : SetHead) (entries : List Saved) (index : List IndexEntry) (pending : List ℕ) (byte : ℕ)
    → Spells text head entries false index pending → Spells (text ++ byte ∷ []) head entries false index (pending ++ byte ∷ [])
spells-more text head entries index pending byte is = record {
  each = is.each;
  order = is.order;
  count = is.count;
  index_is = is.index_is;
  parts = ap (λ (t : List ℕ). t ++ byte ∷ []) is.parts ∙ append_assoc (head_text head) (flat_map entry_text entries ++ pending) (byte ∷ [])
      ∙ ap (λ (t : List ℕ). head_text head ++ t) (append_assoc (flat_map entry_text entries) pending (byte ∷ []));
}

pub spells-end : (text : List ℕ) (head : SetHead) (entries : List Saved) (index : List IndexEntry) (pending : List ℕ)
    → Spells text head entries false index pending → pending ≡ end_text (length index) → Spells text head entries true index []
spells-end text head entries index pending is ends = record {
  each = is.each;
  order = is.order;
  count = is.count;
  index_is = is.index_is;
  parts = is.parts ∙ ap (λ (t : List ℕ). head_text head ++ (flat_map entry_text entries ++ t))
      (ends ∙ ap end_text (ap (λ (l : List IndexEntry). length l) is.index_is ∙ length-index_from (length (head_text head)) entries));
}

pub spells-entry : (text : List ℕ) (head : SetHead) (entries : List Saved) (index : List IndexEntry) (pending : List ℕ) (front : Front) (rest missing : List ℕ)
    → Spells text head entries false index pending → FrontIs (length index) (last_path index) pending front rest
    → pending ≡ entry_front front.kind front.path front.mtime front.size → length missing ≡ front.size
    → Spells (text ++ missing) head (entries ++ saved_of front missing ∷ []) false (index ++ entry_from (length text) front ∷ []) []
spells-entry text head entries index pending front rest missing is fits pending-is size =
    let at = length (head_text head) in
    let texts = flat_map entry_text entries in
    let entry : Saved = saved_of front missing in
    let fronts = entry_front front.kind front.path front.mtime front.size in
    let count : length index ≡ length entries = ap (λ (l : List IndexEntry). length l) is.index_is ∙ length-index_from at entries in
    let last : last_path index ≡ last_saved [] entries = ap last_path is.index_is ∙ last-path-is at entries in
    let sizes : length text ≡ at + length texts + length fronts =
    ap (λ (l : List ℕ). length l) is.parts ∙ length-append (head_text head) (texts ++ pending)
    ∙ omega (arith, length-append texts pending, ap (λ (l : List ℕ). length l) pending-is) in
    let indexed : entry_from (length text) front ≡ index_entry (at + length texts) entry =
    ap (λ (n : ℕ). entry_from n front) sizes
    ∙ ap (λ (n : ℕ). record (entry_from (at + length texts + length (entry_front front.kind front.path front.mtime n)) front) { size = n }) (sym size) in
    let entry-text : entry_text entry ≡ fronts ++ missing = ap (λ (n : ℕ). entry_front front.kind front.path front.mtime n ++ missing) size in
    record {
      each = each-append entries entry is.each (record { length = fits.length; path = fits.path; fields = has-fields front.kind front.mtime front.size missing fits.fields size });
      order = Ascend-append [] entries entry is.order (subst (λ (l : List ℕ). IsBelow l front.path) last fits.below);
      count = omega (arith, fits.room, count, length-append entries (entry ∷ []));
      index_is = ap (λ (l : List IndexEntry). l ++ entry_from (length text) front ∷ []) is.index_is
          ∙ ap (λ (e : IndexEntry). index_from at entries ++ e ∷ []) indexed ∙ sym (index-append at entries entry);
      parts = ap (λ (t : List ℕ). t ++ missing) is.parts
          ∙ append_assoc (head_text head) (texts ++ pending) missing
          ∙ ap (λ (t : List ℕ). head_text head ++ t)
          (append_assoc texts pending missing
          ∙ ap (λ (t : List ℕ). texts ++ (t ++ missing)) pending-is
          ∙ ap (λ (t : List ℕ). texts ++ t) (sym entry-text ∙ sym (append-nil (entry_text entry)))
          ∙ sym (flat_map-append entry_text entries (entry ∷ []))
          ∙ sym (append-nil (flat_map entry_text (entries ++ entry ∷ []))));
    }
