-- The bytes of two files have one meaning.
use Rattle.std.proofs.Common.{◌≡◌, ◌⊎◌, ℕ, ◌+◌, List, [], ◌∷◌, ◌++◌, length, take, drop, get_or, refl, sym, ap, subst, ◌∙◌, append_assoc, arith, inl, inr}
use Rattle.std.proofs.lemmas.List.{append_cancel_left}
use Rattle.room_disk.specs.Disk.{Image}
use Rattle.cat_journal.specs.Layout.{Head, front_text, entry_text, IsEntry}
use Rattle.cat_journal.specs.Contents.{Contents, contents_of, contents_text, gate_of, number_after, last_of, last_number, entries_text, AreEntries, AreContents, IsClosed, IsBroken, Holds, BreaksBehind}
use Rattle.cat_journal.specs.Meaning.{Front, Shut, Open, Bad, HasFront, Begins, Meaning, Unopened, Damaged, Stands, CurrentMeans, FrontsMean, Means}
use Rattle.cat_journal.proofs.Spelled.{reads_front, reads_entry}

-- ---- fronts

of_fields : ℕ → ℕ → ℕ → Head
of_fields form generation number = record { form = form; generation = generation; number = number }

has_fields : (head : Head) → of_fields head.form head.generation head.number ≡ head
unfolding of_fields
has_fields head = refl

same_fields : (f g a b m n : ℕ) → f ≡ g → a ≡ b → m ≡ n → of_fields f a m ≡ of_fields g b n
same_fields f g a b m n form generation number = cc

pub equal_heads : (one other : Head) → one.form ≡ other.form → one.generation ≡ other.generation → one.number ≡ other.number → one ≡ other
equal_heads one other form generation number =
    sym (has_fields one) ∙ same_fields _ _ _ _ _ _ form generation number ∙ has_fields other

pub one_front : (bytes : List ℕ) (head other : Head) (snapshot late : List ℕ) → HasFront bytes head snapshot → HasFront bytes other late
    → (head ≡ other) × (snapshot ≡ late)
one_front bytes head other snapshot late has also =
    let a = reads_front bytes head snapshot has.rest has.allowed has.text in
    let b = reads_front bytes other late also.rest also.allowed also.text in
    let size : length snapshot ≡ length late = sym a.size ∙ b.size in (
      equal_heads head other (sym a.form ∙ b.form) (sym a.generation ∙ b.generation) (sym a.number ∙ b.number),
      sym a.snapshot_read ∙ ap (λ (n : ℕ). take n (drop 64 bytes)) size ∙ b.snapshot_read,
    )

pub front_opens : (bytes : List ℕ) (head : Head) (snapshot : List ℕ) → HasFront bytes head snapshot → get_or bytes 0 0 ≡ 0x4A
front_opens bytes head snapshot has = (reads_front bytes head snapshot has.rest has.allowed has.text).gate

equal_opens : (head other : Head) (snapshot late : List ℕ) → (head ≡ other) × (snapshot ≡ late) → Open head snapshot ≡ Open other late
equal_opens head other snapshot late (heads, snapshots) = cc

pub one_beginning : (bytes : List ℕ) (one other : Front) → Begins bytes one → Begins bytes other → one ≡ other
one_beginning bytes Shut Shut is also = refl
one_beginning bytes Shut (Open head snapshot) shut has = absurd (shut (front_opens bytes head snapshot has))
one_beginning bytes Shut Bad shut bad = absurd (shut bad.0)
one_beginning bytes (Open head snapshot) Shut has shut = absurd (shut (front_opens bytes head snapshot has))
one_beginning bytes (Open head snapshot) (Open other late) has also =
    equal_opens head other snapshot late (one_front bytes head other snapshot late has also)
one_beginning bytes (Open head snapshot) Bad has bad = absurd (bad.1 head snapshot has)
one_beginning bytes Bad Shut bad shut = absurd (shut bad.0)
one_beginning bytes Bad (Open head snapshot) bad has = absurd (bad.1 head snapshot has)
one_beginning bytes Bad Bad is also = refl

-- ---- entries

same_rest : (x : ℕ) (xs ys : List ℕ) → x ∷ xs ≡ x ∷ ys → xs ≡ ys
same_rest x xs ys same = cc same

-- behind an open gate stands one entry at most
pub one_entry : (bytes : List ℕ) (number : ℕ) (payload other rest more : List ℕ) → IsEntry number payload → IsEntry number other
    → bytes ≡ entry_text number payload ++ rest → bytes ≡ entry_text number other ++ more → (payload ≡ other) × (rest ≡ more)
one_entry bytes number payload other rest more is also text twin =
    let a = reads_entry bytes number payload rest is text in
    let b = reads_entry bytes number other more also twin in
    let size : length payload ≡ length other = sym a.size ∙ b.size in (
      sym a.payload_read ∙ ap (λ (n : ℕ). take n (drop 12 bytes)) size ∙ b.payload_read,
      sym a.behind ∙ ap (λ (n : ℕ). drop (44 + n) bytes) size ∙ b.behind,
    )

-- entries end at a gate that is closed or before no entry
abbrev pub Ends : ℕ → List ℕ → Type 0
Ends number rest = IsClosed rest ⊎ IsBroken number rest

no_entry : (number : ℕ) (payload rest end : List ℕ) → IsEntry number payload → end ≡ (0x45 ∷ entry_text number payload) ++ rest → Ends number end → ⊥
no_entry number payload rest [] is text ends = absurd (omega (arith, ap length text))
no_entry number payload rest (gate ∷ end) is text (inl closed) = closed (ap (λ (t : List ℕ). get_or t 0 0) text)
no_entry number payload rest (gate ∷ end) is text (inr broken) = broken.1 payload rest is (ap (drop 1) text)

one_list_of_entries : (form number : ℕ) (payloads others : List (List ℕ)) (rest more : List ℕ) → AreEntries form number payloads → AreEntries form number others
    → entries_text form number payloads ++ rest ≡ entries_text form number others ++ more
    → Ends (last_of form number payloads + 1) rest → Ends (last_of form number others + 1) more
    → (payloads ≡ others) × (rest ≡ more)
one_list_of_entries form number [] [] rest more are also same ends stops = (refl, same)
one_list_of_entries form number [] (other ∷ others) rest more are also same ends stops =
    let next = entries_text form (number_after form number other) others in
    absurd (no_entry (number + 1) other (next ++ more) rest also.0
    (same ∙ append_assoc (0x45 ∷ entry_text (number + 1) other) next more) ends)
one_list_of_entries form number (payload ∷ payloads) [] rest more are also same ends stops =
    let next = entries_text form (number_after form number payload) payloads in
    absurd (no_entry (number + 1) payload (next ++ rest) more are.0
    (sym same ∙ append_assoc (0x45 ∷ entry_text (number + 1) payload) next rest) stops)
one_list_of_entries form number (payload ∷ payloads) (other ∷ others) rest more are also same ends stops =
    let after = number_after form number in
    let next = entries_text form (after payload) payloads in
    let twin = entries_text form (after other) others in
    let whole : entry_text (number + 1) payload ++ (next ++ rest) ≡ entry_text (number + 1) other ++ (twin ++ more) =
    same_rest 0x45 _ _ (sym (append_assoc (0x45 ∷ entry_text (number + 1) payload) next rest) ∙ same ∙ append_assoc (0x45 ∷ entry_text (number + 1) other) twin more) in
    let first = one_entry (entry_text (number + 1) payload ++ (next ++ rest)) (number + 1) payload other (next ++ rest) (twin ++ more) are.0 also.0 refl whole in
    let Same : List ℕ → Type 0 = λ p. next ++ rest ≡ entries_text form (after p) others ++ more in
    let Are : List ℕ → Type 0 = λ p. AreEntries form (after p) others in
    let Stops : List ℕ → Type 0 = λ p. Ends (last_of form (after p) others + 1) more in
    let behind = one_list_of_entries form (after payload) payloads others rest more are.1 (subst Are (sym first.0) also.1)
    (subst Same (sym first.0) first.1) ends (subst Stops (sym first.0) stops) in
    (ap (λ (p : List ℕ). p ∷ payloads) first.0 ∙ ap (λ (ps : List (List ℕ)). other ∷ ps) behind.0, behind.1)

-- one file has one list of entries behind its front, and one end
pub one_end : (head : Head) (snapshot : List ℕ) (payloads others : List (List ℕ)) (bytes rest more : List ℕ)
    → AreContents (contents_of head snapshot payloads) → AreContents (contents_of head snapshot others)
    → bytes ≡ contents_text (contents_of head snapshot payloads) ++ rest → bytes ≡ contents_text (contents_of head snapshot others) ++ more
    → Ends (last_number (contents_of head snapshot payloads) + 1) rest → Ends (last_number (contents_of head snapshot others) + 1) more
    → (payloads ≡ others) × (rest ≡ more)
one_end head snapshot payloads others bytes rest more are also text twin ends stops =
    let front = 0x4A ∷ front_text head snapshot in
    let ones = entries_text head.form head.number payloads in
    let twos = entries_text head.form head.number others in
    let same : ones ++ rest ≡ twos ++ more =
    append_cancel_left front (ones ++ rest) (twos ++ more) (sym (append_assoc front ones rest) ∙ sym text ∙ twin ∙ append_assoc front twos more) in
    one_list_of_entries head.form head.number payloads others rest more are.entries also.entries same ends stops

not_both : (number : ℕ) (rest : List ℕ) → IsClosed rest → IsBroken number rest → ⊥
not_both number [] closed broken = closed
not_both number (gate ∷ rest) closed broken = closed broken.0

-- ---- the current file

contents_fields : (contents : Contents) → contents_of contents.head contents.snapshot contents.payloads ≡ contents
contents_fields contents = refl

equal_contents : (head other : Head) (snapshot late : List ℕ) (payloads others : List (List ℕ)) → head ≡ other → snapshot ≡ late → payloads ≡ others
    → contents_of head snapshot payloads ≡ contents_of other late others
equal_contents head other snapshot late payloads others heads snapshots entries = cc

-- the contents, with this head and snapshot
of_front : (contents : Contents) (head : Head) (snapshot : List ℕ) → contents.head ≡ head → contents.snapshot ≡ snapshot
    → contents ≡ contents_of head snapshot contents.payloads
of_front contents head snapshot heads snapshots =
    sym (contents_fields contents) ∙ equal_contents contents.head head contents.snapshot snapshot contents.payloads contents.payloads heads snapshots refl

held_not_broken : (bytes : List ℕ) (head : Head) (snapshot : List ℕ) (payloads : List (List ℕ)) (contents : Contents) → contents.head ≡ head
    → contents.snapshot ≡ snapshot → Holds bytes contents → BreaksBehind bytes (contents_of head snapshot payloads) → ⊥
held_not_broken bytes head snapshot payloads contents heads snapshots holds breaks =
    let held = subst (Holds bytes) (of_front contents head snapshot heads snapshots) holds in
    let end = one_end head snapshot contents.payloads payloads bytes held.rest breaks.rest held.allowed breaks.allowed held.text breaks.text
    (inl held.closed) (inr breaks.broken) in
    not_both _ breaks.rest (subst IsClosed end.1 held.closed) breaks.broken

equal_stands : (file twin : ℕ) (one other : Contents) → file ≡ twin → one ≡ other → Stands file one ≡ Stands twin other
equal_stands file twin one other files contents = cc

equal_damaged : (file twin place other : ℕ) → file ≡ twin → place ≡ other → Damaged file place ≡ Damaged twin other
equal_damaged file twin place other files places = cc

pub one_current : (file : ℕ) (bytes : List ℕ) (head : Head) (snapshot : List ℕ) (one other : Meaning) → CurrentMeans file bytes head snapshot one
    → CurrentMeans file bytes head snapshot other → one ≡ other
one_current file bytes head snapshot Unopened other is also = absurd is
one_current file bytes head snapshot (Damaged a p) Unopened is also = absurd also
one_current file bytes head snapshot (Damaged a p) (Damaged b q) is also =
    let end = one_end head snapshot is.1.0 also.1.0 bytes is.1.1.rest also.1.1.rest is.1.1.allowed also.1.1.allowed is.1.1.text also.1.1.text
    (inr is.1.1.broken) (inr also.1.1.broken) in
    equal_damaged a b p q (is.0 ∙ sym also.0)
    (is.1.2 ∙ ap (λ (ps : List (List ℕ)). gate_of (contents_of head snapshot ps)) end.0 ∙ sym also.1.2)
one_current file bytes head snapshot (Damaged a p) (Stands b contents) is also =
    absurd (held_not_broken bytes head snapshot is.1.0 contents also.1 also.2 also.3 is.1.1)
one_current file bytes head snapshot (Stands a contents) Unopened is also = absurd also
one_current file bytes head snapshot (Stands a contents) (Damaged b q) is also =
    absurd (held_not_broken bytes head snapshot also.1.0 contents is.1 is.2 is.3 also.1.1)
one_current file bytes head snapshot (Stands a contents) (Stands b others) is also =
    let one = of_front contents head snapshot is.1 is.2 in
    let two = of_front others head snapshot also.1 also.2 in
    let held = subst (Holds bytes) one is.3 in
    let holds = subst (Holds bytes) two also.3 in
    let end = one_end head snapshot contents.payloads others.payloads bytes held.rest holds.rest held.allowed holds.allowed held.text holds.text
    (inl held.closed) (inl holds.closed) in
    equal_stands a b contents others (is.0 ∙ sym also.0) (one ∙ ap (contents_of head snapshot) end.0 ∙ sym two)

-- ---- both files

pub one_of_fronts : (files : Image) (first second : Front) (one other : Meaning) → FrontsMean files first second one → FrontsMean files first second other
    → one ≡ other
one_of_fronts files Bad second one other is also = is ∙ sym also
one_of_fronts files Shut Bad one other is also = is ∙ sym also
one_of_fronts files (Open head snapshot) Bad one other is also = is ∙ sym also
one_of_fronts files Shut Shut one other is also = is ∙ sym also
one_of_fronts files (Open head snapshot) Shut one other is also = one_current 0 (files 0) head snapshot one other is also
one_of_fronts files Shut (Open head snapshot) one other is also = one_current 1 (files 1) head snapshot one other is also
one_of_fronts files (Open head snapshot) (Open twin late) one other (inl is) (inl also) = one_current 1 (files 1) twin late one other is.1 also.1
one_of_fronts files (Open head snapshot) (Open twin late) one other (inl is) (inr also) = absurd (omega (arith, is.0, also.0))
one_of_fronts files (Open head snapshot) (Open twin late) one other (inr is) (inl also) = absurd (omega (arith, is.0, also.0))
one_of_fronts files (Open head snapshot) (Open twin late) one other (inr is) (inr also) = one_current 0 (files 0) head snapshot one other is.1 also.1

pub one_meaning : (files : Image) (one other : Meaning) → Means files one → Means files other → one ≡ other
one_meaning files one other is also =
    let first = one_beginning (files 0) also.first is.first also.begins is.begins in
    let second = one_beginning (files 1) also.second is.second also.also is.also in
    let P : Front → Type 0 = λ front. FrontsMean files front also.second other in
    let Q : Front → Type 0 = λ front. FrontsMean files is.first front other in
    one_of_fronts files is.first is.second one other is.is (subst Q second (subst P first also.is))
