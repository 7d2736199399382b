-- Entries that are read one behind the other.
use Rattle.std.proofs.Common.{◌≡◌, ℕ, ◌+◌, ◌-◌, ◌≤◌, List, [], ◌∷◌, ◌++◌, length, refl, sym, ap, subst, ◌∙◌, append_assoc, arith}
use Rattle.std.proofs.lemmas.List.{map-append, length-append, nil_from_length}
use Rattle.cat_journal.specs.Layout.{IsEntry, entry_text}
use Rattle.cat_journal.specs.Contents.{number_after, last_of, entries_text, AreEntries}
use Rattle.cat_journal.specs.Entries.{entry_at, entries_of, with_entry, payloads_of, IsCounted, EndsSo, FindsEntries}
use Rattle.cat_journal.specs.Reads.{PiecesView, ahead, IsOf, FindsEntry}
use Rattle.cat_journal.specs.declared.entries.EntryRead.{EntryRead}
use Rattle.cat_journal.specs.declared.entry_list.Entry.{Entry}
use Rattle.cat_journal.specs.declared.entry_list.EntryList.{EntryList}
use Rattle.cat_journal.proofs.Spelling.{entries_more, last_more, length-entry_text}
use Rattle.cat_journal.proofs.Adding.{entries_are}

-- the entries so far, and what is ahead
pub record EntriesSoFar (form number place : ℕ) (before after : List ℕ) (list : EntryList) : Type 0 where
  pub payloads : List (List ℕ)
  pub are : AreEntries form number payloads
  pub text : before ≡ entries_text form number payloads ++ after
  pub listed : list.entries ≡ entries_of form number place payloads
  pub final : list.last ≡ last_of form number payloads
  pub placed : list.gate ≡ place + length (entries_text form number payloads)

pub no_entries : (form number place : ℕ) (before : List ℕ) (list : EntryList) → list.entries ≡ [] → list.last ≡ number → list.gate ≡ place
    → EntriesSoFar form number place before before list
no_entries form number place before list none last gate = record {
  payloads = [];
  are = tt;
  text = refl;
  listed = none;
  final = last;
  placed = omega (arith, gate);
}

-- one entry more at the end
listed_more : (form number place : ℕ) (payloads : List (List ℕ)) (payload : List ℕ)
    → entries_of form number place (payloads ++ payload ∷ [])
    ≡ entries_of form number place payloads
    ++ entry_at (last_of form number payloads + 1) (place + length (entries_text form number payloads)) payload ∷ []
listed_more form number place [] payload =
    let here : place ≡ place + 0 = omega arith in
    ap (λ (n : ℕ). entry_at (number + 1) n payload ∷ []) here
listed_more form number place (first ∷ payloads) payload =
    let after = number_after form number first in
    let next = place + (45 + length first) in
    let text = entries_text form after payloads in
    let behind : next + length text ≡ place + length ((0x45 ∷ entry_text (number + 1) first) ++ text) =
    omega (arith, length-append (0x45 ∷ entry_text (number + 1) first) text, length-entry_text (number + 1) first) in
    ap (λ (es : List Entry). entry_at (number + 1) place first ∷ es) (listed_more form after next payloads payload)
    ∙ ap (λ (n : ℕ). entry_at (number + 1) place first ∷ (entries_of form after next payloads ++ entry_at (last_of form after payloads + 1) n payload ∷ [])) behind

pub one_more : (form number place : ℕ) (before after late payload : List ℕ) (list next : EntryList) → EntriesSoFar form number place before after list
    → IsEntry (list.last + 1) payload → after ≡ (0x45 ∷ entry_text (list.last + 1) payload) ++ late → next ≡ with_entry form list payload
    → EntriesSoFar form number place before late next
one_more form number place before after late payload list next so_far is goes added =
    let payloads = so_far.payloads in
    let text = entries_text form number payloads in
    let last = last_of form number payloads in
    let this = 0x45 ∷ entry_text (last + 1) payload in
    let Entry_at : ℕ → Type 0 = λ n. IsEntry (n + 1) payload in
    let goes_on : after ≡ this ++ late = goes ∙ ap (λ (n : ℕ). (0x45 ∷ entry_text (n + 1) payload) ++ late) so_far.final in
    record {
      payloads = payloads ++ payload ∷ [];
      are = entries_are form number payloads payload so_far.are (subst Entry_at so_far.final is);
      text = so_far.text ∙ ap (λ (t : List ℕ). text ++ t) goes_on ∙ sym (append_assoc text this late)
          ∙ ap (λ (t : List ℕ). t ++ late) (sym (entries_more form number payloads payload));
      listed = ap (λ (l : EntryList). l.entries) added ∙ ap (λ (es : List Entry). es ++ entry_at (list.last + 1) list.gate payload ∷ []) so_far.listed
          ∙ ap (λ (n : ℕ). entries_of form number place payloads ++ entry_at (n + 1) list.gate payload ∷ []) so_far.final
          ∙ ap (λ (n : ℕ). entries_of form number place payloads ++ entry_at (last + 1) n payload ∷ []) so_far.placed
          ∙ sym (listed_more form number place payloads payload);
      final = ap (λ (l : EntryList). l.last) added ∙ ap (λ (n : ℕ). number_after form n payload) so_far.final ∙ sym (last_more form number payloads payload);
      placed = ap (λ (l : EntryList). l.gate) added
          ∙ omega (arith, so_far.placed, ap length (entries_more form number payloads payload), length-append text this, length-entry_text (last + 1) payload);
    }

-- where they end
pub all_found : (form number place : ℕ) (before after : List ℕ) (list done : EntryList) → EntriesSoFar form number place before after list
    → done.entries ≡ list.entries → done.last ≡ list.last → done.gate ≡ list.gate → EndsSo done.closed (list.last + 1) after
    → FindsEntries form number place before done
all_found form number place before after list done so_far entries last gate ends = record {
  payloads = so_far.payloads;
  rest = after;
  are = so_far.are;
  text = so_far.text;
  listed = entries ∙ so_far.listed;
  final = last ∙ so_far.final;
  placed = gate ∙ so_far.placed;
  ends = (let P : ℕ → Type 0 = λ n. EndsSo done.closed (n + 1) after in subst P (sym last) ends);
}

-- the file ends at a gate
pub none_ahead : (form number place end : ℕ) (before after : List ℕ) (list : EntryList) → EntriesSoFar form number place before after list
    → end ≡ place + length before → end ≤ list.gate → after ≡ []
none_ahead form number place end before after list so_far ends past =
    nil_from_length after (omega (arith, ends, past, so_far.placed, ap length so_far.text, length-append (entries_text form number so_far.payloads) after))

-- so many bytes are left from the gate on
pub room_ahead : (form number place end : ℕ) (before after : List ℕ) (list : EntryList) → EntriesSoFar form number place before after list
    → end ≡ place + length before → end - list.gate ≡ length after
room_ahead form number place end before after list so_far ends =
    omega (arith, ends, so_far.placed, ap length so_far.text, length-append (entries_text form number so_far.payloads) after)

-- what was found at the gate, in the same bytes as they read there
pub finds_at : (bytes reads : List ℕ) (before after : PiecesView) (number room : ℕ) (found : EntryRead) → reads ≡ bytes → IsOf before bytes
    → room ≡ length (ahead before bytes)
    → (IsOf before reads → room ≡ length (ahead before reads) → FindsEntry number (ahead before reads) (ahead after reads) found)
    → FindsEntry number (ahead before bytes) (ahead after bytes) found
finds_at bytes reads before after number room found same is left finds =
    subst (λ (t : List ℕ). FindsEntry number (ahead before t) (ahead after t) found) same
    (finds (is ∙ ap length (sym same)) (left ∙ ap (λ (t : List ℕ). length (ahead before t)) (sym same)))

-- the number of the last change, behind one entry more
pub counted_more : (form number : ℕ) (list next : EntryList) (payload : List ℕ) → IsCounted form number list → next ≡ with_entry form list payload
    → IsCounted form number next
counted_more form number list next payload counted added =
    let entries = list.entries in
    let this = entry_at (list.last + 1) list.gate payload in
    let listed : payloads_of next.entries ≡ payloads_of entries ++ payload ∷ [] =
    ap (λ (l : EntryList). payloads_of l.entries) added ∙ map-append (λ (entry : Entry). entry.bytes) entries (this ∷ []) in
    ap (λ (l : EntryList). l.last) added ∙ ap (λ (n : ℕ). number_after form n payload) counted
    ∙ sym (last_more form number (payloads_of entries) payload) ∙ ap (last_of form number) (sym listed)
