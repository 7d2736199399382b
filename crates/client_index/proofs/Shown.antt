-- What the view is after an index was put or forgotten, and of what entries it consists.
use Rattle.std.proofs.Common.{◌≡◌, ◌≢◌, ℕ, zero, suc, Bool, true, false, cond, List, [], ◌∷◌, refl, sym, ap, ◌∙◌, subst, arith}
use Rattle.std.specs.Prelude.{Option, Some, None, ◌==◌, nat_eq, unwrap_or, Contains, ◌↔◌}
use Rattle.std.specs.List.{AllByRecursion}
use Rattle.std.specs.Option.{option_map, option_and_then}
use Rattle.std.specs.Cmp.{unsigned_ties}
use Rattle.std.specs.Cmp.Lexicographic.{slice_cmp, pointwise, nat_list_cmp_total, same_text}
use Rattle.std.specs.Ordering.{nat_cmp, eq_by_cmp}
use Rattle.std.proofs.lemmas.Bool.{cond-true, cond-false, eq-eqb, ne_eqb}
use Rattle.std.proofs.lemmas.Cmp.{tied_itself, nat_cmp_total}
use Rattle.std.proofs.lemmas.List.{get_or_default}
use Rattle.room_base.specs.declared.numbers.Ssid.{Ssid}
use Rattle.save_stream.specs.declared.entry.EntryKind.{EntryKind}
use Rattle.save_stream.specs.declared.entry.EntryKind.TheVariants as kinds
use Rattle.save_stream.specs.declared.entry.IndexEntry.{IndexEntry}
use Rattle.client_index.specs.declared.index.SetIndex.{SetIndex}
use Rattle.client_index.specs.declared.seen.Seen.{Seen}
use Rattle.save_stream.specs.Spelling.{path_of, PathsAscend}
use Rattle.client_index.specs.Sets.{AreOrdered, entries_of, entries_or_none, forget, number_of, put}
use Rattle.client_index.specs.View.{shown, seen_of, entry_of, first_of, deciding, chain_of, view_of, view}
use Rattle.client_index.proofs.Paths.{entry_at}
use Rattle.room_base.specs.Ordered.{find_by}
use Rattle.room_base.proofs.OrderedLaws.{found_has_key, found_put, found_removed, same_lists}
use Rattle.room_base.proofs.OrderedNumbers.{equal_numbers}

-- ---- the entries of a set

chosen : {X Y : Type 0} (f : X → Y) (test : Bool) (x y : Option X) → option_map f (cond test x y) ≡ cond test (option_map f x) (option_map f y)
chosen f true x y = refl
chosen f false x y = refl

pub entries_of-put : (sets : List SetIndex) (new : SetIndex) (ssid : Ssid) → entries_of (put sets new) ssid ≡ cond (new.ssid.0 == ssid.0) (Some new.entries) (entries_of sets ssid)
entries_of-put sets new ssid =
    ap (option_map (λ (s : SetIndex). s.entries)) (found_put nat_cmp_total number_of new ssid.0 sets)
    ∙ chosen (λ (s : SetIndex). s.entries) (eq_by_cmp nat_cmp new.ssid.0 ssid.0) (Some new) (find_by nat_cmp number_of ssid.0 sets)
    ∙ ap (λ (test : Bool). cond test (Some new.entries) (entries_of sets ssid)) (sym (unsigned_ties new.ssid.0 ssid.0))

pub entries_of-forget : (sets : List SetIndex) (ssid other : Ssid) → entries_of (forget sets ssid) other ≡ cond (ssid.0 == other.0) None (entries_of sets other)
entries_of-forget sets ssid other =
    ap (option_map (λ (s : SetIndex). s.entries)) (found_removed nat_cmp_total number_of ssid.0 other.0 sets)
    ∙ chosen (λ (s : SetIndex). s.entries) (eq_by_cmp nat_cmp ssid.0 other.0) None (find_by nat_cmp number_of other.0 sets)
    ∙ ap (λ (test : Bool). cond test None (entries_of sets other)) (sym (unsigned_ties ssid.0 other.0))

-- the index that is found has the number that was looked for
found-is : (number : ℕ) (sets : List SetIndex) → find_by nat_cmp number_of number sets ≡ option_map (λ (entries : List IndexEntry). record { ssid = record { 0 = number }; entries = entries }) (entries_of sets (record { 0 = number }))
found-is number sets = by (find_by nat_cmp number_of number sets) refl
  where
    by : (found : Option SetIndex) → find_by nat_cmp number_of number sets ≡ found
        → found ≡ option_map (λ (entries : List IndexEntry). record { ssid = record { 0 = number }; entries = entries }) (option_map (λ (s : SetIndex). s.entries) found)
    by None is = refl
    by (Some set) is =
        let same = equal_numbers set.ssid.0 number (found_has_key nat_cmp_total number_of number set sets is) in
        let numbered : ℕ → Option SetIndex = λ n. Some (record { ssid = record { 0 = n }; entries = set.entries }) in
        ap numbered same

-- indexes in which the same is found are equal
pub same-indexes : (sets others : List SetIndex) → AreOrdered sets → AreOrdered others → ((ssid : Ssid) → entries_of sets ssid ≡ entries_of others ssid) → sets ≡ others
same-indexes sets others one other same =
    same_lists nat_cmp_total number_of sets others one.numbers other.numbers
    (λ number. found-is number sets
    ∙ ap (option_map (λ (entries : List IndexEntry). record { ssid = record { 0 = number }; entries = entries })) (same (record { 0 = number }))
    ∙ sym (found-is number others))

-- ---- the view of a chain

same_chain : (sets others : List SetIndex) (chain : List Ssid) → AllByRecursion (λ ssid. entries_of sets ssid ≡ entries_of others ssid) chain → chain_of sets chain ≡ chain_of others chain
same_chain sets others [] each = refl
same_chain sets others (ssid ∷ chain) each =
    ap (λ o. record { ssid = ssid; entries = unwrap_or o [] } ∷ chain_of sets chain) each.0
    ∙ ap (λ rest. record { ssid = ssid; entries = unwrap_or (entries_of others ssid) [] } ∷ rest) (same_chain sets others chain each.1)

others_put : (sets : List SetIndex) (new : SetIndex) (chain : List Ssid) → AllByRecursion (λ ssid. ssid.0 ≢ new.ssid.0) chain → AllByRecursion (λ ssid. entries_of (put sets new) ssid ≡ entries_of sets ssid) chain
others_put sets new [] each = tt
others_put sets new (ssid ∷ chain) each =
    (entries_of-put sets new ssid ∙ cond-false (new.ssid.0 == ssid.0) (Some new.entries) (entries_of sets ssid) (ne_eqb new.ssid.0 ssid.0 (λ e. each.0 (sym e))), others_put sets new chain each.1)

others_forgotten : (sets : List SetIndex) (ssid : Ssid) (chain : List Ssid) → AllByRecursion (λ other. other.0 ≢ ssid.0) chain → AllByRecursion (λ other. entries_of (forget sets ssid) other ≡ entries_of sets other) chain
others_forgotten sets ssid [] each = tt
others_forgotten sets ssid (other ∷ chain) each =
    (entries_of-forget sets ssid other ∙ cond-false (ssid.0 == other.0) None (entries_of sets other) (ne_eqb ssid.0 other.0 (λ e. each.0 (sym e))), others_forgotten sets ssid chain each.1)

-- sets that have the same entries show the same
pub same-views : (sets others : List SetIndex) → ((ssid : Ssid) → entries_or_none sets ssid ≡ entries_or_none others ssid) → (chain : List Ssid) (path : List ℕ) → view sets chain path ≡ view others chain path
same-views sets others same chain path = ap (λ all. view_of all path) (chains chain)
  where
    chains : (chain : List Ssid) → chain_of sets chain ≡ chain_of others chain
    chains [] = refl
    chains (ssid ∷ chain) =
        ap (λ (entries : List IndexEntry). record { ssid = ssid; entries = entries } ∷ chain_of sets chain) (same ssid)
        ∙ ap (λ rest. record { ssid = ssid; entries = entries_or_none others ssid } ∷ rest) (chains chain)

pub view-put_others : (sets : List SetIndex) (new : SetIndex) (chain : List Ssid) (path : List ℕ) → AllByRecursion (λ ssid. ssid.0 ≢ new.ssid.0) chain → view (put sets new) chain path ≡ view sets chain path
view-put_others sets new chain path each = ap (λ all. view_of all path) (same_chain (put sets new) sets chain (others_put sets new chain each))

pub view-put_first : (sets : List SetIndex) (new : SetIndex) (chain : List Ssid) (path : List ℕ) → view (put sets new) (new.ssid ∷ chain) path ≡ view_of (new ∷ chain_of (put sets new) chain) path
view-put_first sets new chain path =
    ap (λ o. view_of (record { ssid = new.ssid; entries = unwrap_or o [] } ∷ chain_of (put sets new) chain) path)
    (entries_of-put sets new new.ssid ∙ cond-true (new.ssid.0 == new.ssid.0) (Some new.entries) (entries_of sets new.ssid) (eq-eqb new.ssid.0 new.ssid.0 refl))

pub view-forget_others : (sets : List SetIndex) (ssid : Ssid) (chain : List Ssid) (path : List ℕ) → AllByRecursion (λ other. other.0 ≢ ssid.0) chain → view (forget sets ssid) chain path ≡ view sets chain path
view-forget_others sets ssid chain path each = ap (λ all. view_of all path) (same_chain (forget sets ssid) sets chain (others_forgotten sets ssid chain each))

pub view-forget_first : (sets : List SetIndex) (ssid : Ssid) (chain : List Ssid) (path : List ℕ) → view (forget sets ssid) (ssid ∷ chain) path ≡ view (forget sets ssid) chain path
view-forget_first sets ssid chain path =
    ap (λ o. view_of (record { ssid = ssid; entries = unwrap_or o [] } ∷ chain_of (forget sets ssid) chain) path)
    (entries_of-forget sets ssid ssid ∙ cond-true (ssid.0 == ssid.0) None (entries_of sets ssid) (eq-eqb ssid.0 ssid.0 refl))

-- ---- the view of one set

pub one-shown : (sets : List SetIndex) (ssid : Ssid) (entries : List IndexEntry) (entry : IndexEntry) → entries_of sets ssid ≡ Some entries → PathsAscend entries → Contains entries entry
    → view sets (ssid ∷ []) entry.path ≡ seen_of ssid entry
one-shown sets ssid entries entry is ascend has =
    let at = has.0 in
    let here = has.1 in
    let place = (λ (d : IndexEntry). ap (λ (e : IndexEntry). slice_cmp nat_cmp e.path entry.path) (get_or_default entries at d entry here ∙ has.2) ∙ tied_itself nat_list_cmp_total entry.path) in
    let found = entry_at entries entry.path at entry ascend (here, place) (sym has.2) in
    ap (λ o. view_of (record { ssid = ssid; entries = unwrap_or o [] } ∷ []) entry.path) is
    ∙ ap (λ o. option_and_then (λ (first : Ssid × IndexEntry). seen_of first.0 first.1) (first_of ssid o None)) (sym found)

hides : (kind : EntryKind) (seen : Seen) → (shown kind seen ≡ None) ↔ (kind ≡ kinds.Gone)
hides kinds.File seen = (λ e. cc, λ e. cc)
hides kinds.Folder seen = (λ e. cc, λ e. cc)
hides kinds.Gone seen = (λ e. refl, λ e. refl)

pub one-hidden : (sets : List SetIndex) (ssid : Ssid) (entries : List IndexEntry) (entry : IndexEntry) → entries_of sets ssid ≡ Some entries → PathsAscend entries → Contains entries entry
    → (view sets (ssid ∷ []) entry.path ≡ None) ↔ (entry.kind ≡ kinds.Gone)
one-hidden sets ssid entries entry is ascend has =
    let shows = one-shown sets ssid entries entry is ascend has in
    let hidden = hides entry.kind (record { owner = ssid; kind = entry.kind; mtime = entry.mtime; size = entry.size; place = entry.place }) in
    (λ none. hidden.0 (sym shows ∙ none), λ gone. shows ∙ hidden.1 gone)

-- ---- the owner of what is seen

pub record IsFound (sets : List SetIndex) (chain : List Ssid) (path : List ℕ) (seen : Seen) : Type 0 where
  pub owner : Contains chain seen.owner
  pub entry : IndexEntry
  pub among : Contains (unwrap_or (entries_of sets seen.owner) []) entry
  pub at : entry.path ≡ path
  pub is : seen_of seen.owner entry ≡ Some seen

behind : {X : Type 0} (x y : X) (xs : List X) → Contains xs y → Contains (x ∷ xs) y
behind x y xs has = (suc has.0, omega (arith, has.1), has.2)

found-has : (entries : List IndexEntry) (path : List ℕ) (entry : IndexEntry) → entry_of entries path ≡ Some entry → Contains entries entry × (entry.path ≡ path)
found-has [] path entry is = cc
found-has (first ∷ entries) path entry is = by (pointwise nat_eq first.path path) refl is (λ e. found-has entries path entry e)
  where
    by : (test : Bool) → pointwise nat_eq first.path path ≡ test → cond test (Some first) (entry_of entries path) ≡ Some entry → (entry_of entries path ≡ Some entry → Contains entries entry × (entry.path ≡ path))
        → Contains (first ∷ entries) entry × (entry.path ≡ path)
    by true same here rest =
        let e : first ≡ entry = cc in
        ((zero, omega arith, e), ap path_of (sym e) ∙ same_text first.path path (sym same))
    by false other there rest = let deeper = rest there in (behind first entry entries deeper.0, deeper.1)

owner-is : (kind : EntryKind) (one seen : Seen) → shown kind one ≡ Some seen → one ≡ seen
owner-is kinds.File one seen is = cc
owner-is kinds.Folder one seen is = cc
owner-is kinds.Gone one seen is = cc

pub seen-found : (sets : List SetIndex) (chain : List Ssid) (path : List ℕ) (seen : Seen) → view sets chain path ≡ Some seen → IsFound sets chain path seen
seen-found sets [] path seen is = cc
seen-found sets (ssid ∷ chain) path seen is = by (entry_of (unwrap_or (entries_of sets ssid) []) path) refl is (λ e. seen-found sets chain path seen e)
  where
    by : (o : Option IndexEntry) → entry_of (unwrap_or (entries_of sets ssid) []) path ≡ o
        → option_and_then (λ (first : Ssid × IndexEntry). seen_of first.0 first.1) (first_of ssid o (deciding (chain_of sets chain) path)) ≡ Some seen
        → (view sets chain path ≡ Some seen → IsFound sets chain path seen) → IsFound sets (ssid ∷ chain) path seen
    by None none there rest =
        let deeper = rest there in
        record { owner = behind ssid seen.owner chain deeper.owner; entry = deeper.entry; among = deeper.among; at = deeper.at; is = deeper.is }
    by (Some entry) found here rest =
        let has = found-has (unwrap_or (entries_of sets ssid) []) path entry found in
        let owned : ssid ≡ seen.owner = ap (λ (s : Seen). s.owner) (owner-is entry.kind (record { owner = ssid; kind = entry.kind; mtime = entry.mtime; size = entry.size; place = entry.place }) seen here) in
        record {
          owner = (zero, omega arith, owned);
          entry = entry;
          among = subst (λ s. Contains (unwrap_or (entries_of sets s) []) entry) owned has.0;
          at = has.1;
          is = subst (λ s. seen_of s entry ≡ Some seen) owned here;
        }
