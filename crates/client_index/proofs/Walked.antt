-- How far a walk through the sets of a chain has come, and what its answer has by then.
use Rattle.std.proofs.Common.{◌≡◌, ℕ, ◌+◌, ◌<◌, ◌≤◌, false, List, [], ◌∷◌, ◌++◌, length, get_or, take, refl, sym, ap, ◌∙◌, subst, inl, inr, arith}
use Rattle.std.specs.Prelude.{Option, Some, None, unwrap_or, Contains}
use Rattle.std.specs.List.{AllByRecursion}
use Rattle.std.specs.Option.{option_and_then}
use Rattle.std.specs.Cmp.Lexicographic.{slice_cmp, nat_list_cmp_total, texts_ties, same_text}
use Rattle.std.specs.Ordering.{nat_cmp, is_eq, is_gt}
use Rattle.std.specs.declared.cmp.Ordering.{Ordering}
use Rattle.std.specs.declared.cmp.Ordering.TheVariants.{Less, Equal, Greater}
use Rattle.std.proofs.lemmas.Bool.{true≢false}
use Rattle.std.proofs.lemmas.List.{append-nil, length-append, take_more, map-append}
use Rattle.std.proofs.lemmas.List.Elements.{Contains-append_left, Contains-push}
use Rattle.room_base.specs.declared.numbers.Ssid.{Ssid}
use Rattle.save_stream.specs.declared.entry.IndexEntry.{IndexEntry}
use Rattle.save_stream.specs.Spelling.{IsBelow}
use Rattle.client_index.specs.declared.index.SetIndex.{SetIndex}
use Rattle.client_index.specs.declared.seen.Seen.{Seen}
use Rattle.client_index.specs.declared.walk.Rest.{Rest}
use Rattle.save_stream.specs.Spelling.{path_of, PathsAscend, PathsAscendFrom}
use Rattle.client_index.specs.Sets.{entries_of}
use Rattle.client_index.specs.View.{seen_of, entry_of, first_of, deciding, chain_of, view_of, SeenAscend, AreFirstSeen}
use Rattle.client_index.specs.Walk.{IsUpTo, EachAscends, EachAscendsFrom, DecideAlike, AreAbove, IsLeast, passed, added, rest_of, rests_of}
use Rattle.room_base.proofs.OrderedLists.{upto_less, upto_or_less, upto_itself, ascend_alone}
use Rattle.client_index.proofs.Deciding.{either, deciding-append, none_decides, none_decides_below, none_of_empty, each-push, each-weaker}
use Rattle.client_index.proofs.Passing.{deciding-passed, passed_ascends}

-- ---- where a walk begins

chain-more : (sets : List SetIndex) (chain : List Ssid) (i : ℕ) (d : Ssid) → i < length chain
    → chain_of sets (take (i + 1) chain) ≡ chain_of sets (take i chain) ++ record { ssid = get_or chain i d; entries = unwrap_or (entries_of sets (get_or chain i d)) [] } ∷ []
chain-more sets chain i d within =
    ap (chain_of sets) (take_more chain i d within)
    ∙ map-append (λ ssid. record { ssid = ssid; entries = unwrap_or (entries_of sets ssid) [] }) (take i chain) (get_or chain i d ∷ [])

either-none : (o : Option (Ssid × IndexEntry)) → either o None ≡ o
either-none None = refl
either-none (Some one) = refl

-- a set more, of which the entries above a path are walked
alike-more : (after : List ℕ) (all left : List SetIndex) (owner : Ssid) (entries above : List IndexEntry) → DecideAlike after all left → AreAbove after entries above
    → DecideAlike after (all ++ record { ssid = owner; entries = entries } ∷ []) (left ++ record { ssid = owner; entries = above } ∷ [])
alike-more after all left owner entries above same are path below =
    deciding-append all (record { ssid = owner; entries = entries } ∷ []) path
    ∙ ap (λ o. either o (first_of owner (entry_of entries path) None)) (same path below)
    ∙ ap (λ o. either (deciding left path) (first_of owner o None)) (sym (are.same path below))
    ∙ sym (deciding-append left (record { ssid = owner; entries = above } ∷ []) path)

-- a set more that has no index
alike-without : (after : List ℕ) (all left : List SetIndex) (owner : Ssid) → DecideAlike after all left → DecideAlike after (all ++ record { ssid = owner; entries = [] } ∷ []) left
alike-without after all left owner same path below =
    deciding-append all (record { ssid = owner; entries = [] } ∷ []) path ∙ either-none (deciding all path) ∙ same path below

-- what is walked of the sets of a chain that were seen
pub record Begins (after : List ℕ) (all left : List SetIndex) : Type 0 where
  pub ascend : EachAscendsFrom after left
  pub same : DecideAlike after all left

pub begins_with : (after : List ℕ) (sets : List SetIndex) (chain : List Ssid) (i : ℕ) (d : Ssid) (left : List SetIndex) (entries above : List IndexEntry) → i < length chain
    → Some entries ≡ entries_of sets (get_or chain i d) → AreAbove after entries above → Begins after (chain_of sets (take i chain)) left
    → Begins after (chain_of sets (take (i + 1) chain)) (left ++ record { ssid = get_or chain i d; entries = above } ∷ [])
begins_with after sets chain i d left entries above within has are begins =
    let more = chain-more sets chain i d within ∙ ap (λ o. chain_of sets (take i chain) ++ record { ssid = get_or chain i d; entries = unwrap_or o [] } ∷ []) (sym has) in
    record {
      ascend = each-push (λ set. PathsAscendFrom after set.entries) left (record { ssid = get_or chain i d; entries = above }) begins.ascend are.ascend;
      same = λ path below. ap (λ all. deciding all path) more ∙ alike-more after (chain_of sets (take i chain)) left (get_or chain i d) entries above begins.same are path below;
    }

pub begins_without : (after : List ℕ) (sets : List SetIndex) (chain : List Ssid) (i : ℕ) (d : Ssid) (left : List SetIndex) → i < length chain
    → None ≡ entries_of sets (get_or chain i d) → Begins after (chain_of sets (take i chain)) left → Begins after (chain_of sets (take (i + 1) chain)) left
begins_without after sets chain i d left within none begins =
    let more = chain-more sets chain i d within ∙ ap (λ o. chain_of sets (take i chain) ++ record { ssid = get_or chain i d; entries = unwrap_or o [] } ∷ []) (sym none) in
    record {
      ascend = begins.ascend;
      same = λ path below. ap (λ all. deciding all path) more ∙ alike-without after (chain_of sets (take i chain)) left (get_or chain i d) begins.same path below;
    }

pub rests-push : (old new : List Rest) (rest : Rest) (set : SetIndex) → new ≡ old ++ rest ∷ [] → rest_of rest ≡ set → rests_of new ≡ rests_of old ++ set ∷ []
rests-push old new rest set is shown = ap rests_of is ∙ map-append rest_of old (rest ∷ []) ∙ ap (λ one. rests_of old ++ one ∷ []) shown

-- ---- how far it has come

-- Up to a path the answer has what the sets show, and above it the sets that are left decide as all do.
pub record Walked (all left : List SetIndex) (after : List ℕ) (answer : List (List ℕ × Seen)) : Type 0 where
  pub low : List ℕ
  pub reached : IsUpTo after low
  pub ascend : EachAscendsFrom low left
  pub same : DecideAlike low all left
  pub order : SeenAscend after answer
  pub shown : AllByRecursion (λ one. view_of all one.0 ≡ Some one.1) answer
  pub upto : AllByRecursion (λ one. IsUpTo one.0 low) answer
  pub found : (path : List ℕ) (seen : Seen) → IsBelow after path → IsUpTo path low → view_of all path ≡ Some seen → Contains answer (path, seen)

not_both : {P : Type 0} (one other : List ℕ) → IsBelow one other → IsUpTo other one → P
not_both one other below upto = absurd (true≢false (sym (ap is_gt (nat_list_cmp_total.antisymm other one ∙ ap turned below)) ∙ upto))
  where
    turned : Ordering → Ordering
    turned Less = Greater
    turned Equal = Equal
    turned Greater = Less

pub walk_begins : (all left : List SetIndex) (after : List ℕ) → EachAscendsFrom after left → DecideAlike after all left → Walked all left after []
walk_begins all left after ascend same = record {
  low = after;
  reached = upto_itself nat_list_cmp_total after;
  ascend = ascend;
  same = same;
  order = tt;
  shown = tt;
  upto = tt;
  found = λ path seen below upto is. not_both after path below upto;
}

pub each-alone : (low : List ℕ) (left : List SetIndex) → EachAscendsFrom low left → EachAscends left
each-alone low left each = each-weaker (λ (set : SetIndex). PathsAscendFrom low set.entries) (λ set. PathsAscend set.entries) (λ set ascend. ascend_alone nat_list_cmp_total path_of low set.entries ascend) left each

nothing_is : {A P : Type 0} (o : Option A) (x : A) → o ≡ None → o ≡ Some x → P
nothing_is None x none some = cc
nothing_is (Some y) x none some = cc

seen-push : (from path : List ℕ) (seen : Seen) (answer : List (List ℕ × Seen)) → IsBelow from path → AllByRecursion (λ one. IsBelow one.0 path) answer → SeenAscend from answer
    → SeenAscend from (answer ++ (path, seen) ∷ [])
seen-push from path seen [] below each order = (below, tt)
seen-push from path seen (one ∷ others) below each order = (order.0, seen-push one.0 path seen others each.0 each.1 order.1)

seen-added : (from path : List ℕ) (o : Option Seen) (answer : List (List ℕ × Seen)) → IsBelow from path → AllByRecursion (λ one. IsBelow one.0 path) answer → SeenAscend from answer
    → SeenAscend from (answer ++ added path o)
seen-added from path None answer below each order = rw (append-nil answer) order
seen-added from path (Some seen) answer below each order = seen-push from path seen answer below each order

each-added : (P : List ℕ × Seen → Type 0) (path : List ℕ) (o : Option Seen) (answer : List (List ℕ × Seen)) → AllByRecursion P answer → ((seen : Seen) → o ≡ Some seen → P (path, seen))
    → AllByRecursion P (answer ++ added path o)
each-added P path None answer each one = rw (append-nil answer) each
each-added P path (Some seen) answer each one = each-push P answer (path, seen) each (one seen refl)

contains-added : (path : List ℕ) (o : Option Seen) (seen : Seen) (answer : List (List ℕ × Seen)) → o ≡ Some seen → Contains (answer ++ added path o) (path, seen)
contains-added path None seen answer is = cc
contains-added path (Some other) seen answer is = subst (λ o. Contains (answer ++ added path o) (path, seen)) (sym is) (Contains-push answer (path, seen))

pub length-added : (path : List ℕ) (o : Option Seen) (answer : List (List ℕ × Seen)) → length (answer ++ added path o) ≤ length answer + 1
length-added path None answer = omega (arith, length-append answer (added path None))
length-added path (Some seen) answer = omega (arith, length-append answer (added path (Some seen)))

same_path : (one other : List ℕ) → slice_cmp nat_cmp one other ≡ Equal → one ≡ other
same_path one other same = same_text one other (sym (texts_ties one other ∙ ap is_eq same))

module _ (all left : List SetIndex) (after : List ℕ) (answer : List (List ℕ × Seen)) (walked : Walked all left after answer) (owner : Ssid) (entry : IndexEntry) (least : IsLeast left (Some (owner, entry))) where
  -- the least path stands above all that was passed
  is_above : IsBelow walked.low entry.path
  is_above = elim (upto_or_less nat_list_cmp_total entry.path walked.low) [
    | inl upto ↦ nothing_is (deciding left entry.path) (owner, entry) (none_decides walked.low entry.path left upto walked.ascend) least.0
    | inr above ↦ above
  ]

  shows : view_of all entry.path ≡ seen_of owner entry
  shows = ap (option_and_then (λ first. seen_of first.0 first.1)) (walked.same entry.path is_above ∙ least.0)

  -- what is shown up to the least path, above what was passed, is shown at it
  found_here : (path : List ℕ) (seen : Seen) (order : Ordering) → slice_cmp nat_cmp path entry.path ≡ order → is_gt order ≡ false → IsBelow walked.low path → view_of all path ≡ Some seen
      → Contains (answer ++ added entry.path (seen_of owner entry)) (path, seen)
  found_here path seen Less below low above is =
      let none = none_decides_below entry.path path left below (each-alone walked.low left walked.ascend) least.1 in
      nothing_is (view_of all path) seen (ap (option_and_then (λ first. seen_of first.0 first.1)) (walked.same path above ∙ none)) is
  found_here path seen Equal same low above is =
      let here = same_path path entry.path same in
      let seen_here : seen_of owner entry ≡ Some seen = sym shows ∙ ap (view_of all) (sym here) ∙ is in
      subst (λ p. Contains (answer ++ added entry.path (seen_of owner entry)) (p, seen)) (sym here) (contains-added entry.path (seen_of owner entry) seen answer seen_here)
  found_here path seen Greater same low above is = absurd (true≢false low)

  found_after : (path : List ℕ) (seen : Seen) → IsBelow after path → IsUpTo path entry.path → view_of all path ≡ Some seen → Contains (answer ++ added entry.path (seen_of owner entry)) (path, seen)
  found_after path seen below upto is = elim (upto_or_less nat_list_cmp_total path walked.low) [
    | inl passed ↦ Contains-append_left answer (added entry.path (seen_of owner entry)) (path, seen) (walked.found path seen below passed is)
    | inr above ↦ found_here path seen (slice_cmp nat_cmp path entry.path) refl upto above is
  ]

  -- the walk passes the least path
  pub walk_on : Walked all (passed entry.path left) after (answer ++ added entry.path (seen_of owner entry))
  walk_on =
      let each = each-alone walked.low left walked.ascend in
      let below_it = each-weaker (λ (one : List ℕ × Seen). IsUpTo one.0 walked.low) (λ one. IsBelow one.0 entry.path) (λ one upto. upto_less nat_list_cmp_total one.0 walked.low entry.path upto is_above) answer walked.upto in
      let reached : IsBelow after entry.path = upto_less nat_list_cmp_total after walked.low entry.path walked.reached is_above in
      record {
        low = entry.path;
        reached = ap is_gt reached;
        ascend = passed_ascends entry.path left each least.1;
        same = λ path below. walked.same path (nat_list_cmp_total.trans walked.low entry.path path is_above below) ∙ sym (deciding-passed entry.path path left below);
        order = seen-added after entry.path (seen_of owner entry) answer reached below_it walked.order;
        shown = each-added (λ one. view_of all one.0 ≡ Some one.1) entry.path (seen_of owner entry) answer walked.shown (λ seen is. shows ∙ is);
        upto = each-added (λ one. IsUpTo one.0 entry.path) entry.path (seen_of owner entry) answer
            (each-weaker (λ (one : List ℕ × Seen). IsBelow one.0 entry.path) (λ one. IsUpTo one.0 entry.path) (λ one below. ap is_gt below) answer below_it)
            (λ seen is. upto_itself nat_list_cmp_total entry.path);
        found = found_after;
      }

-- ---- where it ends

-- with as many as it may have
pub walk_is_full : (all left : List SetIndex) (after : List ℕ) (most : ℕ) (answer : List (List ℕ × Seen)) → Walked all left after answer → length answer ≤ most → most ≤ length answer → AreFirstSeen all after most answer
walk_is_full all left after most answer walked count full = record {
  ascend = walked.order;
  shown = walked.shown;
  count = count;
  complete = λ path seen below is. elim (upto_or_less nat_list_cmp_total path walked.low) [
    | inl passed ↦ inl (walked.found path seen below passed is)
    | inr above ↦ inr (
      omega arith,
      each-weaker (λ (one : List ℕ × Seen). IsUpTo one.0 walked.low) (λ one. IsBelow one.0 path) (λ one upto. upto_less nat_list_cmp_total one.0 walked.low path upto above) answer walked.upto,
    )
  ];
}

-- with nothing left
pub walk_is_over : (all left : List SetIndex) (after : List ℕ) (most : ℕ) (answer : List (List ℕ × Seen)) → Walked all left after answer → length answer ≤ most → IsLeast left None → AreFirstSeen all after most answer
walk_is_over all left after most answer walked count none = record {
  ascend = walked.order;
  shown = walked.shown;
  count = count;
  complete = λ path seen below is. elim (upto_or_less nat_list_cmp_total path walked.low) [
    | inl passed ↦ inl (walked.found path seen below passed is)
    | inr above ↦ nothing_is (view_of all path) seen (ap (option_and_then (λ first. seen_of first.0 first.1)) (walked.same path above ∙ none_of_empty path left none)) is
  ];
}
