-- Which set decides on a path.
use Rattle.std.proofs.Common.{◌≡◌, ℕ, Bool, true, false, cond, List, [], ◌∷◌, ◌++◌, refl, ap, ◌∙◌}
use Rattle.std.specs.Prelude.{Option, Some, None, nat_eq}
use Rattle.std.specs.List.{AllByRecursion}
use Rattle.std.specs.Cmp.Lexicographic.{slice_cmp, pointwise, nat_list_cmp_total, texts_ties}
use Rattle.std.specs.Ordering.{nat_cmp, is_eq, is_gt}
use Rattle.std.proofs.lemmas.Bool.{cond-true, cond-false}
use Rattle.std.proofs.lemmas.Cmp.{tied_itself, upto}
use Rattle.room_base.specs.declared.numbers.Ssid.{Ssid}
use Rattle.save_stream.specs.declared.entry.IndexEntry.{IndexEntry}
use Rattle.save_stream.specs.Spelling.{IsBelow}
use Rattle.client_index.specs.declared.index.SetIndex.{SetIndex}
use Rattle.save_stream.specs.Spelling.{PathsAscend, PathsAscendFrom}
use Rattle.client_index.specs.View.{entry_of, first_of, deciding}
use Rattle.client_index.specs.Walk.{IsUpTo, EachAscends, EachAscendsFrom, BeginsFrom, IsLeast, lesser_of, lesser}
use Rattle.room_base.proofs.OrderedLists.{upto_less, less_upto, less_back, upto_itself, greater_is}

-- the first of two decisions
abbrev pub either : Option (Ssid × IndexEntry) → Option (Ssid × IndexEntry) → Option (Ssid × IndexEntry)
either None other = other
either (Some one) other = Some one

either-first : (owner : Ssid) (o : Option IndexEntry) (a b : Option (Ssid × IndexEntry)) → first_of owner o (either a b) ≡ either (first_of owner o a) b
either-first owner None a b = refl
either-first owner (Some entry) a b = refl

-- the sets before decide before those behind
pub deciding-append : (sets others : List SetIndex) (path : List ℕ) → deciding (sets ++ others) path ≡ either (deciding sets path) (deciding others path)
deciding-append [] others path = refl
deciding-append (set ∷ sets) others path =
    ap (λ rest. first_of set.ssid (entry_of set.entries path) rest) (deciding-append sets others path)
    ∙ either-first set.ssid (entry_of set.entries path) (deciding sets path) (deciding others path)

-- ---- paths that no set has

not_at : (entry : IndexEntry) (entries : List IndexEntry) (path : List ℕ) → IsBelow path entry.path → entry_of (entry ∷ entries) path ≡ entry_of entries path
not_at entry entries path below =
    cond-false (pointwise nat_eq entry.path path) (Some entry) (entry_of entries path) (texts_ties entry.path path ∙ ap is_eq (less_back nat_list_cmp_total path entry.path below))

pub none_from : (low path : List ℕ) (entries : List IndexEntry) → IsUpTo path low → PathsAscendFrom low entries → entry_of entries path ≡ None
none_from low path [] upto ascend = refl
none_from low path (entry ∷ entries) upto ascend =
    let below : IsBelow path entry.path = upto_less nat_list_cmp_total path low entry.path upto ascend.0 in
    not_at entry entries path below ∙ none_from entry.path path entries (ap is_gt below) ascend.1

pub none_below : (first path : List ℕ) (entries : List IndexEntry) → IsBelow path first → PathsAscend entries → BeginsFrom first entries → entry_of entries path ≡ None
none_below first path [] below ascend begins = refl
none_below first path (entry ∷ entries) below ascend begins =
    let under : IsBelow path entry.path = less_upto nat_list_cmp_total path first entry.path below begins in
    not_at entry entries path under ∙ none_from entry.path path entries (ap is_gt under) ascend

without : (set : SetIndex) (sets : List SetIndex) (path : List ℕ) → entry_of set.entries path ≡ None → deciding sets path ≡ None → deciding (set ∷ sets) path ≡ None
without set sets path none rest = ap (λ o. first_of set.ssid o (deciding sets path)) none ∙ rest

-- no set decides on a path that isn't above what they ascend from
pub none_decides : (low path : List ℕ) (sets : List SetIndex) → IsUpTo path low → EachAscendsFrom low sets → deciding sets path ≡ None
none_decides low path [] upto each = refl
none_decides low path (set ∷ sets) upto each = without set sets path (none_from low path set.entries upto each.0) (none_decides low path sets upto each.1)

-- nor on one that is below what they begin from
pub none_decides_below : (first path : List ℕ) (sets : List SetIndex) → IsBelow path first → EachAscends sets → AllByRecursion (λ set. BeginsFrom first set.entries) sets → deciding sets path ≡ None
none_decides_below first path [] below each begin = refl
none_decides_below first path (set ∷ sets) below each begin =
    without set sets path (none_below first path set.entries below each.0 begin.0) (none_decides_below first path sets below each.1 begin.1)

pub none_of_empty : (path : List ℕ) (sets : List SetIndex) → AllByRecursion (λ set. set.entries ≡ []) sets → deciding sets path ≡ None
none_of_empty path [] empty = refl
none_of_empty path (set ∷ sets) empty = without set sets path (ap (λ entries. entry_of entries path) empty.0) (none_of_empty path sets empty.1)

-- ---- the least path

-- an entry decides on its own path in its set
at_itself : (owner : Ssid) (entry : IndexEntry) (entries : List IndexEntry) → deciding (record { ssid = owner; entries = entry ∷ entries } ∷ []) entry.path ≡ Some (owner, entry)
at_itself owner entry entries =
    ap (λ o. first_of owner o None) (cond-true (pointwise nat_eq entry.path entry.path) (Some entry) (entry_of entries entry.path) (texts_ties entry.path entry.path ∙ ap is_eq (tied_itself nat_list_cmp_total entry.path)))

pub each-push : {X : Type 0} (P : X → Type 0) (xs : List X) (x : X) → AllByRecursion P xs → P x → AllByRecursion P (xs ++ x ∷ [])
each-push P [] x each one = (one, tt)
each-push P (y ∷ xs) x each one = (each.0, each-push P xs x each.1 one)

pub each-weaker : {X : Type 0} (P Q : X → Type 0) → ((x : X) → P x → Q x) → (xs : List X) → AllByRecursion P xs → AllByRecursion Q xs
each-weaker P Q weaker [] each = tt
each-weaker P Q weaker (x ∷ xs) each = (weaker x each.0, each-weaker P Q weaker xs each.1)

begins_lower : (one other : List ℕ) (entries : List IndexEntry) → IsUpTo one other → BeginsFrom other entries → BeginsFrom one entries
begins_lower one other [] lower begins = tt
begins_lower one other (entry ∷ entries) lower begins = upto nat_list_cmp_total one other entry.path lower begins

begins_empty : (path : List ℕ) (entries : List IndexEntry) → entries ≡ [] → BeginsFrom path entries
begins_empty path [] empty = tt
begins_empty path (entry ∷ entries) empty = cc

decides_at_last : (sets : List SetIndex) (owner : Ssid) (entry : IndexEntry) (entries : List IndexEntry) → deciding sets entry.path ≡ None → deciding (sets ++ record { ssid = owner; entries = entry ∷ entries } ∷ []) entry.path ≡ Some (owner, entry)
decides_at_last sets owner entry entries none =
    deciding-append sets (record { ssid = owner; entries = entry ∷ entries } ∷ []) entry.path
    ∙ ap (λ o. either o (deciding (record { ssid = owner; entries = entry ∷ entries } ∷ []) entry.path)) none
    ∙ at_itself owner entry entries

stays_decided : (sets others : List SetIndex) (path : List ℕ) (one : Ssid × IndexEntry) → deciding sets path ≡ Some one → deciding (sets ++ others) path ≡ Some one
stays_decided sets others path one is = deciding-append sets others path ∙ ap (λ o. either o (deciding others path)) is

least_of : (sets : List SetIndex) (owner : Ssid) (entry : IndexEntry) (entries : List IndexEntry) → EachAscends sets → (least : Option (Ssid × IndexEntry)) → IsLeast sets least
    → IsLeast (sets ++ record { ssid = owner; entries = entry ∷ entries } ∷ []) (lesser_of least (owner, entry))
least_of sets owner entry entries each None is = (
  decides_at_last sets owner entry entries (none_of_empty entry.path sets is),
  each-push (λ set. BeginsFrom entry.path set.entries) sets _
      (each-weaker (λ (set : SetIndex). set.entries ≡ []) (λ set. BeginsFrom entry.path set.entries) (λ set empty. begins_empty entry.path set.entries empty) sets is)
      (upto_itself nat_list_cmp_total entry.path),
)
least_of sets owner entry entries each (Some least) is = by (is_gt (slice_cmp nat_cmp least.1.path entry.path)) refl
  where
    by : (test : Bool) → is_gt (slice_cmp nat_cmp least.1.path entry.path) ≡ test → IsLeast (sets ++ record { ssid = owner; entries = entry ∷ entries } ∷ []) (cond test (Some (owner, entry)) (Some least))
    by true above =
        let below : IsBelow entry.path least.1.path = greater_is nat_list_cmp_total least.1.path entry.path above in (
          decides_at_last sets owner entry entries (none_decides_below least.1.path entry.path sets below each is.1),
          each-push (λ set. BeginsFrom entry.path set.entries) sets _
              (each-weaker (λ (set : SetIndex). BeginsFrom least.1.path set.entries) (λ set. BeginsFrom entry.path set.entries) (λ set begins. begins_lower entry.path least.1.path set.entries (ap is_gt below) begins) sets is.1)
              (upto_itself nat_list_cmp_total entry.path),
        )
    by false not_above = (
      stays_decided sets (record { ssid = owner; entries = entry ∷ entries } ∷ []) least.1.path least is.0,
      each-push (λ set. BeginsFrom least.1.path set.entries) sets _ is.1 not_above,
    )

least_with_empty : (sets : List SetIndex) (owner : Ssid) (least : Option (Ssid × IndexEntry)) → IsLeast sets least → IsLeast (sets ++ record { ssid = owner; entries = [] } ∷ []) least
least_with_empty sets owner None is = each-push (λ (set : SetIndex). set.entries ≡ []) sets _ is refl
least_with_empty sets owner (Some least) is = (
  stays_decided sets (record { ssid = owner; entries = [] } ∷ []) least.1.path least is.0,
  each-push (λ set. BeginsFrom least.1.path set.entries) sets (record { ssid = owner; entries = [] }) is.1 tt,
)

-- the least entry, when one more set is seen
pub least_more : (sets : List SetIndex) (owner : Ssid) (entries : List IndexEntry) (least : Option (Ssid × IndexEntry)) → EachAscends sets → IsLeast sets least
    → IsLeast (sets ++ record { ssid = owner; entries = entries } ∷ []) (lesser least owner entries)
least_more sets owner [] least each is = least_with_empty sets owner least is
least_more sets owner (entry ∷ entries) least each is = least_of sets owner entry entries each least is
