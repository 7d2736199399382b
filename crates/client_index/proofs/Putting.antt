-- What is found among the indexes of sets, and what stays in order as they are put and forgotten.
use Rattle.std.proofs.Common.{◌≡◌, ℕ, List, get_or, Ok, Err, sym, ap}
use Rattle.std.specs.Prelude.{Option, Some, None, IsSome}
use Rattle.std.specs.Option.{option_map}
use Rattle.std.specs.Ordering.{nat_cmp}
use Rattle.std.proofs.lemmas.Bool.{false≢true}
use Rattle.std.proofs.lemmas.Cmp.{nat_cmp_total}
use Rattle.room_base.specs.Ordered.{IsPlace}
use Rattle.room_base.specs.declared.numbers.Ssid.{Ssid}
use Rattle.room_base.proofs.OrderedSearch.{found_read, none_at}
use Rattle.room_base.proofs.OrderedUpdates.{ascends_put, ascends_removed, each_put, each_removed}
use Rattle.client_index.specs.declared.index.SetIndex.{SetIndex}
use Rattle.save_stream.specs.Spelling.{PathsAscend}
use Rattle.client_index.specs.Sets.{AreOrdered, entries_of, forget, number_of, put}

pub entries_at : (sets : List SetIndex) (ssid : Ssid) (at : ℕ) (set : SetIndex) → AreOrdered sets → IsPlace nat_cmp number_of ssid.0 sets (Ok at) → set ≡ get_or sets at set → Some set.entries ≡ entries_of sets ssid
entries_at sets ssid at set ordered place is =
    sym (ap (option_map (λ (s : SetIndex). s.entries)) (found_read nat_cmp_total number_of ssid.0 sets ordered.numbers at place set is))

pub no_entries : (sets : List SetIndex) (ssid : Ssid) (at : ℕ) → IsPlace nat_cmp number_of ssid.0 sets (Err at) → None ≡ entries_of sets ssid
no_entries sets ssid at place = sym (ap (option_map (λ (s : SetIndex). s.entries)) (none_at nat_cmp_total number_of ssid.0 sets at place))

pub put_ordered : (sets : List SetIndex) (new : SetIndex) → PathsAscend new.entries → AreOrdered sets → AreOrdered (put sets new)
put_ordered sets new paths ordered = record {
  numbers = ascends_put nat_cmp_total number_of sets new ordered.numbers;
  paths = each_put nat_cmp_total number_of (λ set. PathsAscend set.entries) sets new paths ordered.paths;
}

pub forget_ordered : (sets : List SetIndex) (ssid : Ssid) → AreOrdered sets → AreOrdered (forget sets ssid)
forget_ordered sets ssid ordered = record {
  numbers = ascends_removed nat_cmp_total number_of ssid.0 sets ordered.numbers;
  paths = each_removed nat_cmp_total number_of (λ set. PathsAscend set.entries) ssid.0 sets ordered.paths;
}

-- what isn't there is no value
pub none_there : {A : Type 0} (o : Option A) → None ≡ o → IsSome o → ⊥
none_there None none some = false≢true some
none_there (Some x) none some = cc
