-- Calls that read of a folder, one behind the other.
use Rattle.std.proofs.Common.{◌≡◌, ℕ, ◌+◌, ◌-◌, ◌<◌, ◌≤◌, List, [], ◌++◌, length, take, drop, min, arith, ap, ◌∙◌, sym, subst}
use Rattle.std.proofs.lemmas.List.{places, length-take, take-append-le}
use Rattle.std.proofs.lemmas.Grind.{same_number_lists}
use Rattle.room_disk.specs.Folder.{FolderView, KeepsFiles, HasRead, ReadsSome}
use Rattle.room_disk.proofs.Runs.{quiet_none, quiet_then}

pub keeps_none : (folder : FolderView) → KeepsFiles folder folder
keeps_none folder = record {
  quiet = quiet_none folder.disk;
  bytes = λ file kept. kept;
  names = λ kept. kept;
}

pub keeps_then : (old mid new : FolderView) → KeepsFiles old mid → KeepsFiles mid new
    → KeepsFiles old new
keeps_then old mid new first second = record {
  quiet = quiet_then old.disk mid.disk new.disk first.quiet second.quiet;
  bytes = λ file kept. second.bytes file (first.bytes file kept);
  names = λ kept. second.names (first.names kept);
}

-- a part of the rest
part_behind : (bytes : List ℕ) (at done count : ℕ)
    → take done (drop at bytes) ++ take count (drop (at + done) bytes)
    ≡ take (done + count) (drop at bytes)
part_behind bytes at done count =
    same_number_lists _ _ (grind (arith, places)) (λ k below. grind (arith, places))

front_read : (front tail : List ℕ) (done count : ℕ) → length front ≡ done
    → take (done + count) (front ++ tail) ≡ front ++ take count tail
front_read front tail done count is =
    same_number_lists _ _ (grind (arith, places)) (λ k below. grind (arith, places))

back_read : (front tail : List ℕ) (done count : ℕ) → length front ≡ done
    → drop (done + count) (front ++ tail) ≡ drop count tail
back_read front tail done count is =
    same_number_lists _ _ (grind (arith, places)) (λ k below. grind (arith, places))

back_of_back : (old : List ℕ) (done count : ℕ) → drop count (drop done old) ≡ drop (done + count) old
back_of_back old done count =
    same_number_lists _ _ (grind (arith, places)) (λ k below. grind (arith, places))

no_rest : (list : List ℕ) (done : ℕ) → done ≤ length list → drop (length list - done) (drop done list) ≡ []
no_rest list done within = same_number_lists _ _ (grind (arith, places)) (λ k below. grind (arith, places))

whole_rest : (list : List ℕ) (done : ℕ) → take (length list - done) (drop done list) ≡ drop done list
whole_rest list done = same_number_lists _ _ (grind (arith, places)) (λ k below. grind (arith, places))

none_behind : (list : List ℕ) → list ++ [] ≡ list
none_behind list = same_number_lists _ _ (grind (arith, places)) (λ k below. grind (arith, places))

read_behind : (bytes first now tail : List ℕ) (at done count : ℕ) → done ≤ length now
    → HasRead bytes at first now done
    → HasRead bytes (at + done) (drop done now) tail count
    → HasRead bytes at first (take done now ++ tail) (done + count)
read_behind bytes first now tail at done count room old new =
    let size : length (take done now) ≡ done = omega (arith, length-take done now) in
    record {
      within = omega (arith, old.within, new.within);
      given = front_read (take done now) tail done count size
          ∙ ap (λ (l : List ℕ). l ++ take count tail) old.given
          ∙ ap (λ (l : List ℕ). take done (drop at bytes) ++ l) new.given
          ∙ part_behind bytes at done count;
      rest = back_read (take done now) tail done count size ∙ new.rest
          ∙ ap (λ (l : List ℕ). drop count l) old.rest
          ∙ back_of_back first done count;
    }

-- more was read behind what was read: `tail` stands now in the place of all that stood behind it
pub read_more : (bytes there first now tail : List ℕ) (at done next count : ℕ) → done ≤ length now
    → next ≡ at + done → there ≡ bytes → HasRead bytes at first now done
    → HasRead there next (take (length now - done) (drop done now)) tail count
    → HasRead bytes at first (take done now ++ (tail ++ drop (length now - done) (drop done now))) (done + count)
read_more bytes there first now tail at done next count room is same old new =
    let N : ℕ → Type 0 = λ n. HasRead there n (take (length now - done) (drop done now)) tail count in
    let P : List ℕ → Type 0 = λ l. HasRead bytes (at + done) l tail count in
    let Q : List ℕ → Type 0 = λ l. HasRead l (at + done) (take (length now - done) (drop done now)) tail count in
    let behind = subst P (whole_rest now done) (subst Q same (subst N is new)) in
    let R : List ℕ → Type 0 = λ l. HasRead bytes at first (take done now ++ l) (done + count) in
    subst R (sym (ap (λ (l : List ℕ). tail ++ l) (no_rest now done room) ∙ none_behind tail))
    (read_behind bytes first now tail at done count room old behind)

drop_front : (front rest : List ℕ) (count : ℕ) → count ≤ length front → drop count (front ++ rest) ≡ drop count front ++ rest
drop_front front rest count within =
    same_number_lists _ _ (grind (arith, places)) (λ k below. grind (arith, places))

joined_rest : (list : List ℕ) (half count : ℕ) → count ≤ half → half ≤ length list
    → drop count (take half list) ++ drop half list ≡ drop count list
joined_rest list half count within room =
    same_number_lists _ _ (grind (arith, places)) (λ k below. grind (arith, places))

-- a read into a front is one into the whole
pub front_reads : (bytes into front : List ℕ) (at half count : ℕ) → half ≤ length into
    → (0 < length into → 0 < half) → length front ≡ length (take half into)
    → count ≡ min (length (take half into)) (length bytes - at)
    → take count front ≡ take count (drop at bytes)
    → drop count front ≡ drop count (take half into)
    → ReadsSome bytes at into (front ++ drop half into) count
front_reads bytes into front at half count room some same is given rest =
    let size : length (take half into) ≡ half = omega (arith, length-take half into) in
    let within : count ≤ length front = omega (arith, same, is) in
    record {
      read = record {
        within = omega (arith, is);
        given = take-append-le count front (drop half into) within ∙ given;
        rest = drop_front front (drop half into) count within
            ∙ ap (λ (l : List ℕ). l ++ drop half into) rest
            ∙ joined_rest into half count (omega arith) room;
      };
      ended = λ any none. let one : 0 < half = some any in omega (arith, is, one, size, none);
    }
