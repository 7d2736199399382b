-- What a parameter of a place's route is, by its name.
use Rattle.std.proofs.Common.{◌≡◌, ◌≢◌, ℕ, ◌+◌, ◌<◌, ◌≤◌, ◌&&◌, Bool, true, false, List, [], ◌∷◌, ◌++◌, length, take, drop, get_or, codes, Bor, Option, Some, None, MatchOption, option_map, refl, sym, ap, ◌∙◌, subst, arith, lit<, ◌^◌, length-append}
use Rattle.std.specs.Option.{unwrap_or}
use Rattle.std.specs.Str.{IsUtf8, is_utf8, IsCharBoundary, chars}
use Rattle.std.proofs.lemmas.Str.{IsUtf8-drop, IsUtf8-take, IsCharBoundary-after_ascii, IsUtf8-from_is_utf8}
use Rattle.std.proofs.Math.Seq.{take-append_seam, drop-append_seam}
use Rattle.matchit.specs.Params.{AllText, named, part_of, walk}
use Rattle.desk_command.specs.Places.{Any, Matches, Piece, Word, names_of, pattern_of, shape_of, text_of}
use Rattle.desk_command.specs.Routes.{is_part, slash, target_of}
use Rattle.desk_command.specs.declared.place.Place.{Place}
use Rattle.desk_command.specs.declared.place.Place.TheVariants as places
use Rattle.desk_command.proofs.Leading.{all_shapes}
use Rattle.desk_command.proofs.Walking.{count_any, taken, walk_is, walked}

-- ---- parts are text

abbrev AllUtf8 : List (List ℕ) → Type 0
AllUtf8 [] = Unit {0}
AllUtf8 (part ∷ parts) = IsUtf8 part × AllUtf8 parts

at_seam : (part rest : List ℕ) (byte : ℕ) → get_or (part ++ byte ∷ rest) (length part) 0 ≡ byte
at_seam [] rest byte = refl
at_seam (b ∷ part) rest byte = at_seam part rest byte

seam : (part : List ℕ) (parts : List (List ℕ)) → IsCharBoundary (part ++ target_of parts) (length part)
seam part [] =
    let size = length-append part (target_of []) in (omega (arith, size), λ more _. absurd (omega (arith, size)))
seam part (next ∷ parts) =
    let size = length-append part (target_of (next ∷ parts)) in
    let at = at_seam part (next ++ target_of parts) slash in
    (omega (arith, size), λ _ high. absurd (omega (arith, at)))

behind : (part : List ℕ) (parts : List (List ℕ)) → IsUtf8 (target_of (part ∷ parts)) → IsUtf8 (part ++ target_of parts)
behind part parts text =
    IsUtf8-drop (target_of (part ∷ parts)) 1 text (IsCharBoundary-after_ascii (target_of (part ∷ parts)) 0 text (omega arith) (lit< tt))

parts_text : (parts : List (List ℕ)) → IsUtf8 (target_of parts) → AllUtf8 parts
parts_text [] text = tt
parts_text (part ∷ parts) text =
    let whole = behind part parts text in (
      subst IsUtf8 (take-append_seam part (target_of parts)) (IsUtf8-take (part ++ target_of parts) (length part) whole (seam part parts)),
      parts_text parts (subst IsUtf8 (drop-append_seam part (target_of parts)) (IsUtf8-drop (part ++ target_of parts) (length part) whole (seam part parts))),
    )

taken_text : (shape : List Piece) (parts : List (List ℕ)) → AllUtf8 parts → AllUtf8 (taken shape parts)
taken_text [] parts text = tt
taken_text (piece ∷ shape) [] text = tt
taken_text (Word word ∷ shape) (part ∷ parts) text = taken_text shape parts text.1
taken_text (Any ∷ shape) (part ∷ parts) text = (text.0, taken_text shape parts text.1)

-- ---- names are text

abbrev NamesText : List ℕ → List (ℕ × ℕ) → Type 0
NamesText text [] = Unit {0}
NamesText text (name ∷ names) = IsUtf8 (part_of text name.0 name.1) × NamesText text names

names_text : (place : Place) → NamesText (text_of place) (names_of place)
unfolding is_utf8 chars lib.Utf8.encode
names_text places.Resources = tt
names_text places.Resource = (IsUtf8-from_is_utf8 (codes "kind") refl, (IsUtf8-from_is_utf8 (codes "name") refl, tt))
names_text places.Slot = (IsUtf8-from_is_utf8 (codes "slot") refl, tt)
names_text places.Label = tt
names_text places.Mount = tt
names_text places.Unmount = tt
names_text places.Inventory = tt
names_text places.Savegrp = (IsUtf8-from_is_utf8 (codes "group") refl, tt)
names_text places.Sets = tt
names_text places.Set = (IsUtf8-from_is_utf8 (codes "ssid") refl, tt)
names_text places.Body = (IsUtf8-from_is_utf8 (codes "ssid") refl, (IsUtf8-from_is_utf8 (codes "offset") refl, tt))
names_text places.Finish = (IsUtf8-from_is_utf8 (codes "ssid") refl, tt)
names_text places.Abort = (IsUtf8-from_is_utf8 (codes "ssid") refl, tt)
names_text places.Amend = (IsUtf8-from_is_utf8 (codes "ssid") refl, tt)
names_text places.Nsrim = tt

walked_text : (text : List ℕ) (names : List (ℕ × ℕ)) (parts : List (List ℕ)) → NamesText text names → AllUtf8 parts → AllText (walked text names parts)
walked_text text [] parts names_are parts_are = tt
walked_text text (name ∷ names) [] names_are parts_are = tt
walked_text text (name ∷ names) (part ∷ parts) names_are parts_are =
    (names_are.0, parts_are.0, walked_text text names parts names_are.1 parts_are.1)

-- ---- a parameter

abbrev walk_of : Place → List ℕ → List (List ℕ × List ℕ)
walk_of place path = walk (pattern_of (shape_of place)) (text_of place) path (names_of place) 0 0

abbrev pub walked_of : Place → List (List ℕ) → List (List ℕ × List ℕ)
walked_of place parts = walked (text_of place) (names_of place) (taken (shape_of place) parts)

all_counts : (place : Place) → length (names_of place) ≡ count_any (shape_of place)
all_counts places.Resources = refl
all_counts places.Resource = refl
all_counts places.Slot = refl
all_counts places.Label = refl
all_counts places.Mount = refl
all_counts places.Unmount = refl
all_counts places.Inventory = refl
all_counts places.Savegrp = refl
all_counts places.Sets = refl
all_counts places.Set = refl
all_counts places.Body = refl
all_counts places.Finish = refl
all_counts places.Abort = refl
all_counts places.Amend = refl
all_counts places.Nsrim = refl

all_small : (place : Place) → length (pattern_of (shape_of place)) < 2 ^ 63
all_small places.Resources = lit< tt
all_small places.Resource = lit< tt
all_small places.Slot = lit< tt
all_small places.Label = lit< tt
all_small places.Mount = lit< tt
all_small places.Unmount = lit< tt
all_small places.Inventory = lit< tt
all_small places.Savegrp = lit< tt
all_small places.Sets = lit< tt
all_small places.Set = lit< tt
all_small places.Body = lit< tt
all_small places.Finish = lit< tt
all_small places.Abort = lit< tt
all_small places.Amend = lit< tt
all_small places.Nsrim = lit< tt

zero_on : (n : ℕ) → n ≡ 0 + n
zero_on n = omega arith

pub walk_place : (place : Place) (parts : List (List ℕ)) → Matches (shape_of place) parts → walk_of place (target_of parts) ≡ walked_of place parts
walk_place place parts m =
    walk_is (shape_of place) parts (pattern_of (shape_of place)) (text_of place) (target_of parts) (names_of place) 0 0 (all_shapes place) m
    (all_counts place) (all_small place) refl (zero_on (length (pattern_of (shape_of place)))) refl (zero_on (length (target_of parts)))

pub walk_text : (place : Place) (parts : List (List ℕ)) → IsUtf8 (target_of parts) → AllText (walked_of place parts)
walk_text place parts text =
    walked_text (text_of place) (names_of place) (taken (shape_of place) parts) (names_text place) (taken_text (shape_of place) parts (parts_text parts text))
