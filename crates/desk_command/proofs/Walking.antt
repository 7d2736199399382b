-- What the parameters of a place take of a path.
use Rattle.std.proofs.Common.{◌≡◌, ◌≢◌, ℕ, suc, ◌+◌, ◌-◌, ◌<◌, ◌≤◌, ◌^◌, List, [], ◌∷◌, ◌++◌, length, drop, take, get_or, Bool, true, false, not, ◌&&◌, ◌||◌, ltb, leb, min, cond, refl, sym, ap, ◌∙◌, subst, arith, nat_eq, ◌==◌, length-append}
use Rattle.std.specs.List.{list_any, list_all}
use Rattle.std.proofs.lemmas.Bool.{and_parts, and_from, and_right}
use Rattle.std.proofs.lemmas.Bool.Decides.{nat_tests}
use Rattle.std.proofs.lemmas.List.{drop-drop, get_or-drop, nil_from_length}
use Rattle.std.proofs.Math.Seq.{take-append_seam, drop-append_seam}
use Rattle.matchit.specs.Params.{next_at, wild_from, wild_stop, part_of, after_token, walk}
use Rattle.matchit.specs.Seek.{segment}
use Rattle.desk_command.specs.Places.{Any, Matches, Piece, Word, pattern_of}
use Rattle.desk_command.specs.Routes.{is_part, is_slash, slash, target_of}
use Rattle.desk_command.proofs.Shapes.{free_part, is_shape, is_word}
use Rattle.desk_command.proofs.Truths.{or_false}

-- the parts that a shape's parameters take
abbrev pub taken : List Piece → List (List ℕ) → List (List ℕ)
taken [] parts = []
taken (piece ∷ shape) [] = []
taken (Word word ∷ shape) (part ∷ parts) = taken shape parts
taken (Any ∷ shape) (part ∷ parts) = part ∷ taken shape parts

abbrev pub count_any : List Piece → ℕ
count_any [] = 0
count_any (Word word ∷ shape) = count_any shape
count_any (Any ∷ shape) = suc (count_any shape)

abbrev Pairs : Type 0
Pairs = List (List ℕ × List ℕ)

-- each name with what it took
abbrev pub walked : List ℕ → List (ℕ × ℕ) → List (List ℕ) → Pairs
walked text [] parts = []
walked text (name ∷ names) [] = []
walked text (name ∷ names) (part ∷ parts) = (part_of text name.0 name.1, part) ∷ walked text names parts

abbrev are_small : List ℕ → Bool
are_small word = list_all (λ byte. ltb byte 256) word

ltb_yes : (a b : ℕ) → a < b → ltb a b ≡ true
ltb_yes a b h = grind (arith, nat_tests)

ltb_no : (a b : ℕ) → b ≤ a → ltb a b ≡ false
ltb_no a b h = grind (arith, nat_tests)

leb_yes : (a b : ℕ) → a ≤ b → leb a b ≡ true
leb_yes a b h = grind (arith, nat_tests)

next_on : (len at : ℕ) → at < len → next_at len at ≡ at + 1
next_on len at h = rw (ltb_yes at len h) refl

-- a walk passes a word
pass : (word rest : List ℕ) (len token at : ℕ) → are_small word ≡ true → at + length word ≤ len
    → wild_from (word ++ rest) len token at ≡ wild_from rest len (token + length word) (at + length word)
pass [] rest len token at small fits =
    let one : token + 0 ≡ token = omega arith in
    let other : at + 0 ≡ at = omega arith in
    rw (one, other) refl
pass (x ∷ word) rest len token at small fits =
    let each = and_parts (ltb x 256) (are_small word) small in
    let below : at < len = omega arith in
    let one : token + 1 + length word ≡ token + suc (length word) = omega arith in
    let other : at + 1 + length word ≡ at + suc (length word) = omega arith in
    let more : at + 1 + length word ≤ len = omega arith in
    rw (each.0, next_on len at below, pass word rest len (token + 1) (at + 1) each.1 more, one, other) refl

pass_slash : (rest : List ℕ) (len token at : ℕ) → at < len → wild_from (slash ∷ rest) len token at ≡ wild_from rest len (token + 1) (at + 1)
pass_slash rest len token at h = rw (next_on len at h) refl

-- ---- where a parameter stops

segment_part : (part rest : List ℕ) → list_any is_slash part ≡ false → segment (part ++ slash ∷ rest) ≡ part ++ slash ∷ []
segment_part [] rest free = refl
segment_part (b ∷ part) rest free =
    let o = or_false (is_slash b) (list_any is_slash part) free in rw (o.0, segment_part part rest o.1) refl

stops_more : (part others tail pattern path : List ℕ) (token at : ℕ) → list_any is_slash part ≡ false
    → get_or pattern token 0 ≡ 256 → drop (token + 1) pattern ≡ slash ∷ tail → length pattern ≡ token + 1 + suc (length tail)
    → drop at path ≡ part ++ slash ∷ others → wild_stop pattern token path at ≡ at + length part
stops_more part others tail pattern path token at free is rest long todo =
    let one = ltb_yes token (length pattern) (omega arith) in
    let other = ltb_yes (token + 1) (length pattern) (omega arith) in
    let l : at + (length part + 1) - 1 ≡ at + length part = omega arith in
    rw (one, other, is, rest, todo, segment_part part others free, length-append part (slash ∷ []), l) refl

stops : (shape : List Piece) (parts : List (List ℕ)) (part pattern path : List ℕ) (token at : ℕ) → Matches shape parts → list_any is_slash part ≡ false
    → get_or pattern token 0 ≡ 256 → drop (token + 1) pattern ≡ pattern_of shape → length pattern ≡ token + 1 + length (pattern_of shape)
    → drop at path ≡ part ++ target_of parts → length path ≡ at + length (part ++ target_of parts)
    → wild_stop pattern token path at ≡ at + length part
stops [] [] part pattern path token at m free is rest long todo far =
    let none = and_right (ltb token (length pattern) && (get_or pattern token 0 == 256)) (ltb (token + 1) (length pattern))
    (ltb_no (token + 1) (length pattern) (omega arith)) in
    let l : at + (length part + 0) ≡ at + length part = omega arith in
    rw (none, far, length-append part (target_of []), l) refl
stops [] (next ∷ parts) part pattern path token at m free is rest long todo far = absurd m
stops (piece ∷ shape) [] part pattern path token at m free is rest long todo far = absurd m
stops (Word word ∷ shape) (next ∷ parts) part pattern path token at m free is rest long todo far =
    stops_more part (next ++ target_of parts) (word ++ pattern_of shape) pattern path token at free is rest long todo
stops (Any ∷ shape) (next ∷ parts) part pattern path token at m free is rest long todo far =
    stops_more part (next ++ target_of parts) (256 ∷ pattern_of shape) pattern path token at free is rest long todo

-- ---- the walk

-- the walk from the parameter that was found
abbrev on_from : List ℕ → List ℕ → List ℕ → ℕ × ℕ → List (ℕ × ℕ) → ℕ × ℕ → Pairs
on_from pattern text path name rest found =
    (part_of text name.0 name.1, part_of path found.1 (wild_stop pattern found.0 path found.1))
    ∷ walk pattern text path rest (after_token found.0) (wild_stop pattern found.0 path found.1)

walk_from : (pattern text path : List ℕ) (name : ℕ × ℕ) (rest : List (ℕ × ℕ)) (token at : ℕ)
    → walk pattern text path (name ∷ rest) token at ≡ on_from pattern text path name rest (wild_from (drop token pattern) (length path) token at)
walk_from pattern text path name rest token at = refl

part_between : (part rest path : List ℕ) (at : ℕ) → drop at path ≡ part ++ rest → length path ≡ at + length (part ++ rest)
    → part_of path at (at + length part) ≡ part
part_between part rest path at todo far =
    let one = leb_yes at (at + length part) (omega arith) in
    let other = leb_yes (at + length part) (length path) (omega (arith, far, length-append part rest)) in
    let l : at + length part - at ≡ length part = omega arith in
    rw (one, other, l, todo, take-append_seam part rest) refl

token_on : (token : ℕ) → token + 2 < 2 ^ 63 → after_token (token + 1) ≡ token + 2
token_on token h = omega arith

drop_on : {A : Type 0} (n k : ℕ) (l rest : List A) → drop n l ≡ rest → drop (n + k) l ≡ drop k rest
drop_on n k l rest h = sym (drop-drop k n l) ∙ ap (drop k) h

pub walk_is : (shape : List Piece) (parts : List (List ℕ)) (pattern text path : List ℕ) (names : List (ℕ × ℕ)) (token at : ℕ)
    → is_shape shape ≡ true → Matches shape parts → length names ≡ count_any shape → length pattern < 2 ^ 63
    → drop token pattern ≡ pattern_of shape → length pattern ≡ token + length (pattern_of shape)
    → drop at path ≡ target_of parts → length path ≡ at + length (target_of parts)
    → walk pattern text path names token at ≡ walked text names (taken shape parts)
walk_is shape parts pattern text path [] token at good m count small rest long todo far = refl
walk_is [] parts pattern text path (name ∷ names) token at good m count small rest long todo far = absurd (omega (arith, count))
walk_is (piece ∷ shape) [] pattern text path (name ∷ names) token at good m count small rest long todo far = absurd m
walk_is (Word word ∷ shape) (part ∷ parts) pattern text path (name ∷ names) token at good m count small rest long todo far =
    let word_good = and_parts (is_word word) (is_shape shape) good in
    let bytes = and_parts (is_part word) (list_all (λ byte. ltb byte 256) word) word_good.0 in
    let same : length part ≡ length word = ap length m.0 in
    let size = length-append part (target_of parts) in
    let sized = length-append word (pattern_of shape) in
    let begun : at < length path = omega (arith, far) in
    let fits : at + 1 + length word ≤ length path = omega (arith, far, size, same) in
    let next : token + 1 + length word ≡ token + suc (length word) = omega arith in
    let next_at : at + 1 + length word ≡ at + suc (length part) = omega (arith, same) in
    let rest_on : drop (token + 1 + length word) pattern ≡ pattern_of shape =
    rw next (drop_on token (suc (length word)) pattern (slash ∷ (word ++ pattern_of shape)) rest ∙ drop-append_seam word (pattern_of shape)) in
    let todo_on : drop (at + 1 + length word) path ≡ target_of parts =
    rw next_at (drop_on at (suc (length part)) path (slash ∷ (part ++ target_of parts)) todo ∙ drop-append_seam part (target_of parts)) in
    let found : wild_from (drop token pattern) (length path) token at
    ≡ wild_from (drop (token + 1 + length word) pattern) (length path) (token + 1 + length word) (at + 1 + length word) =
    ap (λ d. wild_from d (length path) token at) rest ∙ pass_slash (word ++ pattern_of shape) (length path) token at begun
    ∙ pass word (pattern_of shape) (length path) (token + 1) (at + 1) bytes.1 fits
    ∙ ap (λ d. wild_from d (length path) (token + 1 + length word) (at + 1 + length word)) (sym rest_on) in
    ap (on_from pattern text path name names) found
    ∙ walk_is shape parts pattern text path (name ∷ names) (token + 1 + length word) (at + 1 + length word) word_good.1 m.1 count small rest_on
    (omega (arith, long, sized)) todo_on (omega (arith, far, size, same))
walk_is (Any ∷ shape) (part ∷ parts) pattern text path (name ∷ names) token at good m count small rest long todo far =
    let size = length-append part (target_of parts) in
    let begun : at < length path = omega (arith, far) in
    let found : wild_from (drop token pattern) (length path) token at ≡ (token + 1, at + 1) =
    ap (λ d. wild_from d (length path) token at) rest ∙ pass_slash (256 ∷ pattern_of shape) (length path) token at begun in
    let is : get_or pattern (token + 1) 0 ≡ 256 = sym (get_or-drop token pattern 1 0) ∙ ap (λ d. get_or d 1 0) rest in
    let two : token + 1 + 1 ≡ token + 2 = omega arith in
    let rest_on : drop (token + 2) pattern ≡ pattern_of shape = drop_on token 2 pattern (slash ∷ 256 ∷ pattern_of shape) rest in
    let todo_on : drop (at + 1) path ≡ part ++ target_of parts = drop_on at 1 path (slash ∷ (part ++ target_of parts)) todo in
    let far_on : length path ≡ at + 1 + length (part ++ target_of parts) = omega (arith, far) in
    let stop : wild_stop pattern (token + 1) path (at + 1) ≡ at + 1 + length part =
    stops shape parts part pattern path (token + 1) (at + 1) m.1 (free_part part m.0) is (rw two rest_on) (omega (arith, long)) todo_on far_on in
    let took = part_between part (target_of parts) path (at + 1) todo_on far_on in
    let left : drop (at + 1 + length part) path ≡ target_of parts =
    drop_on (at + 1) (length part) path (part ++ target_of parts) todo_on ∙ drop-append_seam part (target_of parts) in
    let token_is = token_on token (omega (arith, long, small)) in
    let more = walk_is shape parts pattern text path names (token + 2) (at + 1 + length part) good m.1 (omega (arith, count)) small rest_on
    (omega (arith, long)) left (omega (arith, far, size)) in
    ap (on_from pattern text path name names) found ∙ rw (stop, took, token_is) (ap (λ r. (part_of text name.0 name.1, part) ∷ r) more)
