-- Which of the rows of a router a path is found at, where each parameter is a whole part of a path.
use Rattle.std.proofs.Common.{◌≡◌, ◌≢◌, ℕ, zero, suc, ◌+◌, ◌-◌, ◌<◌, ◌≤◌, List, [], ◌∷◌, ◌++◌, length, drop, take, Option, Some, None, Bool, true, false, not, ◌&&◌, ltb, cond, refl, sym, ap, ◌∙◌, subst, arith, nat_eq, ◌==◌, inl, inr, ◌⊎◌}
use Rattle.std.proofs.lemmas.Bool.{and_parts, and_from, and_right}
use Rattle.std.proofs.lemmas.Bool.Decides.{nat_tests}
use Rattle.std.specs.Cmp.Lexicographic.{pointwise}
use Rattle.matchit.specs.Rows.{RowsOf}
use Rattle.matchit.specs.Seek.{own, step, or_else, seek, param_step, has_slash, segment, longest_from, longest_suffix, better, cuts, with_suffix, same_text}
use Rattle.matchit.proofs.ParamLemmas.{better-empty}
use Rattle.desk_command.proofs.Truths.{not_true, same}

-- what follows the part that a path begins with
abbrev pub after_part : List ℕ → List ℕ
after_part [] = []
after_part (b ∷ p) = cond (b == 47) (b ∷ p) (after_part p)

-- a path has a pattern, whose parameters are whole parts
abbrev pub fits : List ℕ → List ℕ → Bool
fits [] [] = true
fits [] (b ∷ p) = false
fits (x ∷ t) [] = false
fits (x ∷ t) (b ∷ p) = cond (x == 256) (not (b == 47) && fits t (after_part p)) ((x == b) && fits t p)

-- a pattern ends, or goes on with a slash
abbrev pub Ended : List ℕ → Type 0
Ended [] = Unit {0}
Ended (y ∷ t) = y ≡ 47

abbrev pub ends_part : List ℕ → Bool
ends_part [] = true
ends_part (y ∷ t) = y == 47

abbrev pub whole : List ℕ → Bool
whole [] = true
whole (x ∷ t) = cond (x == 256) (ends_part t) (ltb x 256) && whole t

abbrev pub AreBytes : List ℕ → Type 0
AreBytes [] = Unit {0}
AreBytes (b ∷ p) = (b < 256) × AreBytes p

whole_ended : (t : List ℕ) → ends_part t ≡ true → Ended t
whole_ended [] h = tt
whole_ended (y ∷ t) h = same y 47 h

-- ---- paths

after_bytes : (p : List ℕ) → AreBytes p → AreBytes (after_part p)
after_bytes [] h = tt
after_bytes (b ∷ p) h = elim (b == 47) as (λ v. AreBytes (cond v (b ∷ p) (after_part p))) [ true ↦ h | false ↦ after_bytes p h.1 ]

after_short : (p : List ℕ) → length (after_part p) ≤ length p
after_short [] = omega arith
after_short (b ∷ p) =
    let h = after_short p in
    elim (b == 47) as (λ v. length (cond v (b ∷ p) (after_part p)) ≤ suc (length p)) [ true ↦ omega arith | false ↦ omega arith ]

after_none : (p : List ℕ) → has_slash p ≡ false → after_part p ≡ []
after_none [] h = refl
after_none (b ∷ p) h = by (b == 47) refl (after_none p)
  where
    by : (v : Bool) → (b == 47) ≡ v → (has_slash p ≡ false → after_part p ≡ []) → after_part (b ∷ p) ≡ []
    by true e ih = let c : true ≡ false = rw e at h in cc
    by false e ih = rw e (ih (rw e at h))

after_slash : (p : List ℕ) → has_slash p ≡ true → (r : List ℕ) × (after_part p ≡ 47 ∷ r)
after_slash [] h = cc
after_slash (b ∷ p) h = by (b == 47) refl (after_slash p)
  where
    by : (v : Bool) → (b == 47) ≡ v → (has_slash p ≡ true → (r : List ℕ) × (after_part p ≡ 47 ∷ r)) → (r : List ℕ) × (after_part (b ∷ p) ≡ 47 ∷ r)
    by true e ih = (p, rw e (ap (λ x. x ∷ p) (same b 47 e)))
    by false e ih = let r = ih (rw e at h) in (r.0, rw e r.1)

segment_some : (p : List ℕ) → has_slash p ≡ true → 1 ≤ length (segment p)
segment_some [] h = cc
segment_some (b ∷ p) h = elim (b == 47) as (λ v. 1 ≤ length (cond v (b ∷ []) (b ∷ segment p))) [ true ↦ omega arith | false ↦ omega arith ]

drop_segment : (p : List ℕ) → has_slash p ≡ true → drop (length (segment p) - 1) p ≡ after_part p
drop_segment [] h = refl
drop_segment (b ∷ p) h = by (b == 47) refl (drop_segment p)
  where
    by : (v : Bool) → (b == 47) ≡ v → (has_slash p ≡ true → drop (length (segment p) - 1) p ≡ after_part p)
        → drop (length (segment (b ∷ p)) - 1) (b ∷ p) ≡ after_part (b ∷ p)
    by true e ih = rw e refl
    by false e ih =
        let hp : has_slash p ≡ true = rw e at h in
        let some = segment_some p hp in
        let l : suc (length (segment p)) - 1 ≡ suc (length (segment p) - 1) = omega arith in
        rw (e, l) (ih hp)

drop_all : (p : List ℕ) → drop (length p) p ≡ []
drop_all [] = refl
drop_all (b ∷ p) = drop_all p

ends_slash : (b : ℕ) (p : List ℕ) → (b == 47) ≡ false → pointwise nat_eq (47 ∷ []) (drop (length (segment p)) (b ∷ segment p)) ≡ has_slash p
ends_slash b [] n = let h : nat_eq 47 b ≡ false = grind (arith, nat_tests) in rw h
ends_slash b (c ∷ p) n = by (c == 47) refl (ends_slash c p)
  where
    by : (v : Bool) → (c == 47) ≡ v → ((c == 47) ≡ false → pointwise nat_eq (47 ∷ []) (drop (length (segment p)) (c ∷ segment p)) ≡ has_slash p)
        → pointwise nat_eq (47 ∷ []) (drop (length (segment (c ∷ p))) (b ∷ segment (c ∷ p))) ≡ has_slash (c ∷ p)
    by true e ih = rw (e, same c 47 e) refl
    by false e ih = rw e (ih e)

cut_by : (n : ℕ) (x s : Bool) → x ≡ s → (s ≡ true → 1 ≤ n) → (ltb 1 (suc n) && x) ≡ s
cut_by n x true is some = let one = some refl in let l : ltb 1 (suc n) ≡ true = grind (arith, nat_tests) in rw (l, is)
cut_by n x false is some = and_right (ltb 1 (suc n)) x is

cuts_slash : (b : ℕ) (p : List ℕ) → cuts (segment (b ∷ p)) (47 ∷ []) ≡ (not (b == 47) && has_slash p)
cuts_slash b p = by (b == 47) refl
  where
    by : (v : Bool) → (b == 47) ≡ v → cuts (segment (b ∷ p)) (47 ∷ []) ≡ (not (b == 47) && has_slash p)
    by true e = rw e refl
    by false e =
        let n : suc (length (segment p)) - 1 ≡ length (segment p) = omega arith in
        rw (e, n) (cut_by (length (segment p)) (pointwise nat_eq (47 ∷ []) (drop (length (segment p)) (b ∷ segment p))) (has_slash p)
        (ends_slash b p e) (segment_some p))

module _ {K : Type 0} where
  abbrev pub AllWhole : RowsOf K → Type 0
  AllWhole [] = Unit {0}
  AllWhole ((t, k) ∷ rest) = (whole t ≡ true) × AllWhole rest

  abbrev pub AllEnded : RowsOf K → Type 0
  AllEnded [] = Unit {0}
  AllEnded ((t, k) ∷ rest) = Ended t × AllEnded rest

  -- a path has the pattern of a row
  abbrev pub FitsIn : RowsOf K → List ℕ → K → Type 0
  FitsIn [] path key = ⊥
  FitsIn ((t, k) ∷ rest) path key = ((fits t path ≡ true) × (k ≡ key)) ⊎ FitsIn rest path key

  abbrev slash_row : RowsOf K → Bool
  slash_row [] = false
  slash_row (([], k) ∷ rest) = slash_row rest
  slash_row ((y ∷ t, k) ∷ rest) = true

  or_else-none : (a : Option K) → or_else a None ≡ a
  or_else-none None = refl
  or_else-none (Some k) = refl

  seek_empty : (n : ℕ) (p : List ℕ) → seek {K = K} n [] p ≡ None
  unfolding seek param_step
  seek_empty n [] = refl
  seek_empty (suc n) (b ∷ p) = seek_empty n p
  seek_empty zero (b ∷ p) =
      elim (cond (b == 47) true (has_slash p)) as (λ v. or_else (seek {K = K} 0 [] p) (or_else (seek {K = K} ((cond {A = ℕ × RowsOf K} v (0, []) (suc (length p), [])).0 - 1) (cond {A = ℕ × RowsOf K} v (0, []) (suc (length p), [])).1 p) None) ≡ None) [
        | true ↦ simp (seek_empty 0 p)
        | false ↦ simp (seek_empty 0 p, seek_empty (suc (length p) - 1) p)
      ]

  seek_drop : (n : ℕ) (r : RowsOf K) (p : List ℕ) → seek n r p ≡ seek 0 r (drop n p)
  unfolding seek
  seek_drop zero r p = refl
  seek_drop (suc n) r [] = refl
  seek_drop (suc n) r (b ∷ p) = seek_drop n r p

  -- no row of whole parts takes all the rest of a path
  no_catch : (r : RowsOf K) → AllWhole r → step 257 r ≡ []
  no_catch [] h = refl
  no_catch (([], k) ∷ r) h = no_catch r h.1
  no_catch ((x ∷ t, k) ∷ r) h = by (x == 257) refl (no_catch r h.1)
    where
      by : (v : Bool) → (x == 257) ≡ v → step 257 r ≡ [] → step 257 ((x ∷ t, k) ∷ r) ≡ []
      by true e ih =
          let is = same x 257 e in
          let c : false ≡ true = subst (λ (y : ℕ). whole (y ∷ t) ≡ true) is h.0 in cc
      by false e ih = rw e ih

  ended_step : (x : ℕ) (r : RowsOf K) → (x == 47) ≡ false → AllEnded r → step x r ≡ []
  ended_step x [] n h = refl
  ended_step x (([], k) ∷ r) n h = ended_step x r n h.1
  ended_step x ((y ∷ t, k) ∷ r) n h =
      let other : y == x ≡ false = grind (arith, nat_tests, h.0) in rw other (ended_step x r n h.1)

  longest_slash : (seg : List ℕ) (r : RowsOf K) → AllEnded r → longest_from seg (47 ∷ []) r ≡ 47 ∷ []
  longest_slash seg [] h = refl
  longest_slash seg (([], k) ∷ r) h = longest_slash seg r h.1
  longest_slash seg ((y ∷ t, k) ∷ r) h = rw h.0 (longest_slash seg r h.1)

  longest_none : (seg : List ℕ) (r : RowsOf K) → AllEnded r → longest_from seg [] r ≡ cond (slash_row r && cuts seg (47 ∷ [])) (47 ∷ []) []
  longest_none seg [] h = refl
  longest_none seg (([], k) ∷ r) h = longest_none seg r h.1
  longest_none seg ((y ∷ t, k) ∷ r) h = by (cuts seg (47 ∷ [])) refl (longest_none seg r h.1)
    where
      by : (v : Bool) → cuts seg (47 ∷ []) ≡ v → longest_from seg [] r ≡ cond (slash_row r && cuts seg (47 ∷ [])) (47 ∷ []) []
          → longest_from {K = K} seg [] ((y ∷ t, k) ∷ r) ≡ cond (cuts seg (47 ∷ [])) (47 ∷ []) []
      by true e ih = rw (h.0, e) (longest_slash seg r h.1)
      by false e ih = rw (h.0, e) (ih ∙ ap (λ v. cond {A = List ℕ} v (47 ∷ []) []) (and_right (slash_row r) (cuts seg (47 ∷ [])) e))

  ended_suffix : (r : RowsOf K) → AllEnded r → AllEnded (with_suffix (47 ∷ []) r)
  ended_suffix [] h = tt
  ended_suffix (([], k) ∷ r) h = ended_suffix r h.1
  ended_suffix ((y ∷ t, k) ∷ r) h = rw h.0 (refl, ended_suffix r h.1)

  step_suffix : (r : RowsOf K) → AllEnded r → step 47 (with_suffix (47 ∷ []) r) ≡ step 47 r
  step_suffix [] h = refl
  step_suffix (([], k) ∷ r) h = step_suffix r h.1
  step_suffix ((y ∷ t, k) ∷ r) h = rw h.0 (ap (λ x. (t, k) ∷ x) (step_suffix r h.1))

  no_slash_row : (r : RowsOf K) → slash_row r ≡ false → step 47 r ≡ []
  no_slash_row [] n = refl
  no_slash_row (([], k) ∷ r) n = no_slash_row r n
  no_slash_row ((y ∷ t, k) ∷ r) n = cc

  seek_slash : (r : RowsOf K) (p : List ℕ) → AllEnded r → seek 0 r (47 ∷ p) ≡ seek 0 (step 47 r) p
  unfolding seek param_step
  seek_slash r p h = simp (ended_step 256 r refl h, ended_step 257 r refl h, seek_empty 0 p, or_else-none)

  seek_suffix : (r : RowsOf K) (p : List ℕ) → AllEnded r → seek 0 (with_suffix (47 ∷ []) r) (47 ∷ p) ≡ seek 0 r (47 ∷ p)
  seek_suffix r p h = rw (seek_slash (with_suffix (47 ∷ []) r) p (ended_suffix r h), step_suffix r h) (sym (seek_slash r p h))

  seek_no_slash : (r : RowsOf K) (p : List ℕ) → AllEnded r → slash_row r ≡ false → seek 0 r (47 ∷ p) ≡ None
  seek_no_slash r p h n = rw (seek_slash r p h, no_slash_row r n) (seek_empty 0 p)

  -- what a parameter takes of a path, by the suffix behind it
  abbrev taken : RowsOf K → List ℕ → List ℕ → ℕ × RowsOf K
  taken r path s = cond (ltb 0 (length s)) (length (segment path) - length s, with_suffix s r) (cond (has_slash path) (0, []) (length path, r))

  param_taken : (r : RowsOf K) (b : ℕ) (p : List ℕ) → AllEnded r
      → param_step r (b ∷ p) ≡ taken r (b ∷ p) (cond (slash_row r && (not (b == 47) && has_slash p)) (47 ∷ []) [])
  unfolding param_step
  param_taken r b p h =
      ap (taken r (b ∷ p)) (longest_none (segment (b ∷ p)) r h ∙ ap (λ v. cond {A = List ℕ} (slash_row r && v) (47 ∷ []) []) (cuts_slash b p))

  taken_seek : (r : RowsOf K) (b : ℕ) (p : List ℕ) (v w u : Bool) → AllEnded r → (b == 47) ≡ v → has_slash p ≡ w → slash_row r ≡ u
      → (x : ℕ × RowsOf K) → x ≡ taken r (b ∷ p) (cond (u && (not v && w)) (47 ∷ []) [])
      → seek (x.0 - 1) x.1 p ≡ cond v None (seek 0 r (after_part p))
  taken_seek r b p true w true h hv hw hu x is = let e : x ≡ (0, []) = is ∙ rw hv refl in rw e (seek_empty 0 p)
  taken_seek r b p true w false h hv hw hu x is = let e : x ≡ (0, []) = is ∙ rw hv refl in rw e (seek_empty 0 p)
  taken_seek r b p false true true h hv hw hu x is =
      let e : x ≡ (suc (length (segment p)) - 1, with_suffix (47 ∷ []) r) = is ∙ rw hv refl in
      let l : suc (length (segment p)) - 1 - 1 ≡ length (segment p) - 1 = omega arith in
      let a = after_slash p hw in
      rw (e, l, seek_drop (length (segment p) - 1) (with_suffix (47 ∷ []) r) p, drop_segment p hw, a.1) (seek_suffix r a.0 h)
  taken_seek r b p false true false h hv hw hu x is =
      let e : x ≡ (0, []) = is ∙ rw (hv, hw) refl in
      let a = after_slash p hw in
      rw (e, a.1) (seek_empty 0 p ∙ sym (seek_no_slash r a.0 h hu))
  taken_seek r b p false false u h hv hw hu x is =
      let z : (u && (not false && false)) ≡ false = and_right u false refl in
      let e : x ≡ (suc (length p), r) = is ∙ rw (z, hv, hw) refl in
      let l : suc (length p) - 1 ≡ length p = omega arith in
      rw (e, l, seek_drop (length p) r p, drop_all p, after_none p hw) refl

  param_seek : (r : RowsOf K) (b : ℕ) (p : List ℕ) → AllEnded r
      → seek ((param_step r (b ∷ p)).0 - 1) (param_step r (b ∷ p)).1 p ≡ cond (b == 47) None (seek 0 r (after_part p))
  param_seek r b p h =
      taken_seek r b p (b == 47) (has_slash p) (slash_row r) h refl refl refl (param_step r (b ∷ p)) (param_taken r b p h)

  -- ---- whole parts

  step_ended : (r : RowsOf K) → AllWhole r → AllEnded (step 256 r)
  step_ended [] h = tt
  step_ended (([], k) ∷ r) h = step_ended r h.1
  step_ended ((x ∷ t, k) ∷ r) h = by (x == 256) refl (step_ended r h.1)
    where
      by : (v : Bool) → (x == 256) ≡ v → AllEnded (step 256 r) → AllEnded (step 256 ((x ∷ t, k) ∷ r))
      by true e ih = rw e (whole_ended t (and_parts (ends_part t) (whole t) (rw e at h.0)).0, ih)
      by false e ih = rw e ih

  step_whole : (b : ℕ) (r : RowsOf K) → AllWhole r → AllWhole (step b r)
  step_whole b [] h = tt
  step_whole b (([], k) ∷ r) h = step_whole b r h.1
  step_whole b ((x ∷ t, k) ∷ r) h = by (x == b) refl (step_whole b r h.1)
    where
      by : (v : Bool) → (x == b) ≡ v → AllWhole (step b r) → AllWhole (step b ((x ∷ t, k) ∷ r))
      by true e ih = rw e ((and_parts (cond (x == 256) (ends_part t) (ltb x 256)) (whole t) h.0).1, ih)
      by false e ih = rw e ih

  seek_step : (r : RowsOf K) (b : ℕ) (p : List ℕ) → AllWhole r
      → seek 0 r (b ∷ p) ≡ or_else (seek 0 (step b r) p) (cond (b == 47) None (seek 0 (step 256 r) (after_part p)))
  unfolding seek
  seek_step r b p h =
      rw (no_catch r h, param_seek (step 256 r) b p (step_ended r h), or_else-none) refl

  own_fits : (r : RowsOf K) (key : K) → own r ≡ Some key → FitsIn r [] key
  own_fits [] key h = cc
  own_fits (([], k) ∷ r) key h = let e : k ≡ key = cc in inl (refl, e)
  own_fits ((x ∷ t, k) ∷ r) key h = inr (own_fits r key h)

  fits_own : (r : RowsOf K) (key : K) → FitsIn r [] key → own r ≢ None
  fits_own [] key h none = h
  fits_own (([], k) ∷ r) key h none = cc
  fits_own ((x ∷ t, k) ∷ r) key (inl h) none = let e = h.0 in cc
  fits_own ((x ∷ t, k) ∷ r) key (inr h) none = fits_own r key h none

  step_fits : (b : ℕ) (r : RowsOf K) (p : List ℕ) (key : K) → b < 256 → FitsIn (step b r) p key → FitsIn r (b ∷ p) key
  step_fits b [] p key byte h = h
  step_fits b (([], k) ∷ r) p key byte h = inr (step_fits b r p key byte h)
  step_fits b ((x ∷ t, k) ∷ r) p key byte h = by (x == b) refl (step_fits b r p key byte)
    where
      by : (v : Bool) → (x == b) ≡ v → (FitsIn (step b r) p key → FitsIn r (b ∷ p) key) → FitsIn ((x ∷ t, k) ∷ r) (b ∷ p) key
      by true e ih =
          let other : (x == 256) ≡ false = grind (arith, nat_tests) in
          elim (rw e at h) [ inl f ↦ inl (rw (other, e) f.0, f.1) | inr f ↦ inr (ih f) ]
      by false e ih = inr (ih (rw e at h))

  part_fits : (b : ℕ) (r : RowsOf K) (p : List ℕ) (key : K) → (b == 47) ≡ false → FitsIn (step 256 r) (after_part p) key → FitsIn r (b ∷ p) key
  part_fits b [] p key n h = h
  part_fits b (([], k) ∷ r) p key n h = inr (part_fits b r p key n h)
  part_fits b ((x ∷ t, k) ∷ r) p key n h = by (x == 256) refl (part_fits b r p key n)
    where
      by : (v : Bool) → (x == 256) ≡ v → (FitsIn (step 256 r) (after_part p) key → FitsIn r (b ∷ p) key) → FitsIn ((x ∷ t, k) ∷ r) (b ∷ p) key
      by true e ih = elim (rw e at h) [ inl f ↦ inl (rw (e, n) f.0, f.1) | inr f ↦ inr (ih f) ]
      by false e ih = inr (ih (rw e at h))

  -- a path that has a row's pattern goes on with a byte or a part
  abbrev GoesOn : ℕ → List ℕ → K → RowsOf K → Type 0
  GoesOn b p key r = FitsIn (step b r) p key ⊎ (((b == 47) ≡ false) × FitsIn (step 256 r) (after_part p) key)

  step_more : (x b : ℕ) (t : List ℕ) (k : K) (r : RowsOf K) (p : List ℕ) (key : K) → FitsIn (step b r) p key
      → FitsIn (step b ((x ∷ t, k) ∷ r)) p key
  step_more x b t k r p key h =
      elim (x == b) as (λ v. FitsIn (cond v ((t, k) ∷ step b r) (step b r)) p key) [ true ↦ inr h | false ↦ h ]

  fits_on : (b : ℕ) (r : RowsOf K) (p : List ℕ) (key : K) → FitsIn r (b ∷ p) key → GoesOn b p key r
  fits_on b [] p key h = absurd h
  fits_on b (([], k) ∷ r) p key (inl h) = let e = h.0 in cc
  fits_on b (([], k) ∷ r) p key (inr h) = fits_on b r p key h
  fits_on b ((x ∷ t, k) ∷ r) p key (inl h) = by (x == 256) refl
    where
      by : (v : Bool) → (x == 256) ≡ v → GoesOn b p key ((x ∷ t, k) ∷ r)
      by true e =
          let f = and_parts (not (b == 47)) (fits t (after_part p)) (rw e at h.0) in
          inr (not_true (b == 47) f.0, rw e (inl (f.1, h.1)))
      by false e =
          let f = and_parts (x == b) (fits t p) (rw e at h.0) in
          inl (rw f.0 (inl (f.1, h.1)))
  fits_on b ((x ∷ t, k) ∷ r) p key (inr h) = more (fits_on b r p key h)
    where
      more : GoesOn b p key r → GoesOn b p key ((x ∷ t, k) ∷ r)
      more (inl f) = inl (step_more x b t k r p key f)
      more (inr f) = inr (f.0, step_more x 256 t k r (after_part p) key f.1)

  or_else_some : (a b : Option K) (key : K) → or_else a b ≡ Some key → (a ≡ Some key) ⊎ (b ≡ Some key)
  or_else_some None b key h = inr h
  or_else_some (Some k) b key h = inl h

  or_else_none : (a b : Option K) → or_else a b ≡ None → (a ≡ None) × (b ≡ None)
  or_else_none None b h = (refl, h)
  or_else_none (Some k) b h = absurd (cc)

  -- a path is found at a row whose pattern it has
  pub found_fits : (n : ℕ) (r : RowsOf K) (path : List ℕ) (key : K) → length path ≤ n → AllWhole r → AreBytes path → seek 0 r path ≡ Some key
      → FitsIn r path key
  unfolding seek
  found_fits n r [] key l h bytes is = own_fits r key is
  found_fits zero r (b ∷ p) key l h bytes is = absurd (omega arith)
  found_fits (suc n) r (b ∷ p) key l h bytes is =
      by (or_else_some (seek 0 (step b r) p) (cond (b == 47) None (seek 0 (step 256 r) (after_part p))) key (sym (seek_step r b p h) ∙ is))
      (λ e. found_fits n (step b r) p key (omega arith) (step_whole b r h) bytes.1 e)
      (λ e. found_fits n (step 256 r) (after_part p) key (omega (arith, after_short p)) (step_whole 256 r h) (after_bytes p bytes.1) e)
    where
      part : (v : Bool) → (b == 47) ≡ v → cond v None (seek 0 (step 256 r) (after_part p)) ≡ Some key
          → (seek 0 (step 256 r) (after_part p) ≡ Some key → FitsIn (step 256 r) (after_part p) key) → FitsIn r (b ∷ p) key
      part true v e ih = cc
      part false v e ih = part_fits b r p key v (ih e)

      by : (seek 0 (step b r) p ≡ Some key) ⊎ (cond (b == 47) None (seek 0 (step 256 r) (after_part p)) ≡ Some key)
          → (seek 0 (step b r) p ≡ Some key → FitsIn (step b r) p key)
          → (seek 0 (step 256 r) (after_part p) ≡ Some key → FitsIn (step 256 r) (after_part p) key) → FitsIn r (b ∷ p) key
      by (inl e) one other = step_fits b r p key bytes.0 (one e)
      by (inr e) one other = part (b == 47) refl e other

  -- a path is found where it has the pattern of a row
  pub fits_found : (n : ℕ) (r : RowsOf K) (path : List ℕ) (key : K) → length path ≤ n → AllWhole r → FitsIn r path key
      → seek 0 r path ≡ None → ⊥
  unfolding seek
  fits_found n r [] key l h f none = fits_own r key f none
  fits_found zero r (b ∷ p) key l h f none = absurd (omega arith)
  fits_found (suc n) r (b ∷ p) key l h f none =
      by (fits_on b r p key f) (or_else_none (seek 0 (step b r) p) (cond (b == 47) None (seek 0 (step 256 r) (after_part p))) (sym (seek_step r b p h) ∙ none))
      (λ g e. fits_found n (step b r) p key (omega arith) (step_whole b r h) g e)
      (λ g e. fits_found n (step 256 r) (after_part p) key (omega (arith, after_short p)) (step_whole 256 r h) g e)
    where
      by : GoesOn b p key r → (seek 0 (step b r) p ≡ None) × (cond (b == 47) None (seek 0 (step 256 r) (after_part p)) ≡ None)
          → (FitsIn (step b r) p key → seek 0 (step b r) p ≡ None → ⊥)
          → (FitsIn (step 256 r) (after_part p) key → seek 0 (step 256 r) (after_part p) ≡ None → ⊥) → ⊥
      by (inl g) e one other = one g e.0
      by (inr g) e one other = other g.1 (rw g.0 at e.1)
