-- A file that is written anew behind its gate.
use Rattle.std.proofs.Common.{◌≡◌, ◌≢◌, ◌⊎◌, ℕ, ◌+◌, ◌<◌, ◌≤◌, List, [], ◌∷◌, ◌++◌, length, take, drop, get_or, refl, sym, ap, ◌∙◌, subst, arith, inl, inr}
use Rattle.std.proofs.lemmas.Bool.{cases_eq, cases_lt}
use Rattle.std.proofs.lemmas.List.{ext_get_or, length-take-le}
use Rattle.room_disk.specs.Crash.{overlaid, Overlays, Cuts, ReplacesEnd, Torn, KeepsFront, CutShort, IsGateLetter, GatedPartsTorn, IsAnew, AnewTorn}
use Rattle.room_disk.specs.Writing.{Then, TornThen}
use Rattle.room_disk.proofs.Overlay.{overlaid_first, overlaid_end, gate_whole}
use Rattle.room_disk.proofs.Fronts.{cut_keeps, keeps_then}

-- ---- parts behind a gate

pub gated_parts_torn : (at letter : ℕ) (bytes old new : List ℕ)
    → TornThen (KeepsFront (at + 1)) (Overlays (at + 1) bytes) (Torn at (letter ∷ [])) old new → GatedPartsTorn at letter bytes old new
gated_parts_torn at letter bytes old new (inl keeps) = inl keeps
gated_parts_torn at letter bytes old new (inr both) =
    let P : List ℕ → Type 0 = λ mid. Torn at (letter ∷ []) mid new in inr (subst P both.1 both.2)

-- ---- closing a gate

not_zero : (letter : ℕ) → IsGateLetter letter → letter ≢ 0
not_zero letter (inl is) zero = absurd (omega (arith, is, zero))
not_zero letter (inr (inl is)) zero = absurd (omega (arith, is, zero))
not_zero letter (inr (inr (inl is))) zero = absurd (omega (arith, is, zero))
not_zero letter (inr (inr (inr is))) zero = absurd (omega (arith, is, zero))

-- a file whose first byte is a letter isn't empty
some : (letter : ℕ) (file : List ℕ) → IsGateLetter letter → get_or file 0 0 ≡ letter → 0 < length file
some letter [] is reads = absurd (not_zero letter is (sym reads))
some letter (byte ∷ rest) is reads = omega arith

-- a torn single byte that reads as before
untouched : (old new : List ℕ) → Torn 0 (0 ∷ []) old new → get_or new 0 0 ≡ get_or old 0 0 → 0 < length old → new ≡ old
untouched old new torn kept inside = ext_get_or 0 _ _
    (omega (arith, torn.no_shorter, torn.no_longer))
    (λ k h. elim (cases_lt 0 k) [
      | inl later ↦ torn.behind k (omega arith) (omega (arith, torn.no_longer))
      | inr first ↦ (let here : k ≡ 0 = omega arith in rw here kept)
    ])

-- while the gate is closed the file is as it was, or its gate is closed
pub closing : (letter : ℕ) (old new : List ℕ) → IsGateLetter letter → Torn 0 (0 ∷ []) old new
    → (new ≡ old) ⊎ (get_or new 0 0 ≢ letter)
closing letter old new is torn =
    elim (cases_eq (get_or new 0 0) letter) [
      | inr shut ↦ inr shut
      | inl opens ↦ elim (torn.gate 0 refl (subst IsGateLetter (sym opens) is)) [
        | inl cleared ↦ absurd (not_zero letter is (sym opens ∙ cleared))
        | inr kept ↦ inl (untouched old new torn kept (some letter old is (sym kept ∙ opens)))
      ]
    ]

-- ---- writing the rest, and opening the gate

closed_front : (old mid : List ℕ) → Overlays 0 (0 ∷ []) old mid → mid ≡ 0 ∷ drop 1 old
closed_front old mid is = is ∙ overlaid_first (0 ∷ []) old 1 refl

-- the end is cut, and the bytes written in its place
pub replaced : (at : ℕ) (bytes old new : List ℕ) → at ≤ length old → Then (Cuts at) (Overlays at bytes) old new → ReplacesEnd at bytes old new
replaced at bytes old new inside both =
    both.2 ∙ ap (overlaid at bytes) both.1 ∙ overlaid_end at bytes (take at old) (sym (length-take-le at old inside))

closed_whole : (bytes old mid : List ℕ) → Then (Overlays 0 (0 ∷ [])) (ReplacesEnd 1 bytes) old mid → mid ≡ 0 ∷ bytes
closed_whole bytes old mid both = both.2 ∙ ap (λ (first : List ℕ). take 1 first ++ bytes) (closed_front old both.0 both.1)

opened : (letter : ℕ) (bytes : List ℕ) → overlaid 0 (letter ∷ []) (0 ∷ bytes) ≡ letter ∷ bytes
opened letter bytes = overlaid_first (letter ∷ []) (0 ∷ bytes) 1 refl

pub is_anew : (letter : ℕ) (bytes old new : List ℕ)
    → Then (Overlays 0 (0 ∷ [])) (Then (ReplacesEnd 1 bytes) (Overlays 0 (letter ∷ []))) old new → IsAnew letter bytes old new
is_anew letter bytes old new all =
    all.2.2 ∙ ap (overlaid 0 (letter ∷ [])) (closed_whole bytes old all.2.0 (all.0, all.1, all.2.1)) ∙ opened letter bytes

-- a file with its gate closed, of which what stands behind it is torn
shut_front : (letter : ℕ) (old mid new : List ℕ) → IsGateLetter letter → Overlays 0 (0 ∷ []) old mid → KeepsFront 1 mid new → get_or new 0 0 ≢ letter
shut_front letter old mid new is closed keeps opens =
    let front = closed_front old mid closed in
    let long : 0 < length mid = rw front (omega arith) in
    not_zero letter is (sym opens ∙ keeps.before 0 (omega arith) long ∙ ap (λ (bytes : List ℕ). get_or bytes 0 0) front)

-- opening a gate before what is whole
opening : (letter : ℕ) (bytes mid new : List ℕ) → mid ≡ 0 ∷ bytes → Torn 0 (letter ∷ []) mid new
    → (get_or new 0 0 ≢ letter) ⊎ (new ≡ letter ∷ bytes)
opening letter bytes mid new whole torn =
    elim (cases_eq (get_or new 0 0) letter) [
      | inr shut ↦ inl shut
      | inl opens ↦ inr (gate_whole 0 letter mid new (rw whole (omega arith)) torn opens ∙ ap (overlaid 0 (letter ∷ [])) whole ∙ opened letter bytes)
    ]

pub anew_torn : (letter : ℕ) (bytes old new : List ℕ) → IsGateLetter letter
    → TornThen (Torn 0 (0 ∷ [])) (Overlays 0 (0 ∷ [])) (TornThen (KeepsFront 1) (ReplacesEnd 1 bytes) (Torn 0 (letter ∷ []))) old new
    → AnewTorn letter bytes old new
anew_torn letter bytes old new is (inl torn) =
    elim (closing letter old new is torn) [ inl same ↦ inl same | inr shut ↦ inr (inl shut) ]
anew_torn letter bytes old new is (inr (mid, closed, inl keeps)) = inr (inl (shut_front letter old mid new is closed keeps))
anew_torn letter bytes old new is (inr (mid, closed, inr (whole, replaces, torn))) =
    inr (opening letter bytes whole new (closed_whole bytes old whole (mid, closed, replaces)) torn)

-- what stands before the end stays
pub replacing : (at : ℕ) (old new : List ℕ) → TornThen (CutShort at) (CutShort at) (KeepsFront at) old new → KeepsFront at old new
replacing at old new (inl cut) = cut_keeps at at old new (omega arith) cut
replacing at old new (inr both) = keeps_then at old both.0 new (cut_keeps at at old both.0 (omega arith) both.1) both.2
