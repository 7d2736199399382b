-- Parts that are written one behind the other, and what stands before them.
use Rattle.std.proofs.Common.{◌≡◌, ℕ, ◌+◌, ◌<◌, ◌≤◌, List, [], ◌∷◌, ◌++◌, length, take, get_or, refl, sym, ap, ◌∙◌, arith, Bor, inl, inr}
use Rattle.std.specs.Prelude.{Result, Ok}
use Rattle.std.proofs.lemmas.List.{take_more, append-nil, ext_get_or}
use Rattle.std.proofs.lemmas.Bool.{cases_lt}
use Rattle.std.proofs.lemmas.Grind.{flat_map-append}
use Rattle.room_base.specs.declared.fault.Failed.{Failed}
use Rattle.room_base.specs.Outside.{Told}
use Rattle.room_disk.specs.Crash.{overlaid, Overlays, Torn, CutShort, KeepsFront, all_bytes}
use Rattle.room_disk.specs.Disk.{DiskView, OnFile}
use Rattle.room_disk.specs.Writing.{ComesOf, ChangesFile, Then}
use Rattle.room_disk.proofs.Overlay.{overlaid_more, overlaid-before, overlaid-behind, length-overlaid}
use Rattle.room_disk.proofs.Runs.{leaves_none, others_none, quiet_none}
use Rattle.room_disk.proofs.Writing.{changes_more, changes_weaker}

pub keeps_none : (place : ℕ) (bytes : List ℕ) → KeepsFront place bytes bytes
keeps_none place bytes = record { before = λ at below inside. refl; no_shorter = omega arith }

pub keeps_then : (place : ℕ) (old mid new : List ℕ) → KeepsFront place old mid → KeepsFront place mid new → KeepsFront place old new
keeps_then place old mid new first second = record {
  before = λ at below inside. second.before at below (omega (arith, first.no_shorter)) ∙ first.before at below inside;
  no_shorter = omega (arith, first.no_shorter, second.no_shorter);
}

pub keeps_less : (place less : ℕ) (old new : List ℕ) → less ≤ place → KeepsFront place old new → KeepsFront less old new
keeps_less place less old new le keeps = record {
  before = λ at below inside. keeps.before at (omega (arith, le)) inside;
  no_shorter = omega (arith, le, keeps.no_shorter);
}

-- a write from the place on
pub torn_keeps : (place at : ℕ) (bytes old new : List ℕ) → place ≤ at → Torn at bytes old new → KeepsFront place old new
torn_keeps place at bytes old new le torn = record {
  before = λ byte below inside. torn.before byte (omega (arith, le)) inside;
  no_shorter = omega (arith, torn.no_shorter);
}

-- a cut at the place or behind it
pub cut_keeps : (place to : ℕ) (old new : List ℕ) → place ≤ to → CutShort to old new → KeepsFront place old new
cut_keeps place to old new le cut = record {
  before = λ at below inside. cut.before at (omega (arith, le)) inside;
  no_shorter = omega (arith, le, cut.no_shorter);
}

-- one part more
pub all_bytes-more : (parts : List (Bor (List ℕ))) (index : ℕ) (other : Bor (List ℕ)) → index < length parts
    → all_bytes (take (index + 1) parts) ≡ all_bytes (take index parts) ++ (get_or parts index other).now
all_bytes-more parts index other inside =
    ap all_bytes (take_more parts index other inside)
    ∙ flat_map-append (λ (part : Bor (List ℕ)). part.now) (take index parts) (get_or parts index other ∷ [])
    ∙ ap (λ (bytes : List ℕ). all_bytes (take index parts) ++ bytes) (append-nil (get_or parts index other).now)

-- no part
pub overlaid_none : (at : ℕ) (file : List ℕ) → at ≤ length file → overlaid at [] file ≡ file
overlaid_none at file inside =
    ext_get_or 0 _ _ (omega (arith, inside, length-overlaid at [] file))
    (λ k h. elim (cases_lt k at) [
      | inl low ↦ overlaid-before at [] file k low
      | inr from ↦ overlaid-behind at [] file k (omega arith)
    ])

pub no_parts : (file at : ℕ) (disk : DiskView) → Told disk.tells (at ≤ length (disk.reads file))
    → ChangesFile {T = Unit {0}} {E = Failed} file (Overlays at []) (KeepsFront at) disk disk (Ok tt)
no_parts file at disk inside = record {
  cause = record { later = λ other. omega arith; cause = tt };
  tells = refl;
  others = λ told. others_none file disk;
  whole = λ told. sym (overlaid_none at (disk.reads file) (inside told));
  torn = λ told bytes left. (bytes, left, keeps_none at bytes);
  moments = λ told. leaves_none disk disk (OnFile file (ComesOf (KeepsFront at) disk file) disk) (quiet_none disk);
}

-- one part behind the others
pub one_more_part : {E : Type 0} {answer : Result (Unit {0}) E} (file at next : ℕ) (bytes part : List ℕ) (before mid now : DiskView)
    → ChangesFile {T = Unit {0}} {E = Failed} file (Overlays at bytes) (KeepsFront at) before mid (Ok tt)
    → next ≡ at + length bytes → ChangesFile file (Overlays next part) (Torn next part) mid now answer
    → ChangesFile file (Overlays at (bytes ++ part)) (KeepsFront at) before now answer
one_more_part file at next bytes part before mid now first ends more =
    changes_weaker (Then (Overlays at bytes) (Overlays next part)) (KeepsFront at)
    (changes_more mid (keeps_then at) first
    (changes_weaker (Overlays next part) (Torn next part) more (λ old new whole. whole) (λ old new torn. torn_keeps at next part old new (omega (arith, ends)) torn)))
    (λ old new both. both.2 ∙ ap (overlaid next part) both.1 ∙ ap (λ (place : ℕ). overlaid place part (overlaid at bytes old)) ends ∙ overlaid_more at bytes part old)
    (λ old new torn. torn)
