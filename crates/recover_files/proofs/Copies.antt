-- What the copies of a save set give, one after the other.
use Rattle.std.proofs.Common.{◌≡◌, ℕ, ◌+◌, ◌<◌, ◌≤◌, List, [], ◌∷◌, ◌++◌, ◌-◌, length, Some, None, refl, sym, ap, subst, ◌∙◌, arith, inl, inr}
use Rattle.std.specs.Prelude.{Option, Ok, Err, slice_index, if◌then◌else◌}
use Rattle.std.specs.List.{find}
use Rattle.std.specs.Option.{option_map, option_and_then}
use Rattle.room_base.specs.declared.numbers.Cart.{Cart}
use Rattle.room_base.specs.declared.numbers.Volid.{Volid}
use Rattle.volume_store.specs.Writes.{cart_file}
use Rattle.media_db.specs.Edits.{is_done}
use Rattle.media_db.specs.declared.copies.CopyState.{CopyState}
use Rattle.media_db.specs.declared.copies.CopyState.TheVariants as states
use Rattle.media_db.specs.declared.copies.Section.{Section}
use Rattle.media_db.specs.declared.copies.SetCopy.{SetCopy}
use Rattle.media_db.specs.declared.volumes.VolumeRec.{VolumeRec}
use Rattle.recover_files.specs.Sections.{SectionGives, SectionLacks}
use Rattle.recover_files.specs.Stages.{CopiesRun, BlamesOrFails, IsFailed, IsRun, HasBounds}
use Rattle.recover_files.specs.StreamAt.{Follow, HasSections, covers_place, section_at, cart_at_home, spot_of, spot_at, Shelf, bytes_of, CopyGives, CopyLacks, CopiesGive, CopiesLack, CopiesAnswer, copies_in, StreamAt, AreBytes, GivesRange}
use Rattle.recover_files.specs.declared.run.Run.{Run}
use Rattle.recover_files.specs.declared.fault.RangeFault.{RangeFault}
use Rattle.recover_files.specs.declared.fault.RangeFault.TheVariants as faults
use Rattle.media_db.specs.Rows.{find_record}
use Rattle.media_db.specs.declared.records.Record.{Record}
use Rattle.room_disk.specs.Disk.{DiskView, Quiet}
use Rattle.std.proofs.lemmas.Bool.{cases_lt}
use Rattle.std.proofs.Math.ListN.{get_or-append}
use Rattle.std.proofs.lemmas.List.{get_or-append_right}
use mathlib.Core.Path.{fun_ext}
use Rattle.recover_files.specs.declared.spots.Spot.{Spot}
use Rattle.recover_files.proofs.Covering.{IsCovering, found_covers, same_later, none_later}

-- ---- the section of a copy

covers_in : (state : CopyState) (place : ℕ) (sections : List Section) (section : Section) → Follow 0 sections
    → (if is_done state then find (covers_place place) sections else None) ≡ Some section → IsCovering place 0 section
covers_in states.Begun place sections section follow is = absurd (cc is)
covers_in states.Done place sections section follow is = found_covers place sections 0 section follow is

-- the section of a copy at a place covers it
pub covers_here : (place : ℕ) (copy : SetCopy) (section : Section) → HasSections copy → section_at place copy ≡ Some section → place < section.to
covers_here place copy section follow is = (covers_in copy.state place copy.sections section follow is).ends

same_in : (state : CopyState) (place i : ℕ) (sections : List Section) (section : Section) → Follow 0 sections
    → (if is_done state then find (covers_place place) sections else None) ≡ Some section → place + i < section.to
    → (if is_done state then find (covers_place (place + i)) sections else None) ≡ Some section
same_in states.Begun place i sections section follow is inside = absurd (cc is)
same_in states.Done place i sections section follow is inside = same_later place i sections 0 section follow is inside

same_section : (place i : ℕ) (copy : SetCopy) (section : Section) → HasSections copy → section_at place copy ≡ Some section → place + i < section.to
    → section_at (place + i) copy ≡ Some section
same_section place i copy section follow is inside = same_in copy.state place i copy.sections section follow is inside

none_in : (state : CopyState) (place i : ℕ) (sections : List Section) → Follow 0 sections
    → (if is_done state then find (covers_place place) sections else None) ≡ None
    → (if is_done state then find (covers_place (place + i)) sections else None) ≡ None
none_in states.Begun place i sections follow is = refl
none_in states.Done place i sections follow is = none_later place i sections 0 follow (omega arith) is

no_section : (place i : ℕ) (copy : SetCopy) → HasSections copy → section_at place copy ≡ None → section_at (place + i) copy ≡ None
no_section place i copy follow is = none_in copy.state place i copy.sections follow is

-- ---- what a copy gives

-- a copy lacks what it has no section for
pub copy_without : (shelf : Shelf) (ssid place most : ℕ) (copy : SetCopy) (into : List ℕ) → HasSections copy → section_at place copy ≡ None
    → IsRun (CopyGives shelf ssid copy) (CopyLacks shelf ssid copy) place into (record { count = 0; clear = most })
copy_without shelf ssid place most copy into follow none = record {
  given = λ i below. absurd (omega (arith, below));
  clear = λ zero i below spot at.
      absurd (cc (sym at ∙ ap (λ (s : Option Section). option_and_then (spot_of shelf.volumes shelf.home) s) (no_section place i copy follow none)));
}

-- the spot at a place of a section
spot_there : (volumes : List VolumeRec) (home : List Volid) (place i : ℕ) (copy : SetCopy) (section : Section) (found : Option Cart) → HasSections copy
    → section_at place copy ≡ Some section → found ≡ cart_at_home volumes home section.volid → place + i < section.to
    → spot_at volumes home (place + i) copy ≡ option_map (λ cart. record { section = section; cart = cart }) found
spot_there volumes home place i copy section found follow is home_is inside =
    ap (λ (s : Option Section). option_and_then (spot_of volumes home) s) (same_section place i copy section follow is inside)
    ∙ ap (λ (c : Option Cart). option_map (λ cart. record { section = section; cart = cart }) c) (sym home_is)

-- a copy lacks what is on a volume that isn't in a slot
pub copy_away : (shelf : Shelf) (ssid place most : ℕ) (copy : SetCopy) (section : Section) (into : List ℕ) → HasSections copy
    → section_at place copy ≡ Some section → None ≡ cart_at_home shelf.volumes shelf.home section.volid → place + most ≤ section.to
    → IsRun (CopyGives shelf ssid copy) (CopyLacks shelf ssid copy) place into (record { count = 0; clear = most })
copy_away shelf ssid place most copy section into follow is away inside = record {
  given = λ i below. absurd (omega (arith, below));
  clear = λ zero i below spot at.
      absurd (cc (sym at ∙ spot_there shelf.volumes shelf.home place i copy section None follow is away (omega (arith, below, inside))));
}

same_spot : (one other : Spot) → Some one ≡ Some other → one ≡ other
same_spot one other same = cc same

-- a copy gives what its section gives
pub copy_home : (shelf : Shelf) (ssid place most : ℕ) (copy : SetCopy) (section : Section) (cart : Cart) (into : List ℕ) (run : Run) → HasSections copy
    → section_at place copy ≡ Some section → Some cart ≡ cart_at_home shelf.volumes shelf.home section.volid → place + most ≤ section.to
    → HasBounds most run
    → IsRun (SectionGives (shelf.reads (cart_file cart.0)) section ssid copy.no.0) (SectionLacks (shelf.reads (cart_file cart.0)) section ssid copy.no.0) place into run
    → IsRun (CopyGives shelf ssid copy) (CopyLacks shelf ssid copy) place into run
copy_home shelf ssid place most copy section cart into run follow is home inside bounds run_is =
    let there : Spot = record { section = section; cart = cart } in
    let at_place : (i : ℕ) → i < most → spot_at shelf.volumes shelf.home (place + i) copy ≡ Some there =
    λ i below. spot_there shelf.volumes shelf.home place i copy section (Some cart) follow is home (omega (arith, below, inside)) in
    record {
      given = λ i below. record {
        spot = there;
        at = at_place i (omega (arith, below, bounds.count));
        gives = run_is.given i below;
      };
      clear = λ zero i below spot at.
          (let same : there ≡ spot = same_spot there spot (sym (at_place i (omega (arith, below, bounds.clear))) ∙ at) in
          let Lacks : Spot → Type 0 = λ (s : Spot). SectionLacks (bytes_of shelf s) s.section ssid copy.no.0 (place + i) in
          subst Lacks same (run_is.clear zero i below));
    }

-- ---- copies in their order

-- The copies up to the rest lack the bytes that are clear.
pub record HasPassed (shelf : Shelf) (ssid place clear : ℕ) (copies rest : List SetCopy) : Type 0 where
  pub gives : (i byte : ℕ) → i < clear → CopiesGive shelf ssid rest (place + i) byte → CopiesGive shelf ssid copies (place + i) byte
  pub lacks : (i : ℕ) → i < clear → CopiesLack shelf ssid rest (place + i) → CopiesLack shelf ssid copies (place + i)

pub pass_none : (shelf : Shelf) (ssid place clear : ℕ) (copies : List SetCopy) → HasPassed shelf ssid place clear copies copies
pass_none shelf ssid place clear copies = record { gives = λ i byte below given. given; lacks = λ i below lacking. lacking }

pub pass_more : (shelf : Shelf) (ssid place clear : ℕ) (copies : List SetCopy) (copy : SetCopy) (rest : List SetCopy) (into : List ℕ) (run : Run)
    → HasPassed shelf ssid place clear copies (copy ∷ rest) → HasBounds clear run
    → IsRun (CopyGives shelf ssid copy) (CopyLacks shelf ssid copy) place into run → run.count ≡ 0
    → HasPassed shelf ssid place run.clear copies rest
pass_more shelf ssid place clear copies copy rest into run passed bounds is none = record {
  gives = λ i byte below given. passed.gives i byte (omega (arith, below, bounds.clear)) (inr (is.clear none i below, given));
  lacks = λ i below lacking. passed.lacks i (omega (arith, below, bounds.clear)) (is.clear none i below, lacking);
}

pub pass_gives : (shelf : Shelf) (ssid place clear : ℕ) (copies : List SetCopy) (copy : SetCopy) (rest : List SetCopy) (into : List ℕ) (run : Run)
    → HasPassed shelf ssid place clear copies (copy ∷ rest) → HasBounds clear run
    → IsRun (CopyGives shelf ssid copy) (CopyLacks shelf ssid copy) place into run
    → (i : ℕ) → i < run.count → CopiesGive shelf ssid copies (place + i) (slice_index into i)
pass_gives shelf ssid place clear copies copy rest into run passed bounds is i below =
    passed.gives i (slice_index into i) (omega (arith, below, bounds.count)) (inl (is.given i below))

pub pass_all : (shelf : Shelf) (ssid place clear : ℕ) (copies rest : List SetCopy) → HasPassed shelf ssid place clear copies rest → rest ≡ [] → 1 ≤ clear
    → CopiesLack shelf ssid copies place
pass_all shelf ssid place clear copies rest passed ended some =
    let here : place + 0 ≡ place = omega arith in
    let none : CopiesLack shelf ssid rest (place + 0) = subst (λ (l : List SetCopy). CopiesLack shelf ssid l (place + 0)) (sym ended) tt in
    subst (λ (n : ℕ). CopiesLack shelf ssid copies n) here (passed.lacks 0 (omega (arith, some)) none)

-- where no copy gives the byte, and it isn't that the disk failed
pub blames_run : (shelf : Shelf) (ssid : ℕ) (copies : List SetCopy) (place : ℕ) (bytes : List ℕ) (fault : RangeFault) → CopiesLack shelf ssid copies place
    → BlamesOrFails shelf copies place fault → CopiesRun shelf ssid copies place bytes (Err fault)
blames_run shelf ssid copies place bytes (faults.Offsite volid) lacks blames = (lacks, blames)
blames_run shelf ssid copies place bytes (faults.Damaged volid block) lacks blames = (lacks, blames)
blames_run shelf ssid copies place bytes (faults.Failed file) lacks blames = tt

pub failed_run : (shelf : Shelf) (ssid : ℕ) (copies : List SetCopy) (place : ℕ) (bytes : List ℕ) (fault : RangeFault) → IsFailed fault
    → CopiesRun shelf ssid copies place bytes (Err fault)
failed_run shelf ssid copies place bytes (faults.Offsite volid) failed = absurd failed
failed_run shelf ssid copies place bytes (faults.Damaged volid block) failed = absurd failed
failed_run shelf ssid copies place bytes (faults.Failed file) failed = tt

-- ---- a range

-- what a disk that was only read reads
pub same_reads : (old new : DiskView) → Quiet old new → new.reads ≡ old.reads
same_reads old new quiet = fun_ext quiet.reads

-- more bytes of a range
pub range_more : (shelf : Shelf) (rows : List Record) (row : Record) (ssid from done count : ℕ) (front rest new : List ℕ) → find_record ssid rows ≡ Some row
    → length front ≡ done → AreBytes shelf rows ssid from done (front ++ rest)
    → CopiesRun shelf ssid row.copies (from + done) new (Ok count)
    → AreBytes shelf rows ssid from (done + count) (front ++ new)
range_more shelf rows row ssid from done count front rest new found long given run i below = elim (cases_lt i done) [
  | inl before ↦ (
      let old : slice_index (front ++ new) i ≡ slice_index (front ++ rest) i =
      get_or-append front new 0 i (omega (arith, before, long)) ∙ sym (get_or-append front rest 0 i (omega (arith, before, long))) in
      subst (λ (b : ℕ). StreamAt shelf rows ssid (from + i) (Ok b)) (sym old) (given i before))
  | inr behind ↦ (
      let there : i ≡ done + (i - done) = omega (arith, behind) in
      let byte : slice_index (front ++ new) i ≡ slice_index new (i - done) =
      get_or-append_right front new done i 0 long behind in
      let place : from + done + (i - done) ≡ from + i = omega (arith, behind) in
      let gives = run (i - done) (omega (arith, below, behind)) in
      let here = subst (λ (n : ℕ). CopiesGive shelf ssid row.copies n (slice_index new (i - done))) place gives in
      let all = subst (λ (copies : List SetCopy). CopiesGive shelf ssid copies (from + i) (slice_index new (i - done))) (sym (ap copies_in found)) here in
      subst (λ (b : ℕ). StreamAt shelf rows ssid (from + i) (Ok b)) (sym byte) all)
]

-- the first byte of a range that can't be had
pub range_fails : (shelf : Shelf) (rows : List Record) (row : Record) (ssid from done : ℕ) (front rest new : List ℕ) (fault : RangeFault)
    → find_record ssid rows ≡ Some row → length front ≡ done → AreBytes shelf rows ssid from done (front ++ rest) → length new ≡ length rest
    → done < length (front ++ new)
    → CopiesRun shelf ssid row.copies (from + done) new (Err fault) → GivesRange {T = Unit {0}} shelf rows ssid from (front ++ new) (Err fault)
range_fails shelf rows row ssid from done front rest new (faults.Offsite volid) found long given same within fails =
    let none : done + 0 ≡ done = omega arith in
    let before = range_more shelf rows row ssid from done 0 front rest new found long given (λ i below. absurd (omega (arith, below))) in
    record {
      count = done;
      within = within;
      before = subst (λ (n : ℕ). AreBytes shelf rows ssid from n (front ++ new)) none before;
      fails = subst (λ (copies : List SetCopy). CopiesAnswer shelf ssid copies (from + done) (Err (faults.Offsite volid))) (sym (ap copies_in found)) fails;
    }
range_fails shelf rows row ssid from done front rest new (faults.Damaged volid block) found long given same within fails =
    let none : done + 0 ≡ done = omega arith in
    let before = range_more shelf rows row ssid from done 0 front rest new found long given (λ i below. absurd (omega (arith, below))) in
    record {
      count = done;
      within = within;
      before = subst (λ (n : ℕ). AreBytes shelf rows ssid from n (front ++ new)) none before;
      fails = subst (λ (copies : List SetCopy). CopiesAnswer shelf ssid copies (from + done) (Err (faults.Damaged volid block))) (sym (ap copies_in found)) fails;
    }
range_fails shelf rows row ssid from done front rest new (faults.Failed file) found long given same within fails = tt
