-- What effects do, one and several.
use Rattle.std.proofs.Common.{◌≡◌, ℕ, ◌+◌, ◌-◌, ◌≤◌, ◌^◌, List, [], ◌∷◌, ◌++◌, min, if◌then◌else◌, refl, sym, ap, ◌∙◌, subst, arith, inl, inr}
use Rattle.std.proofs.lemmas.Bool.{cases_eq}
use Rattle.std.specs.Prelude.{Option, Some, None, IsTrue, Result, Ok, Err}
use Rattle.room_base.specs.Faults.{Rose}
use Rattle.room_base.specs.declared.refusal.Refusal.{Refusal}
use Rattle.room_disk.specs.Disk.{DiskView, IsDisk, Settled}
use Rattle.room_disk.specs.Laws.{if_same, if_other}
use Rattle.room_disk.specs.Writing.{WritesFile}
use Rattle.room_disk.proofs.Runs.{leaves_weaker, leaves_then}
use Rattle.room_effects.specs.View.{RoomView}
use Rattle.room_effects.specs.Effects.{Effect, Deed, Done, Broken, after, after_all}
use Rattle.room_effects.specs.Faults.{fault_of}
use Rattle.room_effects.specs.Files.{Torn, Whole, device_of, file_or_none, is_file, target}
use Rattle.room_effects.specs.Needs.{CanDo}
use Rattle.room_effects.specs.Running.{AllCan, AreFounded, Crashed, Does, FromOne, IsFounded, IsWritten, Known, Led, Performed, RanTo, Ready, failures, known_behind, known_behind_all, risen_by}
use Rattle.room_effects.proofs.Running.{after_append, can_append, written_append, crashed_append, crashed_front, failures_append, founded_behind, founded_front, known_append, led_append}
use Rattle.room_effects.proofs.OneFile.{images_of_broken, images_of_done, moments_of, reads_of_broken, reads_of_done}

-- ---- one effect that writes a file

failures_on : (device : Option ℕ) (file before now : ℕ) → before ≤ now → (file_or_none device ≡ file → Rose before now)
    → risen_by ((if is_file file device then 1 else 0) + 0) before ≤ now
failures_on None file before now later rose = omega arith
failures_on (Some device) file before now later rose =
    elim (cases_eq device file) [
      | inl same ↦ rw (if_same {A = ℕ} device file 1 0 same) (let up : min (before + 1) (2 ^ 64 - 1) ≤ now = rose same in omega arith)
      | inr apart ↦ rw (if_other {A = ℕ} device file 1 0 apart) (omega arith)
    ]

-- a count that rose covers the failure
pub failures_of_broken : (effect : Effect) (room : RoomView) (file before now : ℕ) → before ≤ now
    → (target effect room ≡ file → Rose before now) → risen_by (failures file (Broken effect ∷ []) room) before ≤ now
failures_of_broken effect room file before now later rose = failures_on (device_of effect room) file before now later rose

-- what stays of a room that was ready, where the effect was done or broke
abbrev pub KeepsReady : Deed → Effect → RoomView → DiskView → DiskView → Type 0
KeepsReady deed effect room before now = (known : Known) → IsFounded known effect → Ready known room before
    → Settled before (target effect room) × Ready (known_behind known deed room) (after deed room) now

pub does_done : {T U E : Type 0} (effect : Effect) (value : T) (lower : U) (room new : RoomView) (before now : DiskView) → CanDo effect room → IsWritten effect
    → new ≡ after (Done effect) room → IsDisk before
    → WritesFile {T = U} {E = E} (target effect room) (Whole effect room) (Torn effect room) before now (Ok lower)
    → (IsTrue before.tells → KeepsReady (Done effect) effect room before now)
    → Does {T = T} (effect ∷ []) (Ok value) room new before now
does_done {T} {U} {E} effect value lower room new before now can written is is_before wrote keeps = record {
  deeds = Done effect ∷ [];
  ran = (refl, tt);
  performed = record {
    room = is;
    can = (can, tt);
    written = (written, tt);
    tells = wrote.tells;
    faults = λ file. omega (arith, wrote.cause.later file);
    told = λ told known founded ready. (let both = keeps told known founded.0 ready in
        let P : RoomView → Type 0 = λ one. Ready (known_behind known (Done effect) room) one now in
        record {
          ready = subst P (sym is) both.1;
          reads = reads_of_done {T = U} {E = E} effect room before now lower told wrote;
          images = images_of_done {T = U} {E = E} effect room before now lower is_before told wrote;
          moments = moments_of {T = U} {E = E} (Done effect) room before now (Ok lower) told wrote;
        });
  };
}

pub does_broken : {T U E : Type 0} (effect : Effect) (fault : Refusal) (error : E) (room new : RoomView) (before now : DiskView) → CanDo effect room → IsWritten effect
    → new ≡ after (Broken effect) room → fault_of effect room ≡ Some fault → IsDisk now
    → WritesFile {T = U} {E = E} (target effect room) (Whole effect room) (Torn effect room) before now (Err error)
    → (IsTrue before.tells → KeepsReady (Broken effect) effect room before now)
    → Does {T = T} (effect ∷ []) (Err fault) room new before now
does_broken {T} {U} {E} effect fault error room new before now can written is named is_now wrote keeps = record {
  deeds = Broken effect ∷ [];
  ran = (refl, named);
  performed = record {
    room = is;
    can = (can, tt);
    written = (written, tt);
    tells = wrote.tells;
    faults = λ file. failures_of_broken effect room file (before.faults file) (now.faults file) (wrote.cause.later file)
        (λ same. let P : ℕ → Type 0 = λ n. Rose (before.faults n) (now.faults n) in subst P same wrote.cause.cause);
    told = λ told known founded ready. (let both = keeps told known founded.0 ready in
        let P : RoomView → Type 0 = λ one. Ready (known_behind known (Broken effect) room) one now in
        record {
          ready = subst P (sym is) both.1;
          reads = reads_of_broken {T = U} {E = E} effect room before now (Err error) is_now told both.0 wrote;
          images = images_of_broken {T = U} {E = E} effect room before now (Err error) told wrote;
          moments = moments_of {T = U} {E = E} (Broken effect) room before now (Err error) told wrote;
        });
  };
}

-- ---- runs

pub performed_none : (room : RoomView) (disk : DiskView) → Performed [] room room disk disk
performed_none room disk = record {
  room = refl;
  can = tt;
  written = tt;
  tells = refl;
  faults = λ file. omega arith;
  told = λ told known founded ready. record {
    ready = ready;
    reads = refl;
    images = λ image is. (image, is, refl);
    moments = record { later = omega arith; each = λ moment image le left. inl left };
  };
}

risen_twice : (first more count mid now : ℕ) → risen_by first count ≤ mid → risen_by more mid ≤ now → risen_by (first + more) count ≤ now
risen_twice first more count mid now one two = omega (arith, one, two)

pub performed_then : (first more : List Deed) (a b c : RoomView) (old mid new : DiskView) → Performed first a b old mid
    → Performed more b c mid new → Performed (first ++ more) a c old new
performed_then first more a b c old mid new one two =
    let Cans : RoomView → Type 0 = λ from. AllCan more from in
    let Fails : (file : ℕ) → RoomView → Type 0 = λ file from. risen_by (failures file more from) (mid.faults file) ≤ new.faults file in
    record {
      room = two.room ∙ ap (after_all more) one.room ∙ sym (after_append first more a);
      can = can_append first more a one.can (subst Cans one.room two.can);
      written = written_append first more one.written two.written;
      tells = two.tells ∙ one.tells;
      faults = λ file. (let P : ℕ → Type 0 = λ times. risen_by times (old.faults file) ≤ new.faults file in
          subst P (sym (failures_append file first more a))
          (risen_twice (failures file first a) (failures file more (after_all first a)) (old.faults file) (mid.faults file) (new.faults file)
          (one.faults file) (subst (Fails file) one.room (two.faults file))));
      told = λ told known founded ready.
          (let later = known_behind_all known first a in
          let left = one.told told known (founded_front known first more a founded) ready in
          let Tells : IsTrue mid.tells = rw one.tells told in
          let Founds : RoomView → Type 0 = λ from. AreFounded later more from in
          let right = two.told Tells later (subst Founds (sym one.room) (founded_behind known first more a founded)) left.ready in
          record {
            ready = (let P : RoomView → Type 0 = λ from. Ready (known_behind_all later more from) c new in
                let Q : Known → Type 0 = λ all. Ready all c new in
                subst Q (sym (known_append known first more a)) (subst P one.room right.ready));
            reads = (let P : RoomView → Type 0 = λ from. Led more from mid.reads new.reads in
                led_append first more a old.reads mid.reads new.reads left.reads (subst P one.room right.reads));
            images = λ image is. (let last = right.images image is in
                let start = left.images last.0 last.1 in
                let P : RoomView → Type 0 = λ from. Led more from last.0 image in
                (start.0, start.1, led_append first more a start.0 last.0 image start.2 (subst P one.room last.2)));
            moments = leaves_then old mid new (FromOne old (Crashed (first ++ more) a))
                (leaves_weaker old mid (FromOne old (Crashed first a)) (FromOne old (Crashed (first ++ more) a)) left.moments
                (λ image from. (from.0, from.1, crashed_front first more a from.0 image from.2)))
                (leaves_weaker mid new (FromOne mid (Crashed more b)) (FromOne old (Crashed (first ++ more) a)) right.moments
                (λ image from. (let start = left.images from.0 from.1 in
                let P : RoomView → Type 0 = λ here. Crashed more here from.0 image in
                (start.0, start.1, crashed_append first more a start.0 from.0 image start.2 (subst P one.room from.2)))));
          });
    }

-- ---- effects one behind the other

ran_then : {T U : Type 0} (first more : List Effect) (room : RoomView) (value : T) (answer : Result U Refusal) (done next : List Deed)
    → RanTo {T = T} first room (Ok value) done → RanTo more (after_all done room) answer next → RanTo (first ++ more) room answer (done ++ next)
ran_then [] more room value answer [] next one two = two
ran_then [] more room value answer (deed ∷ done) next one two = absurd one
ran_then (effect ∷ first) more room value answer [] next one two = absurd one
ran_then (effect ∷ first) more room value answer (Done did ∷ done) next one two =
    (one.0, ran_then first more (after (Done did) room) value answer done next one.1 two)
ran_then (effect ∷ first) more room value answer (Broken did ∷ done) next one two = absurd one

ran_stop : (T U : Type 0) (first more : List Effect) (room : RoomView) (fault : Refusal) (deeds : List Deed)
    → RanTo {T = T} first room (Err fault) deeds → RanTo {T = U} (first ++ more) room (Err fault) deeds
ran_stop T U [] more room fault [] one = absurd one
ran_stop T U [] more room fault (deed ∷ deeds) one = absurd one
ran_stop T U (effect ∷ first) more room fault [] one = absurd one
ran_stop T U (effect ∷ first) more room fault (Done did ∷ deeds) one = (one.0, ran_stop T U first more (after (Done did) room) fault deeds one.1)
ran_stop T U (effect ∷ first) more room fault (Broken did ∷ []) one = one
ran_stop T U (effect ∷ first) more room fault (Broken did ∷ (deed ∷ deeds)) one = absurd one

-- no effects
pub does_none : {T : Type 0} (value : T) (room : RoomView) (disk : DiskView) → Does {T = T} [] (Ok value) room room disk disk
does_none value room disk = record { deeds = []; ran = tt; performed = performed_none room disk }

-- effects that are all done, and more behind them
pub does_append : {T U : Type 0} (first more : List Effect) (value : T) (answer : Result U Refusal) (a b c : RoomView) (old mid new : DiskView)
    → Does {T = T} first (Ok value) a b old mid → Does {T = U} more answer b c mid new → Does {T = U} (first ++ more) answer a c old new
does_append {T} {U} first more value answer a b c old mid new one two = record {
  deeds = one.deeds ++ two.deeds;
  ran = (let P : RoomView → Type 0 = λ from. RanTo {T = U} more from answer two.deeds in
      ran_then {T = T} {U = U} first more a value answer one.deeds two.deeds one.ran (subst P one.performed.room two.ran));
  performed = performed_then one.deeds two.deeds a b c old mid new one.performed two.performed;
}

-- one effect that is done, and more behind it
pub does_then : {T U : Type 0} (effect : Effect) (more : List Effect) (value : T) (answer : Result U Refusal) (a b c : RoomView) (old mid new : DiskView)
    → Does {T = T} (effect ∷ []) (Ok value) a b old mid → Does {T = U} more answer b c mid new → Does {T = U} (effect ∷ more) answer a c old new
does_then {T} {U} effect more value answer a b c old mid new one two =
    does_append {T = T} {U = U} (effect ∷ []) more value answer a b c old mid new one two

-- effects that stop at one that fails, before more that aren't begun
pub does_stop : {T U : Type 0} (first more : List Effect) (fault : Refusal) (a b : RoomView) (old new : DiskView)
    → Does {T = T} first (Err fault) a b old new → Does {T = U} (first ++ more) (Err fault) a b old new
does_stop {T} {U} first more fault a b old new one = record {
  deeds = one.deeds;
  ran = ran_stop T U first more a fault one.deeds one.ran;
  performed = one.performed;
}

-- the same effects with another answer
pub does_instead : {T U : Type 0} (effects : List Effect) (value : T) (other : U) (a b : RoomView) (old new : DiskView)
    → Does {T = T} effects (Ok value) a b old new → Does {T = U} effects (Ok other) a b old new
does_instead {T} {U} effects value other a b old new one = record {
  deeds = one.deeds;
  ran = ran_instead effects a one.deeds one.ran;
  performed = one.performed;
}
  where
    ran_instead : (effects : List Effect) (room : RoomView) (deeds : List Deed) → RanTo {T = T} effects room (Ok value) deeds → RanTo {T = U} effects room (Ok other) deeds
    ran_instead [] room [] ran = tt
    ran_instead [] room (deed ∷ deeds) ran = absurd ran
    ran_instead (effect ∷ effects) room [] ran = absurd ran
    ran_instead (effect ∷ effects) room (Done did ∷ deeds) ran = (ran.0, ran_instead effects (after (Done did) room) deeds ran.1)
    ran_instead (effect ∷ effects) room (Broken did ∷ deeds) ran = absurd ran

pub does_fault : {T U : Type 0} (effects : List Effect) (fault : Refusal) (a b : RoomView) (old new : DiskView)
    → Does {T = T} effects (Err fault) a b old new → Does {T = U} effects (Err fault) a b old new
does_fault {T} {U} effects fault a b old new one = record {
  deeds = one.deeds;
  ran = ran_fault effects a one.deeds one.ran;
  performed = one.performed;
}
  where
    ran_fault : (effects : List Effect) (room : RoomView) (deeds : List Deed) → RanTo {T = T} effects room (Err fault) deeds → RanTo {T = U} effects room (Err fault) deeds
    ran_fault [] room [] ran = absurd ran
    ran_fault [] room (deed ∷ deeds) ran = absurd ran
    ran_fault (effect ∷ effects) room [] ran = absurd ran
    ran_fault (effect ∷ effects) room (Done did ∷ deeds) ran = (ran.0, ran_fault effects (after (Done did) room) deeds ran.1)
    ran_fault (effect ∷ effects) room (Broken did ∷ []) ran = ran
    ran_fault (effect ∷ effects) room (Broken did ∷ (deed ∷ deeds)) ran = absurd ran
