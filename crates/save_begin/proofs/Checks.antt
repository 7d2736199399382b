-- What checks come to, one behind the other, and what they tell of a save.
use Rattle.std.proofs.Common.{◌≡◌, ℕ, ◌<◌, Bool, true, false, length, refl, sym, ap, subst, arith, inl}
use Rattle.std.proofs.lemmas.Bool.Decides.{nat_tests}
use Rattle.std.specs.Prelude.{◌⊎◌, Result, Ok, Err, nat_lt, codes}
use Rattle.room_base.specs.declared.numbers.Moment.{Moment}
use Rattle.room_base.specs.declared.refusal.Refusal.{Refusal}
use Rattle.room_base.specs.declared.refusal.Refusal.TheVariants.{Malformed, NoMemory, SessionsFull}
use Rattle.catalog_change.specs.Resources.{IsSetName}
use Rattle.room_effects.specs.View.{RoomView}
use Rattle.room_effects.specs.Checked.{behind_check, unless}
use Rattle.save_begin.specs.declared.asked.Allowed.{Allowed}
use Rattle.save_begin.specs.declared.asked.Asked.{Asked}
use Rattle.save_begin.specs.Asking.{AnswersFor, AreAllowed, IsClientAsked, IsGroupAsked, Tells, begin_checks, busy_with, count_checks, field_checks, free_checks, is_level, level_check, level_checks, max_sessions, named_checks, none_busy, there_checks}
use Rattle.save_begin.specs.Fitting.{MayBegin}

-- ---- one check behind another

module _ {X Y : Type 0} (first : Result X Refusal) (next : X → Result Y Refusal) where
  pub answers_behind : (value : X) (answer : Result Y Refusal) → first ≡ Ok value → AnswersFor {X = Y} (next value) answer → AnswersFor {X = Y} (behind_check first next) answer
  answers_behind value answer is other =
      let A : Result X Refusal → Type 0 = λ it. AnswersFor {X = Y} (behind_check it next) answer in
      subst A (sym is) other

  pub answers_refused : (refusal : Refusal) → AnswersFor {X = X} first (Err refusal) → AnswersFor {X = Y} (behind_check first next) (Err refusal)
  answers_refused refusal is = (is.0, ap (λ (it : Result X Refusal). behind_check it next) is.1, is.2)

  -- both have gone through
  pub both_ok : (value : Y) → Ok value ≡ behind_check first next → (x : X) × (Ok x ≡ first) × (Ok value ≡ next x)
  both_ok value is = by first refl is
    where
      by : (it : Result X Refusal) → it ≡ first → Ok value ≡ behind_check it next → (x : X) × (Ok x ≡ first) × (Ok value ≡ next x)
      by (Ok x) same is = (x, same, is)
      by (Err refusal) same is = absurd (let no : ◌≡◌ {A = Result Y Refusal} (Ok value) (Err refusal) = is in cc)

-- a test has held
pub held : {X : Type 0} (test : Bool) (refusal : Refusal) (next : Result X Refusal) (value : X) → Ok value ≡ unless test refusal next → (test ≡ true) × (Ok value ≡ next)
held true refusal next value is = (refl, is)
held {X} false refusal next value is = absurd (let no : ◌≡◌ {A = Result X Refusal} (Ok value) (Err refusal) = is in cc)

told : {P : Type 0} (test : Bool) → Tells test P → test ≡ true → P
told true is holds = is
told false is holds = absurd (let no : ◌≡◌ {A = Bool} false true = holds in cc)

-- what a call answers that takes no memory
pub answers_exact : {X : Type 0} (expected result : Result X Refusal) → result ≡ expected → AnswersFor {X = X} expected result
answers_exact expected (Ok value) is = sym is
answers_exact expected (Err refusal) is = (refusal, sym is, inl refl)

-- a refusal that takes memory
pub answers_err : {X : Type 0} (expected : Result X Refusal) (wanted made : Refusal) → expected ≡ Err wanted → (made ≡ wanted) ⊎ (made ≡ NoMemory)
    → AnswersFor {X = X} expected (Err made)
answers_err expected wanted made is so = (wanted, is, so)

-- ---- what they tell

module _ (allowed : Allowed) (m : Moment) (asked : Asked) (room : RoomView) where
  pub level_told : Ok tt ≡ field_checks allowed asked → is_level asked.level asked.group ≡ true
  level_told is =
      let client = held allowed.client (Malformed (codes "client")) _ tt is in
      let set = held allowed.set (Malformed (codes "set")) _ tt client.1 in
      let group = held allowed.group (Malformed (codes "group")) _ tt set.1 in
      (held (is_level asked.level asked.group) (Malformed (codes "level")) _ tt group.1).0

  few_told : Ok tt ≡ count_checks room → length room.sessions < 64
  few_told is =
      let few = (held (nat_lt (length room.sessions) max_sessions) (SessionsFull max_sessions) _ tt is).0 in
      grind (arith, nat_tests)

  pub may_begin : (wanted : ℕ) → AreAllowed allowed asked → begin_checks allowed m asked room ≡ Ok wanted → MayBegin asked room
  may_begin wanted are is =
      let fields = both_ok (field_checks allowed asked) (λ done. named_checks m asked room) wanted (sym is) in
      let client = held allowed.client (Malformed (codes "client")) _ tt fields.1 in
      let set = held allowed.set (Malformed (codes "set")) _ tt client.1 in
      let group = held allowed.group (Malformed (codes "group")) _ tt set.1 in
      let there = both_ok (there_checks asked room) (λ done. level_checks m asked room) wanted fields.2 in
      let level = both_ok (level_check m asked room) (λ level. behind_check (free_checks asked room) (λ free. Ok level)) wanted there.2 in
      let free = both_ok (free_checks asked room) (λ free. Ok level.0) wanted level.2 in
      let count = both_ok (none_busy (busy_with asked room.sessions)) (λ done. count_checks room) tt free.1 in
      record {
        client = (told {P = IsClientAsked asked.client} allowed.client are.client client.0).0;
        set = told {P = IsSetName asked.set} allowed.set are.set set.0;
        group = told {P = IsGroupAsked asked.group} allowed.group are.group group.0;
        few = few_told count.2;
      }
