-- Which effects leave the open sessions what they have.
use Rattle.std.specs.Prelude.{◌≡◌, List, None}
use Rattle.std.specs.List.{AllByRecursion}
use Rattle.catalog_change.specs.declared.change.Change.{Change}
use Rattle.catalog_change.specs.declared.change.Change.TheVariants.{
  Begun,
  Finished,
  Aborted,
  Deleted,
  FinishedParts,
}
use Rattle.save_session.specs.Sessions.{SessionView, find_session}
use Rattle.room_effects.specs.Effects.{
  Deed,
  Effect,
  Enter,
  Push,
  Open,
  Take,
  Close,
  effect_of,
}
use Rattle.room_effects.specs.Plans.{Plan, Refuse, Do}

-- A change that no open session is about. A change that fits can't purge or copy the set of one, as
-- its record isn't complete, and the times of one may be amended.
abbrev pub LeavesOpen : Change → List SessionView → Type 0
LeavesOpen (Begun head) sessions = find_session head.ssid.0 sessions ≡ None
LeavesOpen (Finished ssid files bytes digest sections index) sessions =
    find_session ssid.0 sessions ≡ None
LeavesOpen (FinishedParts ssid files bytes digest sections) sessions =
    find_session ssid.0 sessions ≡ None
LeavesOpen (Aborted ssid) sessions = find_session ssid.0 sessions ≡ None
LeavesOpen (Deleted ssid) sessions = find_session ssid.0 sessions ≡ None
LeavesOpen _ sessions = Unit {0}

-- the effect is no session's beginning, piece, push or end, and no open session's change
abbrev pub IsQuiet : List SessionView → Effect → Type 0
IsQuiet sessions (Enter m change) = LeavesOpen change sessions
IsQuiet sessions (Push drive ssid copy offset bytes) = ⊥
IsQuiet sessions (Open head) = ⊥
IsQuiet sessions (Take ssid piece) = ⊥
IsQuiet sessions (Close ssid) = ⊥
IsQuiet sessions _ = Unit {0}

-- each of these is such an effect
abbrev pub AreQuiet : List SessionView → List Deed → Type 0
AreQuiet sessions deeds = AllByRecursion (λ deed. IsQuiet sessions (effect_of deed)) deeds

-- a plan of such effects alone
abbrev pub IsQuietPlan : List SessionView → Plan → Type 0
IsQuietPlan sessions (Refuse refusal) = Unit {0}
IsQuietPlan sessions (Do effects reply) = AllByRecursion (IsQuiet sessions) effects
