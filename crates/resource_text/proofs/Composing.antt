-- A reading stops at a field behind others.
use Rattle.std.proofs.Common.{◌≡◌, ℕ, List, [], ◌∷◌, None, Err, inl, inr, ap, codes}
use Rattle.toml.specs.Data.{Members}
use Rattle.catalog_change.specs.Resources.{IsSetName, IsShortName}
use Rattle.room_rules.specs.declared.schedule.Period.{Period}
use Rattle.resource_text.specs.Lists.{MayHaveTexts}
use Rattle.resource_text.specs.Reading.{HasText, IsItself, Reads, ReadsField, other_key}
use Rattle.resource_text.specs.Resources.{HasActions, HasOverrides, HasPeriod, client_gives, pool_gives, schedule_gives}
use Rattle.resource_text.specs.Words.{IsLevelWord}
use Rattle.resource_text.specs.declared.fault.TextFault.{TextFault}
use Rattle.resource_text.specs.declared.fault.TextFault.TheVariants.{Malformed, Memory}

pub retention_stops : (name : List ℕ) (all : Members) (browse : List ℕ) (fault : TextFault)
    → other_key (codes "browse" ∷ codes "retention" ∷ []) all ≡ None
    → HasText (codes "browse") IsShortName all browse
    → ReadsField (codes "retention") (HasText (codes "retention") IsShortName all) (Err fault)
    → Reads (client_gives name all) (Err fault)
retention_stops name all browse (Malformed field) keys has (none, named) =
    inl (keys, inl (browse, has, inr (none, ap Err named)))
retention_stops name all browse Memory keys has reads = tt

abbrev pub MayName : List ℕ → (List ℕ → Type 0) → Members → List (List ℕ) → Type 0
MayName key Is all names = MayHaveTexts key 64 (IsItself Is) all names

abbrev pub pool_keys : List (List ℕ)
pool_keys = codes "groups" ∷ codes "clients" ∷ codes "sets" ∷ codes "levels" ∷ []

pub sets_stop : (name : List ℕ) (all : Members) (groups clients : List (List ℕ)) (fault : TextFault)
    → other_key pool_keys all ≡ None → MayName (codes "groups") IsShortName all groups
    → MayName (codes "clients") IsShortName all clients
    → ReadsField (codes "sets") (MayName (codes "sets") IsSetName all) (Err fault)
    → Reads (pool_gives name all) (Err fault)
sets_stop name all groups clients (Malformed field) keys one two (none, named) =
    inl (keys, inl (groups, one, inl (clients, two, inr (none, ap Err named))))
sets_stop name all groups clients Memory keys one two reads = tt

pub levels_stop : (name : List ℕ) (all : Members) (groups clients sets : List (List ℕ)) (fault : TextFault)
    → other_key pool_keys all ≡ None → MayName (codes "groups") IsShortName all groups
    → MayName (codes "clients") IsShortName all clients → MayName (codes "sets") IsSetName all sets
    → ReadsField (codes "levels") (MayHaveTexts (codes "levels") 64 IsLevelWord all) (Err fault)
    → Reads (pool_gives name all) (Err fault)
levels_stop name all groups clients sets (Malformed field) keys one two three (none, named) =
    inl (keys, inl (groups, one, inl (clients, two, inl (sets, three, inr (none, ap Err named)))))
levels_stop name all groups clients sets Memory keys one two three reads = tt

pub overrides_stop : (name : List ℕ) (all : Members) (period : Period) (actions : List ℕ) (fault : TextFault)
    → other_key (codes "period" ∷ codes "actions" ∷ codes "overrides" ∷ []) all ≡ None
    → HasPeriod all period → HasActions all actions
    → ReadsField (codes "overrides") (HasOverrides all) (Err fault)
    → Reads (schedule_gives name all) (Err fault)
overrides_stop name all period actions (Malformed field) keys one two (none, named) =
    inl (keys, inl (period, one, inl (actions, two, inr (none, ap Err named))))
overrides_stop name all period actions Memory keys one two reads = tt
