-- What a group does with its members.
use Rattle.std.specs.Prelude.{◌≡◌, ◌≢◌, ◌⊎◌, ℕ, List}
use Rattle.std.specs.List.{AllZip}
use Rattle.room_base.specs.declared.numbers.Ssid.{Ssid}
use Rattle.media_db.specs.declared.records.Record.{Record}
use Rattle.room_rules.specs.declared.group.Member.{Member}
use Rattle.room_rules.specs.declared.group.Planned.{Planned}
use Rattle.sched_levels.specs.Bases.{IsBaseFor}

-- the action that skips a day
abbrev pub skip : ℕ
skip = 11

-- The action and the base of a client's set on a day of this action: it is skipped, and has base 0,
-- or it is saved at the level and on the base of such a save.
abbrev pub Does : List Record → List ℕ → List ℕ → ℕ → ℕ → Ssid → Type 0
Does rows client set of_day action base =
    ((of_day ≡ skip) × (action ≡ skip) × (base.0 ≡ 0))
    ⊎ ((of_day ≢ skip) × IsBaseFor rows client set of_day action base)

-- what is planned for a member on a day of this action
pub record IsPlanned (rows : List Record) (of_day : ℕ) (member : Member)
    (planned : Planned) : Type 0 where
  pub client : planned.client ≡ member.client
  pub set : planned.set ≡ member.set
  pub does : Does rows member.client member.set of_day planned.action planned.base

-- a plan has one for each member, in their order
abbrev pub IsPlan : List Record → ℕ → List Member → List Planned → Type 0
IsPlan rows of_day members plan = AllZip (IsPlanned rows of_day) members plan
