-- Which save set a save stands on.
use Rattle.std.specs.Prelude.{◌≡◌, ◌⊎◌, ℕ, ◌==◌, if◌then◌else◌, List, Some, None}
use Rattle.room_base.specs.declared.numbers.Ssid.{Ssid}
use Rattle.media_db.specs.declared.records.Record.{Record}
use Rattle.media_db.specs.Usable.{IsLastBase}

abbrev pub full : ℕ
full = 0

abbrev pub incr : ℕ
incr = 10

-- The rank below which the level of a base is: that of the save itself. An incremental save stands
-- on any level, incremental ones among them, and so below a rank that none has.
abbrev pub rank_below : ℕ → ℕ
rank_below level = if level == incr then 11 else level

-- The level and the base of a save of a client's set for which this level is wanted: that level on
-- the last save set that it can stand on, or a full save where there is none.
abbrev pub IsBaseFor : List Record → List ℕ → List ℕ → ℕ → ℕ → Ssid → Type 0
IsBaseFor rows client set wanted level base =
    ((level ≡ wanted) × IsLastBase rows client set (rank_below wanted) (Some base))
    ⊎ ((level ≡ full) × (base.0 ≡ 0) × IsLastBase rows client set (rank_below wanted) None)
