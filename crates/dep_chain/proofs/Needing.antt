-- Who needs a set, by the lists of records and of sessions.
use Rattle.std.proofs.Common.{◌≡◌, ℕ, zero, suc, ◌<◌, ◌≤◌, ◌⊎◌, List, [], ◌∷◌, Some, None, length}
use Rattle.std.proofs.Common.{get_or, refl, sym, subst, ◌∙◌, inl, inr, arith}
use Rattle.std.specs.List.{Any, AllByRecursion, AllWithin, Contains}
use Rattle.media_db.specs.declared.records.Record.{Record}
use Rattle.media_db.specs.Rows.{AreRecords}
use Rattle.dep_chain.specs.declared.open_set.OpenSet.{OpenSet}
use Rattle.dep_chain.specs.Depends.{Depends, StandsOn}
use Rattle.dep_chain.specs.Need.{AreSessions, HasRecord, IsKept, IsLeastUser, IsOpen, Needed, Needs}
use Rattle.dep_chain.specs.Need.{Uses}
use Rattle.dep_chain.proofs.Depending.{found_ssid}
use Rattle.dep_chain.proofs.Listed.{listed, found, first_is_least, none_at_all}

pub each_in : {X : Type 0} (P : X → Type 0) (xs : List X) (k : ℕ) (x : X) → AllByRecursion P xs
    → k < length xs → get_or xs k x ≡ x → P x
each_in P [] k x each within is = absurd (omega arith)
each_in P (y ∷ xs) zero x each within is = subst P is each.0
each_in P (y ∷ xs) (suc k) x each within is = each_in P xs k x each.1 (omega arith) is

module _ (rows : List Record) (sessions : List OpenSet) (moment : ℕ) (are : AreRecords rows) where
  abbrev pub KeptFor : ℕ → Record → Type 0
  KeptFor ssid row = IsKept moment row × StandsOn rows row.ssid.0 ssid

  abbrev pub OpenFor : ℕ → OpenSet → Type 0
  OpenFor ssid session = StandsOn rows session.ssid.0 ssid

  pub needed_by_record : (ssid : ℕ) → Any (KeptFor ssid) rows → Needed rows sessions moment ssid
  needed_by_record ssid by = (
    by.1.ssid.0,
    by.4.1,
    inl (by.1, found rows by.1 are (by.0, by.2, by.3), by.4.0),
  )

  pub needed_by_session : (ssid : ℕ) → Any (OpenFor ssid) sessions
      → Needed rows sessions moment ssid
  needed_by_session ssid by = (by.1.ssid.0, by.4, inr (by.0, by.1, by.2, by.3, refl))

  pub who_needs : (ssid : ℕ) → Needed rows sessions moment ssid → Any (KeptFor ssid) rows
      ⊎ Any (OpenFor ssid) sessions
  who_needs ssid (user, on, by) = elim by [
    | inl kept ↦
        let is = listed rows user kept.0 kept.1 in
        let on_it = subst (λ (n : ℕ). StandsOn rows n ssid)
        (sym (found_ssid rows user kept.0 kept.1)) on in
        inl (is.0, kept.0, is.1, is.2, (kept.2, on_it))
    | inr session ↦
        let on_it = subst (λ (n : ℕ). StandsOn rows n ssid) (sym session.4) on in
        inr (session.0, session.1, session.2, session.3, on_it)
  ]

  -- ---- the record of one that needs

  abbrev pub NeedsRow : Record → Type 0
  NeedsRow row = IsKept moment row ⊎ IsOpen sessions row.ssid.0

  pub row_needs : (row : Record) → Contains rows row → NeedsRow row
      → Needs rows sessions moment row.ssid.0
  row_needs row is needs = elim needs [
    | inl kept ↦ inl (row, found rows row are is, kept)
    | inr session ↦ inr session
  ]

  module _ (each : AreSessions rows sessions) where
    -- a set with an open session has a record
    pub open_listed : (ssid : ℕ) → IsOpen sessions ssid → (row : Record) × Contains rows row
        × (row.ssid.0 ≡ ssid)
    open_listed ssid session =
        let has =
        each_in (HasRecord rows) sessions session.0 session.1 each session.2 session.3 in (
          has.row,
          listed rows session.1.ssid.0 has.row has.found,
          found_ssid rows session.1.ssid.0
              has.row has.found ∙ session.4,
        )

    pub needs_listed : (ssid : ℕ) → Needs rows sessions moment ssid → (row : Record)
        × Contains rows row × (row.ssid.0 ≡ ssid) × NeedsRow row
    needs_listed ssid needs = elim needs [
      | inl kept ↦ (
        kept.0,
        listed rows ssid kept.0 kept.1,
        found_ssid rows ssid kept.0 kept.1,
        inl kept.2,
      )
      | inr session ↦
          let has = open_listed ssid session in
          (has.0, has.1, has.2, inr (subst (λ (n : ℕ). IsOpen sessions n) (sym has.2) session))
    ]

    -- ---- the least user

    abbrev pub UsesIt : ℕ → Record → Type 0
    UsesIt ssid row = NeedsRow row × Depends rows row.ssid.0 ssid

    use_listed : (ssid user : ℕ) → Uses rows sessions moment ssid user → (row : Record)
        × Contains rows row × (row.ssid.0 ≡ user) × UsesIt ssid row
    use_listed ssid user uses =
        let has = needs_listed user uses.1 in
        (has.0, has.1, has.2, (has.3, subst (λ (n : ℕ). Depends rows n ssid) (sym has.2) uses.0))

    pub least_user : (ssid at : ℕ) (row : Record) → AllWithin (λ row. ¬ UsesIt ssid row) rows 0 at
        → at < length rows → row ≡ get_or rows at row → NeedsRow row → Depends rows row.ssid.0 ssid
        → IsLeastUser rows sessions moment ssid (Some row.ssid)
    least_user ssid at row none within read needs depends = (
      (depends, row_needs row (at, within, sym read) needs),
      λ user uses.
          let has = use_listed ssid user uses in
          let upto =
          first_is_least (UsesIt ssid) rows at none are row within read has.0 has.1 has.3 in
          let is = has.2 in
          omega (arith, upto, is),
    )

    pub no_user : (ssid at : ℕ) → AllWithin (λ row. ¬ UsesIt ssid row) rows 0 at → length rows ≤ at
        → IsLeastUser rows sessions moment ssid None
    no_user ssid at none end user uses =
        let has = use_listed ssid user uses in
        none_at_all (UsesIt ssid) rows at none end has.0 has.1 has.3
