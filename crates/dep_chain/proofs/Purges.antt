-- What keeps a set from being purged.
use Rattle.std.proofs.Common.{◌≡◌, ℕ, ◌⊎◌, ◌↔◌, Bool, true, false, not, IsTrue, List, refl, sym}
use Rattle.std.proofs.Common.{subst, ◌∙◌, inl, inr, arith}
use mathlib.Core.Bool.{false≢true}
use Rattle.std.specs.List.{Any}
use Rattle.std.proofs.lemmas.Bool.{cases_lt, true≢false}
use Rattle.media_db.specs.declared.records.Record.{Record}
use Rattle.media_db.specs.declared.records.RecordState.TheVariants.{Complete}
use Rattle.media_db.specs.Rows.{AreRecords}
use Rattle.dep_chain.specs.declared.open_set.OpenSet.{OpenSet}
use Rattle.dep_chain.specs.Depends.{StandsOn}
use Rattle.dep_chain.specs.Purging.{HasComplete, IsBrowsed, IsPurgeable, StaysBrowsed}
use Rattle.dep_chain.proofs.Depending.{found_ssid}
use Rattle.dep_chain.proofs.Listed.{listed, found}

browsed_or_stays : (moment : ℕ) (row : Record) → row.state ≡ Complete → (hold : Bool)
    → row.hold ≡ hold → IsBrowsed moment row ⊎ StaysBrowsed moment row
browsed_or_stays moment row complete true held = inr (complete, inl held)
browsed_or_stays moment row complete false free = elim (cases_lt moment row.browse.0) [
  | inl later ↦ inr (complete, inr later)
  | inr past ↦ inl (past, free)
]

pub not_both : (moment : ℕ) (row : Record) → IsBrowsed moment row → StaysBrowsed moment row → ⊥
not_both moment row browsed stays = elim stays.1 [
  | inl held ↦ true≢false (sym held ∙ browsed.1)
  | inr later ↦ let past = browsed.0 in omega (arith, past, later)
]

module _ (rows : List Record) (sessions : List OpenSet) (moment : ℕ) (are : AreRecords rows) where
  abbrev pub StaysFor : ℕ → Record → Type 0
  StaysFor ssid row = StaysBrowsed moment row × StandsOn rows row.ssid.0 ssid

  abbrev pub OpenOn : ℕ → OpenSet → Type 0
  OpenOn ssid session = StandsOn rows session.ssid.0 ssid

  pub is_purgeable : (ssid : ℕ) → HasComplete rows ssid → ¬ Any (StaysFor ssid) rows
      → ¬ Any (OpenOn ssid) sessions → IsPurgeable rows sessions moment ssid
  is_purgeable ssid has none_stays none_open = record {
    row = has.0;
    found = has.1;
    complete = has.2;
    browsed = λ user of_user on there complete. elim
        (browsed_or_stays moment of_user complete of_user.hold refl) [
          | inl browsed ↦ browsed
          | inr stays ↦
              let is = listed rows user of_user there in
              let on_it = subst (λ (n : ℕ). StandsOn rows n ssid)
              (sym (found_ssid rows user of_user there)) on in
              absurd (none_stays (is.0, of_user, is.1, is.2, (stays, on_it)))
        ];
    closed = λ user on session. none_open (
      session.0,
      session.1,
      session.2,
      session.3,
      subst (λ (n : ℕ). StandsOn rows n ssid)
          (sym session.4) on,
    );
  }

  pub purgeable_complete : (ssid : ℕ) → IsPurgeable rows sessions moment ssid
      → HasComplete rows ssid
  purgeable_complete ssid is = (is.row, is.found, is.complete)

  pub none_stays : (ssid : ℕ) → IsPurgeable rows sessions moment ssid → ¬ Any (StaysFor ssid) rows
  none_stays ssid is by =
      not_both moment by.1 (is.browsed by.1.ssid.0 by.1 by.4.1
      (found rows by.1 are (by.0, by.2, by.3)) by.4.0.0) by.4.0

  pub none_is_open : (ssid : ℕ) → IsPurgeable rows sessions moment ssid
      → ¬ Any (OpenOn ssid) sessions
  none_is_open ssid is by = is.closed by.1.ssid.0 by.4 (by.0, by.1, by.2, by.3, refl)

  pub purgeable_by : (ssid : ℕ) (under : Bool) → HasComplete rows ssid
      → (IsTrue under ↔ (Any (StaysFor ssid) rows ⊎ Any (OpenOn ssid) sessions))
      → IsTrue (not under) ↔ IsPurgeable rows sessions moment ssid
  purgeable_by ssid true has iff = (
    λ is. absurd (false≢true is),
    λ is. elim (iff.0 refl) [
      | inl stays ↦ absurd (none_stays ssid is stays)
      | inr session ↦ absurd (none_is_open ssid is session)
    ],
  )
  purgeable_by ssid false has iff = (
    λ _. is_purgeable ssid has (λ stays. false≢true (iff.1 (inl stays)))
        (λ session. false≢true (iff.1 (inr session))),
    λ _. refl,
  )
