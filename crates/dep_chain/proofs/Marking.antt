-- How marks pass down to the bases, and which sets have none in the end.
use Rattle.std.proofs.Common.{◌≡◌, ◌≢◌, ℕ, zero, suc, ◌+◌, ◌<◌, ◌≤◌, ◌⊎◌, ◌↔◌, Bool, true, false}
use Rattle.std.proofs.Common.{IsTrue, List, [], ◌∷◌, ◌++◌, Some, Ok, length, get_or, set, refl, sym}
use Rattle.std.proofs.Common.{subst, ap, ◌∙◌, inl, inr, arith}
use mathlib.Core.Bool.{false≢true}
use Rattle.std.specs.Ordering.{nat_cmp}
use Rattle.std.specs.declared.cmp.Ordering.TheVariants.{Equal}
use Rattle.std.proofs.lemmas.Bool.{cases_lt}
use Rattle.std.proofs.Math.ListN.{get_or-append}
use Rattle.std.proofs.Math.Seq.{get_or-append_seam}
use Rattle.std.proofs.lemmas.List.{get_or-set_same, get_or-set_other}
use Rattle.room_base.specs.Ordered.{IsPlace}
use Rattle.room_base.proofs.OrderedNumbers.{equal_numbers}
use Rattle.media_db.specs.declared.records.Record.{Record}
use Rattle.media_db.specs.Rows.{AreRecords, find_record, ssid_of}
use Rattle.media_db.proofs.Chains.{base_has_lower}
use Rattle.dep_chain.specs.declared.open_set.OpenSet.{OpenSet}
use Rattle.dep_chain.specs.Depends.{HasBase, Depends, on_base, on_further}
use Rattle.dep_chain.specs.Need.{AreSessions, IsOpen}
use Rattle.dep_chain.specs.Purging.{StaysBrowsed}
use Rattle.dep_chain.specs.Marks.{AreMarks, AreOwnMarks, IsAt, IsMarked, MarksBase, Stays}
use Rattle.dep_chain.specs.Marks.{StaysUnder}
use Rattle.dep_chain.proofs.Depending.{found_ssid, on_the_base}
use Rattle.dep_chain.proofs.Listed.{listed, found, get_default, higher_at, place_order, same_at}
use Rattle.dep_chain.proofs.Needing.{open_listed}

same_or_other : (i j : ℕ) → (i ≡ j) ⊎ (i ≢ j)
same_or_other i j = elim (cases_lt i j) [
  | inl below ↦ inr (λ same. omega (arith, below, same))
  | inr above ↦ elim (cases_lt j i) [
    | inl under ↦ inr (λ same. omega (arith, under, same))
    | inr upto ↦ inl (omega (arith, above, upto))
  ]
]

-- a mark that was read
read_true : (marks : List Bool) (place : ℕ) → place < length marks → get_or marks place true ≡ true
    → get_or marks place false ≡ true
read_true [] place within is = absurd (omega arith)
read_true (one ∷ marks) zero within is = is
read_true (one ∷ marks) (suc place) within is = read_true marks place (omega arith) is

pub marked_read : (marks : List Bool) (place : ℕ) (mark : Bool) → place < length marks
    → mark ≡ get_or marks place mark → mark ≡ true → IsMarked marks place
marked_read marks place true within read is = read_true marks place within (sym read)
marked_read marks place false within read is = absurd (false≢true is)

module _ (rows : List Record) (are : AreRecords rows) where
  pub at_found : (place : ℕ) (row : Record) → IsAt rows place row
      → find_record row.ssid.0 rows ≡ Some row
  at_found place row at = found rows row are (place, at.within, at.is)

  pub found_at : (ssid : ℕ) (row : Record) → find_record ssid rows ≡ Some row → (place : ℕ)
      × IsAt rows place row
  found_at ssid row there = let is = listed rows ssid row there in
      (is.0, record { within = is.1; is = is.2 })

  -- ---- one mark more

  pub marked_at : (base place : ℕ) (old : List Bool) → length old ≡ length rows
      → IsPlace nat_cmp ssid_of base rows (Ok place) → MarksBase rows base old (set old place true)
  marked_at base place old lengths is =
      let within = is.0 in
      let inside : place < length old = omega (arith, within, lengths) in
      let now : get_or (set old place true) place false ≡ true = get_or-set_same old place true
      false inside in
      record {
        grown = λ other was. elim (same_or_other other place) [
          | inl same ↦ subst (λ (k : ℕ). IsMarked (set old place true) k) (sym same) now
          | inr not ↦ get_or-set_other old place other true false not ∙ was
        ];
        only = λ other row at marked. elim (same_or_other other place) [
          | inl same ↦
              let here : get_or rows place row ≡ row = subst (λ (k : ℕ). get_or rows k row ≡ row)
              same at.is in
              inr (equal_numbers row.ssid.0 base
              (subst (λ (one : Record). nat_cmp one.ssid.0 base ≡ Equal) here (is.1 row)))
          | inr not ↦ inl (sym (get_or-set_other old place other true false not) ∙ marked)
        ];
        marked = λ other row at has.
            let there = get_or rows place row in
            let is_there : get_or rows place there ≡ there =
            get_default rows place there row within in
            let key = equal_numbers there.ssid.0 base (is.1 row) in
            let same = place_order rows other place row there are at.within within at.is is_there
            (has ∙ sym key) in
            subst (λ (k : ℕ). IsMarked (set old place true) k) (sym same) now;
      }

  module _ (sessions : List OpenSet) (moment : ℕ) where
    pub own_stays : (place : ℕ) (row : Record) → IsAt rows place row → Stays sessions moment row
        → StaysUnder rows sessions moment row.ssid.0
    own_stays place row at stays = record {
      user = row.ssid.0;
      on = inl refl;
      stays = elim stays [
        | inl browsed ↦ inl (row, at_found place row at, browsed)
        | inr session ↦
            inr session
      ];
    }

    pub base_stays : (ssid base : ℕ) → StaysUnder rows sessions moment ssid → HasBase rows ssid base
        → StaysUnder rows sessions moment base
    base_stays ssid base under has = record {
      user = under.user;
      on = on_the_base rows under.user ssid base under.on has;
      stays =
          under.stays;
    }

-- what the walk has done of the records from a place on
pub record IsPassed (rows : List Record) (sessions : List OpenSet) (moment at : ℕ)
    (marks : List Bool) : Type 0 where
  pub sound : (place : ℕ) (row : Record) → IsAt rows place row → IsMarked marks place
      → StaysUnder rows sessions moment row.ssid.0
  pub own : (place : ℕ) (row : Record) → IsAt rows place row → Stays sessions moment row
      → IsMarked marks place
  pub passed : (place other : ℕ) (row base : Record) → at ≤ place → IsAt rows place row
      → IsMarked marks place → IsAt rows other base → base.ssid.0 ≡ row.base.0
      → IsMarked marks other

module _ (rows : List Record) (are : AreRecords rows) (sessions : List OpenSet) (moment : ℕ) where
  pub none_passed : (marks : List Bool) → AreOwnMarks rows sessions moment (length rows) marks
      → IsPassed rows sessions moment (length rows) marks
  none_passed marks own = record {
    sound = λ place row at marked. own_stays rows are sessions moment place row at
        ((own place row at.within at).0 marked);
    own = λ place row at stays. (own place row at.within at).1 stays;
    passed = λ place other row base above at marked there is. let within = at.within in
        absurd (omega (arith, above, within));
  }

  pub unmarked_passed : (next at : ℕ) (marks : List Bool) → at + 1 ≡ next
      → get_or marks at false ≡ false → IsPassed rows sessions moment next marks
      → IsPassed rows sessions moment at marks
  unmarked_passed next at marks step free before = record {
    sound = before.sound;
    own = before.own;
    passed = λ place other row base above is marked there has. elim (same_or_other place at) [
      | inl same ↦ absurd (false≢true (sym free ∙ subst (λ (k : ℕ). IsMarked marks k) same marked))
      | inr not ↦
          let higher : next ≤ place = omega (arith, above, not, step) in
          before.passed place other row base higher is marked there has
    ];
  }

  pub marked_passed : (next at : ℕ) (row : Record) (old new : List Bool) → at + 1 ≡ next
      → IsAt rows at row → IsMarked old at → MarksBase rows row.base.0 old new
      → IsPassed rows sessions moment next old → IsPassed rows sessions moment at new
  marked_passed next at row old new step here marked base before =
      let there = at_found rows are at row here in
      let low = base_has_lower rows row.ssid.0 row are there in
      record {
        sound = λ place other is now. elim (base.only place other is now) [
          | inl was ↦ before.sound place other is was
          | inr same ↦
              let other_low = base_has_lower rows other.ssid.0 other are
              (at_found rows are place other is) in
              let some : other.ssid.0 ≢ 0 = λ none. omega (arith, other_low, none) in
              base_stays rows are sessions moment row.ssid.0 other.ssid.0
              (before.sound at row here marked)
              (record { row = row; found = there; named = sym same; set = some })
        ];
        own = λ place other is stays. base.grown place (before.own place other is stays);
        passed = λ place lower other under above is now is_under has.
            elim (same_or_other place at) [
              | inl same ↦
                  let is_here : get_or rows at other ≡ other = subst
                  (λ (k : ℕ). get_or rows k other ≡ other) same is.is in
                  let one = ap (λ (r : Record). r.base.0)
                  (same_at rows at other row here.within is_here here.is) in
                  base.marked lower under is_under (has ∙ one)
              | inr not ↦ elim (base.only place other is now) [
                | inl was ↦
                    let higher : next ≤ place = omega (arith, above, not, step) in
                    let had = before.passed place lower other under higher is was is_under has in
                    base.grown lower had
                | inr same ↦
                    let strictly : at < place = omega (arith, above, not) in
                    let up =
                    higher_at rows at place row other are strictly is.within here.is is.is in
                    absurd (omega (arith, up, same, low))
              ]
            ];
      }

  -- ---- in the end

  depends_found : {ssid other : ℕ} → Depends rows ssid other → (row : Record)
      × (find_record ssid rows ≡ Some row)
  depends_found (on_base ssid other has) = (has.row, has.found)
  depends_found (on_further ssid base other has more) = (has.row, has.found)

  module _ (marks : List Bool) (all : IsPassed rows sessions moment 0 marks) where
    -- a mark reaches the base
    to_base : (ssid base : ℕ) (place other : ℕ) (row under : Record) → HasBase rows ssid base
        → IsAt rows place row → row.ssid.0 ≡ ssid → IsMarked marks place → IsAt rows other under
        → under.ssid.0 ≡ base → IsMarked marks other
    to_base ssid base place other row under has at is marked there is_base =
        let here : find_record ssid rows ≡ Some row = subst
        (λ (n : ℕ). find_record n rows ≡ Some row) is (at_found rows are place row at) in
        let same : has.row ≡ row = cc (here, has.found) in
        let named : row.base.0 ≡ base = subst (λ (r : Record). r.base.0 ≡ base) same has.named in
        all.passed place other row under (omega arith) at marked there (is_base ∙ sym named)

    carried : {user ssid : ℕ} → Depends rows user ssid → (place other : ℕ) (row under : Record)
        → IsAt rows place row → row.ssid.0 ≡ user → IsMarked marks place → IsAt rows other under
        → under.ssid.0 ≡ ssid → IsMarked marks other
    carried (on_base user base has) place other row under at is marked there is_under = to_base user
        base place other row under has at is marked there is_under
    carried (on_further user base ssid has more) place other row under at is marked there is_under =
        let next = depends_found more in
        let next_at = found_at rows are base next.0 next.1 in
        let next_is = found_ssid rows base next.0 next.1 in
        let next_marked = to_base user base place next_at.0 row next.0 has at is marked next_at.1
        next_is in
        carried more next_at.0 other next.0 under next_at.1 next_is next_marked there is_under

    user_marked : AreSessions rows sessions → (user : ℕ)
        → ((row : Record) × (find_record user rows ≡ Some row) × StaysBrowsed moment row)
        ⊎ IsOpen sessions user
        → (place : ℕ) × (row : Record) × IsAt rows place row × (row.ssid.0 ≡ user)
        × IsMarked marks place
    user_marked each user stays = elim stays [
      | inl browsed ↦
          let at = found_at rows are user browsed.0 browsed.1 in (
            at.0,
            browsed.0,
            at.1,
            found_ssid rows user browsed.0 browsed.1,
            all.own at.0 browsed.0
                at.1 (inl browsed.2),
          )
      | inr session ↦
          let has = open_listed rows sessions moment are each user session in
          let at : IsAt rows has.1.0 has.0 = record { within = has.1.1; is = has.1.2 } in (
            has.1.0,
            has.0,
            at,
            has.2,
            all.own has.1.0 has.0 at
                (inr (subst (λ (n : ℕ). IsOpen sessions n) (sym has.2) session)),
          )
    ]

    pub all_marked : AreSessions rows sessions → AreMarks rows sessions moment marks
    all_marked each place row at = (
      λ marked. all.sound place row at marked,
      λ under.
          let user = user_marked each under.user under.stays in
          elim under.on [
            | inl same ↦
                let one = place_order rows user.0 place user.1 row are user.2.within at.within
                user.2.is at.is (user.3 ∙ same) in
                subst (λ (k : ℕ). IsMarked marks k) one user.4
            | inr depends ↦ carried depends user.0 place user.1 row user.2 user.3 user.4 at refl
          ],
    )

module _ (rows : List Record) (sessions : List OpenSet) (moment : ℕ) where
  -- ---- the marks that sets have by themselves

  pub own_more : (at : ℕ) (row : Record) (marks : List Bool) (mark : Bool) → length marks ≡ at
      → at < length rows → row ≡ get_or rows at row → (IsTrue mark ↔ Stays sessions moment row)
      → AreOwnMarks rows sessions moment at marks
      → AreOwnMarks rows sessions moment (at + 1) (marks ++ mark ∷ [])
  own_more at row marks mark lengths within read iff before place other below is = elim
      (same_or_other place at) [
        | inl same ↦
            let here : get_or rows at other ≡ other = subst (λ (k : ℕ). get_or rows k other ≡ other)
            same is.is in
            let one : row ≡ other = same_at rows at row other within (sym read) here in
            let last : get_or (marks ++ mark ∷ []) place false ≡ mark = subst
            (λ (k : ℕ). get_or (marks ++ mark ∷ []) k false ≡ mark) (lengths ∙ sym same)
            (get_or-append_seam marks mark [] false) in (
              λ marked.
                  subst (λ (r : Record). Stays sessions moment r) one (iff.0 (sym last ∙ marked)),
              λ stays.
                  last ∙ iff.1 (subst (λ (r : Record). Stays sessions moment r) (sym one) stays),
            )
        | inr not ↦
            let under : place < at = omega (arith, below, not) in
            let inside : place < length marks = omega (arith, under, lengths) in
            let same : get_or (marks ++ mark ∷ []) place false ≡ get_or marks place false =
            get_or-append marks (mark ∷ []) false place inside in
            let iff_before = before place other under is in
            (λ marked. iff_before.0 (sym same ∙ marked), λ stays. same ∙ iff_before.1 stays)
      ]
