-- Which set forbids that a volume is labelled anew.
use Rattle.std.proofs.Common.{◌≡◌, ◌≢◌, ℕ, ◌+◌, ◌<◌, ◌≤◌, ◌⊎◌, ◌↔◌, Bool, true, false, not, IsTrue}
use Rattle.std.proofs.Common.{List, Option, IfSome, MatchOption}
use Rattle.std.proofs.Common.{Ok, Err, Some, None, length, get_or, refl, sym, subst, ap, ◌∙◌, inl}
use Rattle.std.proofs.Common.{inr, arith}
use mathlib.Core.Bool.{false≢true}
use Rattle.std.specs.Bool.{MatchBool}
use Rattle.std.specs.List.{Any, AllWithin, Contains}
use Rattle.std.proofs.lemmas.Bool.{cases_lt}
use Rattle.room_base.specs.declared.numbers.Ssid.{Ssid}
use Rattle.media_db.specs.declared.records.Record.{Record}
use Rattle.media_db.specs.Rows.{AreRecords, find_record}
use Rattle.media_db.proofs.Chains.{base_has_lower}
use Rattle.dep_chain.specs.declared.open_set.OpenSet.{OpenSet}
use Rattle.dep_chain.specs.Depends.{HasBase, Depends, on_base, on_further, StandsOn}
use Rattle.dep_chain.specs.Need.{AreSessions, Needed, NeedsItself}
use Rattle.dep_chain.specs.Labelling.{AreSettled, IsSettled, IsUpTo, LiesUnder}
use Rattle.dep_chain.specs.Labelling.{Forbids, HasCopyOff, HasSectionOn, IsDoneOff}
use Rattle.dep_chain.specs.Labelling.{IsLabelAnswer, IsWrittenOn, RowLiesOn}
use Rattle.dep_chain.proofs.Depending.{depends_down, found_ssid, on_the_base}
use Rattle.dep_chain.proofs.Listed.{listed, found, get_default}
use Rattle.dep_chain.proofs.Needing.{needs_listed, open_listed, row_needs}

none_and_some : {X : Type 0} (o : Option X) (x : X) → o ≡ None → o ≡ Some x → ⊥
none_and_some o x none some = cc (none, some)

own_base : {rows : List Record} {at base : ℕ} (row : Record) → find_record at rows ≡ Some row
    → HasBase rows at base → HasBase rows at row.base.0
own_base row there has =
    let also = has.found in
    let same : has.row ≡ row = cc (there, also) in
    let is = sym has.named ∙ ap (λ (r : Record). r.base.0) same in
    record { row = row; found = there; named = refl; set = λ none. has.set (is ∙ none) }

named_base : {rows : List Record} {at other : ℕ} (row : Record) → find_record at rows ≡ Some row
    → Depends rows at other → HasBase rows at row.base.0
named_base row there (on_base at base has) = own_base row there has
named_base row there (on_further at base other has more) = own_base row there has

none_depends : {rows : List Record} {at other : ℕ} → find_record at rows ≡ None
    → Depends rows at other → ⊥
none_depends {rows = rows} none (on_base at base has) =
    none_and_some (find_record at rows) has.row none has.found
none_depends {rows = rows} none (on_further at base other has more) =
    none_and_some (find_record at rows) has.row none has.found

-- one more record of which it holds
more_within : (P : Record → Type 0) (rows : List Record) (at : ℕ) (row : Record)
    → AllWithin P rows 0 at → at < length rows → row ≡ get_or rows at row → P row
    → AllWithin P rows 0 (at + 1)
more_within P rows at row before within read has k d low below = elim (cases_lt k at) [
  | inl under ↦ before k d low under
  | inr upto ↦
      let same : at ≡ k = omega (arith, below, upto) in
      let here : row ≡ get_or rows at d = read ∙ get_default rows at row d within in
      subst (λ (i : ℕ). P (get_or rows i d)) same (subst P here has)
]

module _ (rows : List Record) (sessions : List OpenSet) (volid moment : ℕ) (are : AreRecords rows)
  where
    -- ---- the walk down from a set

    pub settled_more : (least result : Option Ssid)
        → ((ssid : ℕ) → IsUpTo least ssid → IsUpTo result ssid)
        → (row : Record) → IsSettled sessions volid least row → IsSettled sessions volid result row
    settled_more least result grown row settled = elim settled [
      | inl allows ↦ inl allows
      | inr upto ↦ inr (grown row.ssid.0 upto)
    ]

    pub walk_up : (ssid at : ℕ) (row : Record) → find_record at rows ≡ Some row
        → ((other : Record) → Contains rows other → other.ssid.0 ≡ at → StandsOn rows ssid at)
        → (other : Record) → Contains rows other → other.ssid.0 ≡ row.base.0
        → StandsOn rows ssid row.base.0
    walk_up ssid at row there up other is same =
        let on = up row (listed rows at row there) (found_ssid rows at row there) in
        let low = base_has_lower rows other.ssid.0 other are (found rows other are is) in
        let some : row.base.0 ≢ 0 = λ none. omega (arith, low, same, none) in
        on_the_base rows ssid at row.base.0 on
        (record { row = row; found = there; named = refl; set = some })

    pub walk_rest : (ssid at : ℕ) (row : Record) (least result : Option Ssid)
        → find_record at rows ≡ Some row
        → ((n : ℕ) → IsUpTo least n → IsUpTo result n) → IsSettled sessions volid result row
        → ((other : Record) → Contains rows other → StandsOn rows ssid other.ssid.0
        → StandsOn rows at other.ssid.0 ⊎ IsSettled sessions volid least other)
        → (other : Record) → Contains rows other → StandsOn rows ssid other.ssid.0
        → StandsOn rows row.base.0 other.ssid.0 ⊎ IsSettled sessions volid result other
    walk_rest ssid at row least result there grown settled rest other is on =
        elim (rest other is on) [
          | inr before ↦ inr (settled_more least result grown other before)
          | inl below ↦ elim below [
            | inl same ↦
                let here = found rows other are is in
                let moved : find_record other.ssid.0 rows ≡ Some row =
                subst (λ (n : ℕ). find_record n rows ≡ Some row) same there in
                let one : row ≡ other = cc (here, moved) in
                inr (subst (λ (r : Record). IsSettled sessions volid result r) one settled)
            | inr depends ↦ inl (depends_down row.base.0 (named_base row there depends) depends)
          ]
        ]

    pub walk_end : (ssid at : ℕ) (least : Option Ssid) → find_record at rows ≡ None
        → ((other : Record) → Contains rows other → StandsOn rows ssid other.ssid.0
        → StandsOn rows at other.ssid.0 ⊎ IsSettled sessions volid least other)
        → AreSettled rows sessions volid ssid least
    walk_end ssid at least none rest other is on = elim (rest other is on) [
      | inr before ↦ before
      | inl below ↦ elim below [
        | inl same ↦
            let here = found rows other are is in
            let moved = subst (λ (n : ℕ). find_record n rows ≡ None) same none in
            absurd (none_and_some (find_record other.ssid.0 rows) other moved here)
        | inr depends ↦ absurd (none_depends none depends)
      ]
    ]

    pub walk_is : (ssid at : ℕ) (row : Record) (so_far least result : Option Ssid)
        → find_record at rows ≡ Some row
        → ((other : Record) → Contains rows other → other.ssid.0 ≡ at → StandsOn rows ssid at)
        → ((least ≡ so_far) ⊎ IfSome least (LiesUnder rows sessions volid ssid))
        → ((result ≡ least) ⊎ ((result ≡ Some row.ssid) × RowLiesOn sessions volid row
        × (¬ Any (IsDoneOff volid) row.copies)))
        → (result ≡ so_far) ⊎ IfSome result (LiesUnder rows sessions volid ssid)
    walk_is ssid at row so_far least result there up before step = elim step [
      | inl same ↦ elim before [
        | inl first ↦ inl (same ∙ first)
        | inr under ↦
            inr (subst (λ (o : Option Ssid). IfSome o (LiesUnder rows sessions volid ssid))
            (sym same) under)
      ]
      | inr new ↦
          let is = listed rows at row there in
          let key = found_ssid rows at row there in
          let on = subst (λ (n : ℕ). StandsOn rows ssid n) (sym key) (up row is key) in
          let under : LiesUnder rows sessions volid ssid row.ssid = record {
            row = row;
            listed = is;
            is = refl;
            under = on;
            on = new.1;
            none_off = new.2;
          } in
          inr (subst (λ (o : Option Ssid). IfSome o (LiesUnder rows sessions volid ssid))
          (sym new.0) under)
    ]

module _ (rows : List Record) (sessions : List OpenSet) (volid moment : ℕ) (are : AreRecords rows)
    (each : AreSessions rows sessions) where
  abbrev pub ForbidsIt : Record → Type 0
  ForbidsIt row = RowLiesOn sessions volid row × Needed rows sessions moment row.ssid.0
      × (¬ Any (IsDoneOff volid) row.copies)

  -- the record of a set that has a section on the volume
  pub section_listed : (ssid : ℕ) → HasSectionOn rows sessions volid ssid → (row : Record)
      × Contains rows row × (row.ssid.0 ≡ ssid) × RowLiesOn sessions volid row
  section_listed ssid on = elim on [
    | inl copy ↦ (
      copy.0,
      listed rows ssid copy.0 copy.1,
      found_ssid rows ssid copy.0 copy.1,
      inl copy.2,
    )
    | inr written ↦
        let has = open_listed rows sessions moment are each ssid
        (written.0, written.1, written.2, written.3, written.4.0) in (
          has.0,
          has.1,
          has.2,
          inr (subst (λ (n : ℕ). IsWrittenOn sessions volid n) (sym has.2)
              written),
        )
  ]

  pub copy_off : (row : Record) → Contains rows row → Any (IsDoneOff volid) row.copies
      → HasCopyOff rows volid row.ssid.0
  copy_off row is off = (row, found rows row are is, off)

  pub row_forbids : (row : Record) → Contains rows row → ForbidsIt row
      → Forbids rows sessions volid moment row.ssid.0
  row_forbids row is forbids = record {
    needed = forbids.1;
    on = elim forbids.0 [
      | inl copy ↦ inl (row, found rows row are is, copy)
      | inr written ↦ inr
          written
    ];
    none_off = λ off.
        let here = found rows row are is in
        let same : off.0 ≡ row = cc (here, off.1) in
        forbids.2 (subst (λ (one : Record). Any (IsDoneOff volid) one.copies) same off.2);
  }

  pub forbid_listed : (ssid : ℕ) → Forbids rows sessions volid moment ssid → (row : Record)
      × Contains rows row × (row.ssid.0 ≡ ssid) × ForbidsIt row
  forbid_listed ssid forbids =
      let has = section_listed ssid forbids.on in (
        has.0,
        has.1,
        has.2,
        (
          has.3,
          subst (λ (n : ℕ). Needed rows sessions moment n) (sym has.2) forbids.needed,
          λ off. forbids.none_off (subst (λ (n : ℕ). HasCopyOff rows volid n) has.2
              (copy_off has.0 has.1 off)),
        ),
      )

  -- ---- all users

  under_forbids : (user : Record) (found : Ssid) → Contains rows user
      → NeedsItself sessions moment user → LiesUnder rows sessions volid user.ssid.0 found
      → Forbids rows sessions volid moment found.0
  under_forbids user found is needs under =
      let needed : Needed rows sessions moment under.row.ssid.0 =
      (user.ssid.0, under.under, row_needs rows sessions moment are user is needs) in
      let forbids = row_forbids under.row under.listed (under.on, needed, under.none_off) in
      subst (λ (s : Ssid). Forbids rows sessions volid moment s.0) under.is forbids

  some_forbids : (user : Record) (result : Option Ssid) → Contains rows user
      → IfSome result (λ found. NeedsItself sessions moment user
      × LiesUnder rows sessions volid user.ssid.0 found)
      → MatchOption result (Unit {0}) (λ least. Forbids rows sessions volid moment least.0)
  some_forbids user None is under = tt
  some_forbids user (Some found) is under = under_forbids user found is under.0 under.1

  pub user_forbids : (user : Record) (least result : Option Ssid) → Contains rows user
      → MatchOption least (Unit {0}) (λ least. Forbids rows sessions volid moment least.0)
      → ((result ≡ least) ⊎ IfSome result (λ found. NeedsItself sessions moment user
      × LiesUnder rows sessions volid user.ssid.0 found))
      → MatchOption result (Unit {0}) (λ least. Forbids rows sessions volid moment least.0)
  user_forbids user least result is before step = elim step [
    | inl same ↦
        subst (λ (o : Option Ssid). MatchOption o (Unit {0})
        (λ least. Forbids rows sessions volid moment least.0)) (sym same) before
    | inr under ↦ some_forbids user result is under
  ]

  abbrev pub UserSettled : Option Ssid → Record → Type 0
  UserSettled least user =
      NeedsItself sessions moment user → AreSettled rows sessions volid user.ssid.0 least

  pub users_settled : (at : ℕ) (user : Record) (least result : Option Ssid)
      → at < length rows → user ≡ get_or rows at user
      → ((n : ℕ) → IsUpTo least n → IsUpTo result n) → UserSettled result user
      → AllWithin (UserSettled least) rows 0 at → AllWithin (UserSettled result) rows 0 (at + 1)
  users_settled at user least result within read grown settled before =
      more_within (UserSettled result) rows at user
      (λ k d low below needs row is on.
      settled_more rows sessions volid moment are least result grown row
      (before k d low below needs row is on))
      within read settled

  settled_for : (at : ℕ) (least : Option Ssid) → AllWithin (UserSettled least) rows 0 at
      → length rows ≤ at → (row : Record) → Contains rows row
      → Needed rows sessions moment row.ssid.0 → IsSettled sessions volid least row
  settled_for at least settled end row is needed =
      let user = needs_listed rows sessions moment are each needed.0 needed.2 in
      let place = user.1 in
      let within = place.1 in
      let before : place.0 < at = omega (arith, within, end) in
      let under = subst (UserSettled least) place.2 (settled place.0 user.0 (omega arith) before) in
      under user.3 row is (subst (λ (n : ℕ). StandsOn rows n row.ssid.0) (sym user.2) needed.1)

  pub least_forbids : (at : ℕ) (least : Ssid) → AllWithin (UserSettled (Some least)) rows 0 at
      → length rows ≤ at → Forbids rows sessions volid moment least.0
      → IsLabelAnswer rows sessions volid moment (Err least)
  least_forbids at least settled end forbids = (
    forbids,
    λ ssid other.
        let has = forbid_listed ssid other in
        let same = has.2 in
        elim (settled_for at (Some least) settled end has.0 has.1 has.3.1) [
          | inl allows ↦ absurd (has.3.2 (allows has.3.0))
          | inr upto ↦ omega (arith, upto, same)
        ],
  )

  pub all_allow : (at : ℕ) (done : Unit {0}) → AllWithin (UserSettled None) rows 0 at
      → length rows ≤ at → IsLabelAnswer rows sessions volid moment (Ok done)
  all_allow at done settled end ssid needed on =
      let has = section_listed ssid on in
      let row_needed = subst (λ (n : ℕ). Needed rows sessions moment n) (sym has.2) needed in
      elim (settled_for at None settled end has.0 has.1 row_needed) [
        | inl allows ↦
            subst (λ (n : ℕ). HasCopyOff rows volid n) has.2
            (copy_off has.0 has.1 (allows has.3))
        | inr upto ↦ absurd upto
      ]

pub only_on : {On Off : Type 0} (off : Bool) → On → (IsTrue off ↔ Off)
    → MatchBool (not off) (On × (¬ Off)) (On → Off)
only_on true on iff = λ _. iff.0 refl
only_on false on iff = (on, λ has. absurd (false≢true (iff.1 has)))
