-- Indexes stay allowed, and only sets on record have one.
use Rattle.std.proofs.Common.{◌≡◌, ℕ, Bool, true, false, cond, List, [], Option, Some, None, refl, sym, subst, ◌∙◌, arith}
use Rattle.std.specs.Prelude.{◌==◌, IsSomeAnd}
use Rattle.std.specs.Option.{option_map}
use Rattle.std.proofs.lemmas.Bool.{true≢false}
use Rattle.std.proofs.lemmas.Bool.Decides.{nat_tests}
use Rattle.room_base.specs.declared.numbers.Ssid.{Ssid}
use Rattle.save_stream.specs.declared.entry.IndexEntry.{IndexEntry}
use Rattle.media_db.specs.declared.records.Record.{Record}
use Rattle.media_db.specs.Rows.{find_record}
use Rattle.catalog_change.specs.Catalogues.{HasIndexes}
use Rattle.catalog_change.specs.Changes.{AreEntries}
use Rattle.room_catalog.specs.Applying.{edited_at, index_of_row}

no_entries : AreEntries []
no_entries = record { each = tt; order = tt; count = omega arith }

module _ (rows now : List Record) (old new : ℕ → List IndexEntry) (has : HasIndexes rows old) where
  -- where the indexes stay, and no record goes
  pub same_indexes : ((ssid : ℕ) → find_record ssid now ≡ None → find_record ssid rows ≡ None) → ((ssid : ℕ) → new ssid ≡ old ssid) → HasIndexes now new
  same_indexes stays same = λ ssid. (subst AreEntries (sym (same ssid)) (has ssid).0, λ none. same ssid ∙ (has ssid).1 (stays ssid none))

  -- where one set has another index
  pub one_index : (set : Ssid) (index : List IndexEntry) → AreEntries index → ((ssid : ℕ) → find_record ssid now ≡ None → find_record ssid rows ≡ None) → (find_record set.0 rows ≡ None → ⊥) → ((ssid : ℕ) → new ssid ≡ cond (set.0 == ssid) index (old ssid)) → HasIndexes now new
  one_index set index are stays some made = λ ssid. by ssid (set.0 == ssid) refl (made ssid)
    where
      by : (ssid : ℕ) (here : Bool) → (set.0 == ssid) ≡ here → new ssid ≡ cond here index (old ssid) → AreEntries (new ssid) × (find_record ssid now ≡ None → new ssid ≡ [])
      by ssid true is made =
          let same : set.0 ≡ ssid = grind (arith, nat_tests) in
          (subst AreEntries (sym made) are, λ none. absurd (some (subst (λ (n : ℕ). find_record n rows ≡ None) (sym same) (stays ssid none))))
      by ssid false is made = (subst AreEntries (sym made) (has ssid).0, λ none. made ∙ (has ssid).1 (stays ssid none))

  -- where some sets have no index any more, and no other record goes
  pub fewer_indexes : (gone : ℕ → Bool) → ((ssid : ℕ) → gone ssid ≡ false → find_record ssid now ≡ None → find_record ssid rows ≡ None) → ((ssid : ℕ) → new ssid ≡ cond (gone ssid) [] (old ssid)) → HasIndexes now new
  fewer_indexes gone stays made = λ ssid. by ssid (gone ssid) refl (made ssid)
    where
      by : (ssid : ℕ) (here : Bool) → gone ssid ≡ here → new ssid ≡ cond here [] (old ssid) → AreEntries (new ssid) × (find_record ssid now ≡ None → new ssid ≡ [])
      by ssid true is made = (subst AreEntries (sym made) no_entries, λ none. made)
      by ssid false is made = (subst AreEntries (sym made) (has ssid).0, λ none. made ∙ (has ssid).1 (stays ssid is none))

  -- where records go, and their indexes with them
  pub left_indexes : (left : ℕ → Option Record) → ((ssid : ℕ) → find_record ssid now ≡ left ssid) → ((ssid : ℕ) → new ssid ≡ index_of_row (left ssid) (old ssid)) → HasIndexes now new
  left_indexes left found made = λ ssid. by ssid (left ssid) (found ssid) (made ssid)
    where
      by : (ssid : ℕ) (row : Option Record) → find_record ssid now ≡ row → new ssid ≡ index_of_row row (old ssid) → AreEntries (new ssid) × (find_record ssid now ≡ None → new ssid ≡ [])
      by ssid None found made = (subst AreEntries (sym made) no_entries, λ none. made)
      by ssid (Some row) found made = (subst AreEntries (sym made) (has ssid).0, λ none. absurd (let one : Some row ≡ None = sym found ∙ none in cc))

-- a record that is edited was there
pub edited_none : (set : Ssid) (edit : Record → Record) (ssid : ℕ) (found : Option Record) → edited_at set edit ssid found ≡ None → found ≡ None
edited_none set edit ssid None none = refl
edited_none set edit ssid (Some row) none = by (set.0 == ssid) none
  where
    by : (here : Bool) → cond here (Some (edit row)) (Some row) ≡ None → Some row ≡ None
    by true none = cc
    by false none = none

pub put_none : (here : Bool) (new : Record) (found : Option Record) → cond here (Some new) found ≡ None → found ≡ None
put_none true new found none = cc
put_none false new found none = none

pub purged_none : (among : Bool) (edit : Record → Record) (found : Option Record) → cond among (option_map edit found) found ≡ None → found ≡ None
purged_none true edit None none = refl
purged_none true edit (Some row) none = cc
purged_none false edit found none = none

pub removed_none : (here : Bool) (found : Option Record) → here ≡ false → cond here None found ≡ None → found ≡ None
removed_none true found other none = absurd (true≢false other)
removed_none false found other none = none

-- what is found is something
pub found_some : (found : Option Record) (P : Record → Type 0) → IsSomeAnd found P → found ≡ None → ⊥
found_some None P some none = some
found_some (Some row) P some none = cc
