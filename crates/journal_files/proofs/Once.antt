-- Files replay to one catalogue, or are damaged at one place, and never both.
use Rattle.std.proofs.Common.{◌≡◌, ◌∙◌, ℕ, List, [], ◌∷◌, ◌++◌, append_assoc, refl, sym, ap, subst, inl, inr}
use Rattle.std.proofs.lemmas.List.{append-nil}
use Rattle.room_disk.specs.Disk.{Image}
use Rattle.cat_journal.specs.Contents.{Contents, contents_of, gate_of}
use Rattle.cat_journal.specs.Meaning.{Meaning, Means, Unopened, Damaged, Stands}
use Rattle.cat_journal.proofs.EveryMeaning.{every_meaning}
use Rattle.cat_journal.proofs.OneMeaning.{one_meaning}
use Rattle.catalog_change.specs.Catalogues.{Catalogue}
use Rattle.catalog_spelling.specs.Changes.{Stamped}
use Rattle.room_catalog.specs.Fits.{Fits, FitsParts}
use Rattle.room_catalog.specs.Held.{CatalogueLists, Parts, catalogue_of, no_parts}
use Rattle.resource_lists.specs.Lists.{opening_resources}
use Rattle.room_effects.specs.Reopening.{AreAlike, GiveCatalogue, MeansCatalogue}
use Rattle.room_effects.specs.Replaying.{Follows, Replays, lists_behind}
use Rattle.room_effects.proofs.Standing.{replays_more}
use Rattle.journal_files.specs.Files.{AreDamagedAt, IsDamaged, IsFirst, IsSnapshot, IsStray, MeaningIsDamaged, ReplaysTo, StraysAt}
use Rattle.journal_files.proofs.Alike.{alike_after, alike_back, alike_self, alike_then}
use Rattle.journal_files.proofs.Single.{one_stamped, one_text}

-- ---- entries

follows_alike : (form : ℕ) (payload : List ℕ) (one other : CatalogueLists) (told : Stamped) → AreAlike one other → Follows form payload one told → Follows form payload other told
follows_alike form payload one other told alike follows =
    let F : Catalogue → Type 0 = λ catalogue. Fits catalogue told.change in
    let P : Parts → Type 0 = λ parts. FitsParts parts told.change in
    record {
      text = follows.text;
      may = record { stands = follows.may.stands; fits = subst F alike.0 follows.may.fits; parts = subst P alike.1 follows.may.parts };
    }

stray_alike : (form : ℕ) (payload : List ℕ) (one other : CatalogueLists) → AreAlike one other → IsStray form payload one → IsStray form payload other
stray_alike form payload one other alike stray = λ told follows. stray told (follows_alike form payload other one told (alike_back one other alike) follows)

-- one change is told, and it leaves one catalogue
behind_alike : (form : ℕ) (payload : List ℕ) (one other : CatalogueLists) (told also : Stamped) → AreAlike one other → Follows form payload one told → Follows form payload other also
    → AreAlike (lists_behind told one) (lists_behind also other)
behind_alike form payload one other told also alike follows too =
    let L : Stamped → Type 0 = λ it. AreAlike (lists_behind told one) (lists_behind it other) in
    subst L (one_stamped payload told also follows.text too.text) (alike_after (record { 0 = told.moment }) told.change one other alike)

pub replays_alike : (form : ℕ) (payloads : List (List ℕ)) (first other end last : CatalogueLists) → AreAlike first other → Replays form payloads first end → Replays form payloads other last
    → AreAlike end last
replays_alike form [] first other end last alike replays also =
    alike_then end first last (alike_self end first replays) (alike_then first other last alike (alike_self other last (sym also)))
replays_alike form (payload ∷ payloads) first other end last alike replays also =
    replays_alike form payloads (lists_behind replays.0 first) (lists_behind also.0 other) end last (behind_alike form payload first other replays.0 also.0 alike replays.1 also.1) replays.2 also.2

-- the entries before the first that tells no change
before_same : (form : ℕ) (before others : List (List ℕ)) (stray late : List ℕ) (more rest : List (List ℕ)) (first other end last : CatalogueLists) → AreAlike first other
    → Replays form before first end → Replays form others other last → IsStray form stray end → IsStray form late last
    → before ++ stray ∷ more ≡ others ++ late ∷ rest → before ≡ others
before_same form [] [] stray late more rest first other end last alike replays also is too same = refl
before_same form [] (payload ∷ others) stray late more rest first other end last alike replays also is too same =
    let S : List ℕ → Type 0 = λ bytes. IsStray form bytes first in
    let E : CatalogueLists → Type 0 = λ lists. IsStray form stray lists in
    let front : stray ≡ payload = cc in
    absurd (stray_alike form payload first other alike (subst S front (subst E replays is)) also.0 also.1)
before_same form (payload ∷ before) [] stray late more rest first other end last alike replays also is too same =
    let S : List ℕ → Type 0 = λ bytes. IsStray form bytes other in
    let E : CatalogueLists → Type 0 = λ lists. IsStray form late lists in
    let front : late ≡ payload = cc in
    absurd (stray_alike form payload other first (alike_back first other alike) (subst S front (subst E also too)) replays.0 replays.1)
before_same form (payload ∷ before) (payload' ∷ others) stray late more rest first other end last alike replays also is too same =
    let front : payload ≡ payload' = cc in
    let behind : before ++ stray ∷ more ≡ others ++ late ∷ rest = cc in
    let F : List ℕ → Type 0 = λ bytes. Follows form bytes other also.0 in
    ap (λ (bytes : List ℕ). bytes ∷ before) front
    ∙ ap (λ (tail : List (List ℕ)). payload' ∷ tail)
    (before_same form before others stray late more rest (lists_behind replays.0 first) (lists_behind also.0 other) end last
    (behind_alike form payload first other replays.0 also.0 alike replays.1 (subst F (sym front) also.1)) replays.2 also.2 is too behind)

-- entries that replay have none that tells no change
none_strays : (form : ℕ) (payloads before : List (List ℕ)) (stray : List ℕ) (more : List (List ℕ)) (first other end lists : CatalogueLists) → AreAlike first other
    → Replays form payloads first end → Replays form before other lists → IsStray form stray lists → payloads ≡ before ++ stray ∷ more → ⊥
none_strays form [] [] stray more first other end lists alike replays also is same = absurd (cc)
none_strays form [] (payload ∷ before) stray more first other end lists alike replays also is same = absurd (cc)
none_strays form (payload ∷ payloads) [] stray more first other end lists alike replays also is same =
    let front : stray ≡ payload = cc in
    let S : List ℕ → Type 0 = λ bytes. IsStray form bytes other in
    let E : CatalogueLists → Type 0 = λ lists. IsStray form stray lists in
    stray_alike form payload other first (alike_back first other alike) (subst S front (subst E also is)) replays.0 replays.1
none_strays form (payload ∷ payloads) (payload' ∷ before) stray more first other end lists alike replays also is same =
    let front : payload ≡ payload' = cc in
    let behind : payloads ≡ before ++ stray ∷ more = cc in
    let F : List ℕ → Type 0 = λ bytes. Follows form bytes other also.0 in
    none_strays form payloads before stray more (lists_behind replays.0 first) (lists_behind also.0 other) end lists
    (behind_alike form payload first other replays.0 also.0 alike replays.1 (subst F (sym front) also.1)) replays.2 also.2 is behind

-- ---- contents

abbrev begins_with : (contents : Contents) (lists : CatalogueLists) (gives : GiveCatalogue IsSnapshot contents lists) → IsFirst contents.head.number contents.snapshot gives.first
begins_with contents lists gives = record { is = gives.snapshot; number_is = gives.number }

-- a snapshot gives one catalogue
pub one_first : (number : ℕ) (snapshot : List ℕ) (one other : CatalogueLists) → IsFirst number snapshot one → IsFirst number snapshot other → AreAlike one other
one_first number snapshot one other is also = (one_text snapshot (catalogue_of one) (catalogue_of other) is.is.text also.is.text, is.is.parts ∙ sym also.is.parts)

one_place : (contents : Contents) (place other : ℕ) → AreDamagedAt contents place → AreDamagedAt contents other → place ≡ other
one_place contents place other (inl none) (inl also) = none.1 ∙ sym also.1
one_place contents place other (inl none) (inr also) = absurd (none.0 also.first also.begins)
one_place contents place other (inr strays) (inl also) = absurd (also.0 strays.first strays.begins)
one_place contents place other (inr strays) (inr also) =
    let same = before_same contents.head.form strays.before also.before strays.stray also.stray strays.more also.more strays.first also.first strays.lists also.lists
    (one_first contents.head.number contents.snapshot strays.first also.first strays.begins also.begins) strays.replays also.replays strays.is also.is (sym strays.payloads ∙ also.payloads) in
    strays.placed ∙ ap (λ (payloads : List (List ℕ)). gate_of (contents_of contents.head contents.snapshot payloads)) same ∙ sym also.placed

not_both : (contents : Contents) (lists : CatalogueLists) (place : ℕ) → GiveCatalogue IsSnapshot contents lists → AreDamagedAt contents place → ⊥
not_both contents lists place replays (inl none) = none.0 replays.first (begins_with contents lists replays)
not_both contents lists place replays (inr strays) =
    none_strays contents.head.form contents.payloads strays.before strays.stray strays.more replays.first strays.first lists strays.lists
    (one_first contents.head.number contents.snapshot replays.first strays.first (begins_with contents lists replays) strays.begins) replays.replays strays.replays strays.is strays.payloads

-- entries that replay so far go on to, unless they end
either_behind : (contents : Contents) (first : CatalogueLists) → IsFirst contents.head.number contents.snapshot first
    → ((lists : CatalogueLists) → GiveCatalogue IsSnapshot contents lists → ⊥) → ((place : ℕ) → StraysAt contents place → ⊥)
    → (rest before : List (List ℕ)) (lists : CatalogueLists) → contents.payloads ≡ before ++ rest → Replays contents.head.form before first lists → ⊥
either_behind contents first begins none sound [] before lists parts replays =
    let R : List (List ℕ) → Type 0 = λ payloads. Replays contents.head.form payloads first lists in
    none lists (record { first = first; snapshot = begins.is; number = begins.number_is; replays = subst R (sym (parts ∙ append-nil before)) replays })
either_behind contents first begins none sound (payload ∷ rest) before lists parts replays =
    sound (gate_of (contents_of contents.head contents.snapshot before)) (record {
      first = first;
      begins = begins;
      before = before;
      stray = payload;
      more = rest;
      payloads = parts;
      lists = lists;
      replays = replays;
      is = λ told follows.
          either_behind contents first begins none sound rest (before ++ payload ∷ []) (lists_behind told lists) (parts ∙ sym (append_assoc before (payload ∷ []) rest))
          (replays_more contents.head.form before payload first lists (lists_behind told lists) replays (told, follows, refl));
      placed = refl;
    })

-- ---- files

abbrev opening_lists : CatalogueLists
opening_lists = record {
  number = 0;
  last_moment = 0;
  next_ssid = 1;
  next_volid = 1;
  resources = opening_resources;
  slots = [];
  volumes = [];
  records = [];
  sets = [];
  parts = no_parts;
}

one_of_meaning : (meaning : Meaning) (one other : CatalogueLists) → MeansCatalogue IsSnapshot meaning one → MeansCatalogue IsSnapshot meaning other → AreAlike one other
one_of_meaning Unopened one other gives also = (gives.0 ∙ sym also.0, gives.1 ∙ sym also.1)
one_of_meaning (Damaged file place) one other gives also = absurd gives
one_of_meaning (Stands file contents) one other gives also =
    replays_alike contents.head.form contents.payloads gives.first also.first one other
    (one_first contents.head.number contents.snapshot gives.first also.first (begins_with contents one gives) (begins_with contents other also)) gives.replays also.replays

pub one_catalogue : (files : Image) (one other : CatalogueLists) → ReplaysTo files one → ReplaysTo files other → AreAlike one other
one_catalogue files one other replays also =
    let G : Meaning → Type 0 = λ meaning. MeansCatalogue IsSnapshot meaning one in
    one_of_meaning also.meaning one other (subst G (one_meaning files replays.meaning also.meaning replays.means also.means) replays.gives) also.gives

damage_of_meaning : (meaning : Meaning) (file other place at : ℕ) → MeaningIsDamaged meaning file place → MeaningIsDamaged meaning other at → (file ≡ other) × (place ≡ at)
damage_of_meaning Unopened file other place at is also = absurd is
damage_of_meaning (Damaged which where_is) file other place at is also = (is.0 ∙ sym also.0, is.1 ∙ sym also.1)
damage_of_meaning (Stands which contents) file other place at is also = (is.0 ∙ sym also.0, one_place contents place at is.1 also.1)

pub one_damage : (files : Image) (file other place at : ℕ) → IsDamaged files file place → IsDamaged files other at → (file ≡ other) × (place ≡ at)
one_damage files file other place at is also =
    let D : Meaning → Type 0 = λ meaning. MeaningIsDamaged meaning file place in
    damage_of_meaning also.meaning file other place at (subst D (one_meaning files is.meaning also.meaning is.means also.means) is.is) also.is

apart_of_meaning : (meaning : Meaning) (lists : CatalogueLists) (file place : ℕ) → MeansCatalogue IsSnapshot meaning lists → MeaningIsDamaged meaning file place → ⊥
apart_of_meaning Unopened lists file place gives is = is
apart_of_meaning (Damaged which at) lists file place gives is = gives
apart_of_meaning (Stands which contents) lists file place gives is = not_both contents lists place gives is.1

pub never_both : (files : Image) (lists : CatalogueLists) (file place : ℕ) → ReplaysTo files lists → IsDamaged files file place → ⊥
never_both files lists file place replays is =
    let G : Meaning → Type 0 = λ meaning. MeansCatalogue IsSnapshot meaning lists in
    apart_of_meaning is.meaning lists file place (subst G (one_meaning files replays.meaning is.meaning replays.means is.means) replays.gives) is.is

none_of_meaning : (files : Image) (meaning : Meaning) → Means files meaning → ((lists : CatalogueLists) → ReplaysTo files lists → ⊥) → ((file place : ℕ) → IsDamaged files file place → ⊥) → ⊥
none_of_meaning files Unopened means none sound = none opening_lists (record { meaning = Unopened; means = means; gives = (refl, refl) })
none_of_meaning files (Damaged file place) means none sound = sound file place (record { meaning = Damaged file place; means = means; is = (refl, refl) })
none_of_meaning files (Stands file contents) means none sound =
    sound file 0 (record {
      meaning = Stands file contents;
      means = means;
      is = (
        refl,
        inl (
          λ first begins.
              either_behind contents first begins (λ lists gives. none lists (record { meaning = Stands file contents; means = means; gives = gives }))
              (λ place strays. sound file place (record { meaning = Stands file contents; means = means; is = (refl, inr strays) })) contents.payloads [] first refl refl,
          refl,
        ),
      );
    })

pub never_neither : (files : Image) → ((lists : CatalogueLists) → ReplaysTo files lists → ⊥) → ((file place : ℕ) → IsDamaged files file place → ⊥) → ⊥
never_neither files none sound = let is = every_meaning files in none_of_meaning files is.0 is.1 none sound
