-- What was read can be put into a database, one behind the other.
use Rattle.std.proofs.Common.{◌≡◌, ℕ, Bool, true, false, ◌&&◌, List, [], ◌∷◌, ◌++◌, length, refl, sym, ap, subst, ◌∙◌, arith}
use Rattle.std.specs.Prelude.{IfSome, map, Ok}
use Rattle.std.specs.List.{AllByRecursion}
use Rattle.std.specs.Ordering.{nat_cmp, match_ordering}
use Rattle.std.specs.declared.cmp.Ordering.{Ordering}
use Rattle.std.specs.declared.cmp.Ordering.TheVariants.{Less}
use Rattle.std.proofs.lemmas.List.{append-nil, nil_from_length}
use Rattle.media_db.specs.declared.records.Record.{Record}
use Rattle.room_base.proofs.OrderedNumbers.{compares_less, lesser_number}
use Rattle.room_base.specs.Ordered.{Ascends, AscendsFrom, put_by}
use Rattle.save_stream.specs.Spelling.{PathsAscend}
use Rattle.save_stream.specs.Standing.{AreBytes}
use Rattle.save_stream.specs.declared.entry.IndexEntry.{IndexEntry}
use Rattle.media_db.specs.Rows.{AreVolumes, HasLowerBase, volid_of}
use Rattle.media_db.specs.declared.volumes.VolumeRec.{VolumeRec}
use Rattle.catalog_change.specs.Catalogues.{max_number}
use Rattle.catalog_spelling.specs.Lists.{last_item}
use Rattle.catalog_spelling.proofs.Behind.{Rises, rising-is, above-is}
use Rattle.catalog_spelling.specs.declared.snapshot_fields.ListedRecord.{ListedRecord}
use Rattle.catalog_spelling.specs.Media.{is_next_drawn, volumes_at}
use Rattle.catalog_spelling.specs.Records.{listed_ssid, records_at}
use Rattle.catalog_spelling.specs.Storing.{AreListed}
use Rattle.snapshot_laws.proofs.Each.{behind-as}
use Rattle.snapshot_laws.proofs.Found.{taken}
use Rattle.snapshot_laws.proofs.MediaLaws.{IsNextVolume, volumes-read}
use Rattle.snapshot_laws.proofs.RecordLaws.{IsIndexIf, IsNextListed, records-read}

second : (a b : Bool) → a && b ≡ true → b ≡ true
second true b is = is
second false b is = cc

-- a number that is drawn behind others stands above the last of them
drawn-above : {X : Type 0} (greatest next : ℕ) (key : X → ℕ) (before : List X) (number : ℕ) → is_next_drawn greatest next key before number ≡ true
    → IfSome (last_item before) (λ last. nat_cmp (key last) number ≡ Less)
drawn-above key-greatest next key before number is = above-is key (last_item before) number (second _ _ is)

pub volumes-ascend : (next : ℕ) (bytes : List ℕ) (volumes : List VolumeRec) (rest : List ℕ) → AreBytes bytes → volumes_at next bytes ≡ Ok (volumes, rest) → AreVolumes volumes
volumes-ascend next bytes volumes rest fits is =
    let found = taken (volumes_at next) _ _ (volumes-read next) bytes volumes rest fits is in
    let Any : VolumeRec → Type 0 = λ volume. Unit {0} in
    (rising-is nat_cmp volid_of Any volumes (behind-as (IsNextVolume next) (Rises nat_cmp volid_of Any) (λ before volume is. (tt, drawn-above max_number next volid_of before volume.volid.0 is.0.1)) [] volumes found.1.1)).1

-- ---- records

-- what a record has by itself
abbrev HasParts : ListedRecord → Type 0
HasParts listed = HasLowerBase listed.row × PathsAscend listed.index

index-ascends : (indexed : Bool) (index : List IndexEntry) → IsIndexIf indexed index → PathsAscend index
index-ascends true index is = is.0.order
index-ascends false index is = subst PathsAscend (sym is) tt

bases-of : (records : List ListedRecord) → AllByRecursion HasParts records → AllByRecursion (λ listed. HasLowerBase listed.row) records
bases-of [] each = tt
bases-of (listed ∷ records) each = (each.0.0, bases-of records each.1)

paths-of : (records : List ListedRecord) → AllByRecursion HasParts records → AllByRecursion (λ listed. PathsAscend listed.index) records
paths-of [] each = tt
paths-of (listed ∷ records) each = (each.0.1, paths-of records each.1)

listed-next : (next : ℕ) (indexed : Bool) (before : List ListedRecord) (listed : ListedRecord) → IsNextListed next indexed before listed → Rises nat_cmp listed_ssid HasParts before listed
listed-next next indexed before listed is =
    ((is.head.0.base, index-ascends indexed listed.index is.index), drawn-above max_number next listed_ssid before listed.row.ssid.0 is.head.1)

pub records-listed : (next : ℕ) (indexed : Bool) (bytes : List ℕ) (records : List ListedRecord) (rest : List ℕ) → AreBytes bytes → records_at next indexed bytes ≡ Ok (records, rest) → AreListed records
records-listed next indexed bytes records rest fits is =
    let found = taken (records_at next indexed) _ _ (records-read next indexed) bytes records rest fits is in
    let parts = rising-is nat_cmp listed_ssid HasParts records (behind-as (IsNextListed next indexed) (Rises nat_cmp listed_ssid HasParts) (listed-next next indexed) [] records found.1.1) in
    record { order = parts.1; bases = bases-of records parts.0; paths = paths-of records parts.0 }

-- ---- one more behind others

-- numbers below another
abbrev AreBelow : {X : Type 0} → (X → ℕ) → ℕ → List X → Type 0
AreBelow key number xs = AllByRecursion (λ y. nat_cmp (key y) number ≡ Less) xs

put-below : {X : Type 0} (key : X → ℕ) (xs : List X) (x : X) → AreBelow key (key x) xs → put_by nat_cmp key x xs ≡ xs ++ x ∷ []
put-below key [] x below = refl
put-below {X = X} key (y ∷ ys) x below =
    ap (λ (order : Ordering). match_ordering order (y ∷ put_by nat_cmp key x ys) (x ∷ ys) (x ∷ (y ∷ ys))) below.0 ∙ ap (λ (zs : List X). y ∷ zs) (put-below key ys x below.1)

below-from : {X : Type 0} (key : X → ℕ) (low : ℕ) (xs : List X) (x : X) (more : List X) → AscendsFrom nat_cmp key low (xs ++ x ∷ more) → AreBelow key (key x) xs × (nat_cmp low (key x) ≡ Less)
below-from key low [] x more order = (tt, order.0)
below-from key low (y ∷ ys) x more order =
    let rest = below-from key (key y) ys x more order.1 in
    ((rest.1, rest.0), compares_less low (key x) (omega (arith, lesser_number low (key y) order.0, lesser_number (key y) (key x) rest.1)))

below-of : {X : Type 0} (key : X → ℕ) (xs : List X) (x : X) (more : List X) → Ascends nat_cmp key (xs ++ x ∷ more) → AreBelow key (key x) xs
below-of key [] x more order = tt
below-of key (y ∷ ys) x more order = let rest = below-from key (key y) ys x more order in (rest.1, rest.0)

-- the next of ascending items is put behind those before it
pub put-next : {X : Type 0} (key : X → ℕ) (xs : List X) (x : X) (more : List X) → Ascends nat_cmp key (xs ++ x ∷ more) → put_by nat_cmp key x xs ≡ xs ++ x ∷ []
put-next key xs x more order = put-below key xs x (below-of key xs x more order)

mapped-below : {X Y : Type 0} (key : Y → ℕ) (f : X → Y) (number : ℕ) (xs : List X) → AreBelow (λ x. key (f x)) number xs → AreBelow key number (map f xs)
mapped-below key f number [] below = tt
mapped-below key f number (x ∷ xs) below = (below.0, mapped-below key f number xs below.1)

map-push : {X Y : Type 0} (f : X → Y) (xs : List X) (x : X) → map f xs ++ f x ∷ [] ≡ map f (xs ++ x ∷ [])
map-push f [] x = refl
map-push {Y = Y} f (y ∷ ys) x = ap (λ (zs : List Y). f y ∷ zs) (map-push f ys x)

-- the same of what is made of the items
pub put-mapped : {X Y : Type 0} (key : Y → ℕ) (f : X → Y) (before : List X) (x : X) (more : List X) → Ascends nat_cmp (λ z. key (f z)) (before ++ x ∷ more)
    → put_by nat_cmp key (f x) (map f before) ≡ map f (before ++ x ∷ [])
put-mapped key f before x more order =
    put-below key (map f before) (f x) (mapped-below key f (key (f x)) before (below-of (λ z. key (f z)) before x more order)) ∙ map-push f before x

-- ---- all items of a list, one of which stands between others

at-of : {X : Type 0} (P : X → Type 0) (before : List X) (x : X) (more : List X) → AllByRecursion P (before ++ x ∷ more) → P x
at-of P [] x more each = each.0
at-of P (y ∷ ys) x more each = at-of P ys x more each.1

pub each-at : {X : Type 0} (P : X → Type 0) (before : List X) (x : X) (more all : List X) → before ++ x ∷ more ≡ all → AllByRecursion P all → P x
each-at {X = X} P before x more all is each = at-of P before x more (subst (λ (xs : List X). AllByRecursion P xs) (sym is) each)

pub ascends-at : (before : List ListedRecord) (x : ListedRecord) (more all : List ListedRecord) → before ++ x ∷ more ≡ all → Ascends nat_cmp listed_ssid all → Ascends nat_cmp listed_ssid (before ++ x ∷ more)
ascends-at before x more all is order = subst (λ (xs : List ListedRecord). Ascends nat_cmp listed_ssid xs) (sym is) order

abbrev pub row-of : ListedRecord → Record
row-of listed = listed.row

-- nothing is left of a list
pub none-left : {X : Type 0} (before more all : List X) → before ++ more ≡ all → length more ≡ 0 → before ≡ all
none-left {X = X} before more all is none = sym (append-nil before) ∙ ap (λ (xs : List X). before ++ xs) (sym (nil_from_length more none)) ∙ is
