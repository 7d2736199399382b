-- One call that writes one file, as a deed.
use Rattle.std.proofs.Common.{◌≡◌, ◌≢◌, ◌==◌, ℕ, List, [], ◌∷◌, if◌then◌else◌, refl, sym, ap, ◌∙◌, subst, inl, inr}
use Rattle.std.proofs.lemmas.Bool.{cases_eq}
use Rattle.std.specs.Prelude.{IsTrue, Result, Ok}
use Rattle.room_disk.specs.Disk.{DiskView, Image, Images, IsDisk, Leaves, Settled, OnFile}
use Rattle.room_disk.specs.Laws.{if_same, if_other}
use Rattle.room_disk.specs.Writing.{ComesOf, WritesFile}
use Rattle.room_disk.proofs.Runs.{leaves_weaker}
use Rattle.room_effects.specs.View.{RoomView}
use Rattle.room_effects.specs.Effects.{Effect, Deed, Done, Broken, effect_of}
use Rattle.room_effects.specs.Files.{Touches, Torn, Whole, target}
use Rattle.room_effects.specs.Running.{Crashed, FromOne, Led}

-- the image with other bytes in a file
pub put : ℕ → List ℕ → Image → Image
put file bytes image other = if other == file then bytes else image other

pub put_same : (file : ℕ) (bytes : List ℕ) (image : Image) → put file bytes image file ≡ bytes
unfolding put
put_same file bytes image = if_same file file bytes (image file) refl

pub put_other : (file other : ℕ) (bytes : List ℕ) (image : Image) → other ≢ file → put file bytes image other ≡ image other
unfolding put
put_other file other bytes image apart = if_other other file bytes (image other) apart

-- an image whose file comes of an earlier one by a step, and whose other files are as they were left
pub from_one : (disk : DiskView) (file : ℕ) (Step : List ℕ → List ℕ → Type 0) (image : Image)
    → ((other : ℕ) → other ≢ file → disk.leaves other (image other)) → ComesOf Step disk file (image file)
    → FromOne disk (Touches file Step) image
from_one disk file Step image others comes =
    let first = put file comes.0 image in
    let same : first file ≡ comes.0 = put_same file comes.0 image in
    let P : List ℕ → Type 0 = λ bytes. Step bytes (image file) in (
      first,
      (λ other. elim (cases_eq other file) [
        | inl is ↦ (let L : List ℕ → Type 0 = λ bytes. disk.leaves other bytes in
            let Q : ℕ → Type 0 = λ n. disk.leaves n comes.0 in
            subst L (sym (ap first is ∙ same)) (subst Q (sym is) comes.1))
        | inr apart ↦ (let L : List ℕ → Type 0 = λ bytes. disk.leaves other bytes in
            subst L (sym (put_other file other comes.0 image apart)) (others other apart))
      ]),
      record {
        others = λ other apart. sym (put_other file other comes.0 image apart);
        this = subst P (sym same) comes.2;
      },
    )

-- ---- at a crash in the call

pub moments_of : {T E : Type 0} (deed : Deed) (room : RoomView) (before now : DiskView) (answer : Result T E) → IsTrue before.tells
    → WritesFile (target (effect_of deed) room) (Whole (effect_of deed) room) (Torn (effect_of deed) room) before now answer
    → Leaves before now (FromOne before (Crashed (deed ∷ []) room))
moments_of deed room before now answer told wrote =
    let effect = effect_of deed in
    let file = target effect room in
    leaves_weaker before now (OnFile file (ComesOf (Torn effect room) before file) before) (FromOne before (Crashed (deed ∷ []) room))
    (wrote.moments told)
    (λ image on. let from = from_one before file (Torn effect room) image on.others on.this in
    (from.0, from.1, inl from.2))

-- ---- after a call that failed

pub images_of_broken : {T E : Type 0} (effect : Effect) (room : RoomView) (before now : DiskView) (answer : Result T E) → IsTrue before.tells
    → WritesFile (target effect room) (Whole effect room) (Torn effect room) before now answer
    → (image : Image) → Images now image → FromOne before (Led (Broken effect ∷ []) room) image
images_of_broken effect room before now answer told wrote image is =
    let file = target effect room in
    let from = from_one before file (Torn effect room) image
    (λ other apart. (wrote.others told).leaves other (image other) apart (is other)) (wrote.torn told (image file) (is file)) in
    (from.0, from.1, (image, from.2, refl))

pub reads_of_broken : {T E : Type 0} (effect : Effect) (room : RoomView) (before now : DiskView) (answer : Result T E)
    → IsDisk now → IsTrue before.tells → Settled before (target effect room)
    → WritesFile (target effect room) (Whole effect room) (Torn effect room) before now answer
    → Led (Broken effect ∷ []) room before.reads now.reads
reads_of_broken effect room before now answer is_now told settled wrote =
    let file = target effect room in
    let comes : ComesOf (Torn effect room) before file (now.reads file) = wrote.torn told (now.reads file) (is_now.reads_one file) in
    let P : List ℕ → Type 0 = λ first. Torn effect room first (now.reads file) in
    (now.reads, record { others = (wrote.others told).reads; this = subst P (settled comes.0 comes.1) comes.2 }, refl)

-- ---- after a call that was done

pub images_of_done : {T E : Type 0} (effect : Effect) (room : RoomView) (before now : DiskView) (value : T)
    → IsDisk before → IsTrue before.tells
    → WritesFile {T = T} {E = E} (target effect room) (Whole effect room) (Torn effect room) before now (Ok value)
    → (image : Image) → Images now image → FromOne before (Led (Done effect ∷ []) room) image
images_of_done effect room before now value is_before told wrote image is =
    let file = target effect room in
    let P : List ℕ → Type 0 = λ bytes. Whole effect room (before.reads file) bytes in
    let whole : Whole effect room (before.reads file) (image file) = subst P (sym (wrote.settled told (image file) (is file))) (wrote.whole told) in
    let from = from_one before file (Whole effect room) image
    (λ other apart. (wrote.others told).leaves other (image other) apart (is other))
    (before.reads file, is_before.reads_one file, whole) in
    (from.0, from.1, (image, from.2, refl))

pub reads_of_done : {T E : Type 0} (effect : Effect) (room : RoomView) (before now : DiskView) (value : T) → IsTrue before.tells
    → WritesFile {T = T} {E = E} (target effect room) (Whole effect room) (Torn effect room) before now (Ok value)
    → Led (Done effect ∷ []) room before.reads now.reads
reads_of_done effect room before now value told wrote =
    (now.reads, record { others = (wrote.others told).reads; this = wrote.whole told }, refl)
