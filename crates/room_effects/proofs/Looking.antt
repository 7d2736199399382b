-- Reads of cartridges and the writing of labels, as effects.
use Rattle.std.proofs.Common.{◌≡◌, ◌⊎◌, ℕ, ◌≤◌, ◌==◌, Bool, true, false, if◌then◌else◌, List, [], ◌∷◌, refl, sym, ◌∙◌, subst, arith, inl, inr}
use Rattle.std.proofs.lemmas.Bool.Decides.{eqb_tells}
use Rattle.std.specs.Prelude.{Option, Some, None, IsSome, Result, Ok, Err}
use Rattle.room_base.specs.Faults.{Rose}
use Rattle.room_base.specs.Outside.{Told}
use Rattle.room_base.specs.declared.refusal.Refusal.TheVariants.{DeviceFault}
use Rattle.room_disk.specs.Disk.{DiskView, FaultCause, FileCause, Image, Images, IsDisk, Others, Quiet, Settled}
use Rattle.room_disk.specs.Writing.{WritesFile}
use Rattle.room_disk.proofs.Runs.{leaves_none}
use Rattle.volume_block.specs.declared.label.Label.{Label}
use Rattle.volume_store.specs.Reads.{Finds, Mounts, SettlesUnlessFailed}
use Rattle.volume_store.specs.Writes.{IsBeingLabelled, IsCart, Relabels, cart_file}
use Rattle.volume_store.specs.declared.commit.Volume.{Volume}
use Rattle.volume_store.specs.declared.label.Found.{Found}
use Rattle.volume_store.specs.declared.marks.MountFault.{MountFault}
use Rattle.volume_store.specs.declared.marks.MountFault.TheVariants as mounts
use Rattle.room_effects.specs.View.{RoomView}
use Rattle.room_effects.specs.Effects.{Done, Broken, Look, Seen, SeenLabel, SeenVolume, WriteLabel}
use Rattle.room_effects.specs.Files.{IsMounted, IsSeen, Sees, Touches}
use Rattle.room_effects.specs.Needs.{CanDo}
use Rattle.room_effects.specs.Running.{Crashed, Does, FromOne, Known, Ready, Stands, known_of}
use Rattle.room_effects.proofs.Does.{does_broken, does_done, failures_of_broken}
use Rattle.room_effects.proofs.Journals.{journal_other}
use Rattle.room_effects.proofs.Readiness.{are_apart, carried_other, ready_quiet, stands_other, still_known}

-- ---- reads

-- what a read tells: no count of faults falls, and nothing changes on the disk
pub record ReadsOnly (before now : DiskView) : Type 0 where
  pub later : (other : ℕ) → before.faults other ≤ now.faults other
  pub tells : now.tells ≡ before.tells
  pub quiet : Told before.tells (Quiet before now)

-- besides, this was found on a cartridge, on which nothing is pending
pub record IsFoundOn (cart : ℕ) (seen : Seen) (before now : DiskView) : Type 0 where
  pub settled : Settled now (cart_file cart)
  pub is : IsSeen cart seen (before.reads (cart_file cart))

-- what was found stands on the cartridge
found_stands : (cart : ℕ) (seen : Seen) (before now : DiskView) → Quiet before now → IsFoundOn cart seen before now → Stands now cart seen
found_stands cart seen before now quiet found =
    let P : List ℕ → Type 0 = λ bytes. IsSeen cart seen bytes in
    record { settled = found.settled; is = subst P (sym (quiet.reads (cart_file cart))) found.is }

-- of the cartridge that was read it is known, of each other what was
known_either : (cart other : ℕ) (seen also : Seen) (known : Known) → known_of cart seen known other ≡ Some also
    → ((other ≡ cart) × (seen ≡ also)) ⊎ (known other ≡ Some also)
known_either cart other seen also known is = by (other == cart) refl is
  where
    by : (same : Bool) → (other == cart) ≡ same → (if same then Some seen else known other) ≡ Some also → ((other ≡ cart) × (seen ≡ also)) ⊎ (known other ≡ Some also)
    by true tells is = inl (
      (elim (eqb_tells other cart) [
        | inl same ↦ same.1
        | inr apart ↦ absurd (let no : ◌≡◌ {A = Bool} false true = sym apart.0 ∙ tells in cc)
      ]),
      cc is,
    )
    by false tells is = inr is

ready_seen : (known : Known) (cart : ℕ) (seen : Seen) (room : RoomView) (before now : DiskView) → Quiet before now → IsFoundOn cart seen before now
    → Ready known room before → Ready (known_of cart seen known) room now
ready_seen known cart seen room before now quiet found was =
    let ready = ready_quiet known room before now quiet was in
    record {
      journal = ready.journal;
      drives = ready.drives;
      seen = λ other also is_cart is. elim (known_either cart other seen also known is) [
        | inl here ↦ (let P : ℕ → Type 0 = λ n. Stands now n also in
            let Q : Seen → Type 0 = λ one. Stands now cart one in
            subst P (sym here.0) (subst Q here.1 (found_stands cart seen before now quiet found)))
        | inr there ↦ ready.seen other also is_cart there
      ];
    }

-- nothing was changed
same_touched : (file : ℕ) (P : List ℕ → List ℕ → Type 0) (before image : Image) → ((other : ℕ) → image other ≡ before other)
    → P (before file) (before file) → Touches file P before image
same_touched file P before image same holds =
    let Q : List ℕ → Type 0 = λ bytes. P (before file) bytes in
    record { others = λ other apart. same other; this = subst Q (sym (same file)) holds }

-- what is seen in an image is what was found
seen_in : (cart : ℕ) (seen : Seen) (before now : DiskView) (image : Image) → Quiet before now → IsFoundOn cart seen before now → Images now image
    → Sees cart seen (image (cart_file cart)) (image (cart_file cart))
seen_in cart seen before now image quiet found is =
    let file = cart_file cart in
    let P : List ℕ → Type 0 = λ bytes. IsSeen cart seen bytes in
    let same : image file ≡ before.reads file = found.settled (image file) (is file) ∙ quiet.reads file in
    (refl, subst P (sym same) found.is)

-- a cartridge was read, and this was found
pub does_look : {T : Type 0} (cart : ℕ) (seen : Seen) (value : T) (room : RoomView) (before now : DiskView) → CanDo (Look cart seen) room
    → ReadsOnly before now → Told before.tells (IsFoundOn cart seen before now)
    → Does {T = T} (Look cart seen ∷ []) (Ok value) room room before now
does_look cart seen value room before now can reads found = record {
  deeds = Done (Look cart seen) ∷ [];
  ran = (refl, tt);
  performed = record {
    room = refl;
    can = (can, tt);
    written = (tt, tt);
    tells = reads.tells;
    faults = λ other. omega (arith, reads.later other);
    told = λ told known founded ready. (
        let quiet = reads.quiet told in
        let file = cart_file cart in
        record {
          ready = ready_seen known cart seen room before now quiet (found told) ready;
          reads = (now.reads, same_touched file (Sees cart seen) before.reads now.reads quiet.reads (refl, (found told).is), refl);
          images = λ image is. (
            image,
            (λ other. quiet.leaves other (image other) (is other)),
            (image, same_touched file (Sees cart seen) image image (λ other. refl) (seen_in cart seen before now image quiet (found told) is), refl),
          );
          moments = leaves_none before now (FromOne before (Crashed (Done (Look cart seen) ∷ []) room)) quiet;
        });
  };
}

-- a read failed, whatever would have been found
pub does_look_broken : {T : Type 0} (cart : ℕ) (seen : Seen) (room : RoomView) (before now : DiskView) → CanDo (Look cart seen) room
    → ReadsOnly before now → Rose (before.faults (cart_file cart)) (now.faults (cart_file cart))
    → Does {T = T} (Look cart seen ∷ []) (Err (DeviceFault (cart_file cart) [])) room room before now
does_look_broken cart seen room before now can reads rose = record {
  deeds = Broken (Look cart seen) ∷ [];
  ran = (refl, refl);
  performed = record {
    room = refl;
    can = (can, tt);
    written = (tt, tt);
    tells = reads.tells;
    faults = λ other. failures_of_broken (Look cart seen) room other (before.faults other) (now.faults other) (reads.later other)
        (λ same. let P : ℕ → Type 0 = λ n. Rose (before.faults n) (now.faults n) in subst P same rose);
    told = λ told known founded ready. (
        let quiet = reads.quiet told in
        let file = cart_file cart in
        let Same : List ℕ → List ℕ → Type 0 = λ old new. new ≡ old in
        record {
          ready = ready_quiet known room before now quiet ready;
          reads = (now.reads, same_touched file Same before.reads now.reads quiet.reads refl, refl);
          images = λ image is. (
            image,
            (λ other. quiet.leaves other (image other) (is other)),
            (image, same_touched file Same image image (λ other. refl) refl, refl),
          );
          moments = leaves_none before now (FromOne before (Crashed (Broken (Look cart seen) ∷ []) room)) quiet;
        });
  };
}

-- ---- the label of a cartridge

pub does_look_label : {T E : Type 0} (cart : ℕ) (found : Found) (value : T) (room : RoomView) (before now : DiskView) → CanDo (Look cart (SeenLabel found)) room
    → FileCause {T = Found} {E = E} (cart_file cart) before now (Ok found) → now.tells ≡ before.tells → Told before.tells (Quiet before now)
    → Told before.tells (Settled now (cart_file cart)) → Told before.tells (Finds (before.reads (cart_file cart)) found)
    → Does {T = T} (Look cart (SeenLabel found) ∷ []) (Ok value) room room before now
does_look_label {T} {E} cart found value room before now can cause tells quiet settled finds =
    does_look {T = T} cart (SeenLabel found) value room before now can (record { later = cause.later; tells = tells; quiet = quiet })
    (λ told. record { settled = settled told; is = finds told })

pub does_look_label_broken : {T E : Type 0} (cart : ℕ) (seen : Seen) (error : E) (room : RoomView) (before now : DiskView) → CanDo (Look cart seen) room
    → FileCause {T = Found} {E = E} (cart_file cart) before now (Err error) → now.tells ≡ before.tells → Told before.tells (Quiet before now)
    → Does {T = T} (Look cart seen ∷ []) (Err (DeviceFault (cart_file cart) [])) room room before now
does_look_label_broken {T} {E} cart seen error room before now can cause tells quiet =
    does_look_broken {T = T} cart seen room before now can (record { later = cause.later; tells = tells; quiet = quiet }) cause.cause

-- ---- mounting

settles : (answer : Result Volume MountFault) (disk : DiskView) (file : ℕ) → ¬ (answer ≡ Err mounts.Failed) → SettlesUnlessFailed answer disk file → Settled disk file
settles (Ok volume) disk file done settled = settled
settles (Err mounts.Unlabelled) disk file done settled = settled
settles (Err (mounts.BadBlock number)) disk file done settled = settled
settles (Err mounts.Failed) disk file done settled = absurd (done refl)

seen_on : (cart : ℕ) (answer : Result Volume MountFault) (bytes : List ℕ) → ¬ (answer ≡ Err mounts.Failed) → Mounts bytes cart answer → IsMounted cart answer bytes
seen_on cart (Ok volume) bytes done mounted = mounted
seen_on cart (Err mounts.Unlabelled) bytes done mounted = mounted
seen_on cart (Err (mounts.BadBlock number)) bytes done mounted = mounted
seen_on cart (Err mounts.Failed) bytes done mounted = absurd (done refl)

-- a cartridge was mounted, or is one that can't be
pub does_look_volume : {T : Type 0} (cart : ℕ) (answer : Result Volume MountFault) (value : T) (room : RoomView) (before now : DiskView)
    → CanDo (Look cart (SeenVolume answer)) room → ¬ (answer ≡ Err mounts.Failed)
    → FaultCause (cart_file cart) before now (answer ≡ Err mounts.Failed) → now.tells ≡ before.tells → Told before.tells (Quiet before now)
    → Told before.tells (SettlesUnlessFailed answer now (cart_file cart)) → Told before.tells (Mounts (before.reads (cart_file cart)) cart answer)
    → Does {T = T} (Look cart (SeenVolume answer) ∷ []) (Ok value) room room before now
does_look_volume {T} cart answer value room before now can done cause tells quiet settled mounted =
    does_look {T = T} cart (SeenVolume answer) value room before now can (record { later = cause.later; tells = tells; quiet = quiet })
    (λ told. record { settled = settles answer now (cart_file cart) done (settled told); is = seen_on cart answer (before.reads (cart_file cart)) done (mounted told) })

pub does_look_volume_broken : {T : Type 0} (cart : ℕ) (seen : Seen) (answer : Result Volume MountFault) (room : RoomView) (before now : DiskView)
    → CanDo (Look cart seen) room → answer ≡ Err mounts.Failed
    → FaultCause (cart_file cart) before now (answer ≡ Err mounts.Failed) → now.tells ≡ before.tells → Told before.tells (Quiet before now)
    → Does {T = T} (Look cart seen ∷ []) (Err (DeviceFault (cart_file cart) [])) room room before now
does_look_volume_broken {T} cart seen answer room before now can failed cause tells quiet =
    does_look_broken {T = T} cart seen room before now can (record { later = cause.later; tells = tells; quiet = quiet }) (cause.cause failed)

-- ---- labels

-- nothing is pending on a cartridge of which something is known
settled_known : (known : Known) (cart : ℕ) (room : RoomView) (disk : DiskView) → IsCart cart → IsSome (known cart) → Ready known room disk → Settled disk (cart_file cart)
settled_known known cart room disk is_cart some ready = by (known cart) refl some
  where
    by : (was : Option Seen) → known cart ≡ was → IsSome was → Settled disk (cart_file cart)
    by None is some = absurd (cc some)
    by (Some seen) is some = (ready.seen cart seen is_cart is).settled

ready_labelled : (known : Known) (label : Label) (room : RoomView) (before now : DiskView) → CanDo (WriteLabel label) room
    → Others (cart_file label.cart.0) before now → Ready known room before
    → Ready (λ cart. if label.cart.0 == cart then None else known cart) room now
ready_labelled known label room before now can others ready =
    let file = cart_file label.cart.0 in
    record {
      journal = λ opens. journal_other room.journal file before now (omega (arith, can.needs.allowed.cart.0)) others (ready.journal opens);
      drives = λ drive one is held. carried_other before now file one others (λ same. can.needs.in_no_drive drive one is held (omega (arith, same))) (ready.drives drive one is held);
      seen = λ cart seen is_cart known_so. (let still = still_known (label.cart.0 == cart) (known cart) seen known_so in
          let apart = are_apart label.cart.0 cart still.0 in
          stands_other before now file cart seen others (λ same. apart (omega (arith, same))) (ready.seen cart seen is_cart still.1));
    }

pub does_write_label : {T U E : Type 0} (label : Label) (value : T) (lower : U) (room : RoomView) (before now : DiskView) → CanDo (WriteLabel label) room → IsDisk before
    → WritesFile {T = U} {E = E} (cart_file label.cart.0) (Relabels label) (IsBeingLabelled label) before now (Ok lower)
    → Does {T = T} (WriteLabel label ∷ []) (Ok value) room room before now
does_write_label {T} {U} {E} label value lower room before now can is_before wrote =
    does_done {T = T} {U = U} {E = E} (WriteLabel label) value lower room room before now can tt refl is_before wrote
    (λ told known founded ready. (
      settled_known known label.cart.0 room before can.needs.allowed.cart founded ready,
      ready_labelled known label room before now can (wrote.others told) ready,
    ))

pub does_write_label_broken : {T U E : Type 0} (label : Label) (error : E) (room : RoomView) (before now : DiskView) → CanDo (WriteLabel label) room → IsDisk now
    → WritesFile {T = U} {E = E} (cart_file label.cart.0) (Relabels label) (IsBeingLabelled label) before now (Err error)
    → Does {T = T} (WriteLabel label ∷ []) (Err (DeviceFault (cart_file label.cart.0) [])) room room before now
does_write_label_broken {T} {U} {E} label error room before now can is_now wrote =
    does_broken {T = T} {U = U} {E = E} (WriteLabel label) (DeviceFault (cart_file label.cart.0) []) error room room before now can tt refl refl is_now wrote
    (λ told known founded ready. (
      settled_known known label.cart.0 room before can.needs.allowed.cart founded ready,
      ready_labelled known label room before now can (wrote.others told) ready,
    ))
