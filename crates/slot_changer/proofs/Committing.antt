-- The commit of a buffer, as its drive tells it.
use Rattle.std.proofs.Common.{◌≡◌, ℕ, ◌*◌, List, ap, ◌∙◌, subst}
use Rattle.std.specs.Prelude.{Result}
use Rattle.volume_block.specs.Region.{IsSealed}
use Rattle.room_disk.specs.Crash.{overlaid}
use Rattle.room_disk.specs.Disk.{DiskView}
use Rattle.room_disk.specs.Writing.{WritesFile}
use Rattle.room_disk.proofs.Writing.{writes_weaker}
use Rattle.volume_store.specs.Writes.{opened, AddsFile, MayAddFile}
use Rattle.slot_changer.specs.Drives.{DriveView}
use Rattle.slot_changer.specs.Committing.{cart_file_of, AddsBuffer, MayAddBuffer}

-- the region is sealed from the buffer for the volume's mark place
abbrev pub IsRegion : DriveView → List ℕ → Type 0
IsRegion one region =
    IsSealed one.volume.label.volid.0 one.volume.mark one.volume.label.units one.buffer.blocks region

pub adds_buffer : (one : DriveView) (region old new : List ℕ) → IsRegion one region
    → AddsFile one.volume.label one.volume.mark region old new → AddsBuffer one old new
adds_buffer one region old new sealed adds = record {
  written = adds.written ∙ ap (λ text. overlaid (4096 * one.volume.mark) (opened text) old) sealed.text;
  added = λ files. adds.added files one.buffer.blocks sealed;
}

pub writes_buffer : {T E : Type 0} {before now : DiskView} {answer : Result T E} (one : DriveView) (region : List ℕ)
    → one.buffer.units ≡ one.volume.label.units
    → IsSealed one.volume.label.volid.0 one.volume.mark one.buffer.units one.buffer.blocks region
    → WritesFile (cart_file_of one) (AddsFile one.volume.label one.volume.mark region) (MayAddFile one.volume.label one.volume.mark region)
    before now answer
    → WritesFile (cart_file_of one) (AddsBuffer one) (MayAddBuffer one) before now answer
writes_buffer one region units sealed writes =
    let Sealed : ℕ → Type 0 = λ n. IsSealed one.volume.label.volid.0 one.volume.mark n one.buffer.blocks region in
    let is : IsRegion one region = subst Sealed units sealed in
    writes_weaker (AddsFile one.volume.label one.volume.mark region) (MayAddFile one.volume.label one.volume.mark region) writes
    (λ old new adds. adds_buffer one region old new is adds)
    (λ old new may files. may files one.buffer.blocks is)
