-- What a catalogue holds can be written.
use Rattle.std.proofs.Common.{ℕ, List, [], ◌∷◌, length, ap, arith}
use Rattle.std.specs.List.{AllByRecursion}
use Rattle.client_index.specs.declared.index.SetIndex.{SetIndex}
use Rattle.client_index.specs.Sets.{entries_or_none}
use Rattle.media_db.specs.declared.copies.CopyState.{CopyState}
use Rattle.media_db.specs.declared.copies.CopyState.TheVariants as copies
use Rattle.media_db.specs.declared.copies.SetCopy.{SetCopy}
use Rattle.media_db.specs.declared.records.Record.{Record}
use Rattle.catalog_change.specs.Changes.{AreEntries}
use Rattle.media_db.specs.declared.volumes.VolumeRec.{VolumeRec}
use Rattle.catalog_change.specs.declared.slot.FilledSlot.{FilledSlot}
use Rattle.catalog_change.specs.Resources.{IsShortName}
use Rattle.catalog_change.specs.Catalogues.{IsCopy, IsRecord, IsVolume}
use Rattle.catalog_change.specs.Catalogues as catalogues
use Rattle.snapshot_text.specs.Writing.{CanWriteIndex, CanWriteRow, HasSections}

sections-can : (state : CopyState) (copy : SetCopy) → catalogues.HasSections state copy → HasSections copy
sections-can copies.Begun copy is = let none = ap (λ (xs : List _). length xs) is in omega (arith, none)
sections-can copies.Done copy is = is.count

copies-can : (next : ℕ) (list : List SetCopy) → AllByRecursion (IsCopy next) list → AllByRecursion HasSections list
copies-can next [] each = tt
copies-can next (copy ∷ list) each = (sections-can copy.state copy each.0.sections, copies-can next list each.1)

pub rows_can : (next : ℕ) (sets : List SetIndex) (rows : List Record) → AllByRecursion (IsRecord next) rows → ((ssid : ℕ) → AreEntries (entries_or_none sets (record { 0 = ssid })))
    → AllByRecursion (λ row. CanWriteRow row × CanWriteIndex sets row) rows
rows_can next sets [] each are = tt
rows_can next sets (row ∷ rows) each are =
    ((record { head = each.0.head; copies = copies-can row.next_copy row.copies each.0.each; count = each.0.count }, are row.ssid.0), rows_can next sets rows each.1 are)

pub volumes_can : (next : ℕ) (volumes : List VolumeRec) → AllByRecursion (IsVolume next) volumes → AllByRecursion (λ volume. IsShortName volume.pool) volumes
volumes_can next [] each = tt
volumes_can next (volume ∷ volumes) each = (each.0.pool, volumes_can next volumes each.1)

pub slots_any : (slots : List FilledSlot) → AllByRecursion (λ (filled : FilledSlot). Unit {0}) slots
slots_any [] = tt
slots_any (filled ∷ slots) = (tt, slots_any slots)
