use Rattle.std.proofs.Common.{◌≡◌, ◌∙◌, ap, List, ℕ, ◌+◌, ◌∷◌, [], length, reverse}
use Rattle.std.proofs.lemmas.List.{reverse-append}
use Rattle.room_disk.specs.declared.disk_event.DiskEvent.{DiskEvent}
use Rattle.room_disk.specs.declared.disk_event.DiskEvent.TheVariants.{Written}
use Rattle.room_disk.specs.Kept.{first_bytes, AreFilesKept}
use Rattle.room_disk.proofs.Files.{has_room}
use Rattle.room_disk.proofs.Keeping.{write_kept, grown_kept}
use Rattle.room_disk.proofs.history.History.write.Goals as goal

pub invariant_of-self : goal.invariant_of-self
invariant_of-self c = record { each = grown_kept c.self.inside.files.items c.make_room.new.files.items (reverse c.self.inside.events.items) c.make_room.ensures.grown c.self.invariant.each; distinct = c.make_room.ensures.distinct c.self.invariant.distinct }

pub invariant_of-self-in_err-push : goal.invariant_of-self-in_err-push
invariant_of-self-in_err-push c =
    rw c.in_err-push.ensures.items (record { each = grown_kept c.self.inside.files.items c.make_room.new.files.items (reverse c.self.inside.events.items) c.make_room.ensures.grown c.self.invariant.each; distinct = c.make_room.ensures.distinct c.self.invariant.distinct })

pub overlay-requires : goal.overlay-requires
overlay-requires c =
    has_room c.args.file c.in_ok-index.index (c.args.at + length c.args.bytes.now) c.make_room.new.files.items c.index_mut-kept.result.now
    c.in_ok-index.ensures.found c.index_mut-kept.ensures.value c.in_ok-index.ensures.room

pub invariant_of-self-2 : goal.invariant_of-self-2
invariant_of-self-2 c =
    let events = reverse c.self.inside.events.items in
    let files = c.make_room.new.files.items in
    let kept : AreFilesKept (first_bytes files) events files = record {
      each = grown_kept c.self.inside.files.items files events c.make_room.ensures.grown c.self.invariant.each;
      distinct = c.make_room.ensures.distinct c.self.invariant.distinct;
    } in
    let enough = has_room c.args.file c.in_ok-index.index (c.args.at + length c.args.bytes.now) files c.index_mut-kept.result.now
    c.in_ok-index.ensures.found c.index_mut-kept.ensures.value c.in_ok-index.ensures.room in
    let piece : c.of-piece.result ≡ c.args.bytes.now = c.of-piece.ensures ∙ c.in_ok-from_slice.ensures.items in
    let pushed : reverse c.push.new.self.items ≡ Written c.args.file c.args.at c.args.bytes.now ∷ events =
    ap (λ (l : List DiskEvent). reverse l) c.in_ok-push.ensures.items ∙ reverse-append c.self.inside.events.items (Written c.args.file c.args.at c.of-piece.result ∷ [])
    ∙ ap (λ (p : List ℕ). Written c.args.file c.args.at p ∷ events) piece in
    rw pushed (write_kept events files c.args.file c.in_ok-index.index c.args.at c.args.bytes.now c.index_mut-kept.result.now c.overlay.new.self
    kept c.in_ok-index.ensures.found c.index_mut-kept.ensures.value enough c.overlay.ensures.bytes c.overlay.ensures.room).1

pub returns-clause-done : goal.returns-clause-done
returns-clause-done c =
    let events = reverse c.self.inside.events.items in
    let files = c.make_room.new.files.items in
    let kept : AreFilesKept (first_bytes files) events files = record {
      each = grown_kept c.self.inside.files.items files events c.make_room.ensures.grown c.self.invariant.each;
      distinct = c.make_room.ensures.distinct c.self.invariant.distinct;
    } in
    let enough = has_room c.args.file c.in_ok-index.index (c.args.at + length c.args.bytes.now) files c.index_mut-kept.result.now
    c.in_ok-index.ensures.found c.index_mut-kept.ensures.value c.in_ok-index.ensures.room in
    let piece : c.of-piece.result ≡ c.args.bytes.now = c.of-piece.ensures ∙ c.in_ok-from_slice.ensures.items in
    let pushed : reverse c.push.new.self.items ≡ Written c.args.file c.args.at c.args.bytes.now ∷ events =
    ap (λ (l : List DiskEvent). reverse l) c.in_ok-push.ensures.items ∙ reverse-append c.self.inside.events.items (Written c.args.file c.args.at c.of-piece.result ∷ [])
    ∙ ap (λ (p : List ℕ). Written c.args.file c.args.at p ∷ events) piece in
    let same = (write_kept events files c.args.file c.in_ok-index.index c.args.at c.args.bytes.now c.index_mut-kept.result.now c.overlay.new.self
    kept c.in_ok-index.ensures.found c.index_mut-kept.ensures.value enough c.overlay.ensures.bytes c.overlay.ensures.room).0 in
    let before : first_bytes files ≡ first_bytes c.self.inside.files.items = c.make_room.ensures.grown.first in
    rw (← c.self.view_is) (cc (same, before, pushed))
