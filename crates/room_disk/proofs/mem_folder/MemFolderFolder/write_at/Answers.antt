use Rattle.std.proofs.Common.{◌≡◌, Bool, true, false, List, IsTrue, slice_index_or, subst}
use Rattle.room_disk.specs.Memory.{told_store}
use Rattle.room_disk.proofs.Folders.{absent_stays, settled_stays}
use Rattle.room_disk.proofs.mem_folder.MemFolderFolder.write_at.Goals as goal

pub invariant_of-self-2 : goal.invariant_of-self-2
invariant_of-self-2 c =
    let old = c.args.self.now in
    let new = told_store c.write_at.new.self in
    let this = c.args.file.now.file in record {
      absent = λ file is.
          let P : List Bool → Type 0 = λ l. slice_index_or l file true ≡ false in
          absent_stays this old.there (told_store old.store) new c.write_at.ensures.others old.absent file
          (subst P c.touch.ensures.there is);
      settled = λ file is names.
          let P : List Bool → Type 0 = λ l. IsTrue (slice_index_or l file false) in
          settled_stays this old.synced old.named (told_store old.store) new c.write_at.ensures.others old.settled
          file (subst P c.touch.ensures.synced is) names;
    }
