use Rattle.std.proofs.Common.{rules, ◌≡◌, ◌-◌, ◌/◌, ◌<◌, ◌≤◌, ℕ, length, arith, take}
use Rattle.room_disk.proofs.ReadingOn.{front_reads}
use Rattle.room_disk.proofs.mem_folder.MemFolderFolder.read_at.Goals as goal

pub returns-clause-given : goal.returns-clause-given
returns-clause-given c told =
    let into = c.args.into.now in
    let half : ℕ = length into - length into / 2 in
    let same : length c.read_at.new.into ≡ length (take half into) = search rules in
    front_reads _ into c.read_at.new.into _ half _ (omega arith) (λ any. omega (arith, any)) same
    c.in_ok-count.ensures.count c.in_ok-count.ensures.given c.in_ok-count.ensures.rest
