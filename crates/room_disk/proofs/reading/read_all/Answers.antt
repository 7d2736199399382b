use Rattle.std.proofs.Common.{rules, ◌≡◌, ◌+◌, ◌≤◌, length, arith}
use Rattle.room_disk.proofs.ReadingOn.{keeps_then, read_more}
use Rattle.room_disk.proofs.reading.read_all.Goals as goal

pub loop-done-preserved : goal.loop-done-preserved
loop-done-preserved g c =
    let next : c.in-Some.next ≡ c.args.at + c.loop-done.done = search rules in (
      grind arith,
      λ told.
          let kept = (c.loop-done.invariant.1 told).0 in (
            keeps_then _ _ _ kept (c.in_ok-count.ensures.kept told),
            read_more _ _ _ _ _ _ _ _ _ c.loop-done.invariant.0 next
                (kept.quiet.reads (g.F.Folder.number c.args.file.now))
                (c.loop-done.invariant.1 told).1 (c.in_ok-count.ensures.given told).read,
          ),
    )
