use Rattle.std.proofs.Common.{ℕ, sym, subst, ap, ◌∙◌, length}
use Rattle.save_stream.specs.Spelling.{head_text}
use Rattle.save_stream.specs.declared.head.SetHead.{SetHead}
use Rattle.save_stream.specs.Reading.{behind_head}
use Rattle.save_stream.specs.Standing.{IsStreamSoFar}
use Rattle.save_stream.proofs.SoFar.{head-so-far}
use Rattle.save_stream.proofs.reader.StreamReader.after.Goals as goal

pub from-requires : goal.from-requires
from-requires c =
    subst (λ (n : ℕ). IsStreamSoFar (behind_head n c.args.head))
    (sym (c.head_length-read.ensures ∙ ap (λ (h : SetHead). length (head_text h)) c.parts.ensures)) (head-so-far c.args.head c.requires)
