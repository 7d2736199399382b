use Rattle.std.proofs.Common.{◌≡◌, ◌∙◌, List, length, ap, arith}
use Rattle.std.specs.Io.Iter.{u64_saturate}
use Rattle.std.specs.List.{flat_map}
use Rattle.media_db.specs.Streams.{head_of}
use Rattle.media_db.specs.declared.copies.SetCopy.{SetCopy}
use Rattle.save_stream.specs.Spelling.{head_text}
use Rattle.save_stream.specs.declared.head.SetHead.{SetHead}
use Rattle.catalog_spelling.specs.Media.{copy_text}
use Rattle.snapshot_text.proofs.Lengths.{length_row}
use Rattle.snapshot_text.proofs.media_writing.row_length.Goals as goal

pub returns : goal.returns
returns c =
    let head : c.head_length-head.result ≡ length (head_text (head_of c.args.row.now)) = c.head_length-head.ensures ∙ ap (λ (h : SetHead). length (head_text h)) c.parts_of.ensures in
    let copies : c.items_length.result ≡ u64_saturate (length (flat_map copy_text c.args.row.now.copies)) =
    c.items_length.ensures ∙ ap (λ (list : List SetCopy). u64_saturate (length (flat_map copy_text list))) c.as_slice.ensures in
    omega (arith, c.saturating_add.ensures, c.saturating_add-2.ensures, head, copies, c.digest_length.ensures.length, length_row c.args.row.now)
