use Rattle.std.proofs.Common.{length}
use Rattle.save_stream.specs.Spelling.{head_text}
use Rattle.save_stream.proofs.Streams.{index-split, file-placed}
use Rattle.save_stream.proofs.laws.index_has_the_files.Goals as goal

pub returns : goal.returns
returns c = λ head before after entry is. (index-split before after entry (length (head_text head)), file-placed head before after entry is)
