use Rattle.std.proofs.Common.{[], ap}
use Rattle.std.specs.Prelude.{Option, unwrap_or, List}
use Rattle.save_stream.specs.declared.entry.IndexEntry.{IndexEntry}
use Rattle.client_index.proofs.Shown.{same-views}
use Rattle.client_index.proofs.laws.no_index_is_as_an_empty_one.Goals as goal

pub returns : goal.returns
returns c = record {
  none = λ sets ssid is. ap (λ (o : Option (List IndexEntry)). unwrap_or o []) is;
  empty = λ sets ssid is. ap (λ (o : Option (List IndexEntry)). unwrap_or o []) is;
  views = same-views;
}
