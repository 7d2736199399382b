use Rattle.std.proofs.Common.{◌≡◌, length, map, take}
use Rattle.std.specs.Prelude.{IfSome, option_map, option_to_list}
use Rattle.httparse.specs.Spans.{IsWithin, span_bytes, header_bytes}
use Rattle.desk_request.specs.Framing.{values_named, content_length}
use Rattle.desk_request.proofs.framing.length_by.Given as goal

-- the values of the headers so far, at most one
abbrev pub invariant-loop-header : goal.invariant-loop-header
invariant-loop-header l = record {
  so_far : values_named content_length (map (header_bytes l.bytes) (take l.header-index l.headers))
      ≡ option_to_list (option_map (span_bytes l.bytes) l.said);
  within : IfSome l.said (IsWithin (length l.bytes));
}
