use Rattle.std.proofs.Common.{sym, ◌∙◌}
use Rattle.httparse.specs.declared.spans.HeaderSpan.{HeaderSpan}
use Rattle.httparse.specs.Spans.{span_bytes, header_bytes}
use Rattle.desk_request.specs.Framing.{content_length}
use Rattle.desk_request.proofs.Headers.{another_value}
use Rattle.desk_request.proofs.framing.length_by.Goals as goal

abbrev no_span : HeaderSpan
no_span = record { name = record { start = 0; end = 0 }; value = record { start = 0; end = 0 } }

pub returns-then-is_some : goal.returns-then-is_some
returns-then-is_some c =
    let bytes = c.args.bytes.now in
    sym (another_value content_length (header_bytes bytes) (span_bytes bytes) c.args.headers.now c.loop-header.header-index no_span
    c.loop-header.said c.loop-header-test.true c.loop-header.invariant.so_far (sym c.is_some.ensures ∙ c.if-is_some.true)
    (sym c.is_named.ensures ∙ c.if-is_named.true))
