use Rattle.std.proofs.Common.{◌≡◌, ◌∙◌, take, None, IsUtf8, sym, ap, subst, arith}
use Rattle.httparse.specs.Spans.{header_bytes}
use Rattle.desk_request.specs.Framing.{body_length, headers_of, is_close, says_close}
use Rattle.desk_request.proofs.Finding.{never_of_head, token_text, fields_few}
use Rattle.desk_request.proofs.Headers.{any_of_map}
use Rattle.desk_request.proofs.head.judge.Goals as goal

pub returns-then-spans-gt-MAX_HEAD : goal.returns-then-spans-gt-MAX_HEAD
returns-then-spans-gt-MAX_HEAD c =
    let at = c.requires.read.1 in
    never_of_head c.args.bytes.now c.requires.read.0 _ at.reads
    (λ count framed. omega (arith, framed.short, at.len, c.if-spans-gt-MAX_HEAD.true))

pub returns-in_default : goal.returns-in_default
returns-in_default c =
    let at = c.requires.read.1 in
    never_of_head c.args.bytes.now c.requires.read.0 _ at.reads
    (λ count framed. (let none : None ≡ body_length (headers_of c.requires.read.0) =
    sym c.in_default.is ∙ c.body_length.ensures ∙ ap body_length at.fields in
    cc framed.announced))

pub text_of-requires : goal.text_of-requires
text_of-requires c =
    let at = c.requires.read.1 in
    subst IsUtf8 (sym (c.of.ensures ∙ at.method)) (token_text _ at.reads.0.method)

pub returns : goal.returns
returns c =
    let at = c.requires.read.1 in record {
      head = c.requires.read.0;
      reads = at.reads;
      len = at.len;
      framed = record { short = omega (arith, at.len, c.if-spans-gt-MAX_HEAD.false); few = omega (arith, c.requires.room, fields_few _ _ _ _ at.fields); announced = sym (ap body_length at.fields) ∙ sym c.body_length.ensures ∙ c.in-Some.is };
      method = c.in_ok-text_of.ensures ∙ c.of.ensures ∙ at.method;
      target = c.in_ok-text_of-2.ensures ∙ c.of-2.ensures ∙ at.path;
      close = c.says_close.ensures ∙ sym (any_of_map is_close (header_bytes c.args.bytes.now) (take c.args.spans.headers c.args.headers.now)) ∙ ap says_close at.fields;
    }
