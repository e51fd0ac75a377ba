-- What the parser finds is the head that is cut out of the bytes, and what it refuses is none.
use Rattle.std.proofs.Common.{◌≡◌, ◌≤◌, [], length, Ok, rules, arith, subst, sym, ap, ◌∙◌}
use Rattle.httparse.specs.Spans.{FindsRequest}
use Rattle.web_frame.proofs.HeadLemmas.{is_head_refused}
use Rattle.web_frame.proofs.SpanLemmas.{spans_cover, spans_show, ends_there, many_unless}
use Rattle.web_frame.proofs.head.spans_of.Goals as goal

pub returns-then-spans-raw-clause-head : goal.returns-then-spans-raw-clause-head
returns-then-spans-raw-clause-head c = spans_cover _ _ _ (search rules) c.if-spans-raw.true

pub returns-then-spans-raw-clause-some : goal.returns-then-spans-raw-clause-some
returns-then-spans-raw-clause-some c = spans_show c.args.raw.now c.parse_request.new.headers c.in-Ok-Complete.spans
    (search rules) c.if-spans-raw.true (search rules)

pub returns-else-spans-raw-clause-none : goal.returns-else-spans-raw-clause-none
returns-else-spans-raw-clause-none c =
    is_head_refused c.args.raw.now (λ h reads. many_unless (length h.fields) 64 (λ few.
    c.if-spans-raw.false (ends_there c.args.raw.now
    (length c.args.lines.now) c.parse_request.new.headers c.in-Ok-Complete.spans h (search rules) reads
    (omega arith))))

pub returns-in-Ok-Partial-clause-none : goal.returns-in-Ok-Partial-clause-none
returns-in-Ok-Partial-clause-none c = is_head_refused c.args.raw.now
    (λ h reads. many_unless (length h.fields) 64
    (λ few. (rw c.in-Ok-Partial.field-0-is at c.in-Ok-Partial.ensures.found) h [] reads (omega arith)))

pub returns-in-Err-clause-none : goal.returns-in-Err-clause-none
returns-in-Err-clause-none c = is_head_refused c.args.raw.now (λ h reads. many_unless (length h.fields) 64 (λ few.
    c.in-Err.ensures.found h [] reads (omega arith)))
