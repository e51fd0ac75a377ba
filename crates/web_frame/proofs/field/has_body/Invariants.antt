-- No line before says that a body follows.
use Rattle.std.proofs.Common.{◌≡◌, map, drop}
use Rattle.std.specs.List.{list_any}
use Rattle.httparse.specs.Spans.{header_bytes}
use Rattle.web_frame.specs.Said.{announces_body}
use Rattle.web_frame.proofs.field.has_body.Given as goal

abbrev pub invariant-loop-line : goal.invariant-loop-line
invariant-loop-line l = list_any announces_body (map (header_bytes l.raw) l.lines) ≡ list_any announces_body
    (map (header_bytes l.raw) (drop l.line-index l.lines))
