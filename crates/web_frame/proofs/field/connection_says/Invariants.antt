-- No `Connection` line before has the word.
use Rattle.std.proofs.Common.{◌≡◌, map, drop}
use Rattle.httparse.specs.Spans.{header_bytes}
use Rattle.web_frame.specs.Said.{connection_says}
use Rattle.web_frame.proofs.field.connection_says.Given as goal

abbrev pub invariant-loop-line : goal.invariant-loop-line
invariant-loop-line l = connection_says l.word (map (header_bytes l.raw) l.lines) ≡ connection_says l.word
    (map (header_bytes l.raw) (drop l.line-index l.lines))
