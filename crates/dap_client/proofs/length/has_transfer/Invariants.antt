-- No line before is a `Transfer-Encoding`.
use Rattle.std.proofs.Common.{◌≡◌, map, drop}
use Rattle.std.specs.List.{list_any}
use Rattle.httparse.specs.Spans.{header_bytes}
use Rattle.dap_client.specs.Reply.{is_transfer}
use Rattle.dap_client.proofs.length.has_transfer.Given as goal

abbrev pub invariant-loop-line : goal.invariant-loop-line
invariant-loop-line l = list_any is_transfer (map (header_bytes l.raw) l.lines)
    ≡ list_any is_transfer (map (header_bytes l.raw) (drop l.line-index l.lines))
