-- No line before is a `Content-Length`.
use Rattle.std.proofs.Common.{◌≡◌, drop}
use Rattle.dap_client.specs.Length.{lengths}
use Rattle.dap_client.proofs.length.first_length.Given as goal

abbrev pub invariant-loop-index : goal.invariant-loop-index
invariant-loop-index l = lengths l.raw l.lines ≡ lengths l.raw (drop l.index l.lines)
