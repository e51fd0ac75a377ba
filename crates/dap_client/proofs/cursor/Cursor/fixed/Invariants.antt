-- The bytes that are left lead to the same outcome as all of them.
use Rattle.std.proofs.Common.{◌≡◌, drop}
use Rattle.dap_client.specs.Reading.{fixed_at}
use Rattle.dap_client.proofs.cursor.Cursor.fixed.Given as goal

abbrev pub invariant-loop-byte : goal.invariant-loop-byte
invariant-loop-byte l = fixed_at l.bytes l.fn.self ≡ fixed_at (drop l.byte-index l.bytes) l.self
