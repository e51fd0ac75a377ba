-- The bytes before the index were written.
use Rattle.std.proofs.Common.{◌≡◌, ◌++◌, take}
use Rattle.dap_das.specs.AttributeText.{escaped_name}
use Rattle.dap_das.proofs.name.put_name.Given as goal

abbrev pub invariant-loop-byte : goal.invariant-loop-byte
invariant-loop-byte l = l.out ≡ l.fn.out ++ escaped_name (take l.byte-index l.name)
