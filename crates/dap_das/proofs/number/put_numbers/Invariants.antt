-- The numbers before the index were written.
use Rattle.std.proofs.Common.{◌≡◌, ◌++◌}
use Rattle.dap_das.specs.AttributeText.{numbers_text}
use Rattle.dap_das.proofs.number.put_numbers.Given as goal

abbrev pub invariant-loop-i : goal.invariant-loop-i
invariant-loop-i l = l.out ≡ l.fn.out ++ numbers_text l.kind l.values l.i
