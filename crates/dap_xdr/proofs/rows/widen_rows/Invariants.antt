-- The rows that are widened so far.
use Rattle.std.proofs.Common.{◌-◌}
use Rattle.dap_number.specs.Front.{widened_bytes}
use Rattle.dap_xdr.proofs.RowLemmas.{RowsSoFar}
use Rattle.dap_xdr.proofs.rows.widen_rows.Given as goal

abbrev pub decreases-loop-done : goal.decreases-loop-done
decreases-loop-done l = l.rows.most - l.done

abbrev pub invariant-loop-done : goal.invariant-loop-done
invariant-loop-done l = RowsSoFar widened_bytes l.rows l.stored l.fn.out l.done l.filled l.rest l.out
