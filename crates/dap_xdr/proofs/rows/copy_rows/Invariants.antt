-- The rows that are copied so far.
use Rattle.dap_xdr.proofs.CopyLemmas.{RowsCopied}
use Rattle.dap_xdr.proofs.rows.copy_rows.Given as goal

abbrev pub invariant-loop-done : goal.invariant-loop-done
invariant-loop-done l = RowsCopied l.fn.rows l.stored l.fn.out l.done l.out
