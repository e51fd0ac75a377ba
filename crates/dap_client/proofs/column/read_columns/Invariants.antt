-- The columns that are left lead to the same outcome as all of them.
use Rattle.std.proofs.Common.{◌≡◌, [], drop}
use Rattle.dap_client.specs.DataReading.{columns_at}
use Rattle.dap_client.proofs.column.read_columns.Given as goal

abbrev pub invariant-loop-decl : goal.invariant-loop-decl
invariant-loop-decl l = columns_at l.decls [] l.fn.cursor
    ≡ columns_at (drop l.decl-index l.decls) l.columns l.cursor
