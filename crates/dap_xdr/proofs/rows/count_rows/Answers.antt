-- Of the rows that stand there those fit that their length goes into the room.
use Rattle.std.proofs.Common.{arith}
use Rattle.dap_xdr.proofs.CopyLemmas.{rows-fit}
use Rattle.dap_xdr.proofs.rows.count_rows.Goals as goal

pub returns-clause-whole : goal.returns-clause-whole
returns-clause-whole c = λ k below.
    c.rows_there-stand.ensures k (omega (arith, below, c.min-count.ensures, c.min.ensures))

pub returns-clause-fits : goal.returns-clause-fits
returns-clause-fits c =
    rows-fit _ c.args.len c.args.room (omega (arith, c.min-count.ensures, c.min.ensures))
