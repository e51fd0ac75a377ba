-- Of rows of an odd length none is written.
use Rattle.std.proofs.Common.{refl}
use Rattle.dap_number.specs.Front.{widened_bytes}
use Rattle.dap_xdr.proofs.RowLemmas.{none-written}
use Rattle.dap_xdr.proofs.rows.widen_any.Goals as goal

pub returns-then-is_odd : goal.returns-then-is_odd
unfolding widened_bytes
returns-then-is_odd c = none-written widened_bytes c.args.rows c.args.stored.now c.args.out.now refl
