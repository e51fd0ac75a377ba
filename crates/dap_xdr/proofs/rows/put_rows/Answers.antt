-- All but numbers of two bytes are sent as they stand.
use Rattle.std.proofs.Common.{sym, subst}
use Rattle.dap_model.specs.declared.declaration.DapKind.{DapKind}
use Rattle.dap_xdr.specs.Rows.{ArePut}
use Rattle.dap_xdr.proofs.RowLemmas.{copied-put, widened-put}
use Rattle.dap_xdr.proofs.rows.put_rows.Goals as goal

pub returns-in-Int16 : goal.returns-in-Int16
returns-in-Int16 c =
    subst (λ (kind : DapKind). ArePut kind c.args.rows c.args.stored.now c.args.out.now c.widen_any.new.out
    c.widen_any.result) (sym c.in-Int16.is)
    (widened-put c.args.rows c.args.stored.now c.args.out.now c.widen_any.new.out c.widen_any.result
    c.widen_any.ensures)

pub returns-in_default : goal.returns-in_default
returns-in_default c =
    copied-put c.args.kind c.args.rows c.args.stored.now c.args.out.now c.copy_any.new.out c.copy_any.result
    c.in_default.not-Int16 c.copy_any.ensures
