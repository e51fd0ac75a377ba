-- The rows that are written are a front of what is left.
use Rattle.std.proofs.Common.{ℕ, drop, sym, subst}
use Rattle.dap_model.specs.declared.declaration.DapKind.{DapKind}
use Rattle.dap_number.specs.Front.{IsFront}
use Rattle.dap_xdr.specs.Portion.{numbers_from}
use Rattle.dap_xdr.specs.Rows.{ArePut}
use Rattle.dap_xdr.proofs.ElementLemmas.{picked-front}
use Rattle.dap_xdr.proofs.elements.put_turns.Goals as goal

pub returns : goal.returns
returns c =
    let n = c.args.part.now in
    let put = subst (λ (kind : DapKind). ArePut kind c.rows.result.1 c.rows.result.0.now c.args.out.now
    c.put_rows.new.out c.put_rows.result) c.kind.ensures c.put_rows.ensures in
    subst (λ (skip : ℕ). IsFront (drop skip (numbers_from n c.args.at.element)) c.args.out.now c.put_rows.new.out
    c.put_rows.result) (sym c.requires.begins)
    (picked-front n c.args.at.element 0 _ c.put_rows.result _ c.args.out.now c.put_rows.new.out
    (c.rows.ensures put.count put.few put.whole) put.front)
