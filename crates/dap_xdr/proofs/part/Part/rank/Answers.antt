-- Slabs that fit dimensions are as many, and few.
use Rattle.std.proofs.Common.{ap, length, ◌∙◌, arith}
use Rattle.dap_xdr.specs.Portion.{portion_of, Portion}
use Rattle.dap_xdr.proofs.DataLemmas.{few-slabs}
use Rattle.dap_xdr.proofs.part.Part.rank.Goals as goal

pub returns-clause-value : goal.returns-clause-value
returns-clause-value c = ap length c.slabs.ensures ∙ ap (λ (n : Portion). length n.sent.slabs) c.self.view_is

pub returns-clause-few : goal.returns-clause-few
returns-clause-few c =
    let n = c.self.inside in
    omega (arith, ap length c.slabs.ensures, few-slabs (portion_of n.column n.sent.now n.array.now) c.self.invariant.1)
