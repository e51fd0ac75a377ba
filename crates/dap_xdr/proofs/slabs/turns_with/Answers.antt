-- A run of turns has as many numbers as turns at least.
use Rattle.std.proofs.Common.{sym, ◌∙◌, arith}
use Rattle.std.proofs.lemmas.Nat.{mul-le}
use Rattle.dap_xdr.proofs.TurnLemmas.{goes_on-parts}
use Rattle.dap_xdr.proofs.slabs.turns_with.Goals as goal

pub overflow_mul-turns : goal.overflow_mul-turns
overflow_mul-turns c =
    let run = goes_on-parts c.args.slab c.args.extent (sym c.goes_on.ensures ∙ c.if-goes_on.true) in
    let few = mul-le c.args.extent.turns 1 c.args.extent.turns c.args.extent.unit (omega arith) run.some in
    let most = mul-le c.args.indices c.args.extent.turns c.args.indices c.args.extent.count (omega arith)
    (omega (arith, few, run.all_is)) in
    omega (arith, most, c.requires.few)
