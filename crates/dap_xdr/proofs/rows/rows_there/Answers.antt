-- Behind the first row stand as many as the step goes into what is left.
use Rattle.std.proofs.Common.{◌*◌, ◌-◌, ℕ, ap, arith}
use Rattle.std.proofs.Math.Nat.{div-le_self}
use Rattle.dap_xdr.proofs.CopyLemmas.{row-there}
use Rattle.dap_xdr.proofs.rows.rows_there.Goals as goal

pub returns-then-there-len : goal.returns-then-there-len
returns-then-there-len c = λ k below. absurd (omega (arith, below))

pub returns-then-step-eq0 : goal.returns-then-step-eq0
returns-then-step-eq0 c = λ k below.
    omega (arith, c.if-there-len.false, ap (λ (n : ℕ). k * n) c.if-step-eq0.true)

pub overflow_add-result : goal.overflow_add-result
overflow_add-result c =
    omega (arith, c.requires, c.if-there-len.false, div-le_self (c.args.there - c.args.len) c.args.step)

pub returns : goal.returns
returns c = λ k below.
    row-there c.args.there c.args.len c.args.step k (omega (arith, c.if-there-len.false)) (omega (arith, below))
