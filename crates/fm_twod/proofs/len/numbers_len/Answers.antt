-- The product fits in sixteen bytes, with much room.
use Rattle.std.proofs.Common.{◌+◌, ◌*◌, ◌/◌, ◌^◌, ◌≤◌, ℕ, ap, ap₂, ◌∙◌, arith}
use Rattle.std.proofs.lemmas.Nat.{mul-le}
use Rattle.dap_model.specs.Xdr.{elements_len}
use Rattle.dap_xdr.proofs.SoFarLemmas.{element_len-most}
use Rattle.fm_twod.proofs.len.numbers_len.Goals as goal

pub returns-clause-small : goal.returns-clause-small
returns-clause-small c =
    let width : c.from-2.result ≤ 8 =
    omega (arith, c.from-2.ensures, c.element_len.ensures, element_len-most c.args.kind) in
    let count : c.from.result ≤ 2 ^ 64 = omega (arith, c.from.ensures, c.well_formed.1) in
    omega (arith, mul-le c.from.result c.from-2.result (2 ^ 64) 8 count width)

pub returns-clause-exact : goal.returns-clause-exact
unfolding elements_len
returns-clause-exact c =
    ap (λ (m : ℕ). 8 + (m + 3) / 4 * 4)
    (ap₂ (λ (a b : ℕ). a * b) c.from.ensures (c.from-2.ensures ∙ c.element_len.ensures))
