-- A slab picks at most as many indices as its dimension has.
use Rattle.std.proofs.Common.{◌≤◌, arith}
use Rattle.std.proofs.Math.Nat.{mul-le-mul_right}
use Rattle.dap_xdr.proofs.ExtentLemmas.{count_within}
use Rattle.fm_twod.proofs.count.with_slab.Goals as goal

pub slab_count-indices-requires-clause-few : goal.slab_count-indices-requires-clause-few
slab_count-indices-requires-clause-few c =
    omega (arith, count_within c.args.size c.args.slab c.requires.stride c.requires.within)

pub overflow_mul-result : goal.overflow_mul-result
overflow_mul-result c =
    let within = count_within c.args.size c.args.slab c.requires.stride c.requires.within in
    let most : c.slab_count-indices.result ≤ c.args.size = omega (arith, c.slab_count-indices.ensures, within) in
    let product = mul-le-mul_right c.args.count most in
    omega (arith, product, c.requires.few)
