-- A slab that picks more than one index has a stride below the size of its dimension.
use Rattle.std.proofs.Common.{arith}
use Rattle.std.proofs.Math.Nat.{mul-le-mul_right}
use Rattle.dap_xdr.proofs.ExtentLemmas.{stride_within}
use Rattle.dap_xdr.proofs.slabs.pitch_of.Goals as goal

pub overflow_mul-result : goal.overflow_mul-result
overflow_mul-result c =
    let least = stride_within c.args.size c.args.slab c.requires.stride c.requires.within c.requires.many in
    let most = mul-le-mul_right c.args.extent.size least in
    omega (arith, most, c.requires.sizes)
