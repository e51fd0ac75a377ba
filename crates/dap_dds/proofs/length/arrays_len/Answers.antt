-- One more is no longer than all, and adds its length.
use Rattle.std.proofs.Common.{◌+◌, ℕ, ap₂, ◌∙◌, arith}
use Rattle.dap_dds.proofs.Lengths.{arrays_fit, arrays_more}
use Rattle.dap_dds.proofs.length.arrays_len.Goals as goal

pub array_len-len-requires-clause-fits : goal.array_len-len-requires-clause-fits
array_len-len-requires-clause-fits c =
    let fits = arrays_fit c.args.depth c.args.arrays.now c.loop-array.array-index c.array-item.result
    c.loop-array-test.true c.array-item.is in
    omega (arith, fits, c.requires.fits)

pub overflow_add-len : goal.overflow_add-len
overflow_add-len c =
    let fits = arrays_fit c.args.depth c.args.arrays.now c.loop-array.array-index c.array-item.result
    c.loop-array-test.true c.array-item.is in
    omega (arith, fits, c.requires.fits, c.loop-array.invariant, c.array_len-len.ensures)

pub loop-array-preserved : goal.loop-array-preserved
loop-array-preserved c =
    ap₂ (λ (a b : ℕ). a + b) c.loop-array.invariant c.array_len-len.ensures
    ∙ arrays_more c.args.depth c.args.arrays.now c.loop-array.array-index c.array-item.result c.loop-array-test.true
    c.array-item.is
