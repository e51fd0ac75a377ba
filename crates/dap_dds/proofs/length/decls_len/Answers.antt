-- One more is no longer than all, and adds its length.
use Rattle.std.proofs.Common.{◌+◌, ℕ, ap₂, ◌∙◌, arith}
use Rattle.dap_dds.proofs.Lengths.{decls_fit, decls_more}
use Rattle.dap_dds.proofs.length.decls_len.Goals as goal

pub decl_len-len-requires-clause-fits : goal.decl_len-len-requires-clause-fits
decl_len-len-requires-clause-fits c =
    let fits = decls_fit c.args.depth c.args.decls.now c.loop-decl.decl-index c.decl-item.result
    c.loop-decl-test.true c.decl-item.is in
    omega (arith, fits, c.requires.fits)

pub overflow_add-len : goal.overflow_add-len
overflow_add-len c =
    let fits = decls_fit c.args.depth c.args.decls.now c.loop-decl.decl-index c.decl-item.result
    c.loop-decl-test.true c.decl-item.is in
    omega (arith, fits, c.requires.fits, c.loop-decl.invariant, c.decl_len-len.ensures)

pub loop-decl-preserved : goal.loop-decl-preserved
loop-decl-preserved c =
    ap₂ (λ (a b : ℕ). a + b) c.loop-decl.invariant c.decl_len-len.ensures
    ∙ decls_more c.args.depth c.args.decls.now c.loop-decl.decl-index c.decl-item.result c.loop-decl-test.true
    c.decl-item.is
