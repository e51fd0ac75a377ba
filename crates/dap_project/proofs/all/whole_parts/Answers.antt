-- After the last declaration nothing is left.
use Rattle.std.proofs.Common.{arith}
use Rattle.dap_project.proofs.AllLemmas.{decl_end, projected}
use Rattle.dap_project.proofs.all.whole_parts.Goals as goal

pub returns : goal.returns
returns c =
    projected c.args.decls.now c.loop-at.sent
    (decl_end _ _ c.loop-at.at c.args.decls.now (omega (arith, c.loop-at-test.false)) c.loop-at.invariant)
