-- A path without names may pick nothing.
use Rattle.std.proofs.Common.{arith}
use Rattle.dap_project.proofs.FilledLemmas.{none_for}
use Rattle.dap_project.proofs.index.Index.indices.Goals as goal

pub returns-in-empty : goal.returns-in-empty
returns-in-empty c = λ decls are. none_for decls c.args.path.now (omega (arith, c.in-empty.len_below))
