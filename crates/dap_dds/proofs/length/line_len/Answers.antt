-- The line is as long as its parts together.
use Rattle.std.proofs.Common.{arith}
use Rattle.dap_dds.proofs.Lengths.{line_parts}
use Rattle.dap_dds.proofs.length.line_len.Goals as goal

pub overflow_add-result : goal.overflow_add-result
overflow_add-result c = omega (arith, line_parts c.args.depth c.args.words.now, c.requires.fits, c.indent_len.ensures)

pub overflow_add-result-2 : goal.overflow_add-result-2
overflow_add-result-2 c = omega (arith, line_parts c.args.depth c.args.words.now, c.requires.fits, c.indent_len.ensures)

pub returns : goal.returns
returns c = omega (arith, line_parts c.args.depth c.args.words.now, c.indent_len.ensures)
