-- Each line is no longer than the whole.
use Rattle.std.proofs.Common.{arith}
use Rattle.dap_dds.proofs.Lengths.{structure_lines}
use Rattle.dap_dds.proofs.length.structure_len.Goals as goal

pub line_len-requires-clause-fits : goal.line_len-requires-clause-fits
line_len-requires-clause-fits c =
    let whole = structure_lines c.args.depth c.args.name.now c.args.members.now in
    omega (arith, whole, c.requires.fits)

pub arrays_len-requires-clause-fits : goal.arrays_len-requires-clause-fits
arrays_len-requires-clause-fits c =
    let whole = structure_lines c.args.depth c.args.name.now c.args.members.now in
    omega (arith, whole, c.requires.fits)

pub close_len-requires-clause-fits : goal.close_len-requires-clause-fits
close_len-requires-clause-fits c =
    let whole = structure_lines c.args.depth c.args.name.now c.args.members.now in
    omega (arith, whole, c.requires.fits)

pub overflow_add-result : goal.overflow_add-result
overflow_add-result c =
    let whole = structure_lines c.args.depth c.args.name.now c.args.members.now in
    omega (arith, whole, c.requires.fits, c.line_len.ensures, c.arrays_len.ensures)

pub overflow_add-result-2 : goal.overflow_add-result-2
overflow_add-result-2 c =
    let whole = structure_lines c.args.depth c.args.name.now c.args.members.now in
    omega (arith, whole, c.requires.fits, c.line_len.ensures, c.arrays_len.ensures, c.close_len.ensures)

pub returns : goal.returns
returns c =
    let whole = structure_lines c.args.depth c.args.name.now c.args.members.now in
    omega (arith, whole, c.line_len.ensures, c.arrays_len.ensures, c.close_len.ensures)
