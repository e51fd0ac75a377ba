-- Each line is no longer than the whole.
use Rattle.std.proofs.Common.{arith}
use Rattle.dap_dds.proofs.Lengths.{grid_lines}
use Rattle.dap_dds.proofs.length.grid_len.Goals as goal

pub line_len-requires-clause-fits : goal.line_len-requires-clause-fits
line_len-requires-clause-fits c =
    let whole = grid_lines c.args.depth c.args.name.now c.args.array.now c.args.maps.now in
    omega (arith, whole, c.requires.fits)

pub line_len-requires-2-clause-fits : goal.line_len-requires-2-clause-fits
line_len-requires-2-clause-fits c =
    let whole = grid_lines c.args.depth c.args.name.now c.args.array.now c.args.maps.now in
    omega (arith, whole, c.requires.fits)

pub line_len-requires-3-clause-fits : goal.line_len-requires-3-clause-fits
line_len-requires-3-clause-fits c =
    let whole = grid_lines c.args.depth c.args.name.now c.args.array.now c.args.maps.now in
    omega (arith, whole, c.requires.fits)

pub array_len-requires-clause-fits : goal.array_len-requires-clause-fits
array_len-requires-clause-fits c =
    let whole = grid_lines c.args.depth c.args.name.now c.args.array.now c.args.maps.now in
    omega (arith, whole, c.requires.fits)

pub arrays_len-requires-clause-fits : goal.arrays_len-requires-clause-fits
arrays_len-requires-clause-fits c =
    let whole = grid_lines c.args.depth c.args.name.now c.args.array.now c.args.maps.now in
    omega (arith, whole, c.requires.fits)

pub close_len-requires-clause-fits : goal.close_len-requires-clause-fits
close_len-requires-clause-fits c =
    let whole = grid_lines c.args.depth c.args.name.now c.args.array.now c.args.maps.now in
    omega (arith, whole, c.requires.fits)

pub overflow_add-lines : goal.overflow_add-lines
overflow_add-lines c =
    let whole = grid_lines c.args.depth c.args.name.now c.args.array.now c.args.maps.now in
    omega (arith, whole, c.requires.fits, c.line_len.ensures, c.line_len-2.ensures)

pub overflow_add-lines-2 : goal.overflow_add-lines-2
overflow_add-lines-2 c =
    let whole = grid_lines c.args.depth c.args.name.now c.args.array.now c.args.maps.now in
    omega (arith, whole, c.requires.fits, c.line_len.ensures, c.line_len-2.ensures, c.line_len-3.ensures)

pub overflow_add-arrays : goal.overflow_add-arrays
overflow_add-arrays c =
    let whole = grid_lines c.args.depth c.args.name.now c.args.array.now c.args.maps.now in
    omega (arith, whole, c.requires.fits, c.array_len.ensures, c.arrays_len.ensures)

pub overflow_add-result : goal.overflow_add-result
overflow_add-result c =
    let whole = grid_lines c.args.depth c.args.name.now c.args.array.now c.args.maps.now in
    omega (
      arith,
      whole,
      c.requires.fits,
      c.line_len.ensures,
      c.line_len-2.ensures,
      c.line_len-3.ensures,
      c.array_len.ensures,
      c.arrays_len.ensures,
    )

pub overflow_add-result-2 : goal.overflow_add-result-2
overflow_add-result-2 c =
    let whole = grid_lines c.args.depth c.args.name.now c.args.array.now c.args.maps.now in
    omega (
      arith,
      whole,
      c.requires.fits,
      c.line_len.ensures,
      c.line_len-2.ensures,
      c.line_len-3.ensures,
      c.array_len.ensures,
      c.arrays_len.ensures,
      c.close_len.ensures,
    )

pub returns : goal.returns
returns c =
    let whole = grid_lines c.args.depth c.args.name.now c.args.array.now c.args.maps.now in
    omega (
      arith,
      whole,
      c.line_len.ensures,
      c.line_len-2.ensures,
      c.line_len-3.ensures,
      c.array_len.ensures,
      c.arrays_len.ensures,
      c.close_len.ensures,
    )
