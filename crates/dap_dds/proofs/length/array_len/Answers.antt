-- The line is as long as its parts together.
use Rattle.std.proofs.Common.{◌≡◌, length, arith}
use Rattle.dap_model.specs.StructureText.{dims_text}
use Rattle.dap_dds.proofs.Lengths.{array_parts}
use Rattle.dap_dds.proofs.length.array_len.Goals as goal

pub overflow_add-words : goal.overflow_add-words
overflow_add-words c =
    omega
    (arith, array_parts c.args.depth c.args.array.now, c.requires.fits, c.indent_len.ensures, c.kind_len.ensures)

pub overflow_add-words-2 : goal.overflow_add-words-2
overflow_add-words-2 c = omega (
  arith,
  array_parts c.args.depth c.args.array.now,
  c.requires.fits,
  c.indent_len.ensures,
  c.kind_len.ensures,
  c.len.ensures,
)

pub dims_len-requires : goal.dims_len-requires
dims_len-requires c =
    rw c.as_slice.ensures (omega (arith, array_parts c.args.depth c.args.array.now, c.requires.fits))

pub overflow_add-result : goal.overflow_add-result
overflow_add-result c =
    let dims : c.dims_len.result ≡ length (dims_text c.args.array.now.dims) =
    rw c.as_slice.ensures at c.dims_len.ensures in
    omega (
      arith,
      array_parts c.args.depth c.args.array.now,
      c.requires.fits,
      c.indent_len.ensures,
      c.kind_len.ensures,
      c.len.ensures,
      dims,
    )

pub overflow_add-result-2 : goal.overflow_add-result-2
overflow_add-result-2 c =
    let dims : c.dims_len.result ≡ length (dims_text c.args.array.now.dims) =
    rw c.as_slice.ensures at c.dims_len.ensures in
    omega (
      arith,
      array_parts c.args.depth c.args.array.now,
      c.requires.fits,
      c.indent_len.ensures,
      c.kind_len.ensures,
      c.len.ensures,
      dims,
    )

pub returns : goal.returns
returns c =
    let dims : c.dims_len.result ≡ length (dims_text c.args.array.now.dims) =
    rw c.as_slice.ensures at c.dims_len.ensures in
    omega (
      arith,
      array_parts c.args.depth c.args.array.now,
      c.indent_len.ensures,
      c.kind_len.ensures,
      c.len.ensures,
      dims,
    )
