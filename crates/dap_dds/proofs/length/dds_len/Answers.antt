-- Each line is no longer than the whole.
use Rattle.std.proofs.Common.{◌≡◌, length, arith}
use Rattle.dap_model.specs.StructureText.{decls_text}
use Rattle.dap_dds.proofs.Lengths.{dds_lines}
use Rattle.dap_dds.proofs.length.dds_len.Goals as goal

pub line_len-requires-clause-fits : goal.line_len-requires-clause-fits
line_len-requires-clause-fits c = omega (arith, dds_lines c.args.label.now c.args.decls.now, c.requires)

pub decls_len-requires-clause-fits : goal.decls_len-requires-clause-fits
decls_len-requires-clause-fits c =
    rw c.as_slice.ensures (omega (arith, dds_lines c.args.label.now c.args.decls.now, c.requires))

pub close_len-requires-clause-fits : goal.close_len-requires-clause-fits
close_len-requires-clause-fits c = omega (arith, dds_lines c.args.label.now c.args.decls.now, c.requires)

pub overflow_add-result : goal.overflow_add-result
overflow_add-result c =
    let declared : c.decls_len.result ≡ length (decls_text 1 c.args.decls.now) =
    rw c.as_slice.ensures at c.decls_len.ensures in
    omega (arith, dds_lines c.args.label.now c.args.decls.now, c.requires, c.line_len.ensures, declared)

pub overflow_add-result-2 : goal.overflow_add-result-2
overflow_add-result-2 c =
    let declared : c.decls_len.result ≡ length (decls_text 1 c.args.decls.now) =
    rw c.as_slice.ensures at c.decls_len.ensures in
    omega
    (arith, dds_lines c.args.label.now c.args.decls.now, c.requires, c.line_len.ensures, declared, c.close_len.ensures)

pub returns : goal.returns
returns c =
    let declared : c.decls_len.result ≡ length (decls_text 1 c.args.decls.now) =
    rw c.as_slice.ensures at c.decls_len.ensures in
    omega (arith, dds_lines c.args.label.now c.args.decls.now, c.line_len.ensures, declared, c.close_len.ensures)
