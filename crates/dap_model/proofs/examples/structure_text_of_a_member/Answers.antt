-- A Structure of one member has this structure text, by computing.
use Rattle.std.proofs.Common.{refl}
use Rattle.std.specs.Fmt.{digits}
use Rattle.dap_model.specs.StructureText.{array_text, arrays_text, close_text, dds_of, decl_text, decls_text, dim_text, dims_text, grid_text, indent, kind_text, line_text, structure_text}
use Rattle.dap_model.proofs.examples.structure_text_of_a_member.Goals as goal

pub returns : goal.returns
unfolding digits array_text arrays_text close_text dds_of decl_text decls_text dim_text dims_text grid_text indent
    kind_text line_text structure_text
returns c = refl
