-- Notes by which what clauses ask for can be sent, and what is sent with its structure text.
use Rattle.std.specs.Prelude.{◌≡◌, ℕ, List, length, Result, Ok}
use Rattle.fm_base.specs.Chain.{◌>>=◌}
use Rattle.dap_model.specs.Projection.{projection_of}
use Rattle.dap_model.specs.declared.declaration.Decl.{Decl}
use Rattle.dap_model.specs.declared.fault.ProjectFault.{ProjectFault}
use Rattle.dap_model.specs.declared.projection.Clause.{Clause}
use Rattle.dap_model.specs.declared.projection.Projected.{Projected}
use Rattle.dap_model.specs.declared.projection.Sent.{Sent}
use Rattle.dap_model.specs.StructureText.{dds_of}
use Rattle.dap_project.specs.Checks.{AllCanBeCut}
use Rattle.dap_project.specs.Full.{full_notes}
use Rattle.dap_project.specs.Noted.{noted_all}
use Rattle.dap_project.specs.declared.note.Note.{Note}

-- there is one for each declaration, each slab can be cut, and what is sent for them is the projection
pub record AreNotesFor (decls : List Decl) (clauses : List Clause) (notes : List Note) : Type 0 where
  pub count : length notes ≡ length decls
  pub cuts : AllCanBeCut decls (full_notes decls notes)
  pub sent : projection_of decls clauses ≡ Ok (noted_all decls (full_notes decls notes))

-- the structure text of what is sent, under a label, and the parts that are sent
abbrev pub text_and_parts : List ℕ → Result Projected ProjectFault → Result (List ℕ × List Sent) ProjectFault
text_and_parts label found = do
  projected ← found
  Ok (dds_of label projected.decls, projected.sent)
