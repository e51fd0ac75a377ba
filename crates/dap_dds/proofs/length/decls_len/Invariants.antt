-- The lengths of the declarations before the index were added.
use Rattle.std.proofs.Common.{◌≡◌, length, take}
use Rattle.dap_model.specs.StructureText.{decls_text}
use Rattle.dap_dds.proofs.length.decls_len.Given as goal

abbrev pub invariant-loop-decl : goal.invariant-loop-decl
invariant-loop-decl l = l.len ≡ length (decls_text l.depth (take l.decl-index l.decls))
