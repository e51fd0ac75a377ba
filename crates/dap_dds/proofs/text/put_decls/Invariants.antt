-- The text of the declarations before the index was appended.
use Rattle.std.proofs.Common.{◌≡◌, ◌++◌, take}
use Rattle.dap_model.specs.StructureText.{decls_text}
use Rattle.dap_dds.proofs.text.put_decls.Given as goal

abbrev pub invariant-loop-decl : goal.invariant-loop-decl
invariant-loop-decl l = l.out ≡ l.fn.out ++ decls_text l.depth (take l.decl-index l.decls)
