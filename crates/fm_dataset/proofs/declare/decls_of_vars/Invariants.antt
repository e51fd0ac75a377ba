use Rattle.std.proofs.Common.{◌≡◌, map, take}
use Rattle.fm_dataset.specs.Declarations.{decl_of}
use Rattle.fm_dataset.proofs.declare.decls_of_vars.Given as goal

abbrev pub invariant-loop-var : goal.invariant-loop-var
invariant-loop-var l = l.decls ≡ map (decl_of l.of.proto.now l.count) (take l.var-index l.of.proto.now.vars)
