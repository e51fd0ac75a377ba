use Rattle.std.proofs.Common.{◌++◌, ◌∷◌, [], List, ap₂, ◌∙◌}
use Rattle.dap_model.specs.declared.declaration.Decl.{Decl}
use Rattle.fm_dataset.specs.Declarations.{decl_of}
use Rattle.fm_dataset.proofs.ItemLemmas.{map_up_to}
use Rattle.fm_dataset.proofs.declare.decls_of_vars.Goals as goal

pub loop-var-preserved : goal.loop-var-preserved
loop-var-preserved c =
    let more = map_up_to (decl_of c.args.of.now.proto.now c.args.count) c.as_slice-vars.result.now c.loop-var.var-index
    c.var-item.result c.loop-var-test.true c.var-item.is in
    c.in_ok-push.ensures.ok
    ∙ ap₂ (λ (l : List Decl) (d : Decl). l ++ d ∷ []) c.loop-var.invariant c.in_ok-decl_of.ensures
    ∙ (rw c.as_slice-vars.ensures at more)
