-- A declaration of the dataset stands for each variable, and has the variable's array as its first part.
use Rattle.std.proofs.Common.{◌∙◌, ap, arith, length}
use Rattle.fm_model.specs.declared.proto.Proto.{Proto}
use Rattle.fm_twod.proofs.DeclareLemmas.{decls-more, first-some, there, within}
use Rattle.fm_twod.proofs.declare.put_decls_of_vars.Goals as goal

pub bounds-shown-index : goal.bounds-shown-index
bounds-shown-index c =
    let vars = c.as_slice-vars.ensures ∙ ap (λ (p : Proto). p.vars) (c.get.ensures ∙ c.proto.ensures.value) in
    within c.args.cells.now.proto (length c.args.cells.now.rows) c.as_slice-shown.result.now c.loop-index.index
    (c.as_slice-shown.ensures ∙ c.decls.ensures) (omega (arith, c.loop-index-test.true, ap length vars))

pub first_part-requires : goal.first_part-requires
first_part-requires c =
    let vars = c.as_slice-vars.ensures ∙ ap (λ (p : Proto). p.vars) (c.get.ensures ∙ c.proto.ensures.value) in
    first-some c.args.cells.now.proto (length c.args.cells.now.rows) c.as_slice-shown.result.now c.loop-index.index
    c.index-shown-index.result (c.as_slice-shown.ensures ∙ c.decls.ensures)
    (omega (arith, c.loop-index-test.true, ap length vars)) c.index-shown-index.is

pub loop-index-preserved : goal.loop-index-preserved
loop-index-preserved c =
    let vars = c.as_slice-vars.ensures ∙ ap (λ (p : Proto). p.vars) (c.get.ensures ∙ c.proto.ensures.value) in
    decls-more c.args.sides.now c.args.cells.now.proto (length c.args.cells.now.rows) c.as_slice-shown.result.now
    c.loop-index.index c.index-vars-index.result c.index-shown-index.result c.first_part.result.now c.in_ok-array.array
    c.loop-index.decls c.push.new.self (c.as_slice-shown.ensures ∙ c.decls.ensures)
    (omega (arith, c.loop-index-test.true, ap length vars))
    (there c.as_slice-vars.result.now c.args.cells.now.proto.vars c.loop-index.index c.index-vars-index.result vars
    c.index-vars-index.is)
    c.index-shown-index.is c.first_part.ensures c.in_ok-array.ensures c.loop-index.invariant c.in_ok-push.ensures.ok
