-- The declaration at the index is the first that the path names.
use Rattle.std.proofs.Common.{rules, ◌<◌, ◌+◌, ap, arith, drop, get_or, length, refl, sym, ◌∙◌}
use Rattle.std.proofs.lemmas.List.{get_or_default}
use Rattle.dap_model.specs.Picking.{is_picked, picked_by}
use Rattle.dap_model.specs.declared.declaration.Decl.{Decl}
use Rattle.dap_project.proofs.BucketLemmas.{all_left, named_further, named_none, next, none_left, passed_named}
use Rattle.dap_project.proofs.IndexLemmas.{found_here}
use Rattle.dap_project.proofs.picked.index_named.Goals as goal

pub loop-at-init : goal.loop-at-init
loop-at-init c = (0, all_left c.args.decls.now c.args.path.now c.args.indices.now c.requires, refl)

pub bounds-decls-at : goal.bounds-decls-at
bounds-decls-at c =
    let so_far = c.loop-at.invariant in
    (next c.args.decls.now c.args.path.now c.args.indices.now c.loop-at.at-index 0 so_far.0
    c.loop-at-test.true so_far.1).within

pub offset_bounds-decls-at : goal.offset_bounds-decls-at
offset_bounds-decls-at c =
    let so_far = c.loop-at.invariant in
    let within : get_or c.args.indices.now c.loop-at.at-index 0 < length c.args.decls.now =
    (next c.args.decls.now c.args.path.now c.args.indices.now c.loop-at.at-index 0 so_far.0
    c.loop-at-test.true so_far.1).within in
    search rules

pub returns-then-is_picked : goal.returns-then-is_picked
returns-then-is_picked c =
    let decls = c.args.decls.now in
    let path = c.args.path.now in
    let index = get_or c.args.indices.now c.loop-at.at-index 0 in
    let decl = c.index-decls-at.result in
    let so_far = c.loop-at.invariant in
    let here = next decls path c.args.indices.now c.loop-at.at-index 0 so_far.0 c.loop-at-test.true so_far.1 in
    record {
      within = here.within;
      decl = found_here decls path index decl here.within c.index-decls-at.is
          (sym (c.is_picked.ensures ∙ ap is_picked c.picked_by-choice.ensures) ∙ c.if-is_picked.true)
          ∙ sym (passed_named decls path c.args.indices.now c.loop-at.at-index _ so_far.0 here)
          ∙ so_far.2;
      choice = λ other is_other.
          c.picked_by-choice.ensures
          ∙ ap (λ (d : Decl). picked_by d path)
          (c.index-decls-at.is ∙ get_or_default decls index decl other here.within ∙ sym is_other);
    }

pub loop-at-preserved : goal.loop-at-preserved
loop-at-preserved c =
    let decls = c.args.decls.now in
    let path = c.args.path.now in
    let index = get_or c.args.indices.now c.loop-at.at-index 0 in
    let so_far = c.loop-at.invariant in
    let here = next decls path c.args.indices.now c.loop-at.at-index 0 so_far.0 c.loop-at-test.true so_far.1 in
    let fails = sym (c.is_picked.ensures ∙ ap is_picked c.picked_by-choice.ensures) ∙ c.if-is_picked.false in (
      index + 1,
      here.left,
      sym (named_further decls path index c.index-decls-at.result here.within c.index-decls-at.is fails)
          ∙ sym (passed_named decls path c.args.indices.now c.loop-at.at-index _ so_far.0 here)
          ∙ so_far.2,
    )

pub returns : goal.returns
returns c =
    let so_far = c.loop-at.invariant in
    sym so_far.2
    ∙ named_none c.args.path.now (drop so_far.0 c.args.decls.now)
    (none_left c.args.decls.now c.args.path.now c.args.indices.now c.loop-at.at-index so_far.0
    (omega (arith, c.loop-at-test.false)) so_far.1)
