-- A part more is there; after the last one nothing is left.
use Rattle.std.proofs.Common.{◌+◌, ◌++◌, List, ap, arith, drop, sym, ◌∙◌}
use Rattle.dap_model.specs.Picking.{parts_of}
use Rattle.dap_model.specs.declared.projection.Sent.{Sent}
use Rattle.dap_project.specs.All.{parts_from}
use Rattle.dap_project.proofs.AllLemmas.{part_end, part_short, part_step}
use Rattle.dap_project.proofs.all.add_all.Goals as goal

pub returns : goal.returns
returns c =
    part_end _ _ c.args.index c.loop-part.part (parts_of c.args.decl.now)
    (omega (arith, c.loop-part-test.false, c.loop-part.auto.part-end, c.part_count-count.ensures))
    c.loop-part.invariant

pub returns-in_default : goal.returns-in_default
returns-in_default c =
    part_short _ _ c.args.index c.loop-part.part (parts_of c.args.decl.now) c.in_default.ensures c.loop-part.invariant

pub loop-part-preserved : goal.loop-part-preserved
loop-part-preserved c =
    let part = c.loop-part.part in
    let parts = parts_of c.args.decl.now in
    ap (λ (l : List Sent). l ++ parts_from c.args.index (part + 1) (drop (part + 1) parts)) c.in_ok-add_whole.ensures
    ∙ sym (part_step c.loop-part.sent c.args.index part parts c.in-Some.array.now c.in-Some.ensures)
    ∙ c.loop-part.invariant
