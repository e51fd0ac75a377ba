-- A taken slot is the first; one that isn't leaves those behind it, and after the last there is none.
use Rattle.std.proofs.Common.{◌≡◌, ◌∙◌, ap, get_or, sym, subst, List}
use Rattle.dap_model.specs.declared.projection.Slab.{Slab}
use Rattle.dap_project.specs.Checks.{IsSlotCut}
use Rattle.dap_project.specs.Full.{full_slot}
use Rattle.dap_project.specs.declared.slot.Slot.{Slot}
use Rattle.dap_project.proofs.TextLemmas.{first_at, free_left, none_behind, none_past}
use Rattle.dap_project.proofs.text.first_taken.Goals as goal

pub returns-in_default : goal.returns-in_default
returns-in_default c =
    sym c.loop-part.invariant
    ∙ none_past c.args.decl.now c.args.slots.now c.loop-part.part c.in_default.ensures

pub returns-in-Taken : goal.returns-in-Taken
returns-in-Taken c =
    first_at c.args.decl.now c.args.slots.now c.loop-part.part c.in-Some.array c.as_slice-slabs.result
    c.index-slots-part.result c.in-Taken.slabs c.in-Taken.field-1 c.requires c.in-Some.ensures c.loop-part-test.true
    c.index-slots-part.is c.in-Taken.is c.as_slice-slabs.ensures c.loop-part.invariant

pub loop-part-preserved : goal.loop-part-preserved
loop-part-preserved c =
    free_left c.args.decl.now c.args.slots.now c.loop-part.part c.in-Some.array.now c.index-slots-part.result
    c.in-Some.ensures c.loop-part-test.true c.index-slots-part.is c.in_default-slots.is
    ∙ c.loop-part.invariant

pub returns : goal.returns
returns c =
    sym c.loop-part.invariant
    ∙ none_behind c.args.decl.now c.args.slots.now c.loop-part.part c.loop-part-test.false
