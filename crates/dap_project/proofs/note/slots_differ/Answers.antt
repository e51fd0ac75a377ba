-- The slot of the part differs, or those after it tell.
use Rattle.std.proofs.Common.{arith, sym, ◌∙◌}
use Rattle.dap_model.specs.Picking.{slabs_for}
use Rattle.dap_project.specs.Full.{full_part, full_slots}
use Rattle.dap_project.specs.Notes.{picked_of}
use Rattle.dap_project.proofs.FullLemmas.{length-full_slots, slot_there}
use Rattle.dap_project.proofs.StepLemmas.{differ_end, differ_here, differ_later}
use Rattle.dap_project.proofs.note.slots_differ.Goals as goal

pub returns-then-slot_differs : goal.returns-then-slot_differs
returns-then-slot_differs c =
    let decl = c.args.decl.now in
    let slots = c.args.slots.now in
    let part = c.loop-part.part in
    let slot = c.index-slots-part.result in
    differ_here (λ part. slabs_for decl c.args.slabs.now part (picked_of c.args.choice)) (full_slots decl slots) part
    (full_part decl part slot) (omega (arith, c.loop-part-test.true, length-full_slots decl slots))
    (slot_there decl slots part slot c.loop-part-test.true c.index-slots-part.is)
    (sym c.if-slot_differs.true ∙ c.slot_differs.ensures)
    ∙ c.loop-part.invariant

pub loop-part-preserved : goal.loop-part-preserved
loop-part-preserved c =
    let decl = c.args.decl.now in
    let slots = c.args.slots.now in
    let part = c.loop-part.part in
    let slot = c.index-slots-part.result in
    differ_later (λ part. slabs_for decl c.args.slabs.now part (picked_of c.args.choice)) (full_slots decl slots) part
    (full_part decl part slot) (omega (arith, c.loop-part-test.true, length-full_slots decl slots))
    (slot_there decl slots part slot c.loop-part-test.true c.index-slots-part.is)
    (sym c.if-slot_differs.false ∙ c.slot_differs.ensures)
    ∙ c.loop-part.invariant

pub returns : goal.returns
returns c =
    differ_end (λ part. slabs_for c.args.decl.now c.args.slabs.now part (picked_of c.args.choice))
    (full_slots c.args.decl.now c.args.slots.now) c.loop-part.part
    (omega (arith, c.loop-part-test.false, length-full_slots c.args.decl.now c.args.slots.now))
    ∙ c.loop-part.invariant
