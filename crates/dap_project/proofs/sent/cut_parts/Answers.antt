-- After the last slot or the last part nothing is left, and a slot can be cut for its part.
use Rattle.std.proofs.Common.{◌<◌, ◌+◌, ◌++◌, List, ap, arith, drop, length, subst, sym, ◌∙◌}
use Rattle.nc_model.specs.declared.header.Dim.{Dim}
use Rattle.dap_model.specs.Picking.{parts_of}
use Rattle.dap_model.specs.declared.declaration.Array.{Array}
use Rattle.dap_project.specs.Checks.{IsSlotCut}
use Rattle.dap_project.specs.Full.{full_part, full_slot, full_slots}
use Rattle.dap_project.specs.Noted.{cut_of, cut_slots}
use Rattle.dap_project.proofs.FullLemmas.{dims_there, length-full_slots, slot_there}
use Rattle.dap_project.proofs.StepLemmas.{cut_end, cut_short, cut_step, item_at}
use Rattle.dap_project.proofs.sent.cut_parts.Goals as goal

pub returns : goal.returns
returns c =
    let decl = c.args.decl.now in
    let slots = c.args.slots.now in
    cut_end _ _ (parts_of decl) (full_slots decl slots) c.loop-part.part
    (omega (arith, c.loop-part-test.false, length-full_slots decl slots)) c.loop-part.invariant

pub returns-in_default : goal.returns-in_default
returns-in_default c =
    cut_short _ _ (parts_of c.args.decl.now) (full_slots c.args.decl.now c.args.slots.now) c.loop-part.part
    c.in_default.ensures c.loop-part.invariant

pub add_cut-requires : goal.add_cut-requires
add_cut-requires c =
    let decl = c.args.decl.now in
    let slots = c.args.slots.now in
    let part = c.loop-part.part in
    let array = c.in-Some.array.now in
    let slot = c.index-slots-part.result in
    let there : part < length (full_slots decl slots) =
    omega (arith, c.loop-part-test.true, length-full_slots decl slots) in
    subst (λ (dims : List Dim). IsSlotCut array (full_slot dims slot)) (dims_there decl part array c.in-Some.ensures)
    (c.requires part array (full_part decl part slot) c.in-Some.ensures
    (item_at (full_slots decl slots) part (full_part decl part slot) there
    (slot_there decl slots part slot c.loop-part-test.true c.index-slots-part.is)))

pub loop-part-preserved : goal.loop-part-preserved
loop-part-preserved c =
    let decl = c.args.decl.now in
    let parts = parts_of decl in
    let slots = c.args.slots.now in
    let part = c.loop-part.part in
    let array = c.in-Some.array.now in
    let slot = c.index-slots-part.result in
    let there : part < length (full_slots decl slots) =
    omega (arith, c.loop-part-test.true, length-full_slots decl slots) in
    ap (λ (l : List Array). l ++ cut_slots (drop (part + 1) parts) (drop (part + 1) (full_slots decl slots)))
    (c.in_ok-add_cut.ensures
    ∙ ap (λ (dims : List Dim). c.loop-part.parts ++ cut_of array (full_slot dims slot))
    (sym (dims_there decl part array c.in-Some.ensures)))
    ∙ sym (cut_step c.loop-part.parts parts (full_slots decl slots) part array (full_part decl part slot)
    c.in-Some.ensures there (slot_there decl slots part slot c.loop-part-test.true c.index-slots-part.is))
    ∙ c.loop-part.invariant
