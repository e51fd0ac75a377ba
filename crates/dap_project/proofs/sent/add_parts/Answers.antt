-- A part more is sent; after the last slot nothing is left.
use Rattle.std.proofs.Common.{◌<◌, ◌+◌, ◌++◌, List, ap, arith, drop, length, sym, ◌∙◌}
use Rattle.nc_model.specs.declared.header.Dim.{Dim}
use Rattle.dap_model.specs.declared.projection.Sent.{Sent}
use Rattle.dap_project.specs.Full.{full_part, full_slot, full_slots}
use Rattle.dap_project.specs.Noted.{sent_of_slot, sent_slots}
use Rattle.dap_project.proofs.FullLemmas.{length-full_slots, slot_there}
use Rattle.dap_project.proofs.StepLemmas.{sent_end, sent_step}
use Rattle.dap_project.proofs.sent.add_parts.Goals as goal

pub loop-at-preserved : goal.loop-at-preserved
loop-at-preserved c =
    let at = c.loop-at.at in
    let decl = c.args.decl.now in
    let slots = c.args.slots.now in
    let slot = c.index-slots-at.result in
    let there : at < length (full_slots decl slots) =
    omega (arith, c.loop-at-test.true, length-full_slots decl slots) in
    ap (λ (l : List Sent). l ++ sent_slots c.args.index (at + 1) (drop (at + 1) (full_slots decl slots)))
    (c.in_ok-add_part.ensures
    ∙ ap (λ (dims : List Dim). c.loop-at.sent ++ sent_of_slot c.args.index at (full_slot dims slot))
    c.part_dims-dims.ensures)
    ∙ sym (sent_step c.loop-at.sent c.args.index at (full_slots decl slots) (full_part decl at slot) there
    (slot_there decl slots at slot c.loop-at-test.true c.index-slots-at.is))
    ∙ c.loop-at.invariant

pub returns : goal.returns
returns c =
    let decl = c.args.decl.now in
    let slots = c.args.slots.now in
    sent_end _ _ c.args.index c.loop-at.at (full_slots decl slots)
    (omega (arith, c.loop-at-test.false, length-full_slots decl slots)) c.loop-at.invariant
