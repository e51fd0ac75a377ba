-- No slot before the part differs.
use Rattle.std.proofs.Common.{◌≡◌, drop}
use Rattle.dap_model.specs.Picking.{slabs_for}
use Rattle.dap_project.specs.Full.{full_slots}
use Rattle.dap_project.specs.Notes.{picked_of, slots_differ}
use Rattle.dap_project.proofs.note.slots_differ.Given as goal

abbrev pub invariant-loop-part : goal.invariant-loop-part
invariant-loop-part l =
    slots_differ (λ part. slabs_for l.decl l.slabs part (picked_of l.choice)) l.part
    (drop l.part (full_slots l.decl l.slots))
    ≡ slots_differ (λ part. slabs_for l.decl l.slabs part (picked_of l.choice)) 0 (full_slots l.decl l.slots)
