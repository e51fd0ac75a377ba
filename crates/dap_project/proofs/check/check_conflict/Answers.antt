-- Slabs differ from earlier ones where the note says so.
use Rattle.std.proofs.Common.{List, ℕ, Some, ap, ap₂, sym, ◌∙◌}
use Rattle.dap_model.specs.Picking.{slabs_for}
use Rattle.dap_model.specs.declared.fault.ProjectFault.TheVariants.{SlabConflict}
use Rattle.dap_model.specs.declared.projection.Slab.{Slab}
use Rattle.dap_project.specs.Full.{full_note, full_slots}
use Rattle.dap_project.specs.Notes.{picked_of, slots_differ}
use Rattle.dap_project.specs.declared.slot.Slot.{Slot}
use Rattle.dap_project.proofs.NoteLemmas.{conflict, given_as, no_conflict}
use Rattle.dap_project.proofs.check.check_conflict.Goals as goal

pub returns-then-slots_differ-clause-fault : goal.returns-then-slots_differ-clause-fault
returns-then-slots_differ-clause-fault c = λ earlier is.
    let decl = c.args.decl.now in
    let picked = picked_of c.args.choice in
    conflict decl earlier c.args.clause.now (full_note decl c.args.note.now) picked is
    c.requires
    (ap₂ (λ (s : List Slab) (l : List Slot). slots_differ (λ part. slabs_for decl s part picked) 0 (full_slots decl l))
    (sym c.as_slice.ensures) (sym c.as_slice-2.ensures)
    ∙ sym c.slots_differ.ensures
    ∙ c.if-slots_differ.true)
    ∙ ap (λ (name : List ℕ). Some (SlabConflict name)) (sym (c.in_ok-name.ensures ∙ c.name_of.ensures))

pub returns-clause-fault : goal.returns-clause-fault
returns-clause-fault c = λ earlier is.
    let decl = c.args.decl.now in
    let picked = picked_of c.args.choice in
    no_conflict decl earlier c.args.clause.now (full_note decl c.args.note.now) picked is
    c.requires
    (ap₂ (λ (s : List Slab) (l : List Slot). slots_differ (λ part. slabs_for decl s part picked) 0 (full_slots decl l))
    (sym c.as_slice.ensures) (sym c.as_slice-2.ensures)
    ∙ sym c.slots_differ.ensures
    ∙ c.if-slots_differ.false)

pub returns-clause-agrees : goal.returns-clause-agrees
returns-clause-agrees c =
    let decl = c.args.decl.now in
    let picked = picked_of c.args.choice in
    sym (given_as decl c.args.clause.now picked (full_note decl c.args.note.now) c.requires)
    ∙ ap₂ (λ (s : List Slab) (l : List Slot). slots_differ (λ part. slabs_for decl s part picked) 0 (full_slots decl l))
    (sym c.as_slice.ensures) (sym c.as_slice-2.ensures)
    ∙ sym c.slots_differ.ensures
    ∙ c.if-slots_differ.false
