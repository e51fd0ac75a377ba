-- The slot of the part is noted.
use Rattle.std.proofs.Common.{◌<◌, ◌+◌, ◌++◌, IsFalse, List, ap, arith, drop, length, subst, sym, take, ◌∙◌}
use Rattle.dap_model.specs.Picking.{slabs_for}
use Rattle.dap_project.specs.Full.{full_part, full_slots}
use Rattle.dap_project.specs.Notes.{picked_of, slot_after, slot_differs, slots_after, slots_differ}
use Rattle.dap_project.specs.declared.slot.Slot.{Slot}
use Rattle.dap_project.proofs.FullLemmas.{length-full_slots, set-full_slots, slot_there}
use Rattle.dap_project.proofs.StepLemmas.{none_differs, slots_end, slots_step}
use Rattle.dap_project.proofs.note.note_slots.Goals as goal

pub add-requires : goal.add-requires
add-requires c = λ agrees.
    let part = c.loop-part.part in
    let decl = c.args.decl.now in
    let slots = c.loop-part.slots in
    let slot = c.index-slots-part.result in
    let within : part < length slots = omega (arith, c.loop-part-test.true, c.loop-part.auto.slots) in
    ap (λ (s : Slot). slot_differs (full_part decl part s)
    (slabs_for decl c.args.slabs.now part (picked_of c.args.choice)))
    (sym c.index-slots-part.is)
    ∙ (none_differs (λ part. slabs_for decl c.args.slabs.now part (picked_of c.args.choice))
    (full_slots decl slots) part (full_part decl part slot) (full_part decl part slot)
    (omega (arith, within, length-full_slots decl slots))
    (slot_there decl slots part slot within c.index-slots-part.is) (c.loop-part.invariant.agreed agrees)).0

pub loop-part-preserved : goal.loop-part-preserved
loop-part-preserved c =
    let part = c.loop-part.part in
    let decl = c.args.decl.now in
    let slots = c.loop-part.slots in
    let slot = c.index-slots-part.result in
    let new = c.add.new.self in
    let within : part < length slots = omega (arith, c.loop-part-test.true, c.loop-part.auto.slots) in
    let there : part < length (full_slots decl slots) = omega (arith, within, length-full_slots decl slots) in
    let is = slot_there decl slots part slot within c.index-slots-part.is in
    let written = set-full_slots decl slots part new within in
    record {
      noted = sym (slots_step (λ part. slabs_for decl c.args.slabs.now part (picked_of c.args.choice))
          (full_slots decl slots) part (full_part decl part slot) (full_part decl part new) there is
          (c.in_ok-add.ensures
          ∙ ap (λ (s : Slot). slot_after (slabs_for decl c.args.slabs.now part (picked_of c.args.choice))
          (full_part decl part s)) (sym c.index-slots-part.is))
          ∙ ap (λ (l : List Slot). take (part + 1) l
          ++ slots_after (λ part. slabs_for decl c.args.slabs.now part (picked_of c.args.choice)) (part + 1)
          (drop (part + 1) l)) written)
          ∙ c.loop-part.invariant.noted;
      agreed = λ agrees.
          subst (λ (l : List Slot). IsFalse (slots_differ
          (λ part. slabs_for decl c.args.slabs.now part (picked_of c.args.choice)) (part + 1) (drop (part + 1) l)))
          written
          (none_differs (λ part. slabs_for decl c.args.slabs.now part (picked_of c.args.choice))
          (full_slots decl slots) part (full_part decl part slot) (full_part decl part new) there is
          (c.loop-part.invariant.agreed agrees)).1;
    }

pub returns : goal.returns
returns c =
    let decl = c.args.decl.now in
    let slots = c.loop-part.slots in
    slots_end (λ part. slabs_for decl c.args.slabs.now part (picked_of c.args.choice)) (full_slots decl slots) _
    c.loop-part.part
    (omega (arith, c.loop-part-test.false, c.loop-part.auto.slots, length-full_slots decl slots))
    c.loop-part.invariant.noted
