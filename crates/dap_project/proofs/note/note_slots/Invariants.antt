-- The slots before the part are noted, and those from it on are left.
use Rattle.std.proofs.Common.{IsFalse, IsTrue, ◌≡◌, ◌++◌, take, drop}
use Rattle.dap_model.specs.Picking.{slabs_for}
use Rattle.dap_project.specs.Full.{full_slots}
use Rattle.dap_project.specs.Notes.{picked_of, slots_after, slots_differ}
use Rattle.dap_project.proofs.note.note_slots.Given as goal

abbrev pub invariant-loop-part : goal.invariant-loop-part
invariant-loop-part l = record {
  noted : take l.part (full_slots l.decl l.slots)
      ++ slots_after (λ part. slabs_for l.decl l.slabs part (picked_of l.choice)) l.part
      (drop l.part (full_slots l.decl l.slots))
      ≡ slots_after (λ part. slabs_for l.decl l.slabs part (picked_of l.choice)) 0 (full_slots l.decl l.fn.slots);
  agreed : IsTrue l.agrees → IsFalse (slots_differ (λ part. slabs_for l.decl l.slabs part (picked_of l.choice)) l.part
      (drop l.part (full_slots l.decl l.slots)));
}
