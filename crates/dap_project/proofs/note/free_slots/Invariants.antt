-- A free slot for each part so far.
use Rattle.std.proofs.Common.{◌≡◌, replicate}
use Rattle.dap_project.specs.declared.slot.Slot.TheVariants.{Free}
use Rattle.dap_project.proofs.note.free_slots.Given as goal

abbrev pub invariant-loop-part : goal.invariant-loop-part
invariant-loop-part l = l.slots ≡ replicate l._part Free
