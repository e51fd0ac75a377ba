-- The parts so far are written.
use Rattle.std.proofs.Common.{◌≡◌, ◌++◌, length, ◌-◌}
use Rattle.dap_model.specs.StructureText.{arrays_text}
use Rattle.dap_project.specs.Taken.{cut_from}
use Rattle.dap_project.proofs.text.put_parts.Given as goal

abbrev pub invariant-loop-part : goal.invariant-loop-part
invariant-loop-part l =
    l.out ++ arrays_text l.depth (cut_from l.decl l.slots l.part)
    ≡ l.fn.out ++ arrays_text l.depth (cut_from l.decl l.slots l.from)

abbrev pub decreases-loop-part : goal.decreases-loop-part
decreases-loop-part l = length l.slots - l.part
