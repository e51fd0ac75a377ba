-- The texts so far, and the marks in them.
use Rattle.std.proofs.Common.{◌≡◌, ◌≤◌, ◌+◌, ◌-◌, ◌*◌, length}
use Rattle.dap_model.specs.Box.{box_len}
use Rattle.dap_xdr.specs.Marks.{texts_before, AreMarks}
use Rattle.dap_xdr.proofs.len.mark_texts.Given as goal

abbrev pub decreases-loop-element : goal.decreases-loop-element
decreases-loop-element l = box_len l.part.sent.slabs - l.element

abbrev pub invariant-loop-element : goal.invariant-loop-element
invariant-loop-element l =
    (length l.index ≡ length l.fn.index)
    × (l.len ≡ length (texts_before l.part l.element))
    × AreMarks l.part l.marks
    × (l.element ≤ box_len l.part.sent.slabs)
    × (l.len ≤ 4 + l.element * 8589934592)
