-- The texts so far are written, as far as they fit, and `left` bytes are still to be passed over.
use Rattle.std.proofs.Common.{◌≡◌, ◌+◌, ◌-◌, ◌<◌, length}
use Rattle.dap_model.specs.Box.{box_len, index_at}
use Rattle.dap_xdr.specs.Marks.{texts_before}
use Rattle.dap_xdr.proofs.TextsLemmas.{TextsSoFar}
use Rattle.dap_xdr.proofs.texts.put_texts_from.Given as goal

abbrev pub decreases-loop-next : goal.decreases-loop-next
decreases-loop-next l = box_len l.part.sent.slabs - l.next

abbrev pub invariant-loop-next : goal.invariant-loop-next
invariant-loop-next l =
    (l.next < box_len l.part.sent.slabs → l.index ≡ index_at l.part.sent.slabs l.next)
    × TextsSoFar l.part (length (texts_before l.part l.element) + l.passed) l.filled l.next l.left l.fn.out l.out
