-- What is written so far, where what is left begins, and the index list of that element.
use Rattle.std.proofs.Common.{◌≡◌, ◌-◌, ◌<◌, length}
use Rattle.dap_model.specs.Box.{box_len, index_at}
use Rattle.dap_xdr.proofs.SoFarLemmas.{SoFar}
use Rattle.dap_xdr.proofs.elements.put_elements.Given as goal

abbrev pub decreases-loop-element : goal.decreases-loop-element
decreases-loop-element l = length l.out - l.filled

abbrev pub invariant-loop-element : goal.invariant-loop-element
invariant-loop-element l =
    (length l.index ≡ length l.fn.index)
    × SoFar l.part l.from l.filled l.element l.skip l.fn.out l.out
    × (l.element < box_len l.part.sent.slabs → l.index ≡ index_at l.part.sent.slabs l.element)
