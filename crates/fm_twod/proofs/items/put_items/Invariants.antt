-- The values so far are written, as far as they fit, and `left` bytes are still to be passed over.
use Rattle.std.proofs.Common.{◌≡◌, ◌+◌, ◌-◌, ◌<◌, length}
use Rattle.dap_model.specs.Box.{box_len, index_at}
use Rattle.fm_twod.specs.Chosen.{items_before}
use Rattle.fm_twod.proofs.ItemLemmas.{ItemsSoFar}
use Rattle.fm_twod.proofs.items.put_items.Given as goal

abbrev pub decreases-loop-next : goal.decreases-loop-next
decreases-loop-next l = box_len l.section.sent.slabs - l.next

abbrev pub invariant-loop-next : goal.invariant-loop-next
invariant-loop-next l =
    (l.next < box_len l.section.sent.slabs → l.index ≡ index_at l.section.sent.slabs l.next)
    × ItemsSoFar l.section (length (items_before l.section l.element) + l.passed) l.filled l.next l.left l.fn.out l.out
