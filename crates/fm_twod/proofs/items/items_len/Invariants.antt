-- The values so far are counted, each of at most 2^33 bytes.
use Rattle.std.proofs.Common.{◌≡◌, ◌≤◌, ◌*◌, ◌<◌, length}
use Rattle.dap_model.specs.Box.{box_len, index_at}
use Rattle.fm_twod.specs.Chosen.{items_before}
use Rattle.fm_twod.proofs.items.items_len.Given as goal

abbrev pub invariant-loop-element : goal.invariant-loop-element
invariant-loop-element l =
    (length l.index ≡ length l.fn.index)
    × (l.element < box_len l.section.sent.slabs → l.index ≡ index_at l.section.sent.slabs l.element)
    × (l.len ≡ length (items_before l.section l.element))
    × (l.len ≤ l.element * 8589934592)
