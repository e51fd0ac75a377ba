-- The texts so far.
use Rattle.std.proofs.Common.{◌≡◌, ◌≤◌, ◌+◌, ◌-◌, ◌*◌, ◌<◌, length}
use Rattle.dap_model.specs.Box.{box_len, index_at}
use Rattle.dap_xdr.specs.Marks.{texts_before}
use Rattle.dap_xdr.proofs.len.texts_len.Given as goal

abbrev pub invariant-loop-element : goal.invariant-loop-element
invariant-loop-element l =
    (length l.index ≡ length l.fn.index)
    × (l.element < box_len l.part.sent.slabs → l.index ≡ index_at l.part.sent.slabs l.element)
    × (length (texts_before l.part l.from) + l.len ≡ length (texts_before l.part l.element))
    × (l.len ≤ (l.element - l.from) * 8589934592)
