-- The values so far are written, as far as they fit, and `left` bytes are still to be passed over.
use Rattle.std.proofs.Common.{◌≡◌, ◌-◌, ◌<◌, length}
use Rattle.dap_model.specs.Box.{box_of}
use Rattle.dap_xdr.specs.Datasets.{content_of}
use Rattle.nc_writer.specs.Data.{value_at, value_len}
use Rattle.nc_writer.proofs.PieceLemmas.{SoFar}
use Rattle.nc_writer.proofs.values.put_values.Given as goal

abbrev pub decreases-loop-element : goal.decreases-loop-element
decreases-loop-element l = l.count - l.element

abbrev pub invariant-loop-element : goal.invariant-loop-element
invariant-loop-element l =
    (length l.index ≡ length l.fn.index)
    × (l.left < value_len l.variable.kind l.variable.width)
    × SoFar (value_at (content_of l.source) l.variable) (box_of l.variable.sent.slabs) l.from l.filled l.element l.left
    l.fn.out l.out
