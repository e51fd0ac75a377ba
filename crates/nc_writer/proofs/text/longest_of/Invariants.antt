-- The longest text so far, and those that are left.
use Rattle.std.proofs.Common.{◌≡◌, ◌≤◌, length}
use Rattle.dap_xdr.specs.Datasets.{content_of}
use Rattle.nc_writer.proofs.TextLemmas.{LongestSoFar}
use Rattle.nc_writer.proofs.text.longest_of.Given as goal

abbrev pub invariant-loop-element : goal.invariant-loop-element
invariant-loop-element l =
    (length l.index ≡ length l.fn.index) × (1 ≤ l.most) × LongestSoFar (content_of l.source) l.sent l.element l.most
