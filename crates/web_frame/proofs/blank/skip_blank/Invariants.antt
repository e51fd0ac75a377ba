-- What is left has the same bytes after its empty lines.
use Rattle.std.proofs.Common.{◌≡◌, length}
use Rattle.web_frame.specs.Cut.{after_blank}
use Rattle.web_frame.proofs.blank.skip_blank.Given as goal

abbrev pub invariant-loop-left : goal.invariant-loop-left
invariant-loop-left l = after_blank l.left ≡ after_blank l.bytes

abbrev pub decreases-loop-left : goal.decreases-loop-left
decreases-loop-left l = length l.left
