-- What is left has the same text.
use Rattle.std.proofs.Common.{◌≡◌, length}
use Rattle.fm_model.specs.Attribute.{trimmed}
use Rattle.fm_dataset.proofs.zeros.without_eights.Given as goal

abbrev pub invariant-loop-front : goal.invariant-loop-front
invariant-loop-front l = trimmed l.left ≡ trimmed l.bytes

abbrev pub decreases-loop-front : goal.decreases-loop-front
decreases-loop-front l = length l.left
