-- The code of the bytes that are left, after those before them.
use Rattle.std.proofs.Common.{◌≡◌, ◌<◌, length}
use Rattle.fm_list.specs.Code.{code_from}
use Rattle.fm_list.proofs.code.bits_of.Given as goal

abbrev pub invariant-loop-left : goal.invariant-loop-left
invariant-loop-left l = (code_from l.code l.left ≡ code_from 0 l.name) × (l.code < 67_108_864)

abbrev pub decreases-loop-left : goal.decreases-loop-left
decreases-loop-left l = length l.left
