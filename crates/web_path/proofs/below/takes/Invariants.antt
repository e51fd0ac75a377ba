-- What the decoded bytes begin with is what those that are left begin with.
use Rattle.std.proofs.Common.{◌≡◌, ℕ, List, ◌++◌, length}
use Rattle.percent_encoding.specs.Iter.{decoded_bytes}
use Rattle.web_path.specs.Begins.{begins}
use Rattle.web_path.proofs.below.takes.Given as goal

abbrev pub invariant-loop-wanted : goal.invariant-loop-wanted
invariant-loop-wanted l = (more : List ℕ)
    → begins (l.front ++ more) (decoded_bytes l.fn.left) ≡ begins (l.wanted ++ more) (decoded_bytes l.left)

abbrev pub decreases-loop-wanted : goal.decreases-loop-wanted
decreases-loop-wanted l = length l.wanted
