-- No more is left than before.
use Rattle.std.proofs.Common.{◌≤◌}
use Rattle.dev_net.proofs.closing.Ending.drop_more.Given as goal

abbrev pub invariant-rest : goal.invariant-rest
invariant-rest g l = l.self.left ≤ l.fn.self.left

abbrev pub decreases-rest : goal.decreases-rest
decreases-rest g l = l.self.left
