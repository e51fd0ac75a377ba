-- It learns of what was published.
use Rattle.std.proofs.Common.{◌≡◌, max, arith}
use Rattle.pub_core.proofs.ConnectionLemmas.{learn-none}
use Rattle.pub_core.proofs.LearnSteps.{shown-learnt}
use Rattle.pub_core.proofs.connection.Connection.learn.Goals as goal

pub returns-then-count-published : goal.returns-then-count-published
returns-then-count-published c = λ proto log s number known shown.
    let more : c.max-self.result ≡ max c.args.self.now.seen c.args.count = omega (arith, c.max-self.ensures) in
    shown-learnt number c.args.count c.max-self.result shown (omega (arith, c.if-count-published.true, known)) more

pub returns-else-count-published : goal.returns-else-count-published
returns-else-count-published c = λ proto log s number known shown.
    learn-none proto log c.args.self.now s number c.args.count (omega (arith, c.if-count-published.false, known)) shown
