-- What is seen at the look goes on from what the seat had seen, and that from all that was known.
use Rattle.std.proofs.Common.{Option, Some, None, IfSome, List}
use Rattle.left_right.specs.Sides.{view}
use Rattle.fm_model.specs.declared.op.Op.{Op}
use Rattle.pub_look.specs.History.{Continues}
use Rattle.pub_look.proofs.HistoryLemmas.{continues_on}
use Rattle.pub_pass.proofs.pass.meet_and_look.Goals as goal

-- what was found goes on from an earlier list too
on : {A : Type 0} (log : A → List Op) (first second : List Op) (found : Option A) → Continues first second
    → IfSome found (λ it. Continues second (log it)) → IfSome found (λ it. Continues first (log it))
on log first second None one two = tt
on log first second (Some it) one two = continues_on first second (log it) one two

pub returns-clause-later : goal.returns-clause-later
returns-clause-later g c =
    on (λ found. found.0.seen.log) c.args.known.now.seen.log (view c.meet-seat.result.0.place).seen
    c.look-seat.result.1 (c.meet-seat.ensures.met (cc (c.if-not-met.false))) c.look-seat.ensures.later
