use Rattle.std.proofs.Common.{◌∙◌, ℕ, ap, arith, replicate}
use Rattle.srv_workers.proofs.many.made_for.Goals as goal

-- all is made for as many doors as there are
pub returns-in-Ok-clause-copies : goal.returns-in-Ok-clause-copies
returns-in-Ok-clause-copies g c =
    c.in_ok-eyes.ensures.copies ∙ ap (λ (doors : ℕ). replicate doors c.args.protos.now) c.len.ensures

pub returns-in-Ok-clause-slots : goal.returns-in-Ok-clause-slots
returns-in-Ok-clause-slots g c =
    (c.in_ok-eyes.ensures.slots.0, omega (arith, c.in_ok-eyes.ensures.slots.1, c.len.ensures))

pub returns-in-Ok-clause-room : goal.returns-in-Ok-clause-room
returns-in-Ok-clause-room g c = c.in-Ok.ensures.room

pub returns-in-Ok-clause-back : goal.returns-in-Ok-clause-back
returns-in-Ok-clause-back g c = c.in-Ok.ensures.back
