-- The marks stay, or those of the part are added to them.
use Rattle.std.proofs.Common.{inl, inr, refl}
use Rattle.dap_plan.proofs.laid.keep_marks.Goals as goal

pub returns-then-is_empty : goal.returns-then-is_empty
returns-then-is_empty c = inl refl

pub returns : goal.returns
returns c = inr c.in_ok-push.ensures.ok
