-- The marks stay, or the offset is added to them.
use Rattle.std.proofs.Common.{inl, inr, refl, arith}
use Rattle.dap_xdr.proofs.len.mark.Goals as goal

pub returns-then-not-is_next : goal.returns-then-not-is_next
returns-then-not-is_next c = inl refl

pub overflow_cast-small : goal.overflow_cast-small
overflow_cast-small c = omega (arith, c.is_next.ensures.fits c.if-not-is_next.false)

pub returns : goal.returns
returns c = inr (c.is_next.ensures.next c.if-not-is_next.false, c.in_ok-push.ensures.ok)
