-- The next element is reached from the one before it.
use Rattle.std.proofs.Common.{◌≡◌, ℕ, subst, arith}
use Rattle.dap_model.specs.Box.{index_at}
use Rattle.dap_xdr.proofs.part.Part.move_on.Goals as goal

pub overflow_sub-to : goal.overflow_sub-to
overflow_sub-to c = omega (arith, c.if-to-from.true)

pub go_on_to-requires-clause-begun : goal.go_on_to-requires-clause-begun
go_on_to-requires-clause-begun c = omega (arith, c.if-to-from.true)

pub go_on_to-requires-clause-before : goal.go_on_to-requires-clause-before
go_on_to-requires-clause-before c =
    subst (λ (m : ℕ). c.args.index.now ≡ index_at c.args.self.now.sent.slabs m)
    (omega (arith, c.if-to-from.true, c.if-to-from-eq1.true)) c.requires.before
