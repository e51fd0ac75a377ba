-- Where nothing stands together one value is written.
use Rattle.std.proofs.Common.{List, ℕ, subst, arith}
use Rattle.dap_xdr.specs.Datasets.{content_of}
use Rattle.nc_writer.specs.Facts.{IsTurn}
use Rattle.nc_writer.proofs.values.put_some.Goals as goal

pub returns-then-turn-gt0-clause-turn : goal.returns-then-turn-gt0-clause-turn
returns-then-turn-gt0-clause-turn c = c.put_stretch-turn.ensures.some c.if-turn-gt0.true

pub returns-clause-turn : goal.returns-clause-turn
returns-clause-turn c =
    subst (λ (old : List ℕ). IsTurn (content_of c.args.source.now) c.args.variable.now c.args.element c.args.passed
    c.put_one.result old c.put_one.new.out)
    (c.put_stretch-turn.ensures.none (omega (arith, c.if-turn-gt0.false))) c.put_one.ensures.turn
