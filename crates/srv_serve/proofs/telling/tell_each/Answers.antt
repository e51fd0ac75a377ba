-- The line of one collection more was told.
use Rattle.srv_serve.proofs.TellingLemmas.{TellsLines-more, TellsLines-none}
use Rattle.srv_serve.proofs.telling.tell_each.Goals as goal

pub loop-number-init : goal.loop-number-init
loop-number-init g c = TellsLines-none (g.M.Machine.shown c.args.opener.now)

pub loop-number-preserved : goal.loop-number-preserved
loop-number-preserved g c =
    TellsLines-more c.args.serving.now c.as_slice-specs.result.now c.loop-number.number c.index-specs-number.result _ _
    _ c.loop-number-test.true c.index-specs-number.is c.loop-number.invariant
    (rw (c.as_slice.ensures, c.as_slice-in-loop-number.ensures) at c.tell_spec.ensures)
