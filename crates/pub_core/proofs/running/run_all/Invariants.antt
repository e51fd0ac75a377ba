-- The machine stands for the world after the events so far.
use Rattle.std.proofs.Common.{take}
use Rattle.pub_core.specs.Happening.{run}
use Rattle.pub_core.specs.Machine.{IsMachine}
use Rattle.pub_core.specs.World.{start}
use Rattle.pub_core.proofs.running.run_all.Given as goal

abbrev pub invariant-loop-event : goal.invariant-loop-event
invariant-loop-event l =
    IsMachine l.fn.proto l.machine (run l.fn.proto (start l.fn.sessions) (take l.event-index l.event-items))
