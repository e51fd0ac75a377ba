-- The link is the one that the dialer had, which was not used.
use Rattle.std.proofs.Common.{◌≡◌}
use Rattle.dev_memory.proofs.mem_dial.MemDialDial.dial.Goals as goal

pub returns-clause-fresh : goal.returns-clause-fresh
returns-clause-fresh c =
    let value = c.take.ensures.value in
    let is = c.in-Some.is in
    c.args.self.now.fresh c.in-Some.link cc
