use Rattle.srv_workers.proofs.CloseLemmas.{Closes-is, shares-all}
use Rattle.srv_workers.proofs.close.close_over.Goals as goal

-- each desk has its shares back
pub close_with-requires-clause-all : goal.close_with-requires-clause-all
close_with-requires-clause-all g c =
    shares-all g.X.Desks.means g.X.Desks.slots g.X.Desks.parts c.args.staff c.args.parts c.take_apart.new.parts
    c.requires.none c.take_apart.ensures c.requires.shares

-- the run was closed
pub returns : goal.returns
returns g c =
    Closes-is g.X.Desks.means g.X.Desks.slots (g.X.Desks.logs c.args.desks) c.args.staff c.args.parts
    c.take_apart.new.parts c.close_with.new.devices c.close_with.result c.requires.empty c.requires.none
    c.take_apart.ensures c.close_with.ensures.doors c.close_with.ensures.inboxes c.close_with.ensures.clocks
    c.close_with.ensures.desks c.close_with.ensures.counted
