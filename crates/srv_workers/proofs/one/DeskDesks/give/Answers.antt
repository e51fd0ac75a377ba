use Rattle.std.proofs.Common.{refl}
use Rattle.srv_workers.proofs.OneLemmas.{PutsItems-one}
use Rattle.srv_workers.proofs.one.DeskDesks.give.Goals as goal

-- the share is with those of the only desk
pub returns : goal.returns
returns g c number below =
    PutsItems-one (record { desk = 0; pass = c.args.hand.own; share = c.args.hand.share }) c.args.back.now
    c.put.new.self refl (record { items_are = c.put.ensures.items; free_is = c.put.ensures.free }) number below
