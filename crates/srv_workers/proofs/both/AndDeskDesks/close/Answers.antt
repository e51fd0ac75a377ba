use Rattle.std.proofs.Common.{◌≡◌, ◌∙◌, List, ap, arith, length, suc, sum, sym, ℕ}
use Rattle.srv_workers.proofs.BothLemmas.{closed-all}
use Rattle.srv_workers.proofs.FirstLemmas.{for-each}
use Rattle.srv_workers.proofs.OneLemmas.{closed-is}
use Rattle.srv_workers.specs.Both.{first_then}
use Rattle.srv_workers.proofs.both.AndDeskDesks.close.Goals as goal

-- all shares of the first desk are back
pub close-end-requires : goal.close-end-requires
close-end-requires g c = ap (λ (l : List ℕ). length l) c.into_list.ensures ∙ c.requires.all 0 (omega arith)

pub put-requires : goal.put-requires
put-requires g c = omega (arith, c.requires.free)

-- and those of the others
pub close-requires-clause-all : goal.close-requires-clause-all
close-requires-clause-all g c number below = c.requires.all (suc number) (omega (arith, below))

pub close-requires-clause-free : goal.close-requires-clause-free
close-requires-clause-free g c = omega (arith, c.requires.free, c.put.ensures.free)

-- the ends are behind the others
pub returns-clause-closed : goal.returns-clause-closed
returns-clause-closed g c =
    closed-all c.args.closed.now.items c.args.self.first (g.X.Desks.logs c.args.self.others)
    g.X.Desks.means.them.count c.close-end.result c.put.new.self.items c.close.new.closed.items
    (closed-is c.args.self.first c.close-end.result c.close-end.ensures.tally c.close-end.ensures.revision
    c.close-end.ensures.whole) c.put.ensures.items c.close.ensures.closed

pub returns-clause-left : goal.returns-clause-left
returns-clause-left g c = omega (arith, c.put.ensures.free, c.close.ensures.left)

-- each operation was counted by one share
pub returns-clause-counted : goal.returns-clause-counted
returns-clause-counted g c =
    for-each (λ (number : ℕ). sum (first_then c.args.back.first (g.X.Desks.slots c.args.back.others) number).items
    ≡ length (first_then c.args.self.first (g.X.Desks.logs c.args.self.others) number)) g.X.Desks.means.them.count
    (ap (λ (l : List ℕ). sum l) (sym c.into_list.ensures) ∙ sym c.close-end.ensures.total
    ∙ c.close-end.ensures.whole ∙ c.close-end.ensures.revision) c.close.ensures.counted
