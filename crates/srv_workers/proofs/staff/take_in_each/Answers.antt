use Rattle.std.proofs.Common.{List, [], arith, refl, subst, take}
use Rattle.std.proofs.lemmas.List.{take_all}
use Rattle.std.proofs.lemmas.List.Elements.{All-rest}
use Rattle.srv_workers.specs.declared.worker.TheConstants.{NO_NAMES}
use Rattle.srv_workers.specs.Desks.{IsNew}
use Rattle.srv_workers.specs.Workers.{Adds}
use Rattle.srv_workers.proofs.StaffLemmas.{Adds-none, Adds-next-inbox, All-front, drop-next, left-some}
use Rattle.srv_workers.proofs.staff.take_in_each.Goals as goal

-- no worker yet
pub loop-number-init : goal.loop-number-init
loop-number-init g c =
    (Adds-none g.X.Desks.means c.args.staff.now.items, refl, omega arith, refl, c.requires.hands.new)

-- one is left, and room
pub take_off-inbox-requires : goal.take_off-inbox-requires
take_off-inbox-requires g c =
    left-some c.loop-number._number c.args.inboxes.now c.loop-number.inboxes (omega arith) c.loop-number.invariant.1

pub take_off-hand-requires : goal.take_off-hand-requires
take_off-hand-requires g c =
    left-some c.loop-number._number c.args.hands c.loop-number.hands (omega (arith, c.requires.hands.each))
    c.loop-number.invariant.3

pub put-requires : goal.put-requires
put-requires g c = omega (arith, c.requires.free, c.loop-number.invariant.2)

-- the worker of one more
pub loop-number-preserved : goal.loop-number-preserved
loop-number-preserved g c = (
  Adds-next-inbox g.X.Desks.means c.args.staff.now.items c.loop-number.staff.items c.put.new.self.items
      c.loop-number._number c.args.inboxes.now c.loop-number.inboxes c.take_off-inbox.result c.take_off-inbox.new.list
      c.args.hands c.loop-number.hands c.take_off-hand.result c.take_off-hand.new.list NO_NAMES
      c.loop-number.invariant.0 c.loop-number.invariant.1 c.take_off-inbox.ensures c.loop-number.invariant.3
      c.take_off-hand.ensures (All-front (λ hand. IsNew g.X.Desks.means.them (g.X.Desks.means.publisher hand))
      c.loop-number.hands c.take_off-hand.new.list c.take_off-hand.result c.loop-number.invariant.4
      c.take_off-hand.ensures) c.put.ensures.items,
  drop-next c.loop-number._number c.args.inboxes.now c.loop-number.inboxes c.take_off-inbox.result
      c.take_off-inbox.new.list c.loop-number.invariant.1 c.take_off-inbox.ensures,
  omega (arith, c.loop-number.invariant.2, c.put.ensures.free),
  drop-next c.loop-number._number c.args.hands c.loop-number.hands c.take_off-hand.result
      c.take_off-hand.new.list c.loop-number.invariant.3 c.take_off-hand.ensures,
  All-rest (λ hand. IsNew g.X.Desks.means.them (g.X.Desks.means.publisher hand)) c.take_off-hand.result
      c.take_off-hand.new.list c.loop-number.hands c.take_off-hand.ensures c.loop-number.invariant.4,
)

-- all of them
pub returns-clause-adds : goal.returns-clause-adds
returns-clause-adds g c =
    let before = c.args.staff.now.items in
    let after = c.loop-number.staff.items in
    let count = c.loop-number._number in
    subst (λ (hs : List _). Adds g.X.Desks.means before after [] c.args.inboxes.now [] hs [])
    (take_all count c.args.hands (omega (arith, c.requires.hands.each)))
    (subst (λ (is : List _). Adds g.X.Desks.means before after [] is [] (take count c.args.hands) [])
    (take_all count c.args.inboxes.now (omega arith)) c.loop-number.invariant.0)
