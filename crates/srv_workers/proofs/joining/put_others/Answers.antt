use Rattle.std.proofs.Common.{◌++◌, arith, length, map, refl}
use Rattle.srv_workers.specs.declared.both.OneOf.TheVariants.{Other}
use Rattle.srv_workers.proofs.JoinLemmas.{less-left, map-end, map-next, some-left}
use Rattle.srv_workers.proofs.joining.put_others.Goals as goal

-- all are left
pub loop-number-init : goal.loop-number-init
loop-number-init g c = (refl, omega arith, omega arith)

-- one is left, and room
pub take_off-hand-requires : goal.take_off-hand-requires
take_off-hand-requires g c =
    some-left c.loop-number.hands (length c.args.hands) c.loop-number._number (omega arith) c.loop-number.invariant.1

pub put-requires : goal.put-requires
put-requires g c = omega (arith, c.requires, c.loop-number.invariant.2)

-- one hand more
pub loop-number-preserved : goal.loop-number-preserved
loop-number-preserved g c = (
  map-next (λ hand. Other hand) c.loop-number.all.items c.put.new.self.items
      (c.args.all.now.items ++ map (λ hand. Other hand) c.args.hands) c.loop-number.hands c.take_off-hand.new.list
      c.take_off-hand.result c.loop-number.invariant.0 c.take_off-hand.ensures c.put.ensures.items,
  less-left c.loop-number.hands c.take_off-hand.new.list c.take_off-hand.result (length c.args.hands)
      c.loop-number._number c.loop-number.invariant.1 c.take_off-hand.ensures,
  omega (arith, c.loop-number.invariant.2, c.put.ensures.free),
)

-- all hands
pub returns-clause-items : goal.returns-clause-items
returns-clause-items g c =
    map-end (λ hand. Other hand) c.loop-number.all.items (c.args.all.now.items ++ map (λ hand. Other hand) c.args.hands)
    c.loop-number.hands (omega (arith, c.loop-number.invariant.1)) c.loop-number.invariant.0
