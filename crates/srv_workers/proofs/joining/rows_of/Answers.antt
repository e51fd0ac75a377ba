use Rattle.std.proofs.Common.{◌∙◌, ◌++◌, ap, arith, length}
use Rattle.srv_workers.specs.Joined.{rows}
use Rattle.srv_workers.proofs.JoinLemmas.{less-left, rows-end, rows-next, some-left}
use Rattle.srv_workers.proofs.joining.rows_of.Goals as goal

-- all are left
pub loop-number-init : goal.loop-number-init
loop-number-init g c = (
  ap (λ l. l ++ rows c.args.first c.args.others) c.requires.empty,
  omega arith,
  omega (arith, c.requires.each),
  omega arith,
)

-- one of each is left, and room
pub take_off-one-requires : goal.take_off-one-requires
take_off-one-requires g c =
    some-left c.loop-number.first (length c.args.first) c.loop-number._number (omega arith) c.loop-number.invariant.1

pub take_off-other-requires : goal.take_off-other-requires
take_off-other-requires g c =
    some-left c.loop-number.others (length c.args.first) c.loop-number._number (omega arith) c.loop-number.invariant.2

pub put-requires : goal.put-requires
put-requires g c = omega (arith, c.requires.free, c.loop-number.invariant.3)

-- one pair more
pub loop-number-preserved : goal.loop-number-preserved
loop-number-preserved g c = (
  rows-next c.loop-number.row.items c.put.new.self.items (rows c.args.first c.args.others) c.loop-number.first
      c.take_off-one.new.list c.take_off-one.result c.loop-number.others c.take_off-other.new.list
      c.take_off-other.result c.loop-number.invariant.0 c.take_off-one.ensures c.take_off-other.ensures
      c.put.ensures.items,
  less-left c.loop-number.first c.take_off-one.new.list c.take_off-one.result (length c.args.first)
      c.loop-number._number c.loop-number.invariant.1 c.take_off-one.ensures,
  less-left c.loop-number.others c.take_off-other.new.list c.take_off-other.result (length c.args.first)
      c.loop-number._number c.loop-number.invariant.2 c.take_off-other.ensures,
  omega (arith, c.loop-number.invariant.3, c.put.ensures.free),
)

-- all pairs
pub returns : goal.returns
returns g c =
    c.into_list.ensures ∙ rows-end c.loop-number.row.items (rows c.args.first c.args.others) c.loop-number.first
    c.loop-number.others (omega (arith, c.loop-number.invariant.1)) c.loop-number.invariant.0
