-- One clock more was opened.
use Rattle.std.proofs.Common.{rules, ◌∙◌, arith}
use Rattle.srv_open.proofs.OpeningLemmas.{OpensClocks-more}
use Rattle.srv_open.proofs.opening.open_clocks.Goals as goal

pub loop-number-preserved : goal.loop-number-preserved
loop-number-preserved g c = record {
  opens = OpensClocks-more g.M.C.Clock.shown c.args.ticks (g.M.Machine.shown c.args.opener.now).held
      (g.M.Machine.shown c.loop-number.opener).held _ c.loop-number.clocks-inside.items.items _ c.clock.result
      c.loop-number.invariant.opens c.clock.ensures.next c.clock.ensures.opened c.push_reserved.ensures.items;
  count = search rules;
  room = omega (
    arith,
    c.loop-number.invariant.room,
    c.loop-number-test.true,
    c.push_reserved.ensures.len,
    c.push_reserved.ensures.capacity,
  );
  faults = c.clock.ensures.faults ∙ c.loop-number.invariant.faults;
}
