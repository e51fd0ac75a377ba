-- Each byte takes the reader one byte on.
use Rattle.std.proofs.Common.{rules, arith, sym, ◌∙◌}
use Rattle.web_frame.proofs.ScanLemmas.{end_from_more, end_from_found, end_from_none, state_past_more, state_past_none}
use Rattle.web_frame.proofs.scan.State.find_end.Goals as goal

pub returns-in-None-clause-end : goal.returns-in-None-clause-end
returns-in-None-clause-end c = sym
    (c.loop-i.invariant.end ∙ end_from_found c.loop-i.self c.args.bytes.now c.loop-i.i (search rules)
    (sym c.in-None.ensures))

pub loop-i-preserved : goal.loop-i-preserved
loop-i-preserved c = record {
  end = c.loop-i.invariant.end ∙ end_from_more c.loop-i.self c.in-Some.next c.args.bytes.now c.loop-i.i (search rules)
      (sym c.in-Some.ensures);
  state = c.loop-i.invariant.state
      ∙ state_past_more c.loop-i.self c.in-Some.next c.args.bytes.now c.loop-i.i (search rules) (sym c.in-Some.ensures);
}

pub returns-clause-end : goal.returns-clause-end
returns-clause-end c =
    sym (c.loop-i.invariant.end ∙ end_from_none c.loop-i.self c.args.bytes.now c.loop-i.i (search rules))

pub returns-clause-state : goal.returns-clause-state
returns-clause-state c =
    c.loop-i.invariant.state ∙ state_past_none c.loop-i.self c.args.bytes.now c.loop-i.i (search rules)
