-- Each turn writes one part.
use Rattle.fm_twod.specs.Laid.{content_of}
use Rattle.dap_plan.proofs.DataLemmas.{part-small}
use Rattle.fm_twod.proofs.PassedLemmas.{passed-done, passed-first, passed-full, passed-next}
use Rattle.fm_twod.proofs.data.put_data.Goals as goal

pub loop-index-init : goal.loop-index-init
loop-index-init c = passed-first (content_of c.args.grid.now) c.args.sent.now c.args.from c.args.out.now

pub part_len-len-requires-clause-small : goal.part_len-len-requires-clause-small
part_len-len-requires-clause-small c =
    part-small (content_of c.args.grid.now) c.args.sent.now c.loop-index.index 18446744073709551616
    c.index-sent-index.result c.loop-index-test.true c.index-sent-index.is c.requires.small

pub loop-index-preserved : goal.loop-index-preserved
loop-index-preserved c =
    passed-next (content_of c.args.grid.now) c.args.sent.now c.args.from c.loop-index.filled c.loop-index.index
    c.loop-index.left c.put_part-filled.result c.part_len-len.result c.saturating_sub-left.result
    c.index-sent-index.result c.args.out.now c.loop-index.out c.split_at_mut-rest.result.0.now
    c.split_at_mut-rest.result.1.now c.put_part-filled.new.out c.loop-index.invariant c.loop-index-test.true
    c.index-sent-index.is c.split_at_mut-rest.ensures.value c.split_at_mut-rest.ensures.front_len
    c.part_len-len.ensures c.put_part-filled.ensures c.saturating_sub-left.ensures

pub returns-else-filled-out : goal.returns-else-filled-out
returns-else-filled-out c =
    passed-full (content_of c.args.grid.now) c.args.sent.now c.args.from c.loop-index.filled c.loop-index.index
    c.loop-index.left c.args.out.now c.loop-index.out c.loop-index.invariant c.if-filled-out.false

pub returns-after-loop-index : goal.returns-after-loop-index
returns-after-loop-index c =
    passed-done (content_of c.args.grid.now) c.args.sent.now c.args.from c.loop-index.filled c.loop-index.index
    c.loop-index.left c.args.out.now c.loop-index.out c.loop-index.invariant c.loop-index-test.false
