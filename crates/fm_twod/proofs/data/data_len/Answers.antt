-- Each turn counts one part.
use Rattle.std.proofs.Common.{sym, arith}
use Rattle.fm_twod.specs.Laid.{content_of}
use Rattle.dap_plan.proofs.DataLemmas.{data-longer, data-none}
use Rattle.fm_twod.proofs.data.data_len.Goals as goal

pub loop-part-init : goal.loop-part-init
loop-part-init c =
    (sym (data-none (content_of c.args.grid.now) c.args.sent.now), omega arith, omega arith)

pub loop-part-preserved : goal.loop-part-preserved
loop-part-preserved c = (
  omega (
    arith,
    c.loop-part.invariant.0,
    data-longer (content_of c.args.grid.now) c.args.sent.now c.loop-part.part-index c.section_len-len.result
        c.part-item.result c.loop-part-test.true c.part-item.is c.section_len-len.ensures.exact,
  ),
  omega (arith, c.loop-part.invariant.1, c.section_len-len.ensures.small),
  omega (arith, c.loop-part-test.true),
)
