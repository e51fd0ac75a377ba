-- The data of the parts so far is written, as far as it fits, and `left` bytes are still to be passed over.
use Rattle.std.proofs.Common.{◌-◌, length}
use Rattle.fm_twod.specs.Laid.{content_of}
use Rattle.fm_twod.proofs.PassedLemmas.{DataPassed}
use Rattle.fm_twod.proofs.data.put_data.Given as goal

abbrev pub decreases-loop-index : goal.decreases-loop-index
decreases-loop-index l = length l.sent - l.index

abbrev pub invariant-loop-index : goal.invariant-loop-index
invariant-loop-index l = DataPassed (content_of l.grid) l.sent l.from l.filled l.index l.left l.fn.out l.out
