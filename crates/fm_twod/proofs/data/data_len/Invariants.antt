-- The parts so far are counted, each of fewer than 2^98 bytes.
use Rattle.std.proofs.Common.{◌≡◌, ◌≤◌, ◌*◌, ◌^◌, length}
use Rattle.fm_twod.specs.Laid.{content_of}
use Rattle.dap_plan.proofs.DataLemmas.{data_before}
use Rattle.fm_twod.proofs.data.data_len.Given as goal

abbrev pub invariant-loop-part : goal.invariant-loop-part
invariant-loop-part l =
    (l.len ≡ length (data_before (content_of l.grid) l.sent l.part-index))
    × (l.len ≤ l.part-index * 2 ^ 98)
    × (l.part-index ≤ length l.sent)
