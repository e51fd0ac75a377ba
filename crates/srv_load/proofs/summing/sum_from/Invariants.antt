-- The bytes that were added and those from the offset on are all the bytes to be added.
use Rattle.std.proofs.Common.{◌≤◌, ◌<◌, ◌-◌, ◌^◌, length}
use Rattle.dap_reply.specs.Parts.{bytes_of}
use Rattle.srv_load.proofs.SumLemmas.{Adds}
use Rattle.srv_load.proofs.summing.sum_from.Given as goal

abbrev pub invariant-loop-offset : goal.invariant-loop-offset
invariant-loop-offset l = record {
  within : l.offset ≤ length (bytes_of l.plan);
  small : l.total < 2 ^ 32;
  adds : Adds (bytes_of l.plan) l.from l.offset l.total;
}

abbrev pub decreases-loop-offset : goal.decreases-loop-offset
decreases-loop-offset l = length (bytes_of l.plan) - l.offset
