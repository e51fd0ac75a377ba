-- By computing.
use Rattle.std.proofs.Common.{refl}
use Rattle.dap_reply.specs.Head.{head_line, no_memory_reply}
use Rattle.dap_reply.proofs.examples.no_memory.Goals as goal

pub returns : goal.returns
unfolding no_memory_reply head_line
returns c = refl
