-- A session rests at its start.
use Rattle.std.proofs.Common.{refl}
use Rattle.web_frame.specs.Cut.{cut_of, head_len}
use Rattle.web_frame.specs.Stream.{held_after, next_of}
use Rattle.web_session.specs.State.{fresh}
use Rattle.dap_reply.specs.Served.{IsAtRest}

pub fresh-rests : IsAtRest fresh
unfolding next_of held_after cut_of head_len
fresh-rests = record { session_is = refl }
