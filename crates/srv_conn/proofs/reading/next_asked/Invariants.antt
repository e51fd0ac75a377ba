-- Some bytes were taken, and the session rests with them.
use Rattle.std.proofs.Common.{ℕ, ◌-◌, List, length}
use Rattle.web_frame.specs.Limit.{MAX_HEAD}
use Rattle.dap_reply.specs.Served.{held_bytes}
use Rattle.srv_action.specs.Taking.{Takes}
use Rattle.srv_conn.proofs.reading.next_asked.Given as goal

abbrev pub invariant-asks : goal.invariant-asks
invariant-asks g l = record {
  taken : List ℕ;
  takes : Takes (g.L.Link.shown l.fn.link) (g.L.Link.shown l.link) l.fn.session l.session taken;
}

abbrev pub decreases-asks : goal.decreases-asks
decreases-asks g l = MAX_HEAD - length (held_bytes l.session)
