-- Memory for the mark ran out, or a reply was begun.
use Rattle.std.proofs.Common.{inl, refl}
use Rattle.srv_conn.proofs.ViewLemmas.{behind-itself, others-itself}
use Rattle.srv_conn.proofs.replying.begin_marked.Goals as goal

pub leave-requires : goal.leave-requires
leave-requires g c = (c.args.request.now.asked, c.requires.asking)

pub returns-then-is_err-clause-begins : goal.returns-then-is_err-clause-begins
returns-then-is_err-clause-begins g c = record {
  sees = behind-itself (g.K.Looks.them c.args.looks.now) (g.K.Looks.views c.args.looks.now).seen
      c.args.request.now.number;
  begun = tt;
  leaves = record {
    doing_is = c.leave.ensures.doing;
    ended = c.leave.ensures.ended;
    before_is = c.leave.ensures.before;
    looks_are = inl refl;
  };
}

pub returns-then-is_err-clause-others : goal.returns-then-is_err-clause-others
returns-then-is_err-clause-others g c =
    others-itself c.args.request.now.number (g.K.Looks.views c.args.looks.now)
