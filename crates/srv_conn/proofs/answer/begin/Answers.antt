-- A reply was begun, or memory ran out.
use Rattle.std.proofs.Common.{ap}
use Rattle.dap_reply.specs.Collections.{Collections}
use Rattle.srv_conn.proofs.ReplyLemmas.{reply-to}
use Rattle.srv_conn.proofs.answer.begin.Goals as goal

pub returns-in-Ok-clause-begins : goal.returns-in-Ok-clause-begins
returns-in-Ok-clause-begins g c = record {
  sees = record { grows = c.in-Ok.ensures.later; stays = c.in-Ok.ensures.stays };
  begun = rw c.replace.ensures.after (reply-to ((g.K.Looks.them c.args.looks.now).proto c.args.request.now.number)
      ((g.K.Looks.them c.answer.new.looks).proto c.args.request.now.number)
      c.args.request.now.site.now c.args.session.now c.args.request.now.asked c.target.result.now c.last.result
      c.in-Ok.plan c.in-Ok.revision c.args.request.now.revision _ _
      (ap (λ (them : Collections). them.proto c.args.request.now.number) c.in-Ok.ensures.same) c.requires.site
      c.requires.asking c.target.ensures c.last.ensures c.in-Ok.ensures.reply c.in-Ok.ensures.revision
      c.in-Ok.ensures.looked c.in-Ok.ensures.unwanted);
  leaves = tt;
}

pub returns-in-Err-clause-begins : goal.returns-in-Err-clause-begins
returns-in-Err-clause-begins g c = record {
  sees = record { grows = c.in-Err.ensures.later; stays = c.in-Err.ensures.stays };
  begun = tt;
  leaves = record {
    doing_is = c.leave.ensures.doing;
    ended = c.leave.ensures.ended;
    before_is = c.leave.ensures.before;
    looks_are = c.in-Err.ensures.err;
  };
}

pub leave-requires : goal.leave-requires
leave-requires g c = (c.args.request.now.asked, c.requires.asking)
