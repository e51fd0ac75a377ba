-- Each action is that of what is being done.
use Rattle.std.proofs.Common.{refl}
use Rattle.srv_action.proofs.acting.act_on.Goals as goal

pub read-requires-clause-rests : goal.read-requires-clause-rests
read-requires-clause-rests g c = rw c.in-Reading.is at c.requires.ready

pub send-requires-clause-asking : goal.send-requires-clause-asking
send-requires-clause-asking g c =
    let ready = rw c.in-Replying.is at c.requires.ready in
    ready.0

pub send-requires-clause-within : goal.send-requires-clause-within
send-requires-clause-within g c =
    let ready = rw c.in-Replying.is at c.requires.ready in
    ready.1

pub part-requires : goal.part-requires
part-requires g c = rw c.in-Leaving.is at c.requires.ready

pub returns-in-Reading-clause-acts : goal.returns-in-Reading-clause-acts
returns-in-Reading-clause-acts g c = rw c.in-Reading.is (refl, c.read.ensures.reads)

pub returns-in-Replying-clause-acts : goal.returns-in-Replying-clause-acts
returns-in-Replying-clause-acts g c = rw c.in-Replying.is (record {
  sent' = c.send.new.sent;
  doing_is = refl;
  sends = c.send.ensures.sends;
})

pub returns-in-Leaving-clause-acts : goal.returns-in-Leaving-clause-acts
returns-in-Leaving-clause-acts g c = rw c.in-Leaving.is (record {
  said' = c.part.new.sent;
  doing_is = refl;
  session_is = refl;
  parts = c.part.ensures.parts;
})
