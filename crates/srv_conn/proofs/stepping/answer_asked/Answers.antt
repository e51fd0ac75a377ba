-- A reply is begun, or the session leaves.
use Rattle.std.proofs.Common.{refl, sym}
use Rattle.srv_conn.proofs.OutLemmas.{out-begins, out-leaves}
use Rattle.srv_conn.proofs.ReplyingLemmas.{reply-ready, short-ready}
use Rattle.srv_conn.proofs.ViewLemmas.{all-behind}
use Rattle.srv_conn.proofs.stepping.answer_asked.Goals as goal

pub returns-in-Ok-clause-went : goal.returns-in-Ok-clause-went
returns-in-Ok-clause-went g c = λ start own out.
    out-begins _ _ own c.args.connection.now _ c.args.asked c.choice_of-number.result _ c.in-Ok.revision out
    c.requires.reading c.requires.asking refl c.choice_of-number.ensures.choice c.choice_of-number.ensures.some
    c.of.ensures (sym c.set.ensures.own) c.set.ensures.others c.in-Ok.ensures.begins.sees c.in-Ok.ensures.others
    c.in-Ok.ensures.begins.begun

pub returns-in-Err-clause-went : goal.returns-in-Err-clause-went
returns-in-Err-clause-went g c = λ start own out.
    out-leaves _ _ own c.args.connection.now _ c.args.asked c.choice_of-number.result out c.requires.reading
    c.requires.asking refl c.in-Err.ensures.begins.sees c.in-Err.ensures.others c.in-Err.ensures.begins.leaves

pub returns-in-Ok-clause-ready : goal.returns-in-Ok-clause-ready
returns-in-Ok-clause-ready g c = reply-ready c.requires.asking c.in-Ok.ensures.begins.begun

pub returns-in-Err-clause-ready : goal.returns-in-Err-clause-ready
returns-in-Err-clause-ready g c = short-ready c.in-Err.ensures.begins.leaves

pub returns-in-Ok-clause-later : goal.returns-in-Ok-clause-later
returns-in-Ok-clause-later g c = all-behind (g.K.Looks.them c.args.looks.now) c.choice_of-number.result _ _
    c.in-Ok.ensures.others c.in-Ok.ensures.begins.sees

pub returns-in-Err-clause-later : goal.returns-in-Err-clause-later
returns-in-Err-clause-later g c = all-behind (g.K.Looks.them c.args.looks.now) c.choice_of-number.result _ _
    c.in-Err.ensures.others c.in-Err.ensures.begins.sees
