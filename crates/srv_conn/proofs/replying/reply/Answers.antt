-- A reply is begun and sent, or the text that says that memory ran out.
use Rattle.srv_conn.proofs.ReplyingLemmas.{begun-longer, begun-ready, begun-sends, reply-follows}
use Rattle.srv_conn.proofs.replying.reply.Goals as goal

pub finish-end-requires-clause-ready : goal.finish-end-requires-clause-ready
finish-end-requires-clause-ready g c =
    begun-ready c.begin_marked-begun.result c.requires.asking c.begin_marked-begun.ensures.begins

pub finish-end-requires-clause-sends : goal.finish-end-requires-clause-sends
finish-end-requires-clause-sends g c =
    begun-sends c.begin_marked-begun.result c.begin_marked-begun.ensures.begins

pub returns-clause-follows : goal.returns-clause-follows
returns-clause-follows g c = λ start most asks.
    reply-follows _ _ c.begin_marked-begun.new.trail c.finish-end.new.trail _ c.begin_marked-begun.result start most
    asks c.requires.choice c.requires.revision c.begin_marked-begun.ensures.begins
    c.begin_marked-begun.ensures.others c.begin_marked-begun.ensures.marked
    c.begin_marked-begun.ensures.unmarked
    (c.finish-end.ensures.follows (g.K.Looks.them c.args.looks.now) start)

pub returns-clause-longer : goal.returns-clause-longer
returns-clause-longer g c = λ none.
    begun-longer c.begin_marked-begun.result c.args.trail.now c.begin_marked-begun.new.trail c.finish-end.new.trail
    c.begin_marked-begun.ensures.begins c.begin_marked-begun.ensures.marked
    (λ leaves. c.finish-end.ensures.replied leaves none)
    c.finish-end.ensures.marks
