-- An action, after which what is being done is settled.
use Rattle.std.proofs.Common.{sym, subst}
use Rattle.srv_action.specs.declared.doing.Doing.{Doing}
use Rattle.srv_action.specs.Acts.{stand, Acts}
use Rattle.srv_action.proofs.SettleLemmas.{acts-settled}
use Rattle.srv_action.proofs.acting.act.Goals as goal

pub returns-clause-acts : goal.returns-clause-acts
returns-clause-acts g c =
    subst (λ (d : Doing). Acts (stand (g.L.Link.shown c.args.link.now) c.args.session.now c.args.doing.now)
    (stand (g.L.Link.shown c.act_on-acted.new.link) c.act_on-acted.new.session d) c.act_on-acted.result)
    (sym c.settle.ensures)
    (acts-settled (stand (g.L.Link.shown c.args.link.now) c.args.session.now c.args.doing.now)
    (g.L.Link.shown c.act_on-acted.new.link) c.act_on-acted.new.session c.act_on-acted.new.doing
    c.act_on-acted.result c.act_on-acted.ensures.acts)
