-- The action that is due is done.
use Rattle.std.proofs.Common.{◌≡◌, refl, sym, subst, ◌∙◌, ⊎_elim}
use Rattle.web_session.specs.State.{action_of, State}
use Rattle.web_session.proofs.StartLemmas.{start-same}
use Rattle.dap_reply.specs.Served.{IsAtRest}
use Rattle.srv_action.specs.Acts.{Reads}
use Rattle.srv_action.proofs.SessionLemmas.{asks-asking, rests-acts}
use Rattle.srv_action.proofs.reading.read.Goals as goal

pub take_some-requires-clause-rests : goal.take_some-requires-clause-rests
take_some-requires-clause-rests g c =
    subst IsAtRest (sym (c.on.ensures.state ∙ start-same c.args.session.now)) c.requires.rests

pub returns-in-Read-clause-reads : goal.returns-in-Read-clause-reads
returns-in-Read-clause-reads g c =
    subst (λ (s : State). Reads (g.L.Link.shown c.args.link.now) (g.L.Link.shown c.take_some.new.link) s
    c.take_some.new.session c.take_some.result) (c.on.ensures.state ∙ start-same c.args.session.now)
    c.take_some.ensures.reads

pub returns-in-Ask-clause-reads : goal.returns-in-Ask-clause-reads
returns-in-Ask-clause-reads g c =
    let same : c.on.new.self ≡ c.args.session.now = c.on.ensures.state ∙ start-same c.args.session.now in (
      record { held_is = refl; faults_are = refl },
      same,
      asks-asking c.args.session.now c.in-Ask.asked (subst (λ (s : State). action_of s ≡ c.on.result) same
          (sym c.on.ensures.action) ∙ c.in-Ask.is),
    )

pub unreachable-requires : goal.unreachable-requires
unreachable-requires g c =
    let same : c.on.new.self ≡ c.args.session.now = c.on.ensures.state ∙ start-same c.args.session.now in
    let due : c.on.result ≡ action_of c.args.session.now =
    subst (λ (s : State). c.on.result ≡ action_of s) same c.on.ensures.action in
    ⊎_elim (λ reads. c.in_default.not-Read reads.0 (due ∙ reads.1))
    (λ asks. c.in_default.not-Ask asks.0 (due ∙ asks.1))
    (rests-acts c.args.session.now c.requires.rests)
