-- A session that closes has ended, and one that doesn't goes on.
use Rattle.std.proofs.Common.{sym, ◌∙◌, subst}
use Rattle.web_session.specs.State.{State}
use Rattle.web_session.proofs.StartLemmas.{start-same}
use Rattle.srv_alone.specs.Steps.{RestsUnlessEnded}
use Rattle.srv_alone.proofs.SessionLemmas.{HasEnded-closes, IsAtRest-goes_on}
use Rattle.srv_alone.proofs.service.has_ended.Goals as goal

pub returns-in-Close-clause-ended : goal.returns-in-Close-clause-ended
returns-in-Close-clause-ended c = λ _. HasEnded-closes _ _ (sym c.on.ensures.action ∙ c.in-Close.is)

pub returns-in-Close-clause-same : goal.returns-in-Close-clause-same
returns-in-Close-clause-same c = c.on.ensures.state ∙ start-same _

pub returns-in_default : goal.returns-in_default
returns-in_default c =
    let same = c.on.ensures.state ∙ start-same c.args.session.now in
    let P : State → Type 0 = λ s. RestsUnlessEnded s in
    record {
      ended = λ no. absurd cc;
      rests = λ _ stands. IsAtRest-goes_on _ (subst P (sym same) stands)
          (λ end is. c.in_default.not-Close end (c.on.ensures.action ∙ is));
      same = same;
    }
