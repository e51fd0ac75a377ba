-- Step by step, until one would wait or the session ends.
use Rattle.std.proofs.Common.{refl, subst, ◌∙◌, Some, None}
use Rattle.dap_reply.specs.Collections.{Collections}
use Rattle.srv_conn.specs.Sight.{AreBehind}
use Rattle.srv_conn.proofs.ViewLemmas.{behind-itself, behind-on}
use Rattle.srv_conn.proofs.stepping.go_on.Goals as goal
use Rattle.srv_conn.proofs.OutSteps.{out-same, went-then, went-at}

pub acts-init : goal.acts-init
acts-init g c = record {
  ready = c.requires.ready;
  went = λ start own out. out-same _ own c.args.connection.now out;
  later = behind-itself (g.K.Looks.them c.args.looks.now) (g.K.Looks.views c.args.looks.now).seen;
  them = refl;
}

pub acts-preserved : goal.acts-preserved
acts-preserved g c = record {
  ready = c.in-Went.ensures.ready;
  went = λ start own out.
      went-then _ _ _ own c.acts.connection _ None (c.acts.invariant.went start own out)
      (went-at _ _ _ None c.acts.invariant.them c.in-Went.ensures.went start);
  later = behind-on (g.K.Looks.them c.args.looks.now) (g.K.Looks.views c.args.looks.now).seen
      (g.K.Looks.views c.acts.looks).seen (g.K.Looks.views c.step.new.looks).seen c.acts.invariant.later
      (subst (λ (them : Collections). AreBehind them (g.K.Looks.views c.acts.looks).seen
      (g.K.Looks.views c.step.new.looks).seen) c.acts.invariant.them c.in-Went.ensures.later);
  them = c.in-Went.ensures.same ∙ c.acts.invariant.them;
}

pub returns-in-Waits-clause-went : goal.returns-in-Waits-clause-went
returns-in-Waits-clause-went g c = λ start own out.
    went-then _ _ _ own c.acts.connection _ None (c.acts.invariant.went start own out)
    (went-at _ _ _ None c.acts.invariant.them c.in-Waits.ensures.went start)

pub returns-in-Ended-clause-went : goal.returns-in-Ended-clause-went
returns-in-Ended-clause-went g c = λ start own out.
    went-then _ _ _ own c.acts.connection _ (Some c.in-Ended.end) (c.acts.invariant.went start own out)
    (went-at _ _ _ (Some c.in-Ended.end) c.acts.invariant.them c.in-Ended.ensures.went start)

pub returns-in-Waits-clause-later : goal.returns-in-Waits-clause-later
returns-in-Waits-clause-later g c =
    behind-on (g.K.Looks.them c.args.looks.now) (g.K.Looks.views c.args.looks.now).seen
    (g.K.Looks.views c.acts.looks).seen (g.K.Looks.views c.step.new.looks).seen c.acts.invariant.later
    (subst (λ (them : Collections). AreBehind them (g.K.Looks.views c.acts.looks).seen
    (g.K.Looks.views c.step.new.looks).seen) c.acts.invariant.them c.in-Waits.ensures.later)

pub returns-in-Ended-clause-later : goal.returns-in-Ended-clause-later
returns-in-Ended-clause-later g c =
    behind-on (g.K.Looks.them c.args.looks.now) (g.K.Looks.views c.args.looks.now).seen
    (g.K.Looks.views c.acts.looks).seen (g.K.Looks.views c.step.new.looks).seen c.acts.invariant.later
    (subst (λ (them : Collections). AreBehind them (g.K.Looks.views c.acts.looks).seen
    (g.K.Looks.views c.step.new.looks).seen) c.acts.invariant.them c.in-Ended.ensures.later)
