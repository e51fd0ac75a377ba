-- Each clause is the lemma of its step.
use Rattle.pub_snap.proofs.RuleLemmas.{rule-caught_up, rule-entered, rule-learnt, rule-opened, rule-published, rule-receipted, rule-seat}
use Rattle.pub_snap.proofs.laws.each_step_keeps_the_rule.Goals as goal

pub returns-clause-opening : goal.returns-clause-opening
returns-clause-opening c = rule-opened

pub returns-clause-coming : goal.returns-clause-coming
returns-clause-coming c = rule-seat

pub returns-clause-entering : goal.returns-clause-entering
returns-clause-entering c = rule-entered

pub returns-clause-publishing : goal.returns-clause-publishing
returns-clause-publishing c = rule-published

pub returns-clause-catching_up : goal.returns-clause-catching_up
returns-clause-catching_up c = rule-caught_up

pub returns-clause-telling : goal.returns-clause-telling
returns-clause-telling c = rule-receipted

pub returns-clause-learning : goal.returns-clause-learning
returns-clause-learning c = rule-learnt
