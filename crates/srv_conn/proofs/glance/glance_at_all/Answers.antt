-- Look by look.
use Rattle.std.proofs.Common.{◌∙◌, arith}
use Rattle.srv_conn.proofs.GlanceLemmas.{glance-later, glance-looked, glance-revisions}
use Rattle.srv_conn.proofs.glance.glance_at_all.Goals as goal

pub returns-in_err-revision-clause-later : goal.returns-in_err-revision-clause-later
returns-in_err-revision-clause-later g c =
    glance-later (g.K.Looks.them c.args.looks.now) (g.K.Looks.views c.args.looks.now)
    (g.K.Looks.views c.loop-number.looks) (g.K.Looks.views c.ask_in.new.self) c.loop-number.number
    c.in_err-revision.ensures.others _ c.loop-number.invariant.them c.loop-number.invariant.later
    c.in_err-revision.ensures.later c.in_err-revision.ensures.stays

pub loop-number-preserved : goal.loop-number-preserved
loop-number-preserved g c = record {
  within = omega (arith, c.loop-number-test.true);
  revisions = glance-revisions (g.K.Looks.them c.args.looks.now) (g.K.Looks.views c.args.looks.now)
      (g.K.Looks.views c.loop-number.looks) (g.K.Looks.views c.ask_in.new.self) c.loop-number.number
      c.in_ok-revision.ensures.others c.loop-number.revisions c.set.new.self c.loop-number.invariant.revisions
      (c.set.ensures.own ∙ c.in_ok-revision.ensures.number) c.set.ensures.others;
  looked = glance-looked (g.K.Looks.them c.args.looks.now) (g.K.Looks.views c.args.looks.now)
      (g.K.Looks.views c.loop-number.looks) (g.K.Looks.views c.ask_in.new.self) c.loop-number.number
      c.in_ok-revision.ensures.others c.loop-number.invariant.looked c.in_ok-revision.ensures.looked;
  later = glance-later (g.K.Looks.them c.args.looks.now) (g.K.Looks.views c.args.looks.now)
      (g.K.Looks.views c.loop-number.looks) (g.K.Looks.views c.ask_in.new.self) c.loop-number.number
      c.in_ok-revision.ensures.others _ c.loop-number.invariant.them c.loop-number.invariant.later
      c.in_ok-revision.ensures.later c.in_ok-revision.ensures.stays;
  them = c.in_ok-revision.ensures.same ∙ c.loop-number.invariant.them;
}
