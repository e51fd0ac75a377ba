-- Action by action, until the reply is whole or the session ends.
use Rattle.std.proofs.Common.{List, sym, subst}
use Rattle.dap_reply.specs.declared.served.Mark.{Mark}
use Rattle.dap_reply.specs.declared.served.Stop.TheVariants as stops
use Rattle.srv_action.specs.declared.acting.Acted.TheVariants as acts
use Rattle.srv_action.specs.Acts.{stand, Stand}
use Rattle.srv_conn.specs.ServesMany.{point_of, ServesMany}
use Rattle.srv_conn.specs.SoFar.{SoFar}
use Rattle.srv_conn.proofs.ActLemmas.{ends-in, goes-in}
use Rattle.srv_conn.proofs.SendingLemmas.{left-less, sending-other, still-sends}
use Rattle.srv_conn.proofs.StandLemmas.{finished-reads, finished-stays, no-question, notes-one, ongoing-other, ready-after, still-leaves}
use Rattle.srv_conn.proofs.replying.finish.Goals as goal

pub sends-init : goal.sends-init
sends-init g c = record {
  ready = c.requires.ready;
  sends = c.requires.sends;
  so_far = λ them start views most s. s;
  marks = λ front one. one;
  leaves = λ leaves. leaves;
}

pub sends-smaller : goal.sends-smaller
sends-smaller g c =
    left-less c.sends.doing (stand (g.L.Link.shown c.sends.link) c.sends.session c.sends.doing)
    (stand (g.L.Link.shown c.act_noted.new.link) c.act_noted.new.session c.act_noted.new.doing) c.act_noted.result
    c.sends.invariant.sends c.act_noted.ensures.acts
    (sending-other c.act_noted.result c.in_default.not-Finished c.in_default.not-Ended
    (λ asked same. no-question c.sends.doing (stand (g.L.Link.shown c.sends.link) c.sends.session c.sends.doing)
    (stand (g.L.Link.shown c.act_noted.new.link) c.act_noted.new.session c.act_noted.new.doing) c.act_noted.result asked
    c.sends.invariant.sends c.act_noted.ensures.acts same)
    (c.act_noted.ensures.at_once c.requires.blocks))

pub sends-preserved : goal.sends-preserved
sends-preserved g c =
    let before : Stand = stand (g.L.Link.shown c.sends.link) c.sends.session c.sends.doing in
    let after : Stand = stand (g.L.Link.shown c.act_noted.new.link) c.act_noted.new.session c.act_noted.new.doing in
    let goes = ongoing-other c.act_noted.result c.in_default.not-Ended in
    record {
      ready = ready-after c.sends.doing before after c.act_noted.result c.sends.invariant.ready
          c.act_noted.ensures.acts goes;
      sends = still-sends c.sends.doing before after c.act_noted.result c.sends.invariant.sends
          c.act_noted.ensures.acts
          (sending-other c.act_noted.result c.in_default.not-Finished c.in_default.not-Ended
          (λ asked same. no-question c.sends.doing before after c.act_noted.result asked c.sends.invariant.sends
          c.act_noted.ensures.acts same)
          (c.act_noted.ensures.at_once c.requires.blocks));
      so_far = λ them start views most s.
          goes-in them start most c.sends.doing before after views c.sends.trail c.act_noted.new.trail
          c.act_noted.result (c.sends.invariant.so_far them start views most s) c.act_noted.ensures.acts
          c.act_noted.ensures.notes goes;
      marks = λ front one. notes-one front c.sends.trail c.act_noted.new.trail c.act_noted.result
          (c.sends.invariant.marks front one) c.act_noted.ensures.notes;
      leaves = λ leaves. still-leaves c.sends.doing before after c.act_noted.result
          (c.sends.invariant.leaves leaves) c.act_noted.ensures.acts;
    }

pub returns-in-Finished-clause-follows : goal.returns-in-Finished-clause-follows
returns-in-Finished-clause-follows g c = λ them start views most s.
    let before : Stand = stand (g.L.Link.shown c.sends.link) c.sends.session c.sends.doing in
    let after : Stand = stand (g.L.Link.shown c.act_noted.new.link) c.act_noted.new.session c.act_noted.new.doing in
    subst (SoFar them start (point_of after.link views after.session c.act_noted.new.trail) most)
    (finished-reads c.sends.doing before after c.in-Finished.ensures.acts)
    (goes-in them start most c.sends.doing before after views c.sends.trail c.act_noted.new.trail
    acts.Finished (c.sends.invariant.so_far them start views most s) c.in-Finished.ensures.acts
    c.in-Finished.ensures.notes tt)

pub returns-in-Finished-clause-marks : goal.returns-in-Finished-clause-marks
returns-in-Finished-clause-marks g c = λ front one.
    notes-one front c.sends.trail c.act_noted.new.trail acts.Finished (c.sends.invariant.marks front one)
    c.in-Finished.ensures.notes

pub returns-in-Finished-clause-replied : goal.returns-in-Finished-clause-replied
returns-in-Finished-clause-replied g c = λ leaves none.
    finished-stays c.sends.doing (stand (g.L.Link.shown c.sends.link) c.sends.session c.sends.doing)
    (stand (g.L.Link.shown c.act_noted.new.link) c.act_noted.new.session c.act_noted.new.doing)
    c.in-Finished.ensures.acts (c.sends.invariant.leaves leaves)

pub returns-in-Ended-clause-follows : goal.returns-in-Ended-clause-follows
returns-in-Ended-clause-follows g c = λ them start views most s.
    let before : Stand = stand (g.L.Link.shown c.sends.link) c.sends.session c.sends.doing in
    let after : Stand = stand (g.L.Link.shown c.act_noted.new.link) c.act_noted.new.session c.act_noted.new.doing in
    subst (λ (marks : List Mark). ServesMany them start (point_of after.link views after.session marks) most
    (stops.Ended c.in-Ended.end)) (sym c.in-Ended.ensures.notes)
    (ends-in c.sends.doing before after views c.sends.trail c.in-Ended.end
    (c.sends.invariant.so_far them start views most s) (λ reads. absurd (c.sends.invariant.sends reads))
    c.in-Ended.ensures.acts)

pub returns-in-Ended-clause-marks : goal.returns-in-Ended-clause-marks
returns-in-Ended-clause-marks g c = λ front one.
    notes-one front c.sends.trail c.act_noted.new.trail (acts.Ended c.in-Ended.end)
    (c.sends.invariant.marks front one) c.in-Ended.ensures.notes
