-- Event by event, until none is out and the door is closed or has failed.
use Rattle.std.proofs.Common.{◌≡◌, ◌==◌, Bool, true, refl, sym, ap, ap₂, subst, ◌∙◌, rules}
use Rattle.std.proofs.lemmas.Bool.{eqb-true}
use Rattle.slab.specs.Slab.{slab_len}
use Rattle.dap_reply.specs.Collections.{Collections}
use Rattle.srv_door.specs.declared.door_report.DoorReport.{DoorReport}
use Rattle.srv_door.specs.AtDoor.{end_of, failed_by, AtDoor, FaultsSo}
use Rattle.srv_door.specs.DoorTurns.{EndsDoor}
use Rattle.srv_door.proofs.HallLemmas.{at-end, at-next, at-start, end-empty, ends-so, faults-next}
use Rattle.srv_door.proofs.door.serve_door_looks.Goals as goal

pub loop-init : goal.loop-init
loop-init g c = (
  search rules,
  search rules,
  at-start (g.D.Door.shown c.args.door.now).held _ c.new-hall.result c.new-hall.ensures.links
      c.new-hall.ensures.counts.0 c.new-hall.ensures.counts.1,
  refl,
  refl,
)

pub serve_next-next-requires-clause-at : goal.serve_next-next-requires-clause-at
serve_next-next-requires-clause-at g c = record {
  door = (g.D.Door.shown c.args.door.now).held;
  views = _;
  at = subst (λ (them : Collections). AtDoor g.D.L.Link.shown them (g.D.Door.shown c.args.door.now).held
      (g.D.Door.shown c.loop.door).held (g.K.Looks.views c.args.looks.now) (g.K.Looks.views c.loop.looks) c.loop.hall)
      (sym c.loop.invariant.4) c.loop.invariant.2;
}

pub loop-preserved : goal.loop-preserved
loop-preserved g c = (
  search rules,
  search rules,
  at-next c.loop.invariant.4
      (c.serve_next-next.ensures.at (g.D.Door.shown c.args.door.now).held
      (g.K.Looks.views c.args.looks.now)) c.loop.invariant.2,
  subst (λ (b : Bool). FaultsSo b (g.D.Door.shown c.args.door.now).faults
      (g.D.Door.shown c.serve_next-next.new.door).faults) (sym c.failed_by-has_failed.ensures)
      (faults-next c.loop.has_failed c.serve_next-next.result (g.D.Door.shown c.args.door.now).faults
      (g.D.Door.shown c.loop.door).faults (g.D.Door.shown c.serve_next-next.new.door).faults c.loop.invariant.3
      c.serve_next-next.ensures.faults),
  c.serve_next-next.ensures.same ∙ c.loop.invariant.4,
)

pub returns-in-Some-end_of-clause-serves : goal.returns-in-Some-end_of-clause-serves
returns-in-Some-end_of-clause-serves g c =
    let none : (slab_len c.serve_next-next.new.hall.links == 0) ≡ true = sym c.is_empty.ensures
    ∙ end-empty _ c.serve_next-next.result c.is_empty.result c.in-Some-end_of.end (sym c.in-Some-end_of.ensures) in
    at-end (g.D.Door.shown c.args.door.now).held (g.D.Door.shown c.serve_next-next.new.door).held _ _
    c.serve_next-next.new.hall _ _
    (at-next c.loop.invariant.4
    (c.serve_next-next.ensures.at (g.D.Door.shown c.args.door.now).held
    (g.K.Looks.views c.args.looks.now)) c.loop.invariant.2)
    (eqb-true (slab_len c.serve_next-next.new.hall.links) 0 none)
    (ap (λ (r : DoorReport). r.served) c.report-report.ensures)
    (ap (λ (r : DoorReport). r.short) c.report-report.ensures)

pub returns-in-Some-end_of-clause-end : goal.returns-in-Some-end_of-clause-end
returns-in-Some-end_of-clause-end g c =
    let is_empty : c.is_empty.result ≡ true =
    end-empty _ c.serve_next-next.result c.is_empty.result c.in-Some-end_of.end (sym c.in-Some-end_of.ensures) in
    subst (EndsDoor (g.D.Door.shown c.args.door.now) (g.D.Door.shown c.serve_next-next.new.door))
    (sym (ap (λ (r : DoorReport). r.end) c.report-report.ensures))
    (ends-so (g.D.Door.shown c.args.door.now) (g.D.Door.shown c.serve_next-next.new.door)
    (failed_by c.loop.has_failed c.serve_next-next.result) c.serve_next-next.result c.in-Some-end_of.end
    (ap₂ (λ (b e : Bool). end_of b c.serve_next-next.result e) (sym c.failed_by-has_failed.ensures) (sym is_empty)
    ∙ sym c.in-Some-end_of.ensures)
    (faults-next c.loop.has_failed c.serve_next-next.result (g.D.Door.shown c.args.door.now).faults
    (g.D.Door.shown c.loop.door).faults (g.D.Door.shown c.serve_next-next.new.door).faults c.loop.invariant.3
    c.serve_next-next.ensures.faults)
    c.serve_next-next.ensures.closed)
