-- Bytes are taken call by call, until a session asks or ends.
use Rattle.std.proofs.Common.{◌≡◌, sym, subst}
use Rattle.dev_traits.specs.Shown.{LinkShown}
use Rattle.web_session.specs.declared.phase.Phase.TheVariants.{Asking}
use Rattle.web_session.specs.State.{State}
use Rattle.srv_action.specs.Taking.{Takes}
use Rattle.srv_conn.proofs.ActLemmas.{same-link}
use Rattle.srv_conn.proofs.StandLemmas.{reads-only}
use Rattle.srv_conn.proofs.TakesLemmas.{takes-ends, takes-less, takes-rests, takes-then, Takes-nothing}
use Rattle.srv_conn.proofs.reading.next_asked.Goals as goal

pub asks-init : goal.asks-init
asks-init g c = record { taken = _; takes = Takes-nothing _ _ c.requires.rests }

pub read-requires-clause-rests : goal.read-requires-clause-rests
read-requires-clause-rests g c = takes-rests c.asks.invariant.takes

pub asks-smaller : goal.asks-smaller
asks-smaller g c = takes-less c.in-Moved.ensures.reads

pub asks-preserved : goal.asks-preserved
asks-preserved g c = record {
  taken = _;
  takes = takes-then c.asks.invariant.takes c.in-Moved.ensures.reads.takes;
}

pub returns-in-Asks-clause-found : goal.returns-in-Asks-clause-found
returns-in-Asks-clause-found g c =
    let reads = c.in-Asks.ensures.reads in
    record {
      taken = c.asks.invariant.taken;
      takes = subst (λ (s : State). Takes (g.L.Link.shown c.args.link.now) (g.L.Link.shown c.read.new.link)
          c.args.session.now s c.asks.invariant.taken) (sym reads.1)
          (subst (λ (l : LinkShown). Takes (g.L.Link.shown c.args.link.now) l c.args.session.now c.asks.session
          c.asks.invariant.taken)
          (sym (same-link (g.L.Link.shown c.asks.link) (g.L.Link.shown c.read.new.link) reads.0))
          c.asks.invariant.takes);
      asking = subst (λ (s : State). s.phase ≡ Asking c.in-Asks.asked) (sym reads.1) reads.2;
    }

pub returns-in-Ended-clause-none : goal.returns-in-Ended-clause-none
returns-in-Ended-clause-none g c = takes-ends c.asks.invariant.takes c.in-Ended.ensures.reads

pub unreachable-requires : goal.unreachable-requires
unreachable-requires g c =
    reads-only _ _ _ _ c.read.result c.read.ensures.reads c.in_default.not-Moved c.in_default.not-Asks
    c.in_default.not-Ended (c.read.ensures.at_once c.requires.blocks)
