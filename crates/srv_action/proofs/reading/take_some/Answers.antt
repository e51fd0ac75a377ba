-- The event of the session by one call of the link.
use Rattle.std.proofs.Common.{◌≡◌, ◌++◌, inl, inr, refl, sym, ap, subst, ◌∙◌, arith, take, length-append}
use Rattle.std.specs.Prelude.{IfSome}
use Rattle.std.proofs.lemmas.List.{length-take}
use Rattle.dev_traits.specs.declared.link.Taken.{Taken}
use Rattle.dev_traits.specs.Link.{GivesNext}
use Rattle.web_session.specs.declared.phase.Phase.TheVariants.{Ended}
use Rattle.web_session.specs.State.{end_of_input, State}
use Rattle.dap_reply.specs.Served.{held_bytes}
use Rattle.srv_action.proofs.EventLemmas.{fault-ends, input-ends}
use Rattle.dev_traits.proofs.MovedLemmas.{over-given, same-given}
use Rattle.srv_action.proofs.ReadLemmas.{closes-input, takes-given}
use Rattle.srv_action.proofs.SessionLemmas.{reads-waiting}
use Rattle.srv_action.proofs.reading.take_some.Goals as goal

pub unreachable-requires : goal.unreachable-requires
unreachable-requires g c =
    c.in_default.not-Close (end_of_input (held_bytes c.args.session.now))
    (closes-input c.args.session.now c.on.new.self c.args.count c.on.result c.requires.rests c.requires.reads
    c.on.ensures.state c.on.ensures.action)

pub returns-in-Close-clause-reads : goal.returns-in-Close-clause-reads
returns-in-Close-clause-reads g c =
    let closes = closes-input c.args.session.now c.on.new.self c.args.count c.on.result c.requires.rests
    c.requires.reads c.on.ensures.state c.on.ensures.action in
    let same : c.in-Close.end ≡ end_of_input (held_bytes c.args.session.now) = cc (closes, c.in-Close.is) in
    let waits = reads-waiting c.args.session.now c.args.count c.requires.reads in
    let given = subst (λ (t : Taken). IfSome (g.L.Link.shown c.args.link.now).held
    (λ wire. GivesNext wire c.take.new.buf t)) c.in-Ok-End.field-0-is c.in-Ok-End.ensures.given in
    let taken = rw c.in-Ok-End.field-0-is at c.in-Ok-End.ensures.taken in
    record {
      waiting = waits.0;
      ended = ap (λ (x : State). x.phase) c.on.ensures.state
          ∙ input-ends c.args.session.now c.requires.rests waits.0 ∙ ap Ended (sym same);
      held_is = same-given (g.L.Link.shown c.args.link.now).held (g.L.Link.shown c.take.new.self).held taken;
      why = inr (
        same,
        c.in-Ok-End.ensures.cause,
        over-given (g.L.Link.shown c.args.link.now).held (g.L.Link.shown c.take.new.self).held c.take.new.buf given
            taken,
      );
    }

pub returns-in-Ok-Bytes-clause-reads : goal.returns-in-Ok-Bytes-clause-reads
returns-in-Ok-Bytes-clause-reads g c =
    let within = rw c.in-Ok-Bytes.field-0-is at c.in-Ok-Bytes.ensures.within in
    let taken = rw c.in-Ok-Bytes.field-0-is at c.in-Ok-Bytes.ensures.taken in
    let given = subst (λ (t : Taken). IfSome (g.L.Link.shown c.args.link.now).held
    (λ wire. GivesNext wire c.take.new.buf t)) c.in-Ok-Bytes.field-0-is c.in-Ok-Bytes.ensures.given in
    record {
      taken = take c.in-Ok-Bytes.read (c.take.new.buf ++ c.split_at_mut-front.result.1.now);
      some = omega (
        arith,
        within.0,
        within.1,
        length-take c.in-Ok-Bytes.read (c.take.new.buf ++ c.split_at_mut-front.result.1.now),
        length-append c.take.new.buf c.split_at_mut-front.result.1.now,
      );
      room = omega (
        arith,
        (reads-waiting c.args.session.now c.args.count c.requires.reads).1,
        c.requires.some,
        length-append c.args.session.now.held.head c.args.session.now.held.rest,
      );
      takes = takes-given (g.L.Link.shown c.args.link.now) (g.L.Link.shown c.take.new.self) c.args.session.now
          c.on-in-Ok-Bytes.new.self c.take.new.buf c.split_at_mut-front.result.1.now c.args.count c.in-Ok-Bytes.read
          c.split_at.result.0 c.requires.rests c.requires.reads
          (omega (arith, within.1, c.split_at_mut-front.ensures.front_len, c.min.ensures))
          (omega (arith, within.1))
          c.split_at.ensures.front given taken c.in-Ok-Bytes.ensures.cause c.on-in-Ok-Bytes.ensures.state;
    }

pub returns-in-Ok-Later-clause-reads : goal.returns-in-Ok-Later-clause-reads
returns-in-Ok-Later-clause-reads g c =
    let taken = rw c.in-Ok-Later.field-0-is at c.in-Ok-Later.ensures.taken in (
      record {
        held_is = same-given (g.L.Link.shown c.args.link.now).held (g.L.Link.shown c.take.new.self).held taken;
        faults_are = c.in-Ok-Later.ensures.cause;
      },
      refl,
    )

pub returns-in-Ok-Later-clause-at_once : goal.returns-in-Ok-Later-clause-at_once
returns-in-Ok-Later-clause-at_once g c = λ blocks _.
    rw c.in-Ok-Later.field-0-is at (c.in-Ok-Later.ensures.at_once blocks)

pub returns-in-Err-clause-reads : goal.returns-in-Err-clause-reads
returns-in-Err-clause-reads g c =
    let waits = reads-waiting c.args.session.now c.args.count c.requires.reads in
    record {
      waiting = waits.0;
      ended = ap (λ (x : State). x.phase) c.on-in-Err.ensures.state ∙ fault-ends c.args.session.now waits.0;
      held_is = c.in-Err.ensures.err;
      why = inl (refl, c.in-Err.ensures.cause);
    }
