-- More of a reply was sent, or the session is told.
use Rattle.std.proofs.Common.{◌<◌, inr, refl, sym, subst, ◌∙◌, drop, arith}
use Rattle.std.proofs.lemmas.List.{length-drop}
use Rattle.dev_traits.proofs.LinkLemmas.{after_put_nothing}
use Rattle.dap_reply.specs.Parts.{bytes_of}
use Rattle.srv_action.specs.declared.acting.Acted.{Acted}
use Rattle.srv_action.specs.Acts.{Sends}
use Rattle.srv_action.proofs.DeliveryLemmas.{done-so, never-later}
use Rattle.srv_action.proofs.delivery.send.Goals as goal

pub returns-then-sent-len-clause-sends : goal.returns-then-sent-len-clause-sends
returns-then-sent-len-clause-sends g c =
    subst (λ (acted : Acted). Sends (g.L.Link.shown c.args.link.now) (g.L.Link.shown c.args.link.now)
    c.args.session.now c.tell.new.session (bytes_of c.args.plan.now) c.args.sent.now c.args.sent.now acted)
    (sym c.acted_by.ensures)
    (done-so (g.L.Link.shown c.args.link.now) c.args.session.now c.tell.new.session (bytes_of c.args.plan.now)
    c.args.sent.now c.tell.result (c.if-sent-len.true ∙ c.len-len.ensures)
    (λ asked phase. c.tell.ensures.whole asked phase c.if-sent-len.true))

pub returns-then-sent-len-clause-at_once : goal.returns-then-sent-len-clause-at_once
returns-then-sent-len-clause-at_once g c = λ _ same. never-later c.tell.result (sym c.acted_by.ensures ∙ same)

pub overflow_add-sent : goal.overflow_add-sent
overflow_add-sent g c =
    let within = rw c.in-Ok-Bytes.field-0-is at c.in-Ok-Bytes.ensures.within in
    omega (
      arith,
      within.1,
      length-drop c.args.sent.now (bytes_of c.args.plan.now),
      c.requires.within,
      c.len-len.ensures,
    )

pub returns-in-Ok-Bytes-clause-sends : goal.returns-in-Ok-Bytes-clause-sends
returns-in-Ok-Bytes-clause-sends g c =
    let within = rw c.in-Ok-Bytes.field-0-is at c.in-Ok-Bytes.ensures.within in
    let put = rw c.in-Ok-Bytes.field-0-is at c.in-Ok-Bytes.ensures.put in
    record {
      link = record { put_is = put; faults_are = c.in-Ok-Bytes.ensures.cause };
      session_is = refl;
      some = within.0;
      sent_is = refl;
      total_is = refl;
      within = omega (
        arith,
        within.1,
        length-drop c.args.sent.now (bytes_of c.args.plan.now),
        c.requires.within,
      );
    }

pub returns-in-Ok-Later-clause-sends : goal.returns-in-Ok-Later-clause-sends
returns-in-Ok-Later-clause-sends g c =
    let put = rw c.in-Ok-Later.field-0-is at c.in-Ok-Later.ensures.put in (
      record {
        held_is = put ∙ sym (after_put_nothing (drop c.args.sent.now (bytes_of c.args.plan.now))
            (g.L.Link.shown c.args.link.now).held);
        faults_are = c.in-Ok-Later.ensures.cause;
      },
      refl,
      refl,
    )

pub returns-in-Ok-Later-clause-at_once : goal.returns-in-Ok-Later-clause-at_once
returns-in-Ok-Later-clause-at_once g c = λ blocks _.
    rw c.in-Ok-Later.field-0-is at (c.in-Ok-Later.ensures.at_once blocks)

pub returns-in-Err-clause-sends : goal.returns-in-Err-clause-sends
returns-in-Err-clause-sends g c =
    let less : c.args.sent.now < c.len-len.result =
    omega (arith, c.if-sent-len.false, c.requires.within, c.len-len.ensures) in (
      refl,
      inr (record {
        link = record { held_is = c.in-Err.ensures.err; faults_are = c.in-Err.ensures.cause };
        ended = (c.tell-in-Err.ensures.cut c.requires.asking.0 c.requires.asking.1 less).0;
        end_is = refl;
      }),
    )
