-- More of the text was sent, or it is whole, or the link failed.
use Rattle.std.proofs.Common.{inl, inr, refl, sym, ◌∙◌, arith}
use Rattle.std.proofs.lemmas.Bool.{eqb-true}
use Rattle.dev_traits.proofs.LinkLemmas.{after_put_nothing}
use Rattle.srv_action.proofs.FarewellLemmas.{said-all, text-put, text-short, text-within}
use Rattle.srv_action.proofs.farewell.part.Goals as goal

pub returns-then-is_empty-clause-parts : goal.returns-then-is_empty-clause-parts
returns-then-is_empty-clause-parts g c = record {
  said_is = refl;
  end_is = refl;
  held_is = refl;
  whole = inl (
    said-all c.args.sent.now c.text_from-rest.result.now c.requires c.text_from-rest.ensures
        (eqb-true _ 0 (sym c.is_empty.ensures ∙ c.if-is_empty.true)),
    refl,
  );
}

pub overflow_add-sent : goal.overflow_add-sent
overflow_add-sent g c =
    let within = rw c.in-Ok-Bytes.field-0-is at c.in-Ok-Bytes.ensures.within in
    omega (
      arith,
      text-short,
      text-within c.in-Ok-Bytes.count c.args.sent.now c.text_from-rest.result.now c.requires c.text_from-rest.ensures
          within.1,
    )

pub returns-in-Ok-Bytes-clause-parts : goal.returns-in-Ok-Bytes-clause-parts
returns-in-Ok-Bytes-clause-parts g c =
    let within = rw c.in-Ok-Bytes.field-0-is at c.in-Ok-Bytes.ensures.within in
    let put = rw c.in-Ok-Bytes.field-0-is at c.in-Ok-Bytes.ensures.put in
    record {
      count = c.in-Ok-Bytes.count;
      link = record {
        put_is = text-put c.in-Ok-Bytes.count c.args.sent.now c.text_from-rest.result.now
            (g.L.Link.shown c.args.link.now).held (g.L.Link.shown c.put.new.self).held c.text_from-rest.ensures put;
        faults_are = c.in-Ok-Bytes.ensures.cause;
      };
      some = within.0;
      said_is = refl;
      within = text-within c.in-Ok-Bytes.count c.args.sent.now c.text_from-rest.result.now c.requires
          c.text_from-rest.ensures within.1;
    }

pub returns-in-Ok-Later-clause-parts : goal.returns-in-Ok-Later-clause-parts
returns-in-Ok-Later-clause-parts g c =
    let put = rw c.in-Ok-Later.field-0-is at c.in-Ok-Later.ensures.put in (
      record {
        held_is = put ∙ sym (after_put_nothing c.text_from-rest.result.now (g.L.Link.shown c.args.link.now).held);
        faults_are = c.in-Ok-Later.ensures.cause;
      },
      refl,
    )

pub returns-in-Ok-Later-clause-at_once : goal.returns-in-Ok-Later-clause-at_once
returns-in-Ok-Later-clause-at_once g c = λ blocks _.
    rw c.in-Ok-Later.field-0-is at (c.in-Ok-Later.ensures.at_once blocks)

pub returns-in-Err-clause-parts : goal.returns-in-Err-clause-parts
returns-in-Err-clause-parts g c = record {
  said_is = refl;
  end_is = refl;
  held_is = c.in-Err.ensures.err;
  whole = inr c.in-Err.ensures.cause;
}
