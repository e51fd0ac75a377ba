-- One door more was opened, or the next wasn't.
use Rattle.std.proofs.Common.{ℕ, rules, ◌∙◌, ap, arith}
use Rattle.dev_traits.specs.Cause.{count_after}
use Rattle.srv_alone.specs.declared.end.End.TheVariants.{DoorFault}
use Rattle.srv_open.proofs.OpeningLemmas.{OpensDoors-more, StopsShort-next}
use Rattle.srv_open.proofs.opening.open_doors.Goals as goal

pub returns-in-Err-clause-stops : goal.returns-in-Err-clause-stops
returns-in-Err-clause-stops g c =
    let count = c.loop-number.invariant.count in
    rw (c.end_of.ensures, count) (StopsShort-next DoorFault c.loop-number.number c.args.count _ _ c.in-Err.fail
    c.loop-number-test.true
    (c.in-Err.ensures.cause ∙ ap (λ (n : ℕ). count_after n c.in-Err.fail) c.loop-number.invariant.faults))

pub loop-number-preserved : goal.loop-number-preserved
loop-number-preserved g c = record {
  opens = OpensDoors-more c.in-Ok-door.door c.loop-number.invariant.opens
      c.in-Ok-door.ensures.next c.in-Ok-door.ensures.opened c.in-Ok-door.ensures.fresh c.push_reserved.ensures.items;
  count = search rules;
  room = omega (
    arith,
    c.loop-number.invariant.room,
    c.loop-number-test.true,
    c.push_reserved.ensures.len,
    c.push_reserved.ensures.capacity,
  );
  faults = c.in-Ok-door.ensures.cause ∙ c.loop-number.invariant.faults;
}
