-- One inbox more was opened, or the next wasn't.
use Rattle.std.proofs.Common.{◌≡◌, ℕ, List, get_or, rules, ap, subst, sym, ◌∙◌, arith}
use Rattle.dev_traits.specs.Cause.{count_after}
use Rattle.srv_alone.specs.declared.end.End.TheVariants.{InboxFault}
use Rattle.srv_open.proofs.OpeningLemmas.{OpensInboxes-more, StopsShort-next}
use Rattle.srv_open.proofs.opening.open_inboxes.Goals as goal

pub returns-in-Err-clause-stops : goal.returns-in-Err-clause-stops
returns-in-Err-clause-stops g c =
    let count = c.loop-number.invariant.count in
    rw (c.end_of.ensures, count) (StopsShort-next InboxFault c.loop-number.number _ _ _ c.in-Err.fail
    c.loop-number-test.true
    (c.in-Err.ensures.cause ∙ ap (λ (n : ℕ). count_after n c.in-Err.fail) c.loop-number.invariant.faults))

pub loop-number-preserved : goal.loop-number-preserved
loop-number-preserved g c =
    let at = subst (λ (folder : List ℕ). folder ≡ get_or c.args.folders.now c.loop-number.number folder)
    (sym c.as_slice.ensures) c.index-folders-number.is in
    record {
      opens = OpensInboxes-more _ _ c.loop-number.number c.as_slice.result.now _ _ _ _
          c.push_reserved.new.self.items c.in-Ok-inbox.inbox
          c.loop-number.invariant.opens c.loop-number.invariant.count (omega arith) at c.in-Ok-inbox.ensures.next
          c.in-Ok-inbox.ensures.opened c.in-Ok-inbox.ensures.fresh c.push_reserved.ensures.items;
      count = search rules;
      room = omega (
        arith,
        c.loop-number.invariant.room,
        c.push_reserved.ensures.len,
        c.push_reserved.ensures.capacity,
      );
      faults = c.in-Ok-inbox.ensures.cause ∙ c.loop-number.invariant.faults;
    }
