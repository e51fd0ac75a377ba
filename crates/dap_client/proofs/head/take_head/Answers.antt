-- Each byte that is taken is the next of the link, and ends the head or doesn't.
use Rattle.std.proofs.Common.{◌≡◌, ℕ, ◌+◌, false, List, [], ap, length, refl, subst, sym, ◌∙◌, arith}
use Rattle.dap_client.specs.Pull.{Gathers}
use Rattle.dap_client.specs.Reply.{ends_head}
use Rattle.dap_client.proofs.HeadLemmas.{head-early, head-whole, none-begun, none-more}
use Rattle.dap_client.proofs.PullLemmas.{Gathers-none, Gathers-then}
use Rattle.dap_client.proofs.head.take_head.Goals as goal

pub loop-turn-init : goal.loop-turn-init
loop-turn-init g c =
    let held = (g.L.Link.shown c.args.link.now).held in
    record {
      taken = subst (λ (l : List ℕ). Gathers held held [] l) (sym c.new-bytes.ensures) (Gathers-none held []);
      count = ap (λ (l : List ℕ). length l) c.new-bytes.ensures;
      none = none-begun held;
      put = refl;
      faults = refl;
    }

pub returns-then-branch-eq0-clause-head : goal.returns-then-branch-eq0-clause-head
returns-then-branch-eq0-clause-head g c =
    let before = c.loop-turn.invariant in
    let one = c.in_ok-take_some.ensures in
    head-early _ _ _ c.loop-turn._turn (Gathers-then before.taken one.taken)
    (omega (arith, one.count, before.count, c.if-branch-eq0.true)) (one.end c.if-branch-eq0.true) before.none
    c.loop-turn-test.true

pub returns-then-ends_head-clause-head : goal.returns-then-ends_head-clause-head
returns-then-ends_head-clause-head g c =
    let before = c.loop-turn.invariant in
    let one = c.in_ok-take_some.ensures in
    head-whole _ _ _ c.loop-turn._turn (Gathers-then before.taken one.taken)
    (omega (arith, one.count, one.most, before.count, c.if-branch-eq0.false)) before.none
    (ap ends_head (sym c.as_slice.ensures) ∙ sym c.ends_head.ensures ∙ c.if-ends_head.true) c.loop-turn-test.true

pub loop-turn-preserved : goal.loop-turn-preserved
loop-turn-preserved g c =
    let before = c.loop-turn.invariant in
    let one = c.in_ok-take_some.ensures in
    let taken = Gathers-then before.taken one.taken in
    let count : length c.take_some.new.out ≡ c.loop-turn._turn + 1 =
    omega (arith, one.count, one.most, before.count, c.if-branch-eq0.false) in
    let none_ends : ends_head c.take_some.new.out ≡ false =
    ap ends_head (sym c.as_slice.ensures) ∙ sym c.ends_head.ensures ∙ c.if-ends_head.false in
    record {
      taken = taken;
      count = count;
      none = none-more _ _ _ c.loop-turn._turn taken count before.none none_ends;
      put = one.put ∙ before.put;
      faults = one.cause ∙ before.faults;
    }

pub returns-then-branch-eq0-clause-taken : goal.returns-then-branch-eq0-clause-taken
returns-then-branch-eq0-clause-taken g c =
    Gathers-then c.loop-turn.invariant.taken c.in_ok-take_some.ensures.taken

pub returns-then-branch-eq0-clause-put : goal.returns-then-branch-eq0-clause-put
returns-then-branch-eq0-clause-put g c = c.in_ok-take_some.ensures.put ∙ c.loop-turn.invariant.put

pub returns-then-branch-eq0-clause-cause : goal.returns-then-branch-eq0-clause-cause
returns-then-branch-eq0-clause-cause g c = c.in_ok-take_some.ensures.cause ∙ c.loop-turn.invariant.faults

pub returns-then-ends_head-clause-taken : goal.returns-then-ends_head-clause-taken
returns-then-ends_head-clause-taken g c =
    Gathers-then c.loop-turn.invariant.taken c.in_ok-take_some.ensures.taken

pub returns-then-ends_head-clause-put : goal.returns-then-ends_head-clause-put
returns-then-ends_head-clause-put g c = c.in_ok-take_some.ensures.put ∙ c.loop-turn.invariant.put

pub returns-then-ends_head-clause-cause : goal.returns-then-ends_head-clause-cause
returns-then-ends_head-clause-cause g c = c.in_ok-take_some.ensures.cause ∙ c.loop-turn.invariant.faults
