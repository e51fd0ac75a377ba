-- Nothing was done before the first turn, and each turn goes on from what those before it did: an attempt published the
-- operation, or changed nothing; then a look was made where memory lasted.
use Rattle.std.proofs.Common.{refl, ◌∙◌}
use Rattle.srv_verdict.proofs.DecidingLemmas.{Decides-after, Decides-done, Decides-itself, Decides-looked, Decides-unchanged}
use Rattle.srv_verdict.proofs.HeldLemmas.{HeldAfter-none, HeldAfter-one}
use Rattle.srv_verdict.proofs.deciding.decide.Goals as goal

pub loop-init : goal.loop-init
loop-init g c = (tt, tt, Decides-itself, refl, refl)

pub returns-in-Done-clause-verdict : goal.returns-in-Done-clause-verdict
returns-in-Done-clause-verdict g c =
    let tried = rw c.in-Done.is at c.ask_under_lock.ensures.tried in c.when_done.ensures.right _ tried.0

pub returns-in-Done-clause-decides : goal.returns-in-Done-clause-decides
returns-in-Done-clause-decides g c =
    let tried = rw c.in-Done.is at c.ask_under_lock.ensures.tried in
    let said = c.when_done.ensures in
    Decides-after c.loop.invariant.2
    (Decides-done tried.0 tried.1 tried.2 c.ask_under_lock.ensures.learnt said.number said.look)

pub returns-in-Short-clause-decides : goal.returns-in-Short-clause-decides
returns-in-Short-clause-decides g c =
    let tried = rw c.in-Short.is at c.ask_under_lock.ensures.tried in
    let said = c.when_short.ensures in
    Decides-after c.loop.invariant.2 (Decides-unchanged tried.0 tried.1 said.number said.look)

pub returns-in-Some-look_for-clause-decides : goal.returns-in-Some-look_for-clause-decides
returns-in-Some-look_for-clause-decides g c =
    let tried = rw c.in-Again.is at c.ask_under_lock.ensures.tried in
    let looked = c.in-Some-look_for.ensures in
    Decides-after c.loop.invariant.2 (Decides-looked tried.0 tried.1 looked.sees looked.unpublished refl)

pub returns-in-Done-clause-held : goal.returns-in-Done-clause-held
returns-in-Done-clause-held g c =
    HeldAfter-one _ _ (rw c.in-Done.is at c.ask_under_lock.ensures.held) c.when_done.ensures.number

pub returns-in-Short-clause-held : goal.returns-in-Short-clause-held
returns-in-Short-clause-held g c = HeldAfter-none _ _ c.when_short.ensures.number

pub returns-in-Some-look_for-clause-held : goal.returns-in-Some-look_for-clause-held
returns-in-Some-look_for-clause-held g c = HeldAfter-none _ _ c.in-Some-look_for.ensures.unpublished

pub loop-preserved : goal.loop-preserved
loop-preserved g c =
    let tried = rw c.in-Again.is at c.ask_under_lock.ensures.tried in
    let looked = c.in_default.ensures in (
      tt,
      tt,
      Decides-after c.loop.invariant.2 (Decides-looked tried.0 tried.1 looked.sees looked.unpublished refl),
      c.ask_under_lock.ensures.same.0 ∙ c.loop.invariant.3,
      c.ask_under_lock.ensures.same.1 ∙ c.loop.invariant.4,
    )
