-- What each turn takes stands behind what was taken before.
use Rattle.std.proofs.Common.{◌∙◌, List, ℕ, [], ap, length, refl, subst, sym, arith}
use Rattle.dap_client.specs.Pull.{Gathers}
use Rattle.dap_client.proofs.PullLemmas.{Gathers-none, Gathers-then}
use Rattle.dap_client.proofs.taking.take_body.Goals as goal

pub loop-buf-init : goal.loop-buf-init
loop-buf-init g c =
    let held = (g.L.Link.shown c.args.link.now).held in
    record {
      taken = subst (λ (l : List ℕ). Gathers held held [] l) (sym c.new-body.ensures) (Gathers-none held []);
      most = omega (arith, ap (λ (l : List ℕ). length l) c.new-body.ensures);
      put = refl;
      faults = refl;
    }

pub loop-buf-preserved : goal.loop-buf-preserved
loop-buf-preserved g c =
    let before = c.loop-buf.invariant in
    let one = c.in_ok-take_some.ensures in
    record {
      taken = Gathers-then before.taken one.taken;
      most = omega (arith, one.count, one.most, before.most);
      put = one.put ∙ before.put;
      faults = one.cause ∙ before.faults;
    }

pub returns-then-branch-eq0-clause-taken : goal.returns-then-branch-eq0-clause-taken
returns-then-branch-eq0-clause-taken g c =
    Gathers-then c.loop-buf.invariant.taken c.in_ok-take_some.ensures.taken
