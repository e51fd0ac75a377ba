use Rattle.std.proofs.Common.{◌≡◌, ◌≤◌, ℕ, []}
use Rattle.srv_workers.specs.Both.{first_then}
use Rattle.srv_workers.proofs.FirstLemmas.{for-each}
use Rattle.srv_workers.proofs.next.AndDeskBehind.back.Goals as goal

-- room for the shares of the first desk, and of the others
pub returns : goal.returns
returns g c = record {
  none = for-each (λ (number : ℕ). (first_then c.in_ok-first.first (g.X.Desks.slots c.in_ok-others.others)
      number).items ≡ []) g.X.Desks.means.them.count c.in_ok-first.ensures.items c.in_ok-others.ensures.none;
  free = for-each (λ (number : ℕ). c.args.shares ≤ (first_then c.in_ok-first.first
      (g.X.Desks.slots c.in_ok-others.others) number).free) g.X.Desks.means.them.count c.in_ok-first.ensures.free
      c.in_ok-others.ensures.free;
}
