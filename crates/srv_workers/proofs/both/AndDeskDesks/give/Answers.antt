use Rattle.std.proofs.Common.{◌≤◌, [], ◌∷◌, Bool, arith, length, refl, subst, suc, ℕ}
use Rattle.std.specs.Prelude.{if◌then◌else◌}
use Rattle.std.proofs.Math.Dec.{eqb-suc-suc}
use Rattle.srv_workers.specs.declared.both.OneOf.TheVariants.{This}
use Rattle.srv_workers.specs.Both.{all_means}
use Rattle.srv_workers.specs.Desks.{counted_at, Publisher}
use Rattle.srv_workers.proofs.BothLemmas.{puts-behind, puts-first}
use Rattle.srv_workers.proofs.OneLemmas.{for-one}
use Rattle.srv_workers.proofs.both.AndDeskDesks.give.Goals as goal

-- there is room at the first desk
pub give-requires : goal.give-requires
give-requires g c =
    let own : Publisher = record { desk = 0; pass = c.in-This.own.own; share = c.in-This.own.share } in
    for-one (λ (number : ℕ). length (counted_at number own) ≤ c.args.back.now.first.free)
    ((rw c.in-This.is at c.requires) 0 (omega arith))

-- or at one of the others
pub give-requires-in-Other : goal.give-requires-in-Other
give-requires-in-Other g c number below =
    let own = g.X.Desks.means.publisher c.in-Other.other in
    subst (λ (b : Bool). length (if b then own.share ∷ [] else [])
    ≤ (g.X.Desks.slots c.args.back.now.others number).free) (eqb-suc-suc own.desk number)
    ((rw c.in-Other.is at c.requires) (suc number) (omega (arith, below)))

-- the share is with those of the first desk
pub returns-in-This : goal.returns-in-This
returns-in-This g c =
    let means = all_means g.N.Name.proto g.X.Desks.means in
    rw c.in-This.is
    (puts-first (means.publisher (This c.in-This.own)) g.X.Desks.means.them.count c.args.back.now.first
    c.give.new.back (g.X.Desks.slots c.args.back.now.others) refl (c.give.ensures 0 (omega arith)))

-- or with those of one of the others
pub returns-in-Other : goal.returns-in-Other
returns-in-Other g c =
    rw c.in-Other.is
    (puts-behind (g.X.Desks.means.publisher c.in-Other.other) g.X.Desks.means.them.count c.args.back.now.first
    (g.X.Desks.slots c.args.back.now.others) (g.X.Desks.slots c.give-in-Other.new.back) c.give-in-Other.ensures)
