-- The first hands stand there, and the others are left.
use Rattle.std.proofs.Common.{◌≡◌, ◌-◌, ◌++◌, length, map}
use Rattle.srv_workers.specs.declared.both.OneOf.TheVariants.{Other}
use Rattle.srv_workers.proofs.joining.put_others.Given as goal

abbrev pub invariant-loop-number : goal.invariant-loop-number
invariant-loop-number g l =
    (l.all.items ++ map (λ hand. Other hand) l.hands ≡ l.fn.all.items ++ map (λ hand. Other hand) l.fn.hands)
    × (length l.hands ≡ length l.fn.hands - l._number)
    × (l.all.free ≡ l.fn.all.free - l._number)
