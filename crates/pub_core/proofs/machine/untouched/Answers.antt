-- Nothing happened to one more of them.
use Rattle.std.proofs.Common.{List, [], ◌∷◌, ◌++◌, replicate, sym, subst, ◌+◌}
use Rattle.std.proofs.lemmas.Grind.{replicate_next}
use Rattle.pub_core.specs.declared.connection.Connection.{Connection}
use Rattle.pub_core.specs.Shown.{AreShown}
use Rattle.pub_core.specs.World.{untouched, SessionState}
use Rattle.pub_core.proofs.ManyShown.{all-more-shown, none-shown}
use Rattle.pub_core.proofs.machine.untouched.Goals as goal

pub loop-init : goal.loop-init
loop-init c = λ proto.
    subst (λ (l : List Connection). AreShown proto [] l []) (sym c.new-made.ensures) (none-shown proto [])

pub loop-preserved : goal.loop-preserved
loop-preserved c = λ proto.
    subst (λ (l : List Connection). AreShown proto [] l (replicate (c.loop.counter + 1) untouched))
    (sym c.in_ok-push.ensures.ok)
    (subst (λ (l : List SessionState). AreShown proto [] (c.loop.made ++ c.in_ok-new.field-0 ∷ []) l)
    (sym (replicate_next c.loop.counter untouched))
    (all-more-shown proto [] c.loop.made (replicate c.loop.counter untouched) c.in_ok-new.field-0 untouched
    (c.loop.invariant proto) (c.in_ok-new.ensures proto)))
