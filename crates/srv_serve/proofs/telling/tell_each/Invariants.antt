-- The lines of the first collections were told.
use Rattle.std.proofs.Common.{map, take}
use Rattle.srv_serve.specs.Many.{spec_line}
use Rattle.srv_serve.specs.Telling.{TellsLines}
use Rattle.srv_serve.proofs.telling.tell_each.Given as goal

abbrev pub invariant-loop-number : goal.invariant-loop-number
invariant-loop-number g l =
    TellsLines (map (λ spec. spec_line l.serving spec) (take l.number l.specs)) (g.M.Machine.shown l.fn.opener)
    (g.M.Machine.shown l.opener)
