-- The folders of the first collections were copied.
use Rattle.std.proofs.Common.{◌≡◌, map, take}
use Rattle.srv_serve.proofs.several.folders_of.Given as goal

abbrev pub invariant-loop-spec : goal.invariant-loop-spec
invariant-loop-spec l = l.folders ≡ map (λ spec. spec.inbox) (take l.spec-index l.specs)
