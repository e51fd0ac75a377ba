-- An index for each of the dimensions so far.
use Rattle.std.proofs.Common.{◌≡◌, ℕ, map, take}
use Rattle.fm_load.proofs.run.first_index.Given as goal

abbrev pub invariant-loop-id : goal.invariant-loop-id
invariant-loop-id l = l.index ≡ map (λ (id : ℕ). 0) (take l._id-index l.ids)
