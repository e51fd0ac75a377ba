-- What is left has the same lengths exactly where all have.
use Rattle.std.proofs.Common.{◌≡◌, drop, length, map}
use Rattle.nc_model.specs.Layout.{size_at}
use Rattle.fm_model.specs.LoadVars.{lengths_of}
use Rattle.fm_model.specs.Variable.{are_same}
use Rattle.fm_load.proofs.lengths.same_lengths.Given as goal

abbrev pub invariant-loop-index : goal.invariant-loop-index
invariant-loop-index l =
    (length l.wanted ≡ length l.ids)
    × (are_same (lengths_of l.proto (drop l.index l.wanted)) (map (size_at l.header) (drop l.index l.ids))
    ≡ are_same (lengths_of l.proto l.wanted) (map (size_at l.header) l.ids))
