-- The declarations of the variables so far.
use Rattle.std.proofs.Common.{◌≡◌, length, map, take}
use Rattle.fm_twod.specs.Declarations.{grid_decl}
use Rattle.fm_twod.proofs.declare.put_decls_of_vars.Given as goal

abbrev pub invariant-loop-index : goal.invariant-loop-index
invariant-loop-index l =
    l.decls ≡ map (grid_decl l.sides l.cells.proto (length l.cells.rows)) (take l.index l.cells.proto.vars)
