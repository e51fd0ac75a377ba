-- A file as clauses see it.
use Rattle.std.specs.Prelude.{ℕ, List}
use Rattle.nc_layout.specs.LaidOut.{LaidOut}

-- a file's bytes, and how its header lies over them
pub record File : Type 0 where
  pub layout : LaidOut
  pub bytes : List ℕ
