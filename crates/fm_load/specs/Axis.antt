-- The axis of a file, as loading has it at hand.
use Rattle.std.specs.Prelude.{◌≡◌, ℕ, ◌<◌, [], ◌∷◌}
use Rattle.nc_model.specs.declared.header.NcVar.{NcVar}
use Rattle.nc_model.specs.Layout.{shape_of, size_at}
use Rattle.fm_model.specs.Variable.{dim_of_axis}
use Rattle.nc_layout.specs.LaidOut.{IsVar, LaidOut}

-- the variable of this number is this one, and lies along one dimension alone, whose length is this count
pub record IsAxis (laid : LaidOut) (number : ℕ) (var : NcVar) (count : ℕ) : Type 0 where
  pub var_is : IsVar laid number var
  pub count_is : size_at laid.header (dim_of_axis var) ≡ count
  pub shape_is : shape_of laid.header var ≡ count ∷ []
  pub some : 0 < count
