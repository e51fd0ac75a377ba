-- The bytes of a variable that hold elements one after another.
use Rattle.std.specs.Prelude.{ℕ, List, take, drop}
use Rattle.nc_model.specs.declared.header.Header.{Header}
use Rattle.nc_model.specs.declared.header.NcVar.{NcVar}
use Rattle.nc_model.specs.Layout.{vsize}
use Rattle.nc_layout.specs.LaidOut.{part_begin}

-- the bytes of a part of a variable
abbrev pub part_bytes : List ℕ → Header → NcVar → ℕ → List ℕ
part_bytes bytes header var k = take (vsize header var) (drop (part_begin header var k) bytes)
