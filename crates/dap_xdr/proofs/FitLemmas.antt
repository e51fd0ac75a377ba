-- Slabs that fit dimensions are as many.
use Rattle.std.proofs.Common.{◌≡◌, List, length}
use Rattle.std.specs.List.{AllZip}
use Rattle.std.proofs.lemmas.Slice.Zip.{AllZip-long}
use Rattle.nc_model.specs.declared.header.Dim.{Dim}
use Rattle.dap_model.specs.declared.projection.Slab.{Slab}
use Rattle.dap_model.specs.ProjectionFacts.{FitsDim}

pub as_many : (dims : List Dim) (slabs : List Slab) → AllZip FitsDim dims slabs → length slabs ≡ length dims
as_many dims slabs fits = AllZip-long FitsDim dims slabs fits
