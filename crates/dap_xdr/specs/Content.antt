-- What is sent of a dataset's values (ESE-RFC-004, the data of DAP 2.0), by what it shows.
use Rattle.std.specs.Prelude.{ℕ, List, [], slice_get, Option, option_and_then}
use Rattle.std.specs.List.{flat_map, AllZip}
use Rattle.std.specs.Option.{option_map_or}
use Rattle.dap_model.specs.declared.declaration.Array.{Array}
use Rattle.dap_model.specs.declared.declaration.Decl.{Decl}
use Rattle.dap_model.specs.declared.projection.Sent.{Sent}
use Rattle.dap_model.specs.Picking.{parts_of}
use Rattle.dap_model.specs.ProjectionFacts.{FitsDim}
use Rattle.dap_model.specs.Xdr.{xdr_of, values_at}

-- what a dataset shows: its declarations, and by declaration, part and index list the bits of each number and
-- each text
pub record Content : Type 0 where
  pub decls : List Decl
  pub bits : ℕ → ℕ → List ℕ → ℕ
  pub text : ℕ → ℕ → List ℕ → List ℕ

-- the array that is a part of a declaration
unfoldable pub array_in : List Decl → ℕ → ℕ → Option Array
array_in decls decl part = option_and_then (λ (found : Decl). slice_get (parts_of found) part) (slice_get decls decl)

-- the bytes of a part that is sent, by its array
unfoldable pub array_data : Content → Sent → Array → List ℕ
array_data content sent array = xdr_of array.kind
    (values_at array.kind sent.slabs (content.bits sent.decl sent.part) (content.text sent.decl sent.part))

-- the bytes of a part that is sent
unfoldable pub part_data : Content → Sent → List ℕ
part_data content sent = option_map_or (array_data content sent)
    (array_in content.decls sent.decl sent.part) []

-- the bytes of all parts that are sent, one after the other
unfoldable pub data_of : Content → List Sent → List ℕ
data_of content sent = flat_map (part_data content) sent

-- the slabs of what is sent fit an array
abbrev pub FitsArray : Sent → Array → Type 0
FitsArray sent array = AllZip FitsDim array.dims sent.slabs
