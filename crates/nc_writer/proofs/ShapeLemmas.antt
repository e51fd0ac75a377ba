-- The shape of a variable of the header, by the dimensions of the variable that is written.
use Rattle.std.proofs.Common.{◌≡◌, ℕ, zero, suc, ◌≤◌, false, List, [], ◌∷◌, map, slice_get, Option, refl, ap, ap₂, ◌∙◌, arith}
use Rattle.std.specs.Prelude.{◌==◌}
use Rattle.std.specs.List.{AllByRecursion}
use Rattle.std.specs.Option.{option_map_or}
use Rattle.std.proofs.lemmas.Bool.{cond-false, ne_eqb}
use Rattle.nc_model.specs.declared.header.Dim.{Dim}
use Rattle.nc_model.specs.declared.header.Header.{Header}
use Rattle.nc_model.specs.declared.header.NcVar.{NcVar}
use Rattle.nc_model.specs.Layout.{is_record_var, shape_of, size_at, size_in}
use Rattle.nc_model.specs.Reading.{names_record_dim}
use Rattle.nc_writer.specs.Dims.{dim_number}
use Rattle.nc_writer.specs.Header.{ids_of}
use Rattle.nc_writer.proofs.CoverLemmas.{Covers}

-- the sizes of dimensions
abbrev pub sizes_of : List Dim → List ℕ
sizes_of dims = map (λ (dim : Dim). dim.size) dims

-- a dimension has a size
abbrev pub HasSize : Dim → Type 0
HasSize dim = 1 ≤ dim.size

-- without records each size is that of its dimension
size-is : (header : Header) (dim : Dim) → header.numrecs ≡ 0 → size_in header dim ≡ dim.size
size-is header dim none = by_size dim.size refl
  where
    by_size : (n : ℕ) → dim.size ≡ n → size_in header dim ≡ dim.size
    by_size zero e = rw e none
    by_size (suc n) e = cond-false _ _ _ (ne_eqb dim.size 0 (λ z. absurd (omega (arith, e, z))))

-- the shape of a variable, by the numbers of its dimensions
pub shape-is : (header : Header) (var : NcVar) (own : List Dim) → header.numrecs ≡ 0
    → var.dims ≡ ids_of header.dims own → AllByRecursion (Covers header.dims) own
    → shape_of header var ≡ sizes_of own
unfolding ids_of
shape-is header var own none is covers = ap (map (size_at header)) is ∙ each own covers
  where
    each : (dims : List Dim) → AllByRecursion (Covers header.dims) dims
        → map (size_at header) (map (λ (dim : Dim). dim_number header.dims dim.name) dims) ≡ sizes_of dims
    each [] all = refl
    each (dim ∷ dims) all =
        ap₂ (λ (n : ℕ) (ns : List ℕ). n ∷ ns)
        (ap (λ (o : Option Dim). option_map_or (size_in header) o 0) all.0 ∙ size-is header dim none)
        (each dims all.1)

-- where each dimension has a size, no variable has records
pub no-records : (header : Header) (var : NcVar) (own : List Dim) → var.dims ≡ ids_of header.dims own
    → AllByRecursion (Covers header.dims) own → AllByRecursion HasSize own
    → is_record_var header var ≡ false
unfolding ids_of names_record_dim
no-records header var [] is covers sizes =
    ap (λ ids. option_map_or (names_record_dim header.dims) (slice_get ids 0) false) is
no-records header var (dim ∷ own) is covers sizes =
    ap (λ ids. option_map_or (names_record_dim header.dims) (slice_get ids 0) false) is
    ∙ ap (λ (o : Option Dim). option_map_or (λ (d : Dim). d.size == 0) o false) covers.0
    ∙ ne_eqb dim.size 0 (λ z. absurd (omega (arith, sizes.0, z)))
