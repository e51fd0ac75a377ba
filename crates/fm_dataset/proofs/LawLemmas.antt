-- What the laws say of declarations and rows.
use Rattle.std.proofs.Common.{◌≡◌, ℕ, ◌+◌, ◌-◌, true, false, List, [], ◌∷◌, length, map, Some, refl, ap, ◌∙◌, arith}
use Rattle.std.specs.Prelude.{slice_get, IsTrue, Contains}
use Rattle.std.specs.Str.{bytes_eq}
use Rattle.std.proofs.lemmas.List.{length-map}
use Rattle.std.proofs.lemmas.Slice.Eq.{bytes_eq-Decides}
use Rattle.fm_model.specs.declared.loaded.Loaded.{Loaded}
use Rattle.fm_model.specs.declared.proto.Proto.{Proto}
use Rattle.fm_model.specs.declared.proto.ProtoVar.{ProtoVar}
use Rattle.fm_model.specs.declared.row.Row.{Row}
use Rattle.fm_model.specs.declared.row.ViewName.TheVariants.{Best}
use Rattle.fm_model.specs.Prototype.{offset_name, run_name, IsAxis, IsSound}
use Rattle.fm_model.specs.Rows.{rows}
use Rattle.fm_model.specs.Variable.{is_coordinate, is_named}
use Rattle.fm_model.proofs.CellLemmas.{cell_both, in_from_slice_get}
use Rattle.fm_model.proofs.Members.{Contains-from_in, in_from_Any, In-append_left, In-map}
use Rattle.fm_model.proofs.RowLemmas.{Contains-rows, HasHeldFile-rows, IsBest-row}
use Rattle.dap_model.specs.declared.declaration.DapKind.TheVariants.{Int32}
use Rattle.dap_model.specs.declared.declaration.Decl.{Decl}
use Rattle.fm_dataset.specs.Declarations.{array_dims, array_of, decl_of, decls_of, dims_in, is_coordinate_var, is_grid, kind_in, rows_dim, seconds_of_rows}
use Rattle.fm_dataset.specs.Rows.{IsOfLatestRun}
use Rattle.fm_dataset.specs.Values.{element_along, element_in, element_of}
use Rattle.fm_dataset.proofs.PartLemmas.{slice_get-after}

module _ (proto : Proto) (count id : ℕ) (var : ProtoVar) (named : IsTrue (is_named proto.dims proto.axis id))
    (is : IsAxis proto id var) where
  coordinate : is_coordinate_var proto var ≡ true
  unfolding is_coordinate
  coordinate = rw (is.dims_are, is.name_is, named, is.number) refl

  dims_are : array_dims var ≡ id ∷ []
  unfolding array_dims
  dims_are = rw is.number is.dims_are

  not_grid : is_grid proto var ≡ false
  unfolding is_grid
  not_grid = rw (coordinate, dims_are) refl

  kind_is : kind_in proto var ≡ Int32
  unfolding kind_in
  kind_is =
      let same : bytes_eq var.name proto.axis ≡ true = (bytes_eq-Decides var.name proto.axis).1 is.name_is in
      rw same refl

  shown_dims : dims_in proto count var ≡ rows_dim proto count ∷ []
  unfolding dims_in
  shown_dims = rw (dims_are, is.timed) refl

  axis_decl : decl_of proto count var ≡ seconds_of_rows proto count proto.axis
  unfolding decl_of array_of seconds_of_rows
  axis_decl = rw (not_grid, kind_is, shown_dims, is.name_is) refl

-- what follows the declarations of the variables
abbrev added : Proto → ℕ → List Decl
added proto count = seconds_of_rows proto count (run_name proto.axis)
    ∷ seconds_of_rows proto count (offset_name proto.axis) ∷ []

-- the axis is declared as whole seconds of the rows
pub axis_declared : (proto : Proto) (count : ℕ) → IsSound proto
    → Contains (decls_of proto count) (seconds_of_rows proto count proto.axis)
unfolding decls_of
axis_declared proto count sound =
    let axis = in_from_Any (IsAxis proto sound.id) proto.vars sound.axis in
    let same = axis_decl proto count sound.id axis.0 sound.named axis.2 in
    rw (← same) (Contains-from_in (decl_of proto count axis.0) _
    (In-append_left (decl_of proto count axis.0) (map (decl_of proto count) proto.vars) _
    (In-map (decl_of proto count) axis.0 proto.vars axis.1)))

-- the runs and the offsets follow the variables
pub runs_declared : (proto : Proto) (count : ℕ) → slice_get (decls_of proto count) (length proto.vars)
    ≡ Some (seconds_of_rows proto count (run_name proto.axis))
unfolding decls_of
runs_declared proto count =
    let long = length-map proto.vars (decl_of proto count) in
    let first : length proto.vars - length (map (decl_of proto count) proto.vars) ≡ 0 = omega (arith, long) in
    slice_get-after (map (decl_of proto count) proto.vars) _ (length proto.vars) (omega (arith, long))
    ∙ ap (slice_get (added proto count)) first

pub offsets_declared : (proto : Proto) (count : ℕ) → slice_get (decls_of proto count) (length proto.vars + 1)
    ≡ Some (seconds_of_rows proto count (offset_name proto.axis))
unfolding decls_of
offsets_declared proto count =
    let long = length-map proto.vars (decl_of proto count) in
    let second : length proto.vars + 1 - length (map (decl_of proto count) proto.vars) ≡ 1 = omega (arith, long) in
    slice_get-after (map (decl_of proto count) proto.vars) _ (length proto.vars + 1) (omega (arith, long))
    ∙ ap (slice_get (added proto count)) second

pub rows_along : (proto : Proto) (count : ℕ) (var : ProtoVar) → var.timed ≡ true
    → slice_get (dims_in proto count var) 0 ≡ Some (rows_dim proto count)
unfolding dims_in
rows_along proto count var timed = rw timed refl

-- a value along the axis is in the file of its row
pub value_along : (proto : Proto) (shown : List Row) (var : ProtoVar) (row : Row) (n : ℕ) (rest : List ℕ)
    → var.timed ≡ true → slice_get shown n ≡ Some row
    → element_of proto shown var (n ∷ rest) ≡ element_in row.file var.name (row.index ∷ rest)
unfolding element_of element_along
value_along proto shown var row n rest timed there = rw (timed, there) refl

-- a row of the best time series is of the latest run that has its valid time
pub latest_run : (files : List Loaded) (row : Row) (n : ℕ) → slice_get (rows files Best) n ≡ Some row
    → IsOfLatestRun files row
latest_run files row n there =
    let held = Contains-from_in row (rows files Best) (in_from_slice_get (rows files Best) n row there) in
    record {
      held = HasHeldFile-rows files Best row held;
      best = IsBest-row files row held;
      cell = (cell_both files row.run row.valid row.file row.index).0 ((Contains-rows files Best row).0 held).0;
    }
