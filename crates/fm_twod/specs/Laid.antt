-- The two-dimensional view of a collection, as it is laid out: the dataset of all cells, and where in it the cell of
-- each run and offset stands.
use Rattle.std.specs.Prelude.{◌≡◌, ◌≤◌, ◌<◌, ◌+◌, ◌≤ℤ◌, ◌<ℤ◌, ℕ, List, [], ◌∷◌, length, drop, slice_get, slice_index, position, ◌==◌, if◌then◌else◌, Option, Some, option_and_then, All, ℤ, neg_ℤ, pos}
use Rattle.std.specs.Int.{w32, cast_unsigned}
use Rattle.std.specs.Option.{option_map, option_map_or}
use Rattle.std.specs.Ordering.{int_eq}
use Rattle.nc_model.specs.Layout.{IsIndex}
use Rattle.fm_model.specs.declared.limit.TheConstants.{MAX_FILES, MAX_ROWS}
use Rattle.fm_model.specs.declared.loaded.Loaded.{Loaded}
use Rattle.fm_model.specs.declared.proto.Proto.{Proto}
use Rattle.fm_model.specs.declared.proto.ProtoVar.{ProtoVar}
use Rattle.fm_model.specs.declared.row.ViewName.TheVariants.{Best}
use Rattle.fm_model.specs.Cell.{runs_of}
use Rattle.fm_model.specs.Site.{IsPrototype}
use Rattle.dap_model.specs.declared.declaration.Array.{Array}
use Rattle.dap_model.specs.declared.declaration.Decl.{Decl}
use Rattle.fm_dataset.specs.Rows.{AreRows}
use Rattle.fm_dataset.specs.Values.{bits_of, shape_of_array, text_of_part, Shown}
use Rattle.dap_xdr.specs.Content.{Content}
use Rattle.fm_twod.specs.declared.cells.RunCells.{RunCells}
use Rattle.fm_twod.specs.declared.declare.Sides.{Sides}
use Rattle.fm_twod.specs.Cells.{cells_of, offsets_of, runs_from}
use Rattle.fm_twod.specs.Declarations.{grid_array, grid_decls, sides_of}
use Rattle.fm_twod.specs.Fill.{absent_bits}

-- the dataset of all cells, the cells of each run, and the offsets
pub record Laid : Type 0 where
  pub cells : Shown
  pub runs : List RunCells
  pub offsets : List ℤ

-- a collection as it is laid out; a row of the dataset shows its valid time along the axis
unfoldable pub laid_of : Proto → List Loaded → Laid
laid_of proto files = record {
  cells = record { proto = proto; rows = cells_of files; view = Best; label = [] };
  runs = runs_from files 0 (runs_of files);
  offsets = offsets_of (runs_from files 0 (runs_of files));
}

-- its dimensions
abbrev pub sides_in : Laid → Sides
sides_in laid = sides_of laid.cells.proto (length laid.runs) (length laid.offsets)

-- the number of the row of a run that has an offset
unfoldable pub number_in : RunCells → ℤ → Option ℕ
number_in cells offset = option_map (λ index. cells.first + index)
    (position (λ other. int_eq other offset) cells.offsets)

-- the number of the row at an index list: that of the run and the offset that the first two indices pick
unfoldable pub number_by : List RunCells → List ℤ → List ℕ → Option ℕ
number_by runs offsets index = option_and_then (λ (cells : RunCells).
    option_and_then (number_in cells) (slice_get offsets (slice_index index 1)))
    (slice_get runs (slice_index index 0))

abbrev pub number_at : Laid → List ℕ → Option ℕ
number_at laid index = number_by laid.runs laid.offsets index

-- an index list in a row: the row's number in the place of the first two indices
abbrev pub in_row : ℕ → List ℕ → List ℕ
in_row number index = number ∷ drop 2 index

-- the bits of a number of a variable along the axis
unfoldable pub timed_bits : Laid → ℕ → ProtoVar → List ℕ → ℕ
timed_bits laid decl var index = option_map_or (λ number. bits_of laid.cells decl 0 (in_row number index))
    (number_at laid index) (absent_bits laid.cells.proto var)

-- the text of a variable along the axis, which is empty where a run has none
unfoldable pub timed_text : Laid → ℕ → List ℕ → List ℕ
timed_text laid decl index = option_map_or (λ number. text_of_part laid.cells decl 0 (in_row number index))
    (number_at laid index) []

-- the bits of whole seconds at an index
unfoldable pub seconds_bits : List ℤ → ℕ → ℕ
seconds_bits instants index = option_map_or (cast_unsigned w32) (slice_get instants index) 0

-- the bits of a run
unfoldable pub run_bits : List RunCells → ℕ → ℕ
run_bits runs index = option_map_or (λ (cells : RunCells). cast_unsigned w32 cells.run) (slice_get runs index) 0

-- the bits of a run or an offset: their declarations come after those of the variables
unfoldable pub added_bits : Laid → ℕ → List ℕ → ℕ
added_bits laid decl index =
    if decl == length laid.cells.proto.vars
    then run_bits laid.runs (slice_index index 0)
    else seconds_bits laid.offsets (slice_index index 0)

-- the bits and the text of a variable; one without time has those of the dataset
unfoldable pub var_bits : Laid → ℕ → List ℕ → ProtoVar → ℕ
var_bits laid decl index var =
    if var.timed then timed_bits laid decl var index else bits_of laid.cells decl 0 index

unfoldable pub var_text : Laid → ℕ → List ℕ → ProtoVar → List ℕ
var_text laid decl index var =
    if var.timed then timed_text laid decl index else text_of_part laid.cells decl 0 index

-- the bits of a number and the text of a part; each declaration has one part
unfoldable pub grid_bits : Laid → ℕ → ℕ → List ℕ → ℕ
grid_bits laid decl part index = option_map_or (var_bits laid decl index) (slice_get laid.cells.proto.vars decl)
    (added_bits laid decl index)

unfoldable pub grid_text : Laid → ℕ → ℕ → List ℕ → List ℕ
grid_text laid decl part index =
    option_map_or (var_text laid decl index) (slice_get laid.cells.proto.vars decl) []

-- the declarations
abbrev pub decls_in : Laid → List Decl
decls_in laid = grid_decls (sides_in laid) laid.cells.proto (length laid.cells.rows)

-- what is shown
abbrev pub content_of : Laid → Content
content_of laid = record { decls = decls_in laid; bits = grid_bits laid; text = grid_text laid }

-- seconds that fit 32 bits
pub record IsShort (seconds : ℤ) : Type 0 where
  pub low : neg_ℤ (pos 2_147_483_648) ≤ℤ seconds
  pub high : seconds <ℤ pos 2_147_483_648

-- how many rows stand before the end of a run's
abbrev pub end_of : RunCells → ℕ
end_of cells = cells.first + length cells.offsets

-- the array of a variable
abbrev pub array_in_laid : Laid → ProtoVar → Array
array_in_laid laid var = grid_array (sides_in laid) laid.cells.proto (length laid.cells.rows) var

-- a variable is that of a declaration, and its array has this index
pub record HasIndex (laid : Laid) (decl : ℕ) (var : ProtoVar) (index : List ℕ) : Type 0 where
  pub var_is : slice_get laid.cells.proto.vars decl ≡ Some var
  pub index_is : IsIndex (shape_of_array (array_in_laid laid var)) index

-- what a grid keeps: rows that a dataset may have, at least one run and one offset and not too many, and the
-- declarations
pub record IsGrid (laid : Laid) (decls : List Decl) : Type 0 where
  pub given : IsPrototype laid.cells.proto
  pub rows_are : AreRows laid.cells.proto laid.cells.rows
  pub some_runs : 0 < length laid.runs
  pub few_runs : length laid.runs ≤ MAX_FILES
  pub ends : All (λ (cells : RunCells). end_of cells ≤ length laid.cells.rows) laid.runs
  pub short_runs : All (λ (cells : RunCells). IsShort cells.run) laid.runs
  pub some_offsets : 0 < length laid.offsets
  pub few_offsets : length laid.offsets ≤ MAX_ROWS
  pub short_offsets : All IsShort laid.offsets
  pub decls_are : decls ≡ decls_in laid
