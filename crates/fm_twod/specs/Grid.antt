-- The two-dimensional view of a collection by itself: each value is that of the cell of its run and offset (THREDDS
-- Data Server, Forecast Model Run Collections, two-dimensional dataset).
use Rattle.std.specs.Prelude.{ℕ, List, [], ◌∷◌, ◌++◌, length, map, drop, slice_get, slice_index, ◌==◌, if◌then◌else◌, Bool, nat_lt, Option, option_and_then, Result, Ok, Err, ℤ, ◌+ℤ◌}
use Rattle.std.specs.Int.{w32, cast_unsigned}
use Rattle.std.specs.Option.{option_map_or}
use Rattle.fm_base.specs.Chain.{◌>>=◌}
use Rattle.fm_model.specs.declared.loaded.Loaded.{Loaded}
use Rattle.fm_model.specs.declared.proto.Proto.{Proto}
use Rattle.fm_model.specs.declared.proto.ProtoVar.{ProtoVar}
use Rattle.fm_model.specs.declared.row.Row.{Row}
use Rattle.fm_model.specs.declared.row.ViewName.TheVariants.{Best}
use Rattle.fm_model.specs.Cell.{runs_of}
use Rattle.fm_model.specs.Rising.{rising}
use Rattle.fm_model.specs.Rows.{row_at}
use Rattle.dap_model.specs.declared.projection.Projected.{Projected}
use Rattle.fm_dataset.specs.Values.{offset_time, var_bits, var_text}
use Rattle.dap_reply.specs.declared.fault.DapFault.{DapFault}
use Rattle.dap_reply.specs.declared.fault.DapFault.TheVariants.{NoRows, TooLarge}
use Rattle.dap_reply.specs.Body.{projected_of, MAX_BODY}
use Rattle.dap_xdr.specs.Content.{data_of, Content}
use Rattle.fm_twod.specs.Asked.{front_of, sent_of}
use Rattle.fm_twod.specs.Cells.{cells_of}
use Rattle.fm_twod.specs.Declarations.{grid_decls, sides_of}
use Rattle.fm_twod.specs.Fill.{absent_bits}
use Rattle.fm_twod.specs.Parts.{bytes_of, Body}

-- the offsets of all cells, each once, rising
unfoldable pub all_offsets : List Loaded → List ℤ
all_offsets files = rising (map offset_time (cells_of files))

-- the row of the cell at an index: that of the run, and of the valid time that many seconds after it
unfoldable pub row_by : List Loaded → ℕ → ℕ → Option Row
row_by files run offset = option_and_then (λ from. option_and_then (λ seconds. row_at files from (from +ℤ seconds))
    (slice_get (all_offsets files) offset)) (slice_get (runs_of files) run)

-- the row of the first two indices
abbrev pub row_for : List Loaded → List ℕ → Option Row
row_for files index = row_by files (slice_index index 0) (slice_index index 1)

-- the bits and the text of a variable: along the axis those of the cell, as a dataset of its row alone shows them, and
-- else those of any dataset of the collection
unfoldable pub bits_by : Proto → List Loaded → List ℕ → ProtoVar → ℕ
bits_by proto files index var =
    if var.timed
    then option_map_or (λ row. var_bits proto (row ∷ []) Best var (0 ∷ drop 2 index)) (row_for files index)
    (absent_bits proto var)
    else var_bits proto (cells_of files) Best var index

unfoldable pub text_by : Proto → List Loaded → List ℕ → ProtoVar → List ℕ
text_by proto files index var =
    if var.timed
    then option_map_or (λ row. var_text proto (row ∷ []) var (0 ∷ drop 2 index)) (row_for files index) []
    else var_text proto (cells_of files) var index

-- the bits of whole seconds at an index
abbrev pub seconds_at : List ℤ → ℕ → ℕ
seconds_at instants index = option_map_or (cast_unsigned w32) (slice_get instants index) 0

-- the bits of the runs and of the offsets
abbrev pub added_by : Proto → List Loaded → ℕ → List ℕ → ℕ
added_by proto files decl index =
    if decl == length proto.vars
    then seconds_at (runs_of files) (slice_index index 0)
    else seconds_at (all_offsets files) (slice_index index 0)

-- what the two-dimensional view of a collection shows
unfoldable pub grid_by_run_and_offset : Proto → List Loaded → Content
grid_by_run_and_offset proto files = record {
  decls = grid_decls (sides_of proto (length (runs_of files)) (length (all_offsets files))) proto
      (length (cells_of files));
  bits = λ decl part index. option_map_or (bits_by proto files index) (slice_get proto.vars decl)
      (added_by proto files decl index);
  text = λ decl part index. option_map_or (text_by proto files index) (slice_get proto.vars decl) [];
}

-- the bytes that are asked for of it
unfoldable pub twod_bytes : Bool → Proto → Content → Projected → List ℕ
twod_bytes with_values proto content projected =
    front_of with_values proto projected ++ data_of content (sent_of with_values projected)

-- bytes within the limit
unfoldable pub bytes_within : List ℕ → Result (List ℕ) DapFault
bytes_within bytes = if nat_lt MAX_BODY (length bytes) then Err (TooLarge (length bytes) MAX_BODY) else Ok bytes

-- what is shown of a collection with a cell
abbrev pub content_with : Proto → List Loaded → List Row → Result Content DapFault
content_with proto files [] = Err NoRows
content_with proto files (row ∷ others) = Ok (grid_by_run_and_offset proto files)

-- the body of the two-dimensional view of a collection, or the first fault of what is asked
unfoldable pub twod_body_of : Proto → List Loaded → Bool → List ℕ → Result (List ℕ) DapFault
twod_body_of proto files with_values constraint = do
  content ← content_with proto files (cells_of files)
  projected ← projected_of content.decls constraint
  bytes_within (twod_bytes with_values proto content projected)

-- a body in its parts as its bytes
abbrev pub as_bytes : Result Body DapFault → Result (List ℕ) DapFault
as_bytes (Ok body) = Ok (bytes_of body)
as_bytes (Err fault) = Err fault
