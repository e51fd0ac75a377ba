-- What the calls ask of what is sent, and what is known of the variables that are made of it.
use Rattle.std.specs.Prelude.{◌≡◌, ℕ, ◌+◌, ◌<◌, ◌≤◌, ◌^◌, List, drop, length, Some, All, IsSomeAnd, Result, Ok, Err}
use Rattle.fm_base.specs.declared.fail.Fail.{Fail}
use Rattle.fm_base.specs.declared.fail.Fail.TheVariants as fails
use Rattle.nc_model.specs.Layout.{IsIndex}
use Rattle.fm_model.specs.declared.limit.TheConstants.{MAX_FILE_BYTES}
use Rattle.fm_model.specs.Site.{IsPrototype}
use Rattle.dap_model.specs.declared.declaration.Array.{Array}
use Rattle.dap_model.specs.declared.projection.Sent.{Sent}
use Rattle.dap_model.specs.Box.{box_len}
use Rattle.dap_number.specs.Overlay.{IsPut}
use Rattle.dap_slab.specs.Walking.{HasIndex}
use Rattle.fm_dataset.specs.Rows.{AreRows}
use Rattle.fm_dataset.specs.Values.{array_at, shape_of_array, Shown}
use Rattle.dap_xdr.specs.Content.{array_in, Content, FitsArray}
use Rattle.dap_xdr.specs.Datasets.{content_of}
use Rattle.dap_xdr.specs.Portion.{IsPortion}
use Rattle.nc_writer.specs.declared.values.Turn.{Turn}
use Rattle.nc_writer.specs.declared.variable.Variable.{Variable}
use Rattle.nc_writer.specs.Data.{values_in}
use Rattle.nc_writer.specs.File.{bytes_of, File}
use Rattle.nc_writer.specs.Variables.{variable_of}

-- what a call leaves behind is the outcome's value, or it returns the outcome's fault, unless memory ran out
abbrev pub Adds : {X A E : Type 0} → Result A E → Result X (Fail E) → A → Type 0
Adds outcome (Ok done) new = outcome ≡ Ok new
Adds outcome (Err fails.NoMemory) new = Unit {0}
Adds outcome (Err (fails.Fault fault)) new = outcome ≡ Err fault

-- what is sent is a part of the dataset, with slabs that lie within it, each of which picks an index
pub record IsPicked (shown : Shown) (sent : Sent) : Type 0 where
  pub fits : IsSomeAnd (array_in (content_of shown).decls sent.decl sent.part) (FitsArray sent)
  pub some : All HasIndex sent.slabs

-- what is sent can be written: it is of the dataset, and few parts
pub record CanBeWritten (shown : Shown) (sent : List Sent) : Type 0 where
  pub each : All (IsPicked shown) sent
  pub few : length sent < 2 ^ 28

-- the array of what is sent
pub record IsSentPart (shown : Shown) (sent : Sent) (array : Array) : Type 0 where
  pub portion : IsPortion (record { shown = shown; sent = sent; array = array })
  pub some : All HasIndex sent.slabs

-- a dataset is of a prototype and of rows of its collection
pub record IsDataset (shown : Shown) : Type 0 where
  pub given : IsPrototype shown.proto
  pub rows_are : AreRows shown.proto shown.rows

-- a variable is that of a part of a dataset, and its texts are short
pub record IsVariableOf (shown : Shown) (variable : Variable) : Type 0 where
  pub array : Array
  pub part : IsSentPart shown variable.sent array
  pub variable_is : variable ≡ variable_of (content_of shown) variable.sent array
  pub narrow : variable.width < 2 ^ 32

-- what a file keeps: its variables are those of the dataset, and it knows its length, which is within the limit
pub record IsFile (file : File) (len : ℕ) : Type 0 where
  pub each : All (IsVariableOf file.shown) file.variables
  pub len_is : len ≡ length (bytes_of file)
  pub few : len ≤ MAX_FILE_BYTES

-- some values, at least one, are written from an element on: of their bytes `passed` are passed over, and as many
-- written as fit
pub record IsTurn (content : Content) (variable : Variable) (element passed : ℕ) (turn : Turn) (old new : List ℕ)
    : Type 0 where
  pub some : 1 ≤ turn.values
  pub within : element + turn.values ≤ box_len variable.sent.slabs
  pub put_is : IsPut (drop passed (values_in content variable element turn.values)) old new turn.bytes

-- a variable has a value at an index list of its part's array
pub record HasValue (shown : Shown) (variable : Variable) (index : List ℕ) : Type 0 where
  pub array : Array
  pub array_is : array_at shown variable.sent.decl variable.sent.part ≡ Some array
  pub kind_is : variable.kind ≡ array.kind
  pub index_is : IsIndex (shape_of_array array) index
