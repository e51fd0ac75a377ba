-- Bytes that lie in rows, each some way behind the one before it.
use Rattle.std.specs.Prelude.{◌≡◌, ℕ, zero, suc, ◌*◌, ◌%◌, ◌<◌, ◌≤◌, List, [], ◌++◌, length, take, drop}
use Rattle.std.specs.List.{flat_map}
use Rattle.dap_model.specs.declared.declaration.DapKind.{DapKind}
use Rattle.dap_model.specs.Xdr.{element_bytes}
use Rattle.dap_xdr.specs.declared.rows.Rows.{Rows}
use Rattle.dap_xdr.specs.declared.slabs.Extent.{Extent}
use Rattle.dap_number.specs.Front.{IsFront}
use Rattle.dap_xdr.specs.Portion.{bits_in, Portion}
use Rattle.dap_xdr.specs.Stretch.{extent_of, stored_len, turns_at, AreBytesOf, ArePicked}

-- the first `count` rows of some bytes: each has `row` bytes, and the next begins `step` bytes after it begins
unfoldable pub rows_in : ℕ → ℕ → ℕ → List ℕ → List ℕ
rows_in row step zero bytes = []
rows_in row step (suc count) bytes = take row bytes ++ rows_in row step count (drop step bytes)

-- some whole rows are written over the front of a buffer, as what they are sent as
pub record AreSentAs (sent_as : List ℕ → List ℕ) (rows : Rows) (stored old new : List ℕ) (filled : ℕ) : Type 0 where
  pub count : ℕ
  pub few : count ≤ rows.most
  pub whole : length (rows_in rows.row rows.step count stored) ≡ count * rows.row
  pub filled_is : filled ≡ length (sent_as (rows_in rows.row rows.step count stored))
  pub fits : filled ≤ length old
  pub new_is : new ≡ sent_as (rows_in rows.row rows.step count stored) ++ drop filled old

-- some whole rows of what stands in a file are written over the front of a buffer, as elements of an array
pub record ArePut (kind : DapKind) (rows : Rows) (stored old new : List ℕ) (filled : ℕ) : Type 0 where
  pub count : ℕ
  pub few : count ≤ rows.most
  pub whole : length (rows_in rows.row rows.step count stored) ≡ count * rows.row
  pub front : (numbers : List ℕ) → AreBytesOf kind numbers (rows_in rows.row rows.step count stored)
      → IsFront (flat_map (element_bytes kind) numbers) old new filled

-- rows of what stands in a file are what slabs pick from an element on
abbrev pub PickRows : Portion → ℕ → Rows → List ℕ → Type 0
PickRows n element rows stored =
    (count : ℕ) → count ≤ rows.most → length (rows_in rows.row rows.step count stored) ≡ count * rows.row
    → ArePicked n.array.kind (bits_in n) n.sent.slabs element
    (count * (extent_of n.array.dims n.sent.slabs).unit) (rows_in rows.row rows.step count stored)

-- the rows that numbers of a kind have from an element on are the units that are left of the turns; there are none
-- within a unit
pub record AreRowsAt (kind : DapKind) (extent : Extent) (element : ℕ) (rows : Rows) : Type 0 where
  pub few : rows.most ≤ turns_at extent element
  pub begins : 0 < rows.most → element % extent.unit ≡ 0
  pub row_is : 0 < rows.most → rows.row ≡ extent.unit * stored_len kind
  pub step_is : 0 < rows.most → rows.step ≡ extent.pitch * stored_len kind
