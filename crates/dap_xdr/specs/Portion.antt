-- A portion of an array: the numbers or texts of it that are sent.
use Rattle.std.specs.Prelude.{◌≡◌, ℕ, ◌*◌, List, ◌++◌, Some, drop, map}
use Rattle.std.specs.List.{flat_map, AllZip}
use Rattle.dap_model.specs.declared.declaration.Array.{Array}
use Rattle.dap_model.specs.declared.projection.Sent.{Sent}
use Rattle.dap_model.specs.Box.{box_len, box_of}
use Rattle.dap_model.specs.ProjectionFacts.{FitsDim}
use Rattle.dap_model.specs.Xdr.{array_bytes, element_bytes, element_len, texts_bytes, zeros_after}
use Rattle.fm_dataset.specs.Columns.{PartOf}
use Rattle.fm_dataset.specs.Values.{IsSmall, Shown}
use Rattle.dap_xdr.specs.Content.{array_data, array_in}
use Rattle.dap_xdr.specs.Datasets.{content_of}

-- an array, what is sent of it, and what the dataset shows whose part it is
pub record Portion : Type 0 where
  pub shown : Shown
  pub sent : Sent
  pub array : Array

-- what is sent of the array of a column
abbrev pub portion_of : PartOf → Sent → Array → Portion
portion_of column sent array = record { shown = column.shown; sent = sent; array = array }

-- the array is the part that is sent, and the slabs fit it
pub record IsPortion (n : Portion) : Type 0 where
  pub part_is : array_in (content_of n.shown).decls n.sent.decl n.sent.part ≡ Some n.array
  pub fits : AllZip FitsDim n.array.dims n.sent.slabs
  pub small : IsSmall n.array

-- the bytes of what is sent
abbrev pub data_in : Portion → List ℕ
data_in n = array_data (content_of n.shown) n.sent n.array

-- the bits at an index list
abbrev pub bits_in : Portion → List ℕ → ℕ
bits_in n = (content_of n.shown).bits n.sent.decl n.sent.part

-- the bytes of the numbers that are sent from an element on
unfoldable pub numbers_from : Portion → ℕ → List ℕ
numbers_from n element =
    flat_map (element_bytes n.array.kind) (map (bits_in n) (drop element (box_of n.sent.slabs)))

-- their bytes, and zero bytes up to a multiple of four
unfoldable pub body_of : Portion → List ℕ
body_of n =
    numbers_from n 0 ++ zeros_after (box_len n.sent.slabs * element_len n.array.kind)

-- the bytes of an array of numbers: how many there are, twice, the numbers, and zero bytes up to a multiple of four
unfoldable pub array_of : Portion → List ℕ
array_of n = array_bytes n.array.kind (map (bits_in n) (box_of n.sent.slabs))

-- the text at an index list
abbrev pub text_in : Portion → List ℕ → List ℕ
text_in n = (content_of n.shown).text n.sent.decl n.sent.part

-- the bytes of an array of texts: how many there are, and each of them
unfoldable pub texts_of : Portion → List ℕ
texts_of n = texts_bytes (map (text_in n) (box_of n.sent.slabs))
