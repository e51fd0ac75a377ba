-- What is sent of an array of a two-dimensional view, value by value (RFC 4506; ESE-RFC-004, the data of DAP 2.0).
use Rattle.std.specs.Prelude.{◌≡◌, ℕ, ◌*◌, List, ◌++◌, Some, take}
use Rattle.std.specs.Int.{w32, to_be_bytes}
use Rattle.std.specs.List.{flat_map, AllZip}
use Rattle.dap_model.specs.declared.declaration.Array.{Array}
use Rattle.dap_model.specs.declared.declaration.DapKind.{DapKind}
use Rattle.dap_model.specs.declared.declaration.DapKind.TheVariants.{Text}
use Rattle.dap_model.specs.declared.projection.Sent.{Sent}
use Rattle.dap_model.specs.Box.{box_len, box_of}
use Rattle.dap_model.specs.ProjectionFacts.{FitsDim}
use Rattle.dap_model.specs.Xdr.{count_twice, element_bytes, element_len, text_bytes, zeros_after}
use Rattle.fm_dataset.specs.Values.{IsSmall}
use Rattle.dap_xdr.specs.Content.{array_data, array_in}
use Rattle.fm_twod.specs.Laid.{content_of, decls_in, grid_bits, grid_text, Laid}

-- an array, what is sent of it, and the view whose part it is
pub record Chosen : Type 0 where
  pub laid : Laid
  pub sent : Sent
  pub array : Array

-- what is sent of an array of a view
abbrev pub chosen_of : Laid → Sent → Array → Chosen
chosen_of laid sent array = record { laid = laid; sent = sent; array = array }

-- the array is the part that is sent, the slabs fit it, and it has few dimensions and elements
pub record IsChosen (c : Chosen) : Type 0 where
  pub part_is : array_in (decls_in c.laid) c.sent.decl c.sent.part ≡ Some c.array
  pub fits : AllZip FitsDim c.array.dims c.sent.slabs
  pub small : IsSmall c.array

-- the bytes of what is sent
abbrev pub data_in : Chosen → List ℕ
data_in c = array_data (content_of c.laid) c.sent c.array

-- the bits and the text at an index list
abbrev pub bits_in : Chosen → List ℕ → ℕ
bits_in c = grid_bits c.laid c.sent.decl c.sent.part

abbrev pub text_in : Chosen → List ℕ → List ℕ
text_in c = grid_text c.laid c.sent.decl c.sent.part

-- the bytes of a value among others of its kind: a number is an element of an array
unfoldable pub item_bytes : DapKind → ℕ → List ℕ → List ℕ
item_bytes Text bits text = text_bytes text
item_bytes kind bits text = element_bytes kind bits

-- the bytes of the value at an index list
abbrev pub item_of : Chosen → List ℕ → List ℕ
item_of c index = item_bytes c.array.kind (bits_in c index) (text_in c index)

-- the bytes of the values before an element, and of all values
unfoldable pub items_before : Chosen → ℕ → List ℕ
items_before c element = flat_map (item_of c) (take element (box_of c.sent.slabs))

unfoldable pub items_of : Chosen → List ℕ
items_of c = flat_map (item_of c) (box_of c.sent.slabs)

-- the count before texts, and the two counts before numbers
unfoldable pub counts_before : DapKind → ℕ → List ℕ
counts_before Text count = to_be_bytes w32 count
counts_before kind count = count_twice count

-- the values, and zero bytes up to a multiple of four; texts need none
unfoldable pub body_of : Chosen → List ℕ
body_of c = items_of c ++ zeros_after (box_len c.sent.slabs * element_len c.array.kind)
