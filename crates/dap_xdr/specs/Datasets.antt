-- What a dataset shows, and the column of it that a part is.
use Rattle.std.specs.Prelude.{◌≡◌, ℕ, List, length, Some}
use Rattle.fm_model.specs.Site.{IsPrototype}
use Rattle.dap_model.specs.declared.declaration.Array.{Array}
use Rattle.dap_model.specs.declared.projection.Sent.{Sent}
use Rattle.fm_dataset.specs.Columns.{PartOf}
use Rattle.fm_dataset.specs.Declarations.{decls_of}
use Rattle.fm_dataset.specs.Rows.{AreRows}
use Rattle.fm_dataset.specs.Values.{bits_of, text_of_part, Shown}
use Rattle.dap_xdr.specs.Content.{array_in, Content}
use Rattle.dap_xdr.specs.Stretch.{ArePicked}

-- its declarations, the bits of its numbers and its texts
abbrev pub content_of : Shown → Content
content_of shown = record {
  decls = decls_of shown.proto (length shown.rows);
  bits = bits_of shown;
  text = text_of_part shown;
}

-- a column is the part of what is sent, of a dataset of a prototype's collection
pub record IsColumnOf (column : PartOf) (sent : Sent) : Type 0 where
  pub given : IsPrototype column.shown.proto
  pub rows_are : AreRows column.shown.proto column.shown.rows
  pub decl_is : column.decl ≡ sent.decl
  pub part_is : column.part ≡ sent.part

-- bytes are those of numbers that are sent of a part, from an element on, as a netCDF file has them
abbrev pub IsStretchOf : Shown → Sent → ℕ → List ℕ → Type 0
IsStretchOf shown sent element bytes =
    (array : Array) → array_in (content_of shown).decls sent.decl sent.part ≡ Some array
    → ArePicked array.kind (bits_of shown sent.decl sent.part) sent.slabs element 18_446_744_073_709_551_615 bytes
