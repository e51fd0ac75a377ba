-- What a portion asks of its column, and what the column shows.
use Rattle.std.proofs.Common.{◌≡◌, ◌≢◌, ℕ, ◌^◌, ◌<◌, true, List, length, Some, sym, subst, ◌∙◌, IsSomeAnd, Option}
use Rattle.std.proofs.Math.Path.{subst₂}
use Rattle.nc_model.specs.Format.{IsBytes}
use Rattle.dap_model.specs.declared.declaration.Array.{Array}
use Rattle.dap_model.specs.declared.declaration.DapKind.TheVariants.{Text}
use Rattle.dap_model.specs.declared.projection.Sent.{Sent}
use Rattle.dap_model.specs.Box.{box_len, index_at}
use Rattle.fm_model.specs.Site.{IsPrototype}
use Rattle.fm_dataset.specs.Columns.{PartOf}
use Rattle.fm_dataset.specs.Rows.{AreRows}
use Rattle.fm_dataset.specs.Values.{array_at, bits_of, is_stored, raw_of, text_of_part, HasNumber, HasText, Shown}
use Rattle.fm_dataset.proofs.ColumnLemmas.{has_stored}
use Rattle.dap_xdr.specs.Content.{array_in, FitsArray}
use Rattle.dap_xdr.specs.Datasets.{content_of, IsColumnOf}
use Rattle.dap_xdr.specs.Portion.{bits_in, portion_of, IsPortion}
use Rattle.dap_xdr.specs.Stretch.{AreStored}
use Rattle.dap_xdr.proofs.DatasetLemmas.{has_number, has_text, same_array, short, small, stored}
use Rattle.dap_xdr.proofs.PickedLemmas.{has-number, has-text}

-- the array of what is sent makes it a portion
pub is-portion : (shown : Shown) (sent : Sent) (array : Array) → IsPrototype shown.proto
    → AreRows shown.proto shown.rows
    → IsSomeAnd (array_in (content_of shown).decls sent.decl sent.part) (FitsArray sent)
    → array_in (content_of shown).decls sent.decl sent.part ≡ Some array
    → IsPortion (record { shown = shown; sent = sent; array = array })
is-portion shown sent array given rows_are fits is = record {
  part_is = is;
  fits = subst (λ (found : Option Array). IsSomeAnd found (FitsArray sent)) is fits;
  small = small shown given rows_are sent.decl sent.part array is;
}

module _ (column : PartOf) (sent : Sent) (array : Array) (is : IsColumnOf column sent)
    (portion : IsPortion (portion_of column sent array)) (element : ℕ) (index : List ℕ)
    (within : element < box_len sent.slabs) (same : index ≡ index_at sent.slabs element) where
  -- an element, a number or a text, is one of the column
  pub number-asked : array.kind ≢ Text → HasNumber column.shown column.decl column.part index
  number-asked number =
      subst₂ (λ (d p : ℕ). HasNumber column.shown d p index) (sym is.decl_is) (sym is.part_is)
      (has_number column.shown sent.decl sent.part index
      (has-number (portion_of column sent array) element index portion number within same))

  pub text-asked : array.kind ≡ Text → HasText column.shown column.decl column.part index
  text-asked text =
      subst₂ (λ (d p : ℕ). HasText column.shown d p index) (sym is.decl_is) (sym is.part_is)
      (has_text column.shown sent.decl sent.part index
      (has-text (portion_of column sent array) element index portion text within same))

  -- texts are short
  pub text-short : array.kind ≡ Text → length (text_of_part column.shown column.decl column.part index) < 2 ^ 32
  text-short text = short column.shown column.decl column.part index is.given is.rows_are (text-asked text)

  -- the array of the column
  pub array-is : array_at column.shown column.decl column.part ≡ Some array
  array-is =
      subst₂ (λ (d p : ℕ). array_at column.shown d p ≡ Some array) (sym is.decl_is) (sym is.part_is)
      (sym (same_array column.shown sent.decl sent.part) ∙ portion.part_is)

  -- what stands in a file are the numbers of the array
  pub stored-shown : (most : ℕ) (bytes : List ℕ) → array.kind ≢ Text
      → is_stored column.shown column.decl column.part ≡ true
      → bytes ≡ raw_of column.shown column.decl column.part index most → IsBytes bytes
      → AreStored array (bits_in (portion_of column sent array)) index most bytes
  stored-shown most bytes number kept raw are =
      subst₂ (λ (d p : ℕ). AreStored array (bits_of column.shown d p) index most bytes) is.decl_is is.part_is
      (stored column.shown column.decl column.part index most bytes array is.given is.rows_are
      (has_stored column.shown column.decl column.part index kept (number-asked number)) raw are array-is)
