-- The bytes of what is sent of a dataset are those of the columns of a message.
use Rattle.std.proofs.Common.{◌≡◌, ℕ, List, [], ◌∷◌, ◌++◌, length, map, Some, refl, sym, ap, ap₂, ◌∙◌, arith}
use Rattle.std.specs.List.{AllZip, zip}
use Rattle.nc_model.specs.declared.header.Dim.{Dim}
use Rattle.dap_model.specs.declared.declaration.Array.{Array}
use Rattle.dap_model.specs.declared.declaration.DapKind.{DapKind}
use Rattle.dap_model.specs.declared.declaration.DapKind.TheVariants.{Byte, Int16, Int32, Float32, Float64, Text}
use Rattle.dap_model.specs.declared.declaration.Decl.{Decl}
use Rattle.dap_model.specs.declared.projection.Sent.{Sent}
use Rattle.dap_model.specs.declared.projection.Slab.{Slab}
use Rattle.dap_model.specs.Box.{box_of}
use Rattle.dap_model.specs.Projection.{cut_array, cut_dim}
use Rattle.dap_model.specs.ProjectionFacts.{FitsDim}
use Rattle.dap_model.proofs.ProjectionFitLemmas.{Picks}
use Rattle.dap_model.specs.Xdr.{numbers_at, texts_at, values_at, xdr_of}
use Rattle.dap_xdr.specs.Content.{array_data, array_in, data_of, part_data, Content}
use Rattle.dap_client.specs.declared.message.Column.TheVariants.{Numbers, Texts}
use Rattle.dap_client.specs.Message.{column_text, columns_text, values_in}
use Rattle.reply_laws.specs.DataMessage.{column_at, column_of, column_sent}

-- ---- the values of one array

-- the dimensions that slabs leave
abbrev pub cut_dims : List Dim → List Slab → List Dim
cut_dims dims slabs = map cut_dim (zip dims slabs)

number_values : (dims : List Dim) (slabs : List Slab) (bits : List ℕ → ℕ) → length slabs ≡ length dims
    → values_in (cut_dims dims slabs) (Numbers (map bits (box_of slabs))) ≡ numbers_at slabs bits
unfolding box_of
number_values [] [] bits same = refl
number_values [] (slab ∷ slabs) bits same = absurd (omega arith)
number_values (dim ∷ dims) [] bits same = absurd (omega arith)
number_values (dim ∷ dims) (slab ∷ slabs) bits same = refl

text_values : (dims : List Dim) (slabs : List Slab) (words : List ℕ → List ℕ) → length slabs ≡ length dims
    → values_in (cut_dims dims slabs) (Texts (map words (box_of slabs))) ≡ texts_at slabs words
unfolding box_of
text_values [] [] words same = refl
text_values [] (slab ∷ slabs) words same = absurd (omega arith)
text_values (dim ∷ dims) [] words same = absurd (omega arith)
text_values (dim ∷ dims) (slab ∷ slabs) words same = refl

column_values : (kind : DapKind) (dims : List Dim) (slabs : List Slab) (bits : List ℕ → ℕ) (words : List ℕ → List ℕ)
    → length slabs ≡ length dims
    → values_in (cut_dims dims slabs) (column_at kind slabs bits words) ≡ values_at kind slabs bits words
column_values Byte dims slabs bits words same = number_values dims slabs bits same
column_values Int16 dims slabs bits words same = number_values dims slabs bits same
column_values Int32 dims slabs bits words same = number_values dims slabs bits same
column_values Float32 dims slabs bits words same = number_values dims slabs bits same
column_values Float64 dims slabs bits words same = number_values dims slabs bits same
column_values Text dims slabs bits words same = text_values dims slabs words same

-- ---- the array of a part that is sent

-- an array is cut from a part that is there, with slabs that fit its dimensions and pick some index of each
pub record HasPart (decls : List Decl) (array : Array) (sent : Sent) : Type 0 where
  pub part : Array
  pub part_is : array_in decls sent.decl sent.part ≡ Some part
  pub array_is : array ≡ cut_array sent.slabs part
  pub fits : AllZip FitsDim part.dims sent.slabs
  pub picks : AllZip Picks part.dims sent.slabs

pub as_long : (dims : List Dim) (slabs : List Slab) → AllZip FitsDim dims slabs → length slabs ≡ length dims
as_long [] [] fits = refl
as_long [] (slab ∷ slabs) fits = absurd fits
as_long (dim ∷ dims) [] fits = absurd fits
as_long (dim ∷ dims) (slab ∷ slabs) fits = let more = as_long dims slabs fits.1 in omega (arith, more)

pub HasPart-same : (decls : List Decl) (array : Array) (sent : Sent) (has : HasPart decls array sent)
    → length sent.slabs ≡ length has.part.dims
HasPart-same decls array sent has = as_long has.part.dims sent.slabs has.fits

-- the column of a part that is there
pub column-there : (content : Content) (sent : Sent) (part : Array)
    → array_in content.decls sent.decl sent.part ≡ Some part
    → column_sent content sent ≡ column_of content sent part
unfolding column_sent
column-there content sent part is = rw is refl

-- ---- the bytes

one_text : (content : Content) (array : Array) (sent : Sent) → HasPart content.decls array sent
    → column_text array (column_sent content sent) ≡ part_data content sent
unfolding column_text part_data array_data cut_array
one_text content array sent has =
    let part = has.part in
    let whole : part_data content sent ≡ array_data content sent part = rw has.part_is refl in
    ap₂ (λ (a : Array) column. column_text a column) has.array_is (column-there content sent part has.part_is)
    ∙ ap (xdr_of part.kind) (column_values part.kind part.dims sent.slabs (content.bits sent.decl sent.part)
    (content.text sent.decl sent.part) (HasPart-same content.decls array sent has))
    ∙ sym whole

-- the bytes of all columns are the data of what is sent
pub columns-data : (content : Content) (arrays : List Array) (sents : List Sent)
    → AllZip (HasPart content.decls) arrays sents
    → columns_text arrays (map (column_sent content) sents) ≡ data_of content sents
unfolding columns_text data_of
columns-data content [] [] each = refl
columns-data content [] (sent ∷ sents) each = absurd each
columns-data content (array ∷ arrays) [] each = absurd each
columns-data content (array ∷ arrays) (sent ∷ sents) each =
    ap₂ (λ (l r : List ℕ). l ++ r) (one_text content array sent each.0) (columns-data content arrays sents each.1)
