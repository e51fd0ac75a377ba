-- The columns of what is sent fit the arrays that are declared.
use Rattle.std.proofs.Common.{◌≡◌, ◌≢◌, ℕ, ◌^◌, ◌<◌, List, [], ◌∷◌, length, map, Some, refl, sym, subst, ◌∙◌, arith}
use Rattle.std.specs.List.{flat_map, AllByRecursion, AllZip}
use Rattle.std.proofs.lemmas.List.{append-nil, length-append, length-map}
use Rattle.nc_model.specs.Format.{IsBytes}
use Rattle.dap_model.specs.declared.declaration.Array.{Array}
use Rattle.dap_model.specs.declared.declaration.DapKind.{DapKind}
use Rattle.dap_model.specs.declared.declaration.DapKind.TheVariants.{Byte, Int16, Int32, Float32, Float64, Text}
use Rattle.dap_model.specs.declared.projection.Sent.{Sent}
use Rattle.dap_model.specs.declared.projection.Slab.{Slab}
use Rattle.dap_model.specs.Box.{box_of}
use Rattle.dap_model.specs.Projection.{cut_array}
use Rattle.dap_model.specs.Xdr.{text_bytes, values_at, xdr_of, AreBitsOf}
use Rattle.dap_model.proofs.BoxLemmas.{length-box_of}
use Rattle.dap_model.proofs.XdrLemmas.{length-text_bytes, length-texts, length-texts_bytes}
use Rattle.dap_xdr.specs.Content.{array_data, array_in, data_of, part_data, Content}
use Rattle.dap_client.specs.declared.message.Column.TheVariants.{Numbers, Texts}
use Rattle.dap_client.specs.Message.{count_of, AreColumnsOf, FitsColumn, IsText}
use Rattle.reply_laws.specs.DataMessage.{column_at, column_sent}
use Rattle.reply_laws.proofs.CutLemmas.{count_cut}
use Rattle.reply_laws.proofs.TextLemmas.{column-there, HasPart, HasPart-same}

-- ---- the values of one column

bits_are : (kind : DapKind) (bits : List ℕ → ℕ) (xs : List (List ℕ)) → ((x : List ℕ) → AreBitsOf kind (bits x))
    → AllByRecursion (AreBitsOf kind) (map bits xs)
bits_are kind bits [] each = tt
bits_are kind bits (x ∷ xs) each = (each x, bits_are kind bits xs each)

words_are : (words : List ℕ → List ℕ) (xs : List (List ℕ)) → ((x : List ℕ) → IsBytes (words x))
    → length (flat_map text_bytes (map words xs)) < 2 ^ 32 → AllByRecursion IsText (map words xs)
words_are words [] each few = tt
words_are words (x ∷ xs) each few =
    let parts = length-append (text_bytes (words x)) (flat_map text_bytes (map words xs)) in
    let long = length-text_bytes (words x) in (
      record { bytes = each x; few = omega (arith, parts, long, few) },
      words_are words xs each (omega (arith, parts, few)),
    )

-- the texts of a part whose data isn't long
texts_few : (slabs : List Slab) (bits : List ℕ → ℕ) (words : List ℕ → List ℕ)
    → length (xdr_of Text (values_at Text slabs bits words)) < 2 ^ 32
    → length (flat_map text_bytes (map words (box_of slabs))) < 2 ^ 32
unfolding xdr_of box_of
texts_few [] bits words few = subst (λ (l : List ℕ). length l < 2 ^ 32) (sym (append-nil (text_bytes (words [])))) few
texts_few (slab ∷ slabs) bits words few =
    let texts : List (List ℕ) = map words (box_of (slab ∷ slabs)) in
    omega (arith, few, length-texts texts, length-texts_bytes texts)

count_is : {A : Type 0} (array : Array) (slabs : List Slab) (f : List ℕ → A) → length slabs ≡ length array.dims
    → length (map f (box_of slabs)) ≡ count_of (cut_array slabs array).dims
count_is array slabs f same =
    length-map (box_of slabs) f ∙ length-box_of slabs ∙ sym (count_cut array slabs same)

module _ (part : Array) (slabs : List Slab) (bits : List ℕ → ℕ) (words : List ℕ → List ℕ)
    (same : length slabs ≡ length part.dims) (fit : part.kind ≢ Text → (x : List ℕ) → AreBitsOf part.kind (bits x))
    (each : (x : List ℕ) → IsBytes (words x)) where
  numbers_fit : part.kind ≢ Text → FitsColumn (cut_array slabs part) (Numbers (map bits (box_of slabs)))
  unfolding cut_array
  numbers_fit number =
      (number, count_is part slabs bits same, bits_are part.kind bits (box_of slabs) (fit number))

  texts_fit : part.kind ≡ Text → length (xdr_of part.kind (values_at part.kind slabs bits words)) < 2 ^ 32
      → FitsColumn (cut_array slabs part) (Texts (map words (box_of slabs)))
  unfolding cut_array
  texts_fit text few = (
    text,
    count_is part slabs words same,
    words_are words (box_of slabs) each (texts_few slabs bits words
        (subst (λ (k : DapKind). length (xdr_of k (values_at k slabs bits words)) < 2 ^ 32) text few)),
  )

  -- the column of a part fits what is cut of it
  column_fits : length (xdr_of part.kind (values_at part.kind slabs bits words)) < 2 ^ 32
      → FitsColumn (cut_array slabs part) (column_at part.kind slabs bits words)
  column_fits few = by_kind part.kind refl
    where
      number : (kind : DapKind) → part.kind ≡ kind → kind ≢ Text → part.kind ≢ Text
      number kind is other = λ text. other (sym is ∙ text)

      by_kind : (kind : DapKind) → part.kind ≡ kind
          → FitsColumn (cut_array slabs part) (column_at kind slabs bits words)
      by_kind Byte is = numbers_fit (number Byte is (λ e. cc))
      by_kind Int16 is = numbers_fit (number Int16 is (λ e. cc))
      by_kind Int32 is = numbers_fit (number Int32 is (λ e. cc))
      by_kind Float32 is = numbers_fit (number Float32 is (λ e. cc))
      by_kind Float64 is = numbers_fit (number Float64 is (λ e. cc))
      by_kind Text is = texts_fit is few

-- ---- all columns

-- the bits of numbers fit their kinds, and texts are bytes
pub record HasValues (content : Content) : Type 0 where
  pub bits : (decl part : ℕ) (array : Array) (index : List ℕ) → array_in content.decls decl part ≡ Some array
      → array.kind ≢ Text → AreBitsOf array.kind (content.bits decl part index)
  pub texts : (decl part : ℕ) (index : List ℕ) → IsBytes (content.text decl part index)

module _ (content : Content) (values : HasValues content) where
  one_column : (array : Array) (sent : Sent) → HasPart content.decls array sent
      → length (part_data content sent) < 2 ^ 32 → FitsColumn array (column_sent content sent)
  unfolding part_data array_data
  one_column array sent has few =
      let part = has.part in
      let data_few : length (xdr_of part.kind (values_at part.kind sent.slabs (content.bits sent.decl sent.part)
      (content.text sent.decl sent.part))) < 2 ^ 32 = rw has.part_is at few in
      let fits = column_fits part sent.slabs (content.bits sent.decl sent.part) (content.text sent.decl sent.part)
      (HasPart-same content.decls array sent has)
      (λ number index. values.bits sent.decl sent.part part index has.part_is number)
      (values.texts sent.decl sent.part) data_few in
      subst (λ (a : Array). FitsColumn a (column_sent content sent)) (sym has.array_is)
      (subst (FitsColumn (cut_array sent.slabs part)) (sym (column-there content sent part has.part_is)) fits)

  -- the columns of data that isn't long
  pub columns_are : (arrays : List Array) (sents : List Sent) → AllZip (HasPart content.decls) arrays sents
      → length (data_of content sents) < 2 ^ 32 → AreColumnsOf arrays (map (column_sent content) sents)
  unfolding data_of
  columns_are [] [] each few = tt
  columns_are [] (sent ∷ sents) each few = absurd each
  columns_are (array ∷ arrays) [] each few = absurd each
  columns_are (array ∷ arrays) (sent ∷ sents) each few =
      let parts = length-append (part_data content sent) (flat_map (part_data content) sents) in (
        one_column array sent each.0 (omega (arith, parts, few)),
        columns_are arrays sents each.1 (omega (arith, parts, few)),
      )
