-- The arrays of what is sent are those of a message: they have names, sizes, and few values.
use Rattle.std.proofs.Common.{◌≡◌, ◌≢◌, ℕ, ◌^◌, ◌<◌, ◌≤◌, List, [], ◌∷◌, length, map, Some, refl, sym, ap, subst, ◌∙◌, arith}
use Rattle.std.specs.List.{flat_map, AllByRecursion, AllZip}
use Rattle.std.proofs.lemmas.Bool.{le-leb}
use Rattle.std.proofs.lemmas.List.{length-append, length-map}
use Rattle.nc_model.specs.declared.header.Dim.{Dim}
use Rattle.nc_model.specs.Layout.{product}
use Rattle.fm_model.proofs.Members.{Each}
use Rattle.dap_model.specs.declared.declaration.Array.{Array}
use Rattle.dap_model.specs.declared.declaration.DapKind.{DapKind}
use Rattle.dap_model.specs.declared.declaration.DapKind.TheVariants.{Byte, Int16, Int32, Float32, Float64, Text}
use Rattle.dap_model.specs.declared.projection.Sent.{Sent}
use Rattle.dap_model.specs.declared.projection.Slab.{Slab}
use Rattle.dap_model.specs.Box.{box_len, box_of, slab_count}
use Rattle.dap_model.specs.Projection.{cut_array}
use Rattle.dap_model.specs.Xdr.{array_bytes, element_len, elements_len, text_bytes, texts_bytes, values_at, xdr_of}
use Rattle.dap_model.proofs.BoxLemmas.{length-box_of}
use Rattle.dap_model.proofs.PartLemmas.{array_at}
use Rattle.dap_model.proofs.ProjectionCutLemmas.{array_lengths-cut_array}
use Rattle.dap_model.proofs.ProjectionFitLemmas.{Picks}
use Rattle.dap_model.proofs.XdrLemmas.{length-array_bytes, length-text_bytes, length-texts, length-texts_bytes}
use Rattle.dap_xdr.specs.Content.{array_data, array_in, data_of, part_data, Content}
use Rattle.dap_client.specs.Message.{count_of, IsArray, IsDim}
use Rattle.reply_laws.proofs.TextLemmas.{cut_dims, HasPart, HasPart-same}
use Rattle.reply_laws.proofs.WholeLemmas.{IsWhole}

-- ---- sizes

some_count : (slab : Slab) → slab.start ≤ slab.stop → 1 ≤ slab_count slab
unfolding slab_count
some_count slab ordered = rw (le-leb slab.start slab.stop ordered) (omega arith)

dims_cut : (dims : List Dim) (slabs : List Slab) → Each IsDim dims → AllZip Picks dims slabs
    → AllByRecursion IsDim (cut_dims dims slabs)
dims_cut [] [] each picks = tt
dims_cut [] (slab ∷ slabs) each picks = absurd picks
dims_cut (dim ∷ dims) [] each picks = absurd picks
dims_cut (dim ∷ dims) (slab ∷ slabs) each picks = (
  record { name = each.0.name; some = some_count slab (picks.0 each.0.some) },
  dims_cut dims slabs each.1 picks.1,
)

-- how many values a cut array has
pub count_cut : (array : Array) (slabs : List Slab) → length slabs ≡ length array.dims
    → count_of (cut_array slabs array).dims ≡ box_len slabs
unfolding box_len
count_cut array slabs same = ap product (array_lengths-cut_array slabs array same)

-- ---- how many values some bytes have

at_least : (kind : DapKind) (n : ℕ) → kind ≢ Text → n ≤ elements_len kind n
unfolding elements_len element_len
at_least Byte n number = omega arith
at_least Int16 n number = omega arith
at_least Int32 n number = omega arith
at_least Float32 n number = omega arith
at_least Float64 n number = omega arith
at_least Text n number = absurd (number refl)

few_numbers : (kind : DapKind) (slabs : List Slab) (bits : List ℕ → ℕ) → kind ≢ Text
    → box_len slabs ≤ length (array_bytes kind (map bits (box_of slabs)))
few_numbers kind slabs bits number =
    let numbers : List ℕ = map bits (box_of slabs) in
    let count : length numbers ≡ box_len slabs = length-map (box_of slabs) bits ∙ length-box_of slabs in
    omega (arith, count, length-array_bytes kind numbers, at_least kind (length numbers) number)

few_words : (words : List (List ℕ)) → length words ≤ length (flat_map text_bytes words)
few_words [] = omega arith
few_words (word ∷ words) = omega (
  arith,
  few_words words,
  length-append (text_bytes word) (flat_map text_bytes words),
  length-text_bytes word,
)

few_texts : (slabs : List Slab) (words : List ℕ → List ℕ)
    → box_len slabs ≤ length (texts_bytes (map words (box_of slabs)))
few_texts slabs words =
    let texts : List (List ℕ) = map words (box_of slabs) in
    let count : length texts ≡ box_len slabs = length-map (box_of slabs) words ∙ length-box_of slabs in
    omega (arith, count, few_words texts, length-texts texts, length-texts_bytes texts)

number_values : (kind : DapKind) (slab : Slab) (slabs : List Slab) (bits : List ℕ → ℕ) (words : List ℕ → List ℕ)
    → kind ≢ Text → length (xdr_of kind (values_at kind (slab ∷ slabs) bits words)) < 2 ^ 32
    → box_len (slab ∷ slabs) < 2 ^ 32
number_values kind slab slabs bits words number few =
    let same = ap length (array_at kind (slab ∷ slabs) bits words number (λ e. cc)) in
    let least = few_numbers kind (slab ∷ slabs) bits number in
    omega (arith, same, least, few)

-- a part has at most as many values as bytes, or one
few_values : (kind : DapKind) (slabs : List Slab) (bits : List ℕ → ℕ) (words : List ℕ → List ℕ)
    → length (xdr_of kind (values_at kind slabs bits words)) < 2 ^ 32 → box_len slabs < 2 ^ 32
unfolding xdr_of box_len product
few_values kind [] bits words few = omega arith
few_values Byte (slab ∷ slabs) bits words few = number_values Byte slab slabs bits words (λ e. cc) few
few_values Int16 (slab ∷ slabs) bits words few = number_values Int16 slab slabs bits words (λ e. cc) few
few_values Int32 (slab ∷ slabs) bits words few = number_values Int32 slab slabs bits words (λ e. cc) few
few_values Float32 (slab ∷ slabs) bits words few = number_values Float32 slab slabs bits words (λ e. cc) few
few_values Float64 (slab ∷ slabs) bits words few = number_values Float64 slab slabs bits words (λ e. cc) few
few_values Text (slab ∷ slabs) bits words few =
    let least = few_texts (slab ∷ slabs) words in omega (arith, least, few)

-- ---- arrays

module _ (content : Content) (whole : (decl part : ℕ) (array : Array) → array_in content.decls decl part ≡ Some array
    → IsWhole array) where
  one_array : (array : Array) (sent : Sent) → HasPart content.decls array sent
      → length (part_data content sent) < 2 ^ 32 → IsArray array
  unfolding part_data array_data cut_array
  one_array array sent has few =
      let part = has.part in
      let is = whole sent.decl sent.part part has.part_is in
      let same = HasPart-same content.decls array sent has in
      let data_few : length (xdr_of part.kind (values_at part.kind sent.slabs (content.bits sent.decl sent.part)
      (content.text sent.decl sent.part))) < 2 ^ 32 = rw has.part_is at few in
      let values = few_values part.kind sent.slabs _ _ data_few in
      subst IsArray (sym has.array_is) (record {
        name = is.name;
        dims = dims_cut part.dims sent.slabs is.dims has.picks;
        few = subst (λ (n : ℕ). n < 2 ^ 32) (sym (count_cut part sent.slabs same)) values;
      })

  -- the arrays of data that isn't long
  pub arrays_are : (arrays : List Array) (sents : List Sent) → AllZip (HasPart content.decls) arrays sents
      → length (data_of content sents) < 2 ^ 32 → Each IsArray arrays
  unfolding data_of
  arrays_are [] [] each few = tt
  arrays_are [] (sent ∷ sents) each few = absurd each
  arrays_are (array ∷ arrays) [] each few = absurd each
  arrays_are (array ∷ arrays) (sent ∷ sents) each few =
      let parts = length-append (part_data content sent) (flat_map (part_data content) sents) in (
        one_array array sent each.0 (omega (arith, parts, few)),
        arrays_are arrays sents each.1 (omega (arith, parts, few)),
      )
