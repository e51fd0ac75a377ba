-- Numbers that stand in a file as they are sent: XDR has two counts before them.
use Rattle.std.proofs.Common.{◌≡◌, ◌≢◌, ℕ, ◌+◌, ◌*◌, ◌^◌, ◌<◌, List, [], ◌∷◌, ◌++◌, length, map, drop, Option, refl, sym, ap, ap₂, subst, ◌∙◌, arith}
use Rattle.std.specs.Prelude.{IsSomeAnd}
use Rattle.std.specs.List.{flat_map}
use Rattle.std.proofs.Math.Seq.{drop-append-add}
use Rattle.std.proofs.lemmas.List.{length-append}
use Rattle.dap_model.specs.declared.declaration.Array.{Array}
use Rattle.dap_model.specs.declared.declaration.DapKind.{DapKind}
use Rattle.dap_model.specs.declared.declaration.DapKind.TheVariants.{Byte, Int16, Int32, Float32, Float64, Text}
use Rattle.dap_model.specs.Box.{box_len, box_of}
use Rattle.dap_model.specs.Xdr.{count_twice, element_bytes, element_len, zeros_after}
use Rattle.fm_dataset.specs.Values.{Shown}
use Rattle.dap_xdr.specs.Content.{array_in, part_data, FitsArray}
use Rattle.dap_xdr.specs.Datasets.{content_of}
use Rattle.dap_number.specs.Overlay.{IsPut}
use Rattle.dap_xdr.specs.Portion.{bits_in, body_of, numbers_from, Portion}
use Rattle.dap_xdr.proofs.DataLemmas.{data-numbers, data-of}
use Rattle.dap_xdr.proofs.ElementLemmas.{array-body}
use Rattle.dap_xdr.proofs.StoredLemmas.{stored-same}
use Rattle.nc_writer.specs.declared.variable.Variable.{Variable}
use Rattle.nc_writer.specs.Data.{data_bytes, data_len, file_kind, value_at, value_len, values_len, values_of}
use Rattle.nc_writer.specs.Facts.{IsVariableOf}
use Rattle.nc_writer.specs.Variables.{is_text}
use Rattle.nc_writer.proofs.LenLemmas.{length-data}
use Rattle.nc_writer.proofs.ValueLemmas.{value-number, variable-kind}

-- a number takes as many bytes in a file as in an array of XDR
same-len : (kind : DapKind) (width : ℕ) → kind ≢ Text → kind ≢ Int16 → element_len kind ≡ value_len kind width
unfolding element_len value_len file_kind is_text
same-len Byte width number same = refl
same-len Int16 width number same = absurd (same refl)
same-len Int32 width number same = refl
same-len Float32 width number same = refl
same-len Float64 width number same = refl
same-len Text width number same = absurd (number refl)

module _ (shown : Shown) (variable : Variable) (array : Array) (kind_is : variable.kind ≡ array.kind)
    (number : variable.kind ≢ Text) (same : variable.kind ≢ Int16) where
  abbrev portion : Portion
  portion = record { shown = shown; sent = variable.sent; array = array }

  -- a value is the element of the array
  same-value : (index : List ℕ) → element_bytes array.kind (bits_in portion index)
      ≡ value_at (content_of shown) variable index
  unfolding value_at
  same-value index =
      let bits = bits_in portion index in
      let text = (content_of shown).text variable.sent.decl variable.sent.part index in
      ap (λ (kind : DapKind). element_bytes kind bits) (sym kind_is)
      ∙ sym (stored-same variable.kind bits same)
      ∙ sym (value-number variable.kind variable.width bits text number)

  same-values : (xs : List (List ℕ))
      → flat_map (element_bytes array.kind) (map (bits_in portion) xs)
      ≡ flat_map (value_at (content_of shown) variable) xs
  same-values [] = refl
  same-values (index ∷ xs) = ap₂ (λ (l r : List ℕ). l ++ r) (same-value index) (same-values xs)

  -- the body of the array is the variable's data
  same-body : body_of portion ≡ data_bytes (content_of shown) variable
  unfolding body_of numbers_from data_bytes values_of values_len
  same-body = ap₂ (λ (l : List ℕ) (n : ℕ). l ++ zeros_after n) (same-values (box_of variable.sent.slabs))
      (ap (λ (n : ℕ). box_len variable.sent.slabs * n)
      (ap element_len (sym kind_is) ∙ same-len variable.kind variable.width number same))

-- the data that is sent of a variable's part is the variable's, behind two counts
pub sent-data : (shown : Shown) (variable : Variable) → IsVariableOf shown variable → variable.kind ≢ Text
    → variable.kind ≢ Int16 → variable.sent.slabs ≢ []
    → part_data (content_of shown) variable.sent
    ≡ count_twice (box_len variable.sent.slabs) ++ data_bytes (content_of shown) variable
sent-data shown variable is number same many =
    let kind = variable-kind (content_of shown) variable is.array is.variable_is in
    let n : Portion = record { shown = shown; sent = variable.sent; array = is.array } in
    sym (data-of n is.part.portion)
    ∙ data-numbers n (λ text. number (kind ∙ text)) many
    ∙ array-body n
    ∙ ap (λ (l : List ℕ). count_twice (box_len variable.sent.slabs) ++ l)
    (same-body shown variable is.array kind number same)

two-counts : (n : ℕ) → length (count_twice n) ≡ 8
unfolding count_twice
two-counts n = refl

-- what is written of the data that is sent, from behind the counts on
pub put-data : (shown : Shown) (variable : Variable) (from at count : ℕ) (old new : List ℕ)
    → IsVariableOf shown variable → variable.kind ≢ Text → variable.kind ≢ Int16 → variable.sent.slabs ≢ []
    → at ≡ from + 8
    → IsPut (drop at (part_data (content_of shown) variable.sent)) old new count
    → IsPut (drop from (data_bytes (content_of shown) variable)) old new count
put-data shown variable from at count old new is number same many behind put =
    let counts = count_twice (box_len variable.sent.slabs) in
    let bytes = data_bytes (content_of shown) variable in
    let far : at ≡ length counts + from = omega (arith, behind, two-counts (box_len variable.sent.slabs)) in
    subst (λ (l : List ℕ). IsPut l old new count)
    (ap (drop at) (sent-data shown variable is number same many)
    ∙ ap (λ (n : ℕ). drop n (counts ++ bytes)) far ∙ drop-append-add counts bytes from) put

-- it has fewer than 2^64 bytes
pub sent-small : (shown : Shown) (variable : Variable) → IsVariableOf shown variable → variable.kind ≢ Text
    → variable.kind ≢ Int16 → variable.sent.slabs ≢ [] → values_len variable < 2 ^ 63
    → length (part_data (content_of shown) variable.sent) < 2 ^ 64
unfolding data_len
sent-small shown variable is number same many few =
    let content = content_of shown in
    omega (
      arith,
      few,
      ap length (sent-data shown variable is number same many),
      length-append (count_twice (box_len variable.sent.slabs)) (data_bytes content variable),
      two-counts (box_len variable.sent.slabs),
      length-data content variable,
    )

-- and is that of a part with slabs that fit it
pub sent-fits : (shown : Shown) (variable : Variable) → IsVariableOf shown variable
    → IsSomeAnd (array_in (content_of shown).decls variable.sent.decl variable.sent.part) (FitsArray variable.sent)
sent-fits shown variable is =
    subst (λ (o : Option Array). IsSomeAnd o (FitsArray variable.sent)) (sym is.part.portion.part_is)
    is.part.portion.fits
