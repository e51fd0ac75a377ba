-- Where a text stands in an array of texts.
use Rattle.std.proofs.Common.{◌≡◌, ◌≢◌, ℕ, ◌+◌, ◌<◌, List, [], ◌∷◌, length, get_or, map, slice_get, take, Some, refl, sym, ap, subst, ◌∙◌, arith}
use Rattle.std.specs.Int.{w32, to_be_bytes}
use Rattle.std.specs.List.{flat_map}
use Rattle.std.proofs.lemmas.List.{get_or-append-add}
use Rattle.std.proofs.lemmas.List.Concat.{get_or-flat_map}
use Rattle.std.proofs.lemmas.List.Sums.{sum_by_more, sum_by-take-le}
use Rattle.std.proofs.lemmas.Option.{slice_get-get_or}
use Rattle.dap_model.specs.declared.declaration.DapKind.TheVariants.{Text}
use Rattle.dap_model.specs.declared.projection.Slab.{Slab}
use Rattle.dap_model.specs.Box.{box_of}
use Rattle.dap_model.specs.Xdr.{text_bytes, texts_bytes, text_len, texts_len, xdr_of, values_at}
use Rattle.dap_model.proofs.XdrLemmas.{length-text_bytes, length-texts, length-texts_bytes}

-- a byte of a text
get_or-texts_bytes : (texts : List (List ℕ)) (index offset : ℕ) → index < length texts
    → offset < text_len (length (get_or texts index []))
    → get_or (texts_bytes texts) (4 + (texts_len (take index texts) + offset)) 0 ≡ get_or
    (text_bytes (get_or texts index [])) offset 0
unfolding texts_bytes
get_or-texts_bytes texts index offset within inside =
    let short : offset < length (text_bytes (get_or texts index [])) =
    subst (λ (n : ℕ). offset < n) (sym (length-text_bytes (get_or texts index []))) inside in
    get_or-append-add (to_be_bytes w32 (length texts)) (flat_map text_bytes texts)
    (texts_len (take index texts) + offset) 0
    ∙ ap (λ (n : ℕ). get_or (flat_map text_bytes texts) (n + offset) 0) (sym (length-texts (take index texts)))
    ∙ get_or-flat_map text_bytes texts index offset [] 0 within short

-- the bytes of a text lie in the array
text_within : (texts : List (List ℕ)) (index offset : ℕ) → index < length texts
    → offset < text_len (length (get_or texts index []))
    → 4 + (texts_len (take index texts) + offset) < length (texts_bytes texts)
unfolding texts_len
text_within texts index offset within inside =
    let size = λ (text : List ℕ). text_len (length text) in
    let more = sum_by_more size texts index [] within in
    let part = sum_by-take-le size texts (index + 1) in
    let whole = length-texts_bytes texts in
    omega arith

pub slice_get-texts_bytes : (texts : List (List ℕ)) (index offset : ℕ) → index < length texts
    → offset < text_len (length (get_or texts index []))
    → slice_get (texts_bytes texts) (4 + (texts_len (take index texts) + offset)) ≡ slice_get
    (text_bytes (get_or texts index [])) offset
slice_get-texts_bytes texts index offset within inside =
    let short : offset < length (text_bytes (get_or texts index [])) =
    subst (λ (n : ℕ). offset < n) (sym (length-text_bytes (get_or texts index []))) inside in
    slice_get-get_or (texts_bytes texts) _ 0 (text_within texts index offset within inside)
    ∙ ap Some (get_or-texts_bytes texts index offset within inside)
    ∙ sym (slice_get-get_or (text_bytes (get_or texts index [])) offset 0 short)

-- texts that slabs pick are an array
pub texts_part : (slabs : List Slab) (bits : List ℕ → ℕ) (words : List ℕ → List ℕ) → slabs ≢ []
    → xdr_of Text (values_at Text slabs bits words) ≡ texts_bytes (map words (box_of slabs))
unfolding xdr_of
texts_part [] bits words some = absurd (some refl)
texts_part (slab ∷ slabs) bits words some = refl
