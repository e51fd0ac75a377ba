-- The data of a part, by cases.
use Rattle.std.proofs.Common.{◌≡◌, ◌≢◌, ℕ, ◌+◌, ◌*◌, ◌<◌, ◌≤◌, List, [], ◌∷◌, length, map, refl, sym, ap, subst, ◌∙◌, arith}
use Rattle.std.specs.Option.{option_map_or}
use Rattle.std.proofs.lemmas.List.{length-map}
use Rattle.nc_model.specs.Layout.{product}
use Rattle.dap_xdr.proofs.FitLemmas.{as_many}
use Rattle.dap_model.specs.declared.declaration.DapKind.{DapKind}
use Rattle.dap_model.specs.declared.declaration.DapKind.TheVariants.{Byte, Int16, Int32, Float32, Float64, Text}
use Rattle.dap_model.specs.declared.projection.Slab.{Slab}
use Rattle.dap_model.specs.Box.{box_len, box_of, index_at}
use Rattle.dap_model.specs.Xdr.{elements_len, element_len, number_bytes, numbers_at, text_bytes, texts_at, values_at, xdr_of, Values}
use Rattle.dap_model.proofs.XdrLemmas.{length-array_bytes}
use Rattle.dap_model.proofs.BoxLemmas.{length-box_of}
use Rattle.dap_xdr.specs.Content.{array_data, part_data}
use Rattle.dap_xdr.specs.Datasets.{content_of}
use Rattle.dap_xdr.specs.Portion.{array_of, bits_in, data_in, text_in, texts_of, IsPortion, Portion}

-- the data of a portion is that of what is sent
pub data-of : (n : Portion) → IsPortion n → data_in n ≡ part_data (content_of n.shown) n.sent
unfolding part_data
data-of n portion = sym (ap (λ found. option_map_or (array_data (content_of n.shown) n.sent) found []) portion.part_is)

pub values-numbers : (kind : DapKind) (slabs : List Slab) (bits : List ℕ → ℕ) (words : List ℕ → List ℕ) → kind ≢ Text
    → values_at kind slabs bits words ≡ numbers_at slabs bits
values-numbers Byte slabs bits words number = refl
values-numbers Int16 slabs bits words number = refl
values-numbers Int32 slabs bits words number = refl
values-numbers Float32 slabs bits words number = refl
values-numbers Float64 slabs bits words number = refl
values-numbers Text slabs bits words number = absurd (number refl)

pub data-number : (n : Portion) → n.array.kind ≢ Text → n.sent.slabs ≡ []
    → data_in n ≡ number_bytes n.array.kind (bits_in n [])
unfolding array_data xdr_of
data-number n number alone =
    ap (xdr_of n.array.kind) (values-numbers n.array.kind n.sent.slabs (bits_in n) (text_in n) number)
    ∙ ap (λ slabs. xdr_of n.array.kind (numbers_at slabs (bits_in n))) alone

pub data-text : (n : Portion) → n.array.kind ≡ Text → n.sent.slabs ≡ [] → data_in n ≡ text_bytes (text_in n [])
unfolding array_data xdr_of
data-text n text alone =
    ap (λ kind. xdr_of kind (values_at kind n.sent.slabs (bits_in n) (text_in n))) text
    ∙ ap (λ slabs. xdr_of Text (texts_at slabs (text_in n))) alone

-- without slabs there is one index list, of no index
pub record Alone (slabs : List Slab) : Type 0 where
  pub within : 0 < box_len slabs
  pub index_is : [] ≡ index_at slabs 0

pub alone : (slabs : List Slab) → slabs ≡ [] → Alone slabs
unfolding box_len product index_at
alone slabs none = subst Alone (sym none) (record { within = omega arith; index_is = refl })

pub many-numbers : (slabs : List Slab) (bits : List ℕ → ℕ) → slabs ≢ []
    → numbers_at slabs bits ≡ Values.numbers (map bits (box_of slabs))
many-numbers [] bits many = absurd (many refl)
many-numbers (slab ∷ slabs) bits many = refl

pub many-texts : (slabs : List Slab) (words : List ℕ → List ℕ) → slabs ≢ [] → texts_at slabs words ≡ Values.texts (map
    words (box_of slabs))
many-texts [] words many = absurd (many refl)
many-texts (slab ∷ slabs) words many = refl

pub data-numbers : (n : Portion) → n.array.kind ≢ Text → n.sent.slabs ≢ []
    → data_in n ≡ array_of n
unfolding array_data xdr_of array_of
data-numbers n number many =
    ap (xdr_of n.array.kind) (values-numbers n.array.kind n.sent.slabs (bits_in n) (text_in n) number
    ∙ many-numbers n.sent.slabs (bits_in n) many)

pub data-texts : (n : Portion) → n.array.kind ≡ Text → n.sent.slabs ≢ []
    → data_in n ≡ texts_of n
unfolding array_data xdr_of texts_of
data-texts n text many =
    ap (λ kind. xdr_of kind (values_at kind n.sent.slabs (bits_in n) (text_in n))) text
    ∙ ap (xdr_of Text) (many-texts n.sent.slabs (text_in n) many)

-- how many bytes an array of numbers takes
pub length-numbers : (n : Portion) → n.array.kind ≢ Text → n.sent.slabs ≢ []
    → length (data_in n) ≡ 8 + elements_len n.array.kind (box_len n.sent.slabs)
unfolding array_of
length-numbers n number many =
    let numbers = map (bits_in n) (box_of n.sent.slabs) in
    let count : length numbers ≡ box_len n.sent.slabs =
    length-map (box_of n.sent.slabs) (bits_in n) ∙ length-box_of n.sent.slabs in
    ap length (data-numbers n number many) ∙ length-array_bytes n.array.kind numbers
    ∙ ap (λ (m : ℕ). 8 + elements_len n.array.kind m) count

-- the numbers take no more bytes than the array
pub numbers-small : (n : Portion) (most : ℕ) → n.array.kind ≢ Text → n.sent.slabs ≢ []
    → length (data_in n) < most
    → box_len n.sent.slabs * element_len n.array.kind < most
unfolding elements_len
numbers-small n most number many small =
    omega (arith, length-numbers n number many, small)

-- slabs that fit are few
pub few-slabs : (n : Portion) → IsPortion n → length n.sent.slabs ≤ 1025
few-slabs n portion =
    subst (λ (m : ℕ). m ≤ 1025) (sym (as_many n.array.dims n.sent.slabs portion.fits)) portion.small.rank
