-- The values of a part with slabs: how long they are, and where the value at an index stands.
use Rattle.std.proofs.Common.{◌≡◌, ◌≢◌, ℕ, ◌<◌, List, [], ◌∷◌, length, get_or, map, refl, sym, ap, subst, ◌∙◌}
use Rattle.std.proofs.lemmas.List.{get_or-map, length-map}
use Rattle.dap_model.specs.declared.declaration.DapKind.{DapKind}
use Rattle.dap_model.specs.declared.declaration.DapKind.TheVariants.{Byte, Int16, Int32, Float32, Float64, Text}
use Rattle.dap_model.specs.declared.projection.Slab.{Slab}
use Rattle.dap_model.specs.Box.{box_of, box_len, index_at}
use Rattle.dap_model.specs.Xdr.{array_bytes, xdr_of, values_at}
use Rattle.dap_model.proofs.BoxLemmas.{length-box_of, get_or-box_of}

-- numbers that slabs pick are an array
pub array_at : (kind : DapKind) (slabs : List Slab) (bits : List ℕ → ℕ) (words : List ℕ → List ℕ) → kind ≢ Text
    → slabs ≢ []
    → xdr_of kind (values_at kind slabs bits words) ≡ array_bytes kind (map bits (box_of slabs))
unfolding xdr_of
array_at kind [] bits words number some = absurd (some refl)
array_at Byte (slab ∷ slabs) bits words number some = refl
array_at Int16 (slab ∷ slabs) bits words number some = refl
array_at Int32 (slab ∷ slabs) bits words number some = refl
array_at Float32 (slab ∷ slabs) bits words number some = refl
array_at Float64 (slab ∷ slabs) bits words number some = refl
array_at Text (slab ∷ slabs) bits words number some = absurd (number refl)

-- there are as many numbers as elements
pub length-numbers : (slabs : List Slab) (bits : List ℕ → ℕ) → length (map bits (box_of slabs)) ≡ box_len slabs
length-numbers slabs bits = length-map (box_of slabs) bits ∙ length-box_of slabs

-- the number of an element is that at its index list
pub get_or-numbers : (slabs : List Slab) (bits : List ℕ → ℕ) (element : ℕ) → element < box_len slabs
    → get_or (map bits (box_of slabs)) element 0 ≡ bits (index_at slabs element)
get_or-numbers slabs bits element within =
    get_or-map bits (box_of slabs) element [] 0 (subst (λ (n : ℕ). element < n) (sym (length-box_of slabs)) within)
    ∙ ap bits (get_or-box_of slabs element [] within)
