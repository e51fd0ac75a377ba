-- How many values the dimensions of a variable have, and that none of them is empty.
use Rattle.std.proofs.Common.{◌≡◌, ℕ, ◌*◌, ◌<◌, ◌≤◌, cond, List, [], ◌∷◌, ◌++◌, map, All, refl, ap, ap₂, ◌∙◌, arith}
use Rattle.std.specs.List.{zip, AllByRecursion, AllZip}
use Rattle.std.proofs.Math.Nat.{mul-le-mul_right}
use Rattle.std.proofs.lemmas.List.{map-append}
use Rattle.std.proofs.lemmas.List.Elements.{All-tail}
use Rattle.nc_model.specs.declared.header.Dim.{Dim}
use Rattle.nc_model.specs.Kind.{size_of}
use Rattle.nc_model.specs.Layout.{product}
use Rattle.dap_model.specs.declared.declaration.Array.{Array}
use Rattle.dap_model.specs.declared.declaration.DapKind.{DapKind}
use Rattle.dap_model.specs.declared.declaration.DapKind.TheVariants.{Byte, Int16, Int32, Float32, Float64, Text}
use Rattle.dap_model.specs.declared.projection.Sent.{Sent}
use Rattle.dap_model.specs.declared.projection.Slab.{Slab}
use Rattle.dap_model.specs.Box.{box_len, slab_count}
use Rattle.dap_model.specs.Projection.{cut_dim}
use Rattle.dap_model.specs.ProjectionFacts.{FitsDim}
use Rattle.dap_slab.specs.Walking.{HasIndex}
use Rattle.dap_slab.proofs.IndexLemmas.{count_of_index}
use Rattle.fm_dataset.proofs.CountLemmas.{product-append}
use Rattle.nc_writer.specs.Data.{file_kind, value_len, values_len}
use Rattle.nc_writer.specs.Variables.{characters_dims, is_text, variable_with}
use Rattle.nc_writer.proofs.ShapeLemmas.{sizes_of, HasSize}

-- the sizes of dimensions that slabs cut
cut-sizes : (dims : List Dim) (slabs : List Slab) → AllZip FitsDim dims slabs
    → sizes_of (map cut_dim (zip dims slabs)) ≡ map slab_count slabs
cut-sizes [] [] fits = refl
cut-sizes [] (slab ∷ slabs) fits = absurd fits
cut-sizes (dim ∷ dims) [] fits = absurd fits
cut-sizes (dim ∷ dims) (slab ∷ slabs) fits = ap (λ (ns : List ℕ). slab_count slab ∷ ns) (cut-sizes dims slabs fits.1)

-- the sizes of a variable's dimensions, and those of its characters
abbrev characters_sizes : DapKind → ℕ → List ℕ
characters_sizes kind width = cond (is_text kind) (width ∷ []) []

characters-are : (name : List ℕ) (kind : DapKind) (width : ℕ)
    → sizes_of (characters_dims name kind width) ≡ characters_sizes kind width
unfolding characters_dims is_text
characters-are name Byte width = refl
characters-are name Int16 width = refl
characters-are name Int32 width = refl
characters-are name Float32 width = refl
characters-are name Float64 width = refl
characters-are name Text width = refl

-- the values of a kind, by how many fields there are
whole-size : (kind : DapKind) (width n : ℕ)
    → size_of (file_kind kind) * (n * product (characters_sizes kind width)) ≡ n * value_len kind width
unfolding product is_text file_kind value_len
whole-size Byte width n = omega arith
whole-size Int16 width n = omega arith
whole-size Int32 width n = omega arith
whole-size Float32 width n = omega arith
whole-size Float64 width n = omega arith
whole-size Text width n = grind arith

pub sizes-are : (sent : Sent) (array : Array) (width : ℕ) → AllZip FitsDim array.dims sent.slabs
    → sizes_of (variable_with sent array width).dims
    ≡ map slab_count sent.slabs ++ characters_sizes array.kind width
unfolding variable_with
sizes-are sent array width fits =
    map-append (λ (dim : Dim). dim.size) (map cut_dim (zip array.dims sent.slabs))
    (characters_dims array.name array.kind width)
    ∙ ap₂ (λ (l r : List ℕ). l ++ r) (cut-sizes array.dims sent.slabs fits)
    (characters-are array.name array.kind width)

-- the dimensions have as many elements as the values have bytes
pub values-size : (sent : Sent) (array : Array) (width : ℕ) → AllZip FitsDim array.dims sent.slabs
    → size_of (file_kind array.kind) * product (sizes_of (variable_with sent array width).dims)
    ≡ values_len (variable_with sent array width)
unfolding values_len variable_with box_len
values-size sent array width fits =
    ap (λ (s : List ℕ). size_of (file_kind array.kind) * product s) (sizes-are sent array width fits)
    ∙ ap (λ (n : ℕ). size_of (file_kind array.kind) * n)
    (product-append (map slab_count sent.slabs) (characters_sizes array.kind width))
    ∙ whole-size array.kind width (product (map slab_count sent.slabs))

-- no dimension is empty
cut-some : (dims : List Dim) (slabs : List Slab) → AllZip FitsDim dims slabs → All HasIndex slabs
    → AllByRecursion HasSize (map cut_dim (zip dims slabs))
cut-some [] [] fits some = tt
cut-some [] (slab ∷ slabs) fits some = absurd fits
cut-some (dim ∷ dims) [] fits some = absurd fits
cut-some (dim ∷ dims) (slab ∷ slabs) fits some =
    let count = count_of_index slab (some 0 slab (omega arith)) in
    (omega (arith, count), cut-some dims slabs fits.1 (All-tail HasIndex slab slabs some))

pub each-append : {A : Type 0} (P : A → Type 0) (xs ys : List A) → AllByRecursion P xs → AllByRecursion P ys
    → AllByRecursion P (xs ++ ys)
each-append P [] ys one other = other
each-append P (x ∷ xs) ys one other = (one.0, each-append P xs ys one.1 other)

characters-some : (name : List ℕ) (kind : DapKind) (width : ℕ) → 1 ≤ width
    → AllByRecursion HasSize (characters_dims name kind width)
unfolding characters_dims is_text
characters-some name Byte width some = tt
characters-some name Int16 width some = tt
characters-some name Int32 width some = tt
characters-some name Float32 width some = tt
characters-some name Float64 width some = tt
characters-some name Text width some = (some, tt)

pub dims-some : (sent : Sent) (array : Array) (width : ℕ) → AllZip FitsDim array.dims sent.slabs
    → All HasIndex sent.slabs → 1 ≤ width → AllByRecursion HasSize (variable_with sent array width).dims
unfolding variable_with
dims-some sent array width fits some wide =
    each-append HasSize (map cut_dim (zip array.dims sent.slabs)) (characters_dims array.name array.kind width)
    (cut-some array.dims sent.slabs fits some) (characters-some array.name array.kind width wide)

pub product-some : (dims : List Dim) → AllByRecursion HasSize dims → 0 < product (sizes_of dims)
unfolding product
product-some [] sizes = omega arith
product-some (dim ∷ dims) sizes =
    let rest = product-some dims sizes.1 in
    let least = mul-le-mul_right (product (sizes_of dims)) sizes.0 in
    omega (arith, rest, least)
