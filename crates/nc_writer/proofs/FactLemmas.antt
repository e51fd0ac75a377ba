-- What holds of each variable of a file: its names, its sizes and its rank.
use Rattle.std.proofs.Common.{◌≡◌, ℕ, suc, ◌+◌, ◌*◌, ◌<◌, ◌≤◌, List, [], ◌∷◌, codes, length, map, All, refl, sym, ap, subst, ◌∙◌, arith}
use Rattle.std.specs.Prelude.{IsTrue}
use Rattle.std.specs.List.{zip, AllByRecursion, AllZip}
use Rattle.std.proofs.Math.Nat.{mul-le-mul_left, mul-le-mul_right}
use Rattle.std.proofs.lemmas.List.{length-append}
use Rattle.std.proofs.lemmas.List.Elements.{All-tail}
use Rattle.nc_model.specs.declared.header.Dim.{Dim}
use Rattle.nc_model.specs.Format.{is_name_text}
use Rattle.nc_model.specs.Kind.{size_of}
use Rattle.nc_model.specs.Layout.{product}
use Rattle.fm_model.specs.Site.{IsPrototype}
use Rattle.fm_dataset.specs.Values.{Shown}
use Rattle.fm_dataset.proofs.CountLemmas.{size-pos}
use Rattle.dap_model.specs.declared.declaration.Array.{Array}
use Rattle.dap_model.specs.declared.declaration.DapKind.{DapKind}
use Rattle.dap_model.specs.declared.declaration.DapKind.TheVariants.{Byte, Int16, Int32, Float32, Float64, Text}
use Rattle.dap_model.specs.declared.projection.Sent.{Sent}
use Rattle.dap_model.specs.declared.projection.Slab.{Slab}
use Rattle.dap_model.specs.Projection.{cut_dim}
use Rattle.dap_model.specs.ProjectionFacts.{FitsDim}
use Rattle.dap_slab.specs.Walking.{HasIndex}
use Rattle.dap_xdr.specs.Datasets.{content_of}
use Rattle.dap_xdr.proofs.DatasetLemmas.{same_array}
use Rattle.nc_writer.specs.declared.variable.Variable.{Variable}
use Rattle.nc_writer.specs.Data.{file_kind, values_len}
use Rattle.nc_writer.specs.Facts.{IsVariableOf}
use Rattle.nc_writer.specs.Variables.{characters_dims, characters_name, is_text, variable_of, variable_with, width_of}
use Rattle.nc_writer.proofs.ArrayLemmas.{named-array, IsNamedArray}
use Rattle.nc_writer.proofs.NameLemmas.{behind, strlen-text}
use Rattle.nc_writer.proofs.ProtoLemmas.{IsNamedDim}
use Rattle.nc_writer.proofs.ShapeLemmas.{sizes_of, HasSize}
use Rattle.nc_writer.proofs.SizeLemmas.{dims-some, each-append, product-some, values-size}
use Rattle.nc_writer.proofs.ValueLemmas.{variable-width, wide}

-- a variable and its dimensions have names, no dimension is empty, it has few dimensions, and its elements are its
-- values
pub record IsNamedVariable (variable : Variable) : Type 0 where
  pub named : IsTrue (is_name_text variable.name)
  pub dims : AllByRecursion IsNamedDim variable.dims
  pub sizes : AllByRecursion HasSize variable.dims
  pub rank : length variable.dims ≤ 1024
  pub size : size_of (file_kind variable.kind) * product (sizes_of variable.dims) ≡ values_len variable

-- ---- the dimension of characters

characters-named : (name : List ℕ) (kind : DapKind) (width : ℕ) → IsTrue (is_name_text name)
    → AllByRecursion IsNamedDim (characters_dims name kind width)
unfolding characters_dims characters_name is_text
characters-named name Byte width named = tt
characters-named name Int16 width named = tt
characters-named name Int32 width named = tt
characters-named name Float32 width named = tt
characters-named name Float64 width named = tt
characters-named name Text width named = (behind name (codes "_strlen") named strlen-text, tt)

ranks-with : (name : List ℕ) (kind : DapKind) (width n : ℕ) → n ≤ 1024 → (kind ≡ Text → n ≤ 1023)
    → n + length (characters_dims name kind width) ≤ 1024
unfolding characters_dims is_text
ranks-with name Byte width n few texts = omega (arith, few)
ranks-with name Int16 width n few texts = omega (arith, few)
ranks-with name Int32 width n few texts = omega (arith, few)
ranks-with name Float32 width n few texts = omega (arith, few)
ranks-with name Float64 width n few texts = omega (arith, few)
ranks-with name Text width n few texts = let fewer = texts refl in omega (arith, fewer)

-- ---- the dimensions that slabs cut

cut-named : (dims : List Dim) (slabs : List Slab) → AllZip FitsDim dims slabs → AllByRecursion IsNamedDim dims
    → AllByRecursion IsNamedDim (map cut_dim (zip dims slabs))
cut-named [] [] fits named = tt
cut-named [] (slab ∷ slabs) fits named = absurd fits
cut-named (dim ∷ dims) [] fits named = absurd fits
cut-named (dim ∷ dims) (slab ∷ slabs) fits named = (named.0, cut-named dims slabs fits.1 named.1)

cut-rank : (dims : List Dim) (slabs : List Slab) → AllZip FitsDim dims slabs
    → length (map cut_dim (zip dims slabs)) ≡ length dims
cut-rank [] [] fits = refl
cut-rank [] (slab ∷ slabs) fits = absurd fits
cut-rank (dim ∷ dims) [] fits = absurd fits
cut-rank (dim ∷ dims) (slab ∷ slabs) fits = ap suc (cut-rank dims slabs fits.1)

with-named : (sent : Sent) (array : Array) (width : ℕ) → AllZip FitsDim array.dims sent.slabs
    → All HasIndex sent.slabs → 1 ≤ width → IsNamedArray array → IsNamedVariable (variable_with sent array width)
unfolding variable_with
with-named sent array width fits some width_some named =
    let cut = map cut_dim (zip array.dims sent.slabs) in
    let characters = characters_dims array.name array.kind width in
    record {
      named = named.named;
      dims = each-append IsNamedDim cut characters (cut-named array.dims sent.slabs fits named.dims)
          (characters-named array.name array.kind width named.named);
      sizes = dims-some sent array width fits some width_some;
      rank =
          let few = ranks-with array.name array.kind width (length array.dims) named.rank named.texts in
          omega (arith, few, length-append cut characters, cut-rank array.dims sent.slabs fits);
      size = values-size sent array width fits;
    }

pub named-variable : (shown : Shown) (variable : Variable) → IsPrototype shown.proto → IsVariableOf shown variable
    → IsNamedVariable variable
unfolding variable_of
named-variable shown variable given is =
    let sent = variable.sent in
    let width = width_of (content_of shown) is.array.kind sent in
    let made : variable ≡ variable_with sent is.array width = is.variable_is in
    let named = named-array shown sent.decl sent.part is.array given
    (sym (same_array shown sent.decl sent.part) ∙ is.part.portion.part_is) in
    let wide_enough : 1 ≤ width =
    subst (λ (n : ℕ). 1 ≤ n) (variable-width (content_of shown) variable is.array is.variable_is)
    (wide shown variable is) in
    subst IsNamedVariable (sym made)
    (with-named sent is.array width is.part.portion.fits is.part.some wide_enough named)

pub named-variables : (shown : Shown) (variables : List Variable) → IsPrototype shown.proto
    → All (IsVariableOf shown) variables → AllByRecursion IsNamedVariable variables
named-variables shown [] given all = tt
named-variables shown (variable ∷ variables) given all = (
  named-variable shown variable given (all 0 variable (omega arith)),
  named-variables shown variables given (All-tail (IsVariableOf shown) variable variables all),
)

-- ---- sizes

-- no dimension is longer than there are elements
sizes-least : (dims : List Dim) (most : ℕ) → AllByRecursion HasSize dims → product (sizes_of dims) ≤ most
    → AllByRecursion (λ (dim : Dim). dim.size ≤ most) dims
unfolding product
sizes-least [] most sizes few = tt
sizes-least (dim ∷ dims) most sizes few =
    let some = product-some dims sizes.1 in
    let rest : 1 ≤ product (sizes_of dims) = omega (arith, some) in
    let first : dim.size * 1 ≤ dim.size * product (sizes_of dims) = mul-le-mul_left dim.size rest in
    let others : 1 * product (sizes_of dims) ≤ dim.size * product (sizes_of dims) =
    mul-le-mul_right (product (sizes_of dims)) sizes.0 in (
      omega (arith, first, few),
      sizes-least dims most sizes.1 (omega (arith, others, few)),
    )

pub sizes-within : (variable : Variable) (most : ℕ) → IsNamedVariable variable → values_len variable ≤ most
    → AllByRecursion (λ (dim : Dim). dim.size ≤ most) variable.dims
sizes-within variable most named few =
    let size = size-pos (file_kind variable.kind) in
    let least : 1 * product (sizes_of variable.dims)
    ≤ size_of (file_kind variable.kind) * product (sizes_of variable.dims) =
    mul-le-mul_right (product (sizes_of variable.dims)) size in
    sizes-least variable.dims most named.sizes (omega (arith, least, named.size, few))

pub values-some : (variable : Variable) → IsNamedVariable variable → 0 < values_len variable
values-some variable named =
    let elements = product-some variable.dims named.sizes in
    let size = size-pos (file_kind variable.kind) in
    let least : 1 * product (sizes_of variable.dims)
    ≤ size_of (file_kind variable.kind) * product (sizes_of variable.dims) =
    mul-le-mul_right (product (sizes_of variable.dims)) size in
    omega (arith, least, named.size, elements)
