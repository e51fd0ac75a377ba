-- How long the values of a variable are, and that each is there.
use Rattle.std.proofs.Common.{◌≡◌, ◌≢◌, ℕ, ◌-◌, ◌*◌, ◌/◌, ◌%◌, ◌^◌, ◌<◌, ◌≤◌, List, ◌++◌, length, min, replicate, take, drop, Option, inl, inr, refl, sym, ap, ap₂, subst, ◌∙◌, arith}
use Rattle.std.specs.Prelude.{IsSomeAnd}
use Rattle.std.proofs.Math.Nat.{mul-le-mul_right}
use Rattle.std.proofs.lemmas.Bool.{cases_lt}
use Rattle.std.proofs.lemmas.List.{length-append, length-replicate, length-take, length-take-le, take_all}
use Rattle.std.proofs.lemmas.Nat.{div-add-mod'}
use Rattle.nc_model.specs.Layout.{IsIndex}
use Rattle.dap_model.specs.declared.declaration.Array.{Array}
use Rattle.dap_model.specs.declared.declaration.DapKind.{DapKind}
use Rattle.dap_model.specs.declared.declaration.DapKind.TheVariants.{Byte, Int16, Int32, Float32, Float64, Text}
use Rattle.dap_model.specs.Box.{box_len, box_of, index_at}
use Rattle.dap_model.proofs.BoxLemmas.{length-box_of}
use Rattle.fm_dataset.specs.Values.{shape_of_array, HasNumber, HasNumberAt, HasText, HasTextAt, Shown}
use Rattle.dap_xdr.specs.Content.{Content}
use Rattle.dap_xdr.specs.Datasets.{content_of}
use Rattle.dap_number.specs.Overlay.{IsPut}
use Rattle.dap_xdr.specs.Stretch.{stored_bytes}
use Rattle.dap_xdr.proofs.DatasetLemmas.{same_array}
use Rattle.dap_xdr.proofs.ElementLemmas.{flat-length}
use Rattle.dap_xdr.proofs.PickedLemmas.{index_at-within}
use Rattle.nc_writer.specs.declared.variable.Variable.{Variable}
use Rattle.nc_writer.specs.Data.{file_kind, filled, value_at, value_bytes, value_len, values_len, values_of}
use Rattle.nc_writer.specs.Facts.{HasValue, IsVariableOf}
use Rattle.nc_writer.specs.Variables.{is_text, texts_sent, variable_of, variable_with, width_of}
use Rattle.nc_writer.proofs.PieceLemmas.{before, put-past, so-far-first, SoFar}
use Rattle.nc_writer.proofs.TextLemmas.{longest-least}

-- a text in a field
pub length-filled : (width : ℕ) (text : List ℕ) → length (filled width text) ≡ width
unfolding filled
length-filled width text = omega (
  arith,
  length-append (take width text) (replicate (width - length text) 0),
  length-take width text,
  length-replicate {A = ℕ} (width - length text) 0,
)

pub length-value : (kind : DapKind) (width bits : ℕ) (text : List ℕ)
    → length (value_bytes kind width bits text) ≡ value_len kind width
unfolding value_bytes value_len file_kind is_text stored_bytes
length-value Byte width bits text = refl
length-value Int16 width bits text = refl
length-value Int32 width bits text = refl
length-value Float32 width bits text = refl
length-value Float64 width bits text = refl
length-value Text width bits text = length-filled width text

-- the value of a number, and of a text
pub value-number : (kind : DapKind) (width bits : ℕ) (text : List ℕ) → kind ≢ Text
    → value_bytes kind width bits text ≡ stored_bytes kind bits
unfolding value_bytes is_text
value-number Byte width bits text number = refl
value-number Int16 width bits text number = refl
value-number Int32 width bits text number = refl
value-number Float32 width bits text number = refl
value-number Float64 width bits text number = refl
value-number Text width bits text number = absurd (number refl)

pub value-text : (kind : DapKind) (width bits : ℕ) (text : List ℕ) → kind ≡ Text
    → value_bytes kind width bits text ≡ filled width text
unfolding value_bytes is_text
value-text kind width bits text is = ap (λ (k : DapKind). value_bytes k width bits text) is

pub length-value_at : (content : Content) (variable : Variable) (index : List ℕ)
    → length (value_at content variable index) ≡ value_len variable.kind variable.width
unfolding value_at
length-value_at content variable index = length-value variable.kind variable.width _ _

pub length-values_of : (content : Content) (variable : Variable)
    → length (values_of content variable) ≡ values_len variable
unfolding values_of values_len
length-values_of content variable =
    flat-length (value_at content variable) (value_len variable.kind variable.width) (length-value_at content variable)
    (box_of variable.sent.slabs)
    ∙ ap (λ (n : ℕ). n * value_len variable.kind variable.width) (length-box_of variable.sent.slabs)

-- each field of texts has a byte
width-some : (content : Content) (kind : DapKind) (variable : Variable)
    → 1 ≤ width_of content kind variable.sent
unfolding width_of is_text
width-some content Byte variable = omega arith
width-some content Int16 variable = omega arith
width-some content Int32 variable = omega arith
width-some content Float32 variable = omega arith
width-some content Float64 variable = omega arith
width-some content Text variable = longest-least (texts_sent content variable.sent)

value_len-some : (kind : DapKind) (width : ℕ) → 1 ≤ width → 1 ≤ value_len kind width
unfolding value_len file_kind is_text
value_len-some Byte width some = omega arith
value_len-some Int16 width some = omega arith
value_len-some Int32 width some = omega arith
value_len-some Float32 width some = omega arith
value_len-some Float64 width some = omega arith
value_len-some Text width some = some

value_len-most : (kind : DapKind) (width : ℕ) → width < 2 ^ 32 → value_len kind width < 2 ^ 32
unfolding value_len file_kind is_text
value_len-most Byte width few = omega arith
value_len-most Int16 width few = omega arith
value_len-most Int32 width few = omega arith
value_len-most Float32 width few = omega arith
value_len-most Float64 width few = omega arith
value_len-most Text width few = few

-- what a variable is, by that of its part
pub variable-kind : (content : Content) (variable : Variable) (array : Array)
    → variable ≡ variable_of content variable.sent array → variable.kind ≡ array.kind
unfolding variable_of variable_with
variable-kind content variable array is = ap (λ (v : Variable). v.kind) is

pub variable-width : (content : Content) (variable : Variable) (array : Array)
    → variable ≡ variable_of content variable.sent array
    → variable.width ≡ width_of content array.kind variable.sent
unfolding variable_of variable_with
variable-width content variable array is = ap (λ (v : Variable). v.width) is

-- the field of a value has a byte
pub wide : (shown : Shown) (variable : Variable) → IsVariableOf shown variable → 1 ≤ variable.width
wide shown variable is =
    let some = width-some (content_of shown) is.array.kind variable in
    let width = variable-width (content_of shown) variable is.array is.variable_is in
    omega (arith, some, width)

pub value-some : (shown : Shown) (variable : Variable) → IsVariableOf shown variable
    → 0 < value_len variable.kind variable.width
value-some shown variable is =
    let least = value_len-some variable.kind variable.width (wide shown variable is) in
    omega (arith, least)

pub value-most : (shown : Shown) (variable : Variable) → IsVariableOf shown variable
    → value_len variable.kind variable.width < 2 ^ 32
value-most shown variable is = value_len-most variable.kind variable.width is.narrow

-- a variable has a value at the index list of each element
pub has-value : (shown : Shown) (variable : Variable) (element : ℕ) (index : List ℕ) → IsVariableOf shown variable
    → element < box_len variable.sent.slabs → index ≡ index_at variable.sent.slabs element
    → HasValue shown variable index
has-value shown variable element index is within same = record {
  array = is.array;
  array_is = sym (same_array shown variable.sent.decl variable.sent.part) ∙ is.part.portion.part_is;
  kind_is = variable-kind (content_of shown) variable is.array is.variable_is;
  index_is = subst (IsIndex (shape_of_array is.array)) (sym same)
      (index_at-within is.array.dims variable.sent.slabs element is.part.portion.fits within);
}

-- what `bits` and `text` ask
pub number-there : (shown : Shown) (variable : Variable) (index : List ℕ) → HasValue shown variable index
    → variable.kind ≢ Text → HasNumber shown variable.sent.decl variable.sent.part index
number-there shown variable index has number =
    subst (λ (o : Option Array). IsSomeAnd o (HasNumberAt index)) (sym has.array_is)
    (record { number = λ is. number (has.kind_is ∙ is); index_is = has.index_is })

pub text-there : (shown : Shown) (variable : Variable) (index : List ℕ) → HasValue shown variable index
    → variable.kind ≡ Text → HasText shown variable.sent.decl variable.sent.part index
text-there shown variable index has text =
    subst (λ (o : Option Array). IsSomeAnd o (HasTextAt index)) (sym has.array_is)
    (record { text = sym has.kind_is ∙ text; index_is = has.index_is })

-- the element with which a piece begins
pub record Begins (width from : ℕ) : Type 0 where
  pub below : from / width * width ≤ from
  pub left : from % width ≡ from - from / width * width

pub begins : (width from : ℕ) → 0 < width → Begins width from
begins width from some =
    let spread = div-add-mod' from width in
    record { below = omega (arith, spread); left = omega (arith, spread) }

-- before the first value of a piece
pub values-first : (content : Content) (variable : Variable) (from : ℕ) (old : List ℕ)
    → 0 < value_len variable.kind variable.width
    → from / value_len variable.kind variable.width < box_len variable.sent.slabs
    → SoFar (value_at content variable) (box_of variable.sent.slabs) from 0
    (from / value_len variable.kind variable.width) (from % value_len variable.kind variable.width) old old
values-first content variable from old some within =
    let width = value_len variable.kind variable.width in
    let box = box_of variable.sent.slabs in
    let element = from / width in
    let start = begins width from some in
    let few : element ≤ length box = omega (arith, length-box_of variable.sent.slabs, within) in
    let many : length (before (value_at content variable) box element) ≡ element * width =
    flat-length (value_at content variable) width (length-value_at content variable) (take element box)
    ∙ ap (λ (n : ℕ). n * width) (length-take-le element box few) in
    so-far-first (value_at content variable) box from element (from % width) old
    (omega (arith, many, start.below)) (omega (arith, many, start.left))

-- behind the last value there is nothing
pub values-past : (content : Content) (variable : Variable) (from : ℕ) (old : List ℕ)
    → 0 < value_len variable.kind variable.width
    → box_len variable.sent.slabs ≤ from / value_len variable.kind variable.width
    → IsPut (drop from (values_of content variable)) old old 0
unfolding values_len
values-past content variable from old some past =
    let width = value_len variable.kind variable.width in
    let start = begins width from some in
    let most : box_len variable.sent.slabs * width ≤ from / width * width = mul-le-mul_right width past in
    put-past (values_of content variable) old from
    (omega (arith, length-values_of content variable, most, start.below))

-- a text that is cut to a width, and the zero bytes behind it
pub record Shows (text : List ℕ) (width len : ℕ) (front : List ℕ) : Type 0 where
  pub long : length front ≡ len
  pub whole : filled width text ≡ front ++ replicate (width - len) 0

pub shown-front : (text : List ℕ) (width len : ℕ) (front : List ℕ) → len ≡ min (length text) width
    → front ≡ take len text → Shows text width len front
unfolding filled
shown-front text width len front is front_is =
    record {
      long = ap length front_is ∙ length-take-le len text (omega (arith, is));
      whole = ap₂ (λ (l : List ℕ) (n : ℕ). l ++ replicate n 0)
          (cut ∙ sym front_is) (omega (arith, is));
    }
  where
    cut : take width text ≡ take len text
    cut = elim (cases_lt (length text) width) [
      | inl short ↦
          take_all width text (omega (arith, short))
          ∙ sym (take_all len text (omega (arith, is, short)))
      | inr within ↦ ap (λ (n : ℕ). take n text) (omega (arith, is, within))
    ]
