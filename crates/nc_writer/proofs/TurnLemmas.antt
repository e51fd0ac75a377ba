-- Values that stand together in a file, written at once.
use Rattle.std.proofs.Common.{◌≡◌, ◌≢◌, ℕ, ◌+◌, ◌-◌, ◌*◌, ◌/◌, ◌<◌, ◌≤◌, ◌⊎◌, List, [], ◌∷◌, ◌++◌, length, map, take, drop, inl, inr, refl, sym, ap, ap₂, subst, ◌∙◌, arith}
use Rattle.std.specs.List.{flat_map}
use Rattle.std.proofs.Math.Nat.{mul-le-mul_right}
use Rattle.std.proofs.lemmas.Bool.{cases_lt}
use Rattle.std.proofs.lemmas.List.{append-nil, length-drop, length-take, length-take-le, take_all}
use Rattle.std.proofs.lemmas.Nat.{div-mul-add}
use Rattle.dap_model.specs.declared.declaration.DapKind.{DapKind}
use Rattle.dap_model.specs.declared.declaration.DapKind.TheVariants.{Byte, Int16, Int32, Float32, Float64, Text}
use Rattle.dap_model.specs.Box.{box_len, box_of, index_at}
use Rattle.dap_model.proofs.BoxLemmas.{length-box_of}
use Rattle.dap_number.specs.Overlay.{IsPut}
use Rattle.fm_dataset.specs.Values.{Shown}
use Rattle.dap_xdr.specs.Content.{Content}
use Rattle.dap_xdr.specs.Datasets.{content_of, IsStretchOf}
use Rattle.dap_xdr.specs.Stretch.{stored_bytes, ArePicked}
use Rattle.dap_xdr.proofs.ElementLemmas.{flat-length}
use Rattle.dap_xdr.proofs.PickedLemmas.{drop-element}
use Rattle.nc_writer.specs.declared.values.Turn.{Turn}
use Rattle.nc_writer.specs.declared.variable.Variable.{Variable}
use Rattle.nc_writer.specs.Data.{value_at, value_len, values_in}
use Rattle.nc_writer.specs.Facts.{IsTurn, IsVariableOf}
use Rattle.nc_writer.proofs.ValueLemmas.{length-value_at, value-number, value-some, variable-kind}

-- a kind is that of texts, or of numbers
text_or_not : (kind : DapKind) → (kind ≡ Text) ⊎ (kind ≢ Text)
text_or_not Byte = inr (λ is. absurd cc)
text_or_not Int16 = inr (λ is. absurd cc)
text_or_not Int32 = inr (λ is. absurd cc)
text_or_not Float32 = inr (λ is. absurd cc)
text_or_not Float64 = inr (λ is. absurd cc)
text_or_not Text = inl refl

-- the value of one element
pub one-value : (content : Content) (variable : Variable) (element : ℕ) (index : List ℕ)
    → element < box_len variable.sent.slabs → index ≡ index_at variable.sent.slabs element
    → values_in content variable element 1 ≡ value_at content variable index
unfolding values_in
one-value content variable element index within same =
    ap (λ (l : List (List ℕ)). flat_map (value_at content variable) (take 1 l))
    (drop-element variable.sent.slabs element within)
    ∙ append-nil (value_at content variable (index_at variable.sent.slabs element))
    ∙ ap (value_at content variable) (sym same)

-- the first items of a list, taken by how many they are
take-taken : {A : Type 0} (count : ℕ) (xs : List A) → take (length (take count xs)) xs ≡ take count xs
take-taken {A} count xs = elim (cases_lt (length xs) count) [
  | inl short ↦
      let all : take count xs ≡ xs = take_all count xs (omega (arith, short)) in
      ap (λ (l : List A). take (length l) xs) all ∙ take_all (length xs) xs (omega arith) ∙ sym all
  | inr within ↦ ap (λ (n : ℕ). take n xs) (length-take-le count xs within)
]

-- numbers as they stand in a file are the values of a variable
stored-values : (content : Content) (variable : Variable) (kind : DapKind) → variable.kind ≡ kind → kind ≢ Text
    → (xs : List (List ℕ))
    → flat_map (stored_bytes kind) (map (content.bits variable.sent.decl variable.sent.part) xs)
    ≡ flat_map (value_at content variable) xs
unfolding value_at
stored-values content variable kind is number [] = refl
stored-values content variable kind is number (index ∷ xs) =
    ap₂ (λ (l r : List ℕ). l ++ r) first (stored-values content variable kind is number xs)
  where
    first : stored_bytes kind (content.bits variable.sent.decl variable.sent.part index)
        ≡ value_at content variable index
    first =
        let bits = content.bits variable.sent.decl variable.sent.part index in
        ap (λ (k : DapKind). stored_bytes k bits) (sym is)
        ∙ sym (value-number variable.kind variable.width bits _ (λ text. number (sym is ∙ text)))

-- texts have no numbers
no-numbers : (kind : DapKind) (numbers : List ℕ) → kind ≡ Text → flat_map (stored_bytes kind) numbers ≡ []
unfolding stored_bytes
no-numbers kind [] is = refl
no-numbers kind (bits ∷ numbers) is =
    ap₂ (λ (l r : List ℕ). l ++ r) (ap (λ (k : DapKind). stored_bytes k bits) is) (no-numbers kind numbers is)

-- a number of whole values that stand together
pub record Together (content : Content) (variable : Variable) (element : ℕ) (bytes : List ℕ) : Type 0 where
  pub count : ℕ
  pub bytes_are : bytes ≡ values_in content variable element count
  pub long : length bytes ≡ count * value_len variable.kind variable.width
  pub within : count ≤ box_len variable.sent.slabs - element

pub together : (shown : Shown) (variable : Variable) (element : ℕ) (bytes : List ℕ) → IsVariableOf shown variable
    → IsStretchOf shown variable.sent element bytes → Together (content_of shown) variable element bytes
unfolding values_in
together shown variable element bytes is stretch = elim (text_or_not variable.kind) [
  | inl text ↦
      let none : bytes ≡ [] = picked.bytes_are.bytes_are ∙ no-numbers is.array.kind _ (sym kind ∙ text) in
      let empty : length bytes ≡ 0 = ap length none in
      record { count = 0; bytes_are = none; long = omega (arith, empty); within = omega arith }
  | inr number ↦
      let same : bytes ≡ flat_map (value_at content variable) xs =
      picked.bytes_are.bytes_are
      ∙ stored-values content variable is.array.kind kind (λ t. number (kind ∙ t)) xs in
      record {
        count = length xs;
        bytes_are = same
            ∙ ap (flat_map (value_at content variable)) (sym (take-taken picked.count (drop element box)));
        long = ap length same
            ∙ flat-length (value_at content variable) (value_len variable.kind variable.width)
            (length-value_at content variable) xs;
        within = omega (
          arith,
          length-take picked.count (drop element box),
          length-drop element box,
          length-box_of variable.sent.slabs,
        );
      }
]
  where
    content : Content
    content = content_of shown

    box : List (List ℕ)
    box = box_of variable.sent.slabs

    kind : variable.kind ≡ is.array.kind
    kind = variable-kind (content_of shown) variable is.array is.variable_is

    picked : ArePicked is.array.kind (content.bits variable.sent.decl variable.sent.part) variable.sent.slabs element
        18_446_744_073_709_551_615 bytes
    picked = stretch is.array is.part.portion.part_is

    xs : List (List ℕ)
    xs = take picked.count (drop element box)

-- how many they are, by their length
pub together-count : (content : Content) (variable : Variable) (element values : ℕ) (bytes : List ℕ)
    → 0 < value_len variable.kind variable.width → (stretch : Together content variable element bytes)
    → values ≡ length bytes / value_len variable.kind variable.width → values ≡ stretch.count
together-count content variable element values bytes some stretch is =
    let width = value_len variable.kind variable.width in
    let whole : length bytes ≡ stretch.count * width + 0 = stretch.long ∙ omega arith in
    is ∙ ap (λ (n : ℕ). n / width) whole ∙ div-mul-add stretch.count width 0 some

-- what is written of them is a turn
pub stretch-turn : (shown : Shown) (variable : Variable) (element passed : ℕ) (turn : Turn) (bytes old new : List ℕ)
    → IsVariableOf shown variable → element < box_len variable.sent.slabs
    → IsStretchOf shown variable.sent element bytes
    → turn.values ≡ length bytes / value_len variable.kind variable.width → 1 ≤ turn.values
    → IsPut (drop passed bytes) old new turn.bytes
    → IsTurn (content_of shown) variable element passed turn old new
stretch-turn shown variable element passed turn bytes old new is below stretch values_are some put =
    let content = content_of shown in
    let whole = together shown variable element bytes is stretch in
    let same = together-count content variable element turn.values bytes (value-some shown variable is) whole
    values_are in
    record {
      some = some;
      within = omega (arith, below, same, whole.within);
      put_is = subst (λ (l : List ℕ). IsPut (drop passed l) old new turn.bytes)
          (whole.bytes_are ∙ ap (values_in content variable element) (sym same)) put;
    }

-- and so is what is written of one value
pub one-turn : (shown : Shown) (variable : Variable) (element passed count : ℕ) (index old new : List ℕ)
    → element < box_len variable.sent.slabs → index ≡ index_at variable.sent.slabs element
    → IsPut (drop passed (value_at (content_of shown) variable index)) old new count
    → IsTurn (content_of shown) variable element passed (record { values = 1; bytes = count }) old new
one-turn shown variable element passed count index old new below same put = record {
  some = omega arith;
  within = omega (arith, below);
  put_is = subst (λ (l : List ℕ). IsPut (drop passed l) old new count)
      (sym (one-value (content_of shown) variable element index below same)) put;
}

-- some values take as many times the bytes of one
pub length-values_in : (content : Content) (variable : Variable) (element count : ℕ)
    → element + count ≤ box_len variable.sent.slabs
    → length (values_in content variable element count) ≡ count * value_len variable.kind variable.width
unfolding values_in
length-values_in content variable element count within =
    let box = box_of variable.sent.slabs in
    let many : count ≤ length (drop element box) =
    omega (arith, within, length-drop element box, length-box_of variable.sent.slabs) in
    flat-length (value_at content variable) (value_len variable.kind variable.width) (length-value_at content variable)
    (take count (drop element box))
    ∙ ap (λ (n : ℕ). n * value_len variable.kind variable.width) (length-take-le count (drop element box) many)

-- once a value is written, no bytes are left to be passed over
pub none-left : (content : Content) (variable : Variable) (element values left : ℕ)
    → left < value_len variable.kind variable.width → 1 ≤ values → element + values ≤ box_len variable.sent.slabs
    → 0 ≡ left - length (values_in content variable element values)
none-left content variable element values left below some within =
    let width = value_len variable.kind variable.width in
    let one : 1 * width ≤ values * width = mul-le-mul_right width some in
    omega (arith, below, one, length-values_in content variable element values within)
