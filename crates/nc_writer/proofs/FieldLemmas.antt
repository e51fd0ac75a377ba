-- What is written as a field of a header is a spelling of it: words, names, lists, dimensions and attributes.
use Rattle.std.proofs.Common.{◌≡◌, ◌⊎◌, ℕ, suc, ◌+◌, ◌*◌, ◌%◌, ◌^◌, ◌<◌, ◌≤◌, List, [], ◌∷◌, ◌++◌, length, inl, inr, refl, sym, ap, ◌∙◌, append_assoc, arith}
use Rattle.std.specs.Prelude.{IsTrue}
use Rattle.std.specs.List.{flat_map, AllByRecursion}
use Rattle.std.proofs.lemmas.Bool.{cases_eq, cond-false, ne_eqb}
use Rattle.std.proofs.lemmas.List.{length-append}
use Rattle.nc_model.specs.declared.header.Attr.{Attr}
use Rattle.nc_model.specs.declared.header.Dim.{Dim}
use Rattle.nc_model.specs.declared.kind.Kind.{Kind}
use Rattle.nc_model.specs.declared.kind.Kind.TheVariants.{Byte, Char, Short, Int, Float, Double}
use Rattle.nc_model.specs.Format.{padded_len, is_name_text, ATTRIBUTE_TAG, DIMENSION_TAG}
use Rattle.nc_model.specs.Kind.{code_of, size_of}
use Rattle.nc_model.specs.Spelling.{Spelled, SpellsAttr, SpellsCount, SpellsDim, SpellsList, SpellsName, SpellsPadded, SpellsWord}
use Rattle.fm_gen.specs.Fields.{counted, dim_text, padding, tagged, word}
use Rattle.dap_das.specs.AttributeText.{value_count}
use Rattle.nc_writer.specs.Header.{attr_bytes, dim_bytes, list_bytes, list_front, values_bytes}

pub length-word : (n : ℕ) → length (word n) ≡ 4
unfolding word
length-word n = refl

pub spells-word : (n : ℕ) → n < 2 ^ 32 → SpellsWord (word n) n
unfolding word
spells-word n small = record { small = small; text_is = refl }

pub spells-count : (n : ℕ) → n < 2 ^ 31 → SpellsCount (word n) n
unfolding word
spells-count n small = record { small = small; text_is = refl }

-- as many zero bytes as are missing to a multiple of four
pub length-padding : (n : ℕ) → n + length (padding n) ≡ padded_len n
length-padding n = by_rest (cases_eq (n % 4) 1) (cases_eq (n % 4) 2) (cases_eq (n % 4) 3)
  where
    Case : ℕ → Type 0
    Case k = (n % 4 ≡ k) ⊎ ((n % 4 ≡ k) → ⊥)

    by_rest : Case 1 → Case 2 → Case 3 → n + length (padding n) ≡ padded_len n
    by_rest (inl one) b c = rw one (omega (arith, one))
    by_rest (inr a) (inl two) c = rw two (omega (arith, two))
    by_rest (inr a) (inr b) (inl three) = rw three (omega (arith, three))
    by_rest (inr a) (inr b) (inr c) =
        ap (λ (l : List ℕ). n + length l)
        (cond-false _ _ _ (ne_eqb (n % 4) 1 a) ∙ cond-false _ _ _ (ne_eqb (n % 4) 2 b)
        ∙ cond-false _ _ _ (ne_eqb (n % 4) 3 c))
        ∙ omega (arith, a, b, c)

spells-padded : (bytes : List ℕ) → SpellsPadded (bytes ++ padding (length bytes)) bytes
spells-padded bytes = record {
  padding = padding (length bytes);
  text_is = refl;
  length_is = length-append bytes (padding (length bytes)) ∙ length-padding (length bytes);
}

-- ---- names

pub length-counted : (bytes : List ℕ) → length (counted bytes) ≡ 4 + padded_len (length bytes)
unfolding counted
length-counted bytes = omega (
  arith,
  length-append (word (length bytes) ++ bytes) (padding (length bytes)),
  length-append (word (length bytes)) bytes,
  length-word (length bytes),
  length-padding (length bytes),
)

pub spells-name : (name : List ℕ) → IsTrue (is_name_text name) → length (counted name) < 2 ^ 31
    → SpellsName (counted name) name
unfolding counted
spells-name name named small = record {
  count_text = word (length name);
  name_text = name ++ padding (length name);
  count = spells-count (length name) (omega (arith, length-counted name, small));
  named = named;
  bytes = spells-padded name;
  text_is = append_assoc (word (length name)) name (padding (length name));
}

-- ---- lists

-- items one after the other, of each of which a fact holds
pub spelled-all : {A : Type 0} (S : List ℕ → A → Type 0) (f : A → List ℕ) (P : A → Type 0)
    → ((x : A) → P x → length (f x) < 2 ^ 31 → S (f x) x)
    → (items : List A) → AllByRecursion P items → length (flat_map f items) < 2 ^ 31
    → Spelled S (flat_map f items) items
spelled-all S f P each [] all small = refl
spelled-all S f P each (x ∷ items) all small =
    let whole = length-append (f x) (flat_map f items) in (
      f x,
      flat_map f items,
      each x all.0 (omega (arith, whole, small)),
      spelled-all S f P each items all.1 (omega (arith, whole, small)),
      refl,
    )

-- each item takes a byte at least
pub few-items : {A : Type 0} (f : A → List ℕ) → ((x : A) → 1 ≤ length (f x)) → (items : List A)
    → length items ≤ length (flat_map f items)
few-items f some [] = omega arith
few-items f some (x ∷ items) =
    omega (arith, length-append (f x) (flat_map f items), some x, few-items f some items)

-- the front of a list that isn't empty
pub front-some : (tag more : ℕ) → list_front tag (suc more) ≡ tagged tag (suc more)
unfolding list_front
front-some tag more = cond-false _ _ _ (ne_eqb (suc more) 0 (λ none. absurd (omega (arith, none))))

spells-list : {A : Type 0} (tag : ℕ) (S : List ℕ → A → Type 0) (f : A → List ℕ) (P : A → Type 0)
    → ((x : A) → P x → length (f x) < 2 ^ 31 → S (f x) x) → ((x : A) → 1 ≤ length (f x))
    → (items : List A) → AllByRecursion P items → length (flat_map f items) < 2 ^ 31
    → SpellsList tag S (list_bytes tag f items) items
unfolding list_front word
spells-list tag S f P each some [] all small = inl (record { none = refl; text_is = refl })
spells-list tag S f P each some (x ∷ items) all small = inr (record {
  count_text = word (length (x ∷ items));
  items_text = flat_map f (x ∷ items);
  count = spells-count (length (x ∷ items)) (omega (arith, few-items f some (x ∷ items), small));
  each = spelled-all S f P each (x ∷ items) all small;
  text_is = ap (λ (l : List ℕ). l ++ flat_map f (x ∷ items)) (front-some tag (length items));
})

-- ---- dimensions and attributes

-- a dimension can be written: its name is one, and its size is small
pub record IsWritableDim (dim : Dim) : Type 0 where
  pub named : IsTrue (is_name_text dim.name)
  pub small : dim.size < 2 ^ 31

spells-dim : (dim : Dim) → IsWritableDim dim → length (dim_bytes dim) < 2 ^ 31 → SpellsDim (dim_bytes dim) dim
unfolding dim_text
spells-dim dim can small = record {
  name_text = counted dim.name;
  size_text = word dim.size;
  name = spells-name dim.name can.named (omega (arith, length-append (counted dim.name) (word dim.size), small));
  size = spells-count dim.size can.small;
  text_is = refl;
}

-- an attribute can be written: its name is one, and its bytes are whole values
pub record IsWritableAttr (attr : Attr) : Type 0 where
  pub named : IsTrue (is_name_text attr.name)
  pub whole : length attr.values ≡ value_count attr.kind attr.values * size_of attr.kind

count-least : (attr : Attr) → IsWritableAttr attr → value_count attr.kind attr.values ≤ length attr.values
count-least attr can = by_kind attr.kind can.whole
  where
    by_kind : (kind : Kind) → length attr.values ≡ value_count kind attr.values * size_of kind
        → value_count kind attr.values ≤ length attr.values
    by_kind Byte e = omega (arith, e)
    by_kind Char e = omega (arith, e)
    by_kind Short e = omega (arith, e)
    by_kind Int e = omega (arith, e)
    by_kind Float e = omega (arith, e)
    by_kind Double e = omega (arith, e)

length-values : (attr : Attr) → length (values_bytes attr) ≡ 4 + padded_len (length attr.values)
unfolding values_bytes
length-values attr = omega (
  arith,
  length-append (word (value_count attr.kind attr.values) ++ attr.values) (padding (length attr.values)),
  length-append (word (value_count attr.kind attr.values)) attr.values,
  length-word (value_count attr.kind attr.values),
  length-padding (length attr.values),
)

length-attr : (attr : Attr) → length (attr_bytes attr)
    ≡ length (counted attr.name) + (4 + (4 + padded_len (length attr.values)))
unfolding attr_bytes
length-attr attr = omega (
  arith,
  length-append (counted attr.name ++ word (code_of attr.kind)) (values_bytes attr),
  length-append (counted attr.name) (word (code_of attr.kind)),
  length-word (code_of attr.kind),
  length-values attr,
)

spells-attr : (attr : Attr) → IsWritableAttr attr → length (attr_bytes attr) < 2 ^ 31
    → SpellsAttr (attr_bytes attr) attr
unfolding attr_bytes values_bytes word
spells-attr attr can small =
    let long = length-attr attr in
    let count = value_count attr.kind attr.values in
    let padded = attr.values ++ padding (length attr.values) in
    record {
      name_text = counted attr.name;
      kind_text = word (code_of attr.kind);
      count_text = word count;
      values_text = padded;
      count = count;
      name = spells-name attr.name can.named (omega (arith, long, small));
      kind = refl;
      counted = spells-count count (omega (arith, count-least attr can, long, small));
      length_is = can.whole;
      values = spells-padded attr.values;
      text_is = ap (λ (l : List ℕ). counted attr.name ++ word (code_of attr.kind) ++ l)
          (append_assoc (word count) attr.values (padding (length attr.values)))
          ∙ sym (append_assoc (counted attr.name ++ word (code_of attr.kind)) (word count) padded);
    }

pub dim-some : (dim : Dim) → 1 ≤ length (dim_bytes dim)
unfolding dim_text
dim-some dim = omega (arith, length-append (counted dim.name) (word dim.size), length-word dim.size)

attr-some : (attr : Attr) → 1 ≤ length (attr_bytes attr)
attr-some attr = omega (arith, length-attr attr)

pub spells-dims : (dims : List Dim) → AllByRecursion IsWritableDim dims → length (flat_map dim_bytes dims) < 2 ^ 31
    → SpellsList DIMENSION_TAG SpellsDim (list_bytes DIMENSION_TAG dim_bytes dims) dims
spells-dims dims all small =
    spells-list DIMENSION_TAG SpellsDim dim_bytes IsWritableDim spells-dim dim-some dims all small

pub spells-attrs : (attrs : List Attr) → AllByRecursion IsWritableAttr attrs
    → length (flat_map attr_bytes attrs) < 2 ^ 31
    → SpellsList ATTRIBUTE_TAG SpellsAttr (list_bytes ATTRIBUTE_TAG attr_bytes attrs) attrs
spells-attrs attrs all small =
    spells-list ATTRIBUTE_TAG SpellsAttr attr_bytes IsWritableAttr spells-attr attr-some attrs all small
