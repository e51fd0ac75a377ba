-- How long values are as XDR, and where the elements of an array stand.
use Rattle.std.proofs.Common.{◌≡◌, ℕ, zero, suc, ◌+◌, ◌-◌, ◌*◌, ◌<◌, List, [], ◌∷◌, ◌++◌, length, replicate, get_or, refl, sym, ap, ap₂, subst, ◌∙◌, arith, append-nil, slice_get, Some}
use Rattle.std.specs.Int.{w32, to_be_bytes}
use Rattle.std.specs.List.{flat_map}
use Rattle.std.proofs.lemmas.List.{get_or_append_left, get_or-append-add, length-append, length-replicate}
use Rattle.std.proofs.lemmas.List.Sums.{sum_by-cons}
use Rattle.std.proofs.Math.Nat.{mul_comm}
use Rattle.std.proofs.lemmas.Nat.{mul-add-lt}
use Rattle.std.proofs.lemmas.Option.{slice_get-get_or}
use Rattle.nc_model.specs.Format.{padded_len}
use Rattle.dap_model.specs.declared.declaration.DapKind.{DapKind}
use Rattle.dap_model.specs.declared.declaration.DapKind.TheVariants.{Byte, Int16, Int32, Float32, Float64, Text}
use Rattle.dap_model.specs.Xdr.{number_bytes, elements_bytes, count_twice, array_bytes, text_bytes, texts_bytes, zeros_after, number_len, element_bytes, element_len, elements_len, text_len, texts_len}

-- the length of a number in XDR
pub length-number_bytes : (kind : DapKind) (bits : ℕ) → length (number_bytes kind bits) ≡ number_len kind
unfolding number_bytes number_len
length-number_bytes Byte bits = refl
length-number_bytes Int16 bits = refl
length-number_bytes Int32 bits = refl
length-number_bytes Float32 bits = refl
length-number_bytes Float64 bits = refl
length-number_bytes Text bits = refl

-- the length of an element in XDR
pub length-element_bytes : (kind : DapKind) (bits : ℕ) → length (element_bytes kind bits) ≡ element_len kind
unfolding element_bytes element_len number_bytes
length-element_bytes Byte bits = refl
length-element_bytes Int16 bits = refl
length-element_bytes Int32 bits = refl
length-element_bytes Float32 bits = refl
length-element_bytes Float64 bits = refl
length-element_bytes Text bits = refl

-- pieces of one length, one after the other
length-pieces : (f : ℕ → List ℕ) (width : ℕ) → ((x : ℕ) → length (f x) ≡ width) → (xs : List ℕ)
    → length (flat_map f xs) ≡ length xs * width
length-pieces f width each [] = omega arith
length-pieces f width each (x ∷ xs) =
    length-append (f x) (flat_map f xs) ∙ ap₂ (λ (m n : ℕ). m + n) (each x) (length-pieces f width each xs)
    ∙ grind arith

get_or-pieces : (f : ℕ → List ℕ) (width : ℕ) → ((x : ℕ) → length (f x) ≡ width) → (xs : List ℕ) (index offset : ℕ)
    → index < length xs → offset < width
    → get_or (flat_map f xs) (index * width + offset) 0 ≡ get_or (f (get_or xs index 0)) offset 0
get_or-pieces f width each [] index offset within inside = absurd (omega arith)
get_or-pieces f width each (x ∷ xs) zero offset within inside =
    ap (λ (n : ℕ). get_or (f x ++ flat_map f xs) n 0) (omega arith)
    ∙ get_or_append_left (f x) (flat_map f xs) 0 offset (subst (λ (n : ℕ). offset < n) (sym (each x)) inside)
get_or-pieces f width each (x ∷ xs) (suc index) offset within inside =
    let count = each x in
    let far : suc index * width + offset ≡ length (f x) + (index * width + offset) = grind arith in
    ap (λ (n : ℕ). get_or (f x ++ flat_map f xs) n 0) far
    ∙ get_or-append-add (f x) (flat_map f xs) (index * width + offset) 0
    ∙ get_or-pieces f width each xs index offset (omega arith) inside

-- no zero bytes stand after whole words
no_zeros : (n : ℕ) → zeros_after (4 * n) ≡ []
no_zeros n = ap (λ (k : ℕ). replicate k 0) (let none : padded_len (4 * n) - 4 * n ≡ 0 = omega arith in none)

whole_words : (f : ℕ → List ℕ) (numbers : List ℕ) (bytes n : ℕ) → bytes ≡ 4 * n
    → flat_map f numbers ≡ flat_map f numbers ++ zeros_after bytes
whole_words f numbers bytes n words =
    sym (append-nil (flat_map f numbers))
    ∙ ap (λ (zeros : List ℕ). flat_map f numbers ++ zeros) (sym (no_zeros n) ∙ ap zeros_after (sym words))

each_byte : (numbers : List ℕ) → flat_map (element_bytes Byte) numbers ≡ numbers
unfolding element_bytes
each_byte [] = refl
each_byte (x ∷ numbers) = ap (λ (l : List ℕ). x ∷ l) (each_byte numbers)

no_bytes : (numbers : List ℕ) → flat_map {X = ℕ} {A = ℕ} (λ x. []) numbers ≡ []
no_bytes [] = refl
no_bytes (x ∷ numbers) = no_bytes numbers

-- the elements stand one after the other, with zero bytes after them
pub elements_laid : (kind : DapKind) (numbers : List ℕ)
    → elements_bytes kind numbers ≡ flat_map (element_bytes kind) numbers
    ++ zeros_after (length numbers * element_len kind)
unfolding elements_bytes element_bytes element_len
elements_laid Byte numbers = ap₂ (λ (l : List ℕ) (n : ℕ). l ++ zeros_after n) (sym (each_byte numbers)) (omega arith)
elements_laid Int16 numbers = whole_words _ numbers _ (length numbers) (omega arith)
elements_laid Int32 numbers = whole_words _ numbers _ (length numbers) (omega arith)
elements_laid Float32 numbers = whole_words _ numbers _ (length numbers) (omega arith)
elements_laid Float64 numbers = whole_words _ numbers _ (2 * length numbers) (omega arith)
elements_laid Text numbers =
    sym (no_bytes numbers) ∙ whole_words (λ (x : ℕ). []) numbers (length numbers * 0) 0 (omega arith)

length-zeros_after : (n : ℕ) → n + length (zeros_after n) ≡ padded_len n
length-zeros_after n = ap (λ (k : ℕ). n + k) (length-replicate (padded_len n - n) 0) ∙ omega arith

pub length-elements_bytes : (kind : DapKind) (numbers : List ℕ)
    → length (elements_bytes kind numbers) ≡ elements_len kind (length numbers)
unfolding elements_len
length-elements_bytes kind numbers =
    let bytes = length numbers * element_len kind in
    ap length (elements_laid kind numbers)
    ∙ length-append (flat_map (element_bytes kind) numbers) (zeros_after bytes)
    ∙ ap (λ (n : ℕ). n + length (zeros_after bytes))
    (length-pieces (element_bytes kind) (element_len kind) (length-element_bytes kind) numbers)
    ∙ length-zeros_after bytes

-- the length of an array in XDR
pub length-array_bytes : (kind : DapKind) (numbers : List ℕ)
    → length (array_bytes kind numbers) ≡ 8 + elements_len kind (length numbers)
unfolding array_bytes count_twice
length-array_bytes kind numbers =
    length-append (count_twice (length numbers)) (elements_bytes kind numbers)
    ∙ ap (λ (n : ℕ). 8 + n) (length-elements_bytes kind numbers)

-- a byte of an element
pub get_or-array_bytes : (kind : DapKind) (numbers : List ℕ) (index offset : ℕ) → index < length numbers
    → offset < element_len kind
    → get_or (array_bytes kind numbers) (8 + (index * element_len kind + offset)) 0 ≡ get_or
    (element_bytes kind (get_or numbers index 0)) offset 0
unfolding array_bytes count_twice
get_or-array_bytes kind numbers index offset within inside =
    let pieces = flat_map (element_bytes kind) numbers in
    let zeros = zeros_after (length numbers * element_len kind) in
    let at = index * element_len kind + offset in
    let count = length-pieces (element_bytes kind) (element_len kind) (length-element_bytes kind) numbers in
    let short : at < length pieces =
    subst (λ (n : ℕ). at < n) (mul_comm (element_len kind) (length numbers) ∙ sym count)
    (mul-add-lt index (element_len kind) offset (length numbers) within inside) in
    get_or-append-add (count_twice (length numbers)) (elements_bytes kind numbers) at 0
    ∙ ap (λ (l : List ℕ). get_or l at 0) (elements_laid kind numbers)
    ∙ get_or_append_left pieces zeros 0 at short
    ∙ get_or-pieces (element_bytes kind) (element_len kind)
    (length-element_bytes kind) numbers index offset within inside

-- the length of a text in XDR
pub length-text_bytes : (text : List ℕ) → length (text_bytes text) ≡ text_len (length text)
unfolding text_bytes
length-text_bytes text =
    length-append (to_be_bytes w32 (length text) ++ text) (zeros_after (length text))
    ∙ ap (λ (n : ℕ). n + length (zeros_after (length text))) (length-append (to_be_bytes w32 (length text)) text)
    ∙ omega (arith, length-zeros_after (length text))

pub length-texts : (texts : List (List ℕ)) → length (flat_map text_bytes texts) ≡ texts_len texts
unfolding texts_len
length-texts [] = refl
length-texts (text ∷ texts) =
    length-append (text_bytes text) (flat_map text_bytes texts)
    ∙ ap₂ (λ (m n : ℕ). m + n) (length-text_bytes text) (length-texts texts)
    ∙ sym (sum_by-cons (λ (t : List ℕ). text_len (length t)) text texts)

pub length-texts_bytes : (texts : List (List ℕ)) → length (texts_bytes texts) ≡ 4 + texts_len texts
unfolding texts_bytes
length-texts_bytes texts =
    length-append (to_be_bytes w32 (length texts)) (flat_map text_bytes texts)
    ∙ ap (λ (n : ℕ). 4 + n) (length-texts texts)

-- the bytes of an element lie in the array
pub element_within : (kind : DapKind) (numbers : List ℕ) (index offset : ℕ) → index < length numbers
    → offset < element_len kind
    → 8 + (index * element_len kind + offset) < length (array_bytes kind numbers)
unfolding elements_len
element_within kind numbers index offset within inside =
    let below = mul-add-lt index (element_len kind) offset (length numbers) within inside in
    let turned = mul_comm (element_len kind) (length numbers) in
    let whole = length-array_bytes kind numbers in
    omega arith

-- a byte of an element, as what stands there
pub slice_get-array_bytes : (kind : DapKind) (numbers : List ℕ) (index offset : ℕ) → index < length numbers
    → offset < element_len kind
    → slice_get (array_bytes kind numbers) (8 + (index * element_len kind + offset)) ≡ slice_get
    (element_bytes kind (get_or numbers index 0)) offset
slice_get-array_bytes kind numbers index offset within inside =
    let element = element_bytes kind (get_or numbers index 0) in
    let short = subst (λ (n : ℕ). offset < n) (sym (length-element_bytes kind (get_or numbers index 0))) inside in
    slice_get-get_or (array_bytes kind numbers) _ 0 (element_within kind numbers index offset within inside)
    ∙ ap Some (get_or-array_bytes kind numbers index offset within inside)
    ∙ sym (slice_get-get_or element offset 0 short)
