-- The data of what is sent, by cases: one value alone, or counts and values and zero bytes. Each case is told apart by
-- the kind, so that the file is long.
use Rattle.std.proofs.Common.{◌≡◌, ◌≢◌, ℕ, ◌+◌, ◌-◌, ◌*◌, ◌<◌, ◌≤◌, List, [], ◌∷◌, ◌++◌, length, map, replicate, take, refl, sym, ap, ap₂, subst, ◌∙◌, arith}
use Rattle.std.specs.Int.{w32, to_be_bytes}
use Rattle.std.specs.List.{flat_map}
use Rattle.std.proofs.lemmas.List.{append-nil, length-append, length-map, length-take-le}
use Rattle.nc_model.specs.Format.{padded_len}
use Rattle.dap_model.specs.declared.declaration.DapKind.{DapKind}
use Rattle.dap_model.specs.declared.declaration.DapKind.TheVariants.{Byte, Int16, Int32, Float32, Float64, Text}
use Rattle.dap_model.specs.declared.projection.Slab.{Slab}
use Rattle.dap_model.specs.Box.{box_len, box_of}
use Rattle.dap_model.specs.Xdr.{array_bytes, count_twice, element_bytes, element_len, elements_len, number_bytes, numbers_at, text_bytes, texts_at, texts_bytes, values_at, xdr_of, zeros_after, Values}
use Rattle.dap_model.proofs.BoxLemmas.{length-box_of}
use Rattle.dap_model.proofs.XdrLemmas.{elements_laid, length-array_bytes, length-element_bytes}
use Rattle.dap_xdr.specs.Content.{array_data}
use Rattle.dap_xdr.proofs.DataLemmas.{many-numbers, many-texts, values-numbers}
use Rattle.dap_xdr.proofs.ElementLemmas.{flat-length}
use Rattle.fm_twod.specs.Chosen.{bits_in, body_of, counts_before, data_in, item_bytes, item_of, items_before, items_of, text_in, Chosen}

-- ---- one value alone

pub data-number : (c : Chosen) → c.array.kind ≢ Text → c.sent.slabs ≡ []
    → data_in c ≡ number_bytes c.array.kind (bits_in c [])
unfolding array_data xdr_of
data-number c number alone =
    ap (xdr_of c.array.kind) (values-numbers c.array.kind c.sent.slabs (bits_in c) (text_in c) number)
    ∙ ap (λ slabs. xdr_of c.array.kind (numbers_at slabs (bits_in c))) alone

pub data-text : (c : Chosen) → c.array.kind ≡ Text → c.sent.slabs ≡ [] → data_in c ≡ text_bytes (text_in c [])
unfolding array_data xdr_of
data-text c text alone =
    ap (λ kind. xdr_of kind (values_at kind c.sent.slabs (bits_in c) (text_in c))) text
    ∙ ap (λ slabs. xdr_of Text (texts_at slabs (text_in c))) alone

-- ---- many values

-- the bytes of values that a list picks
picked : {A B : Type 0} (f : B → List ℕ) (g : A → B) (xs : List A)
    → flat_map f (map g xs) ≡ flat_map (λ (x : A). f (g x)) xs
picked f g [] = refl
picked f g (x ∷ xs) = ap (λ (l : List ℕ). f (g x) ++ l) (picked f g xs)

-- an array of numbers is its counts and its body
numbers-by : (kind : DapKind) (slabs : List Slab) (bits : List ℕ → ℕ) → slabs ≢ []
    → xdr_of kind (numbers_at slabs bits) ≡ count_twice (box_len slabs)
    ++ (flat_map (λ (index : List ℕ). element_bytes kind (bits index)) (box_of slabs)
    ++ zeros_after (box_len slabs * element_len kind))
unfolding xdr_of array_bytes
numbers-by kind slabs bits many =
    let numbers = map bits (box_of slabs) in
    let count : length numbers ≡ box_len slabs = length-map (box_of slabs) bits ∙ length-box_of slabs in
    ap (xdr_of kind) (many-numbers slabs bits many)
    ∙ ap₂ (λ (m : ℕ) (l : List ℕ). count_twice m ++ l) count
    (elements_laid kind numbers
    ∙ ap₂ (λ (l : List ℕ) (m : ℕ). l ++ zeros_after (m * element_len kind))
    (picked (element_bytes kind) bits (box_of slabs)) count)

-- no zero bytes stand after no bytes
no-zeros : (n : ℕ) → n ≡ 0 → zeros_after n ≡ []
no-zeros n none =
    ap (λ (k : ℕ). replicate k 0) (let left : padded_len n - n ≡ 0 = omega (arith, none) in left)

-- and so is one of texts, which have no width and need no zero bytes after them
texts-by : (slabs : List Slab) (words : List ℕ → List ℕ) → slabs ≢ []
    → xdr_of Text (texts_at slabs words) ≡ to_be_bytes w32 (box_len slabs)
    ++ (flat_map (λ (index : List ℕ). text_bytes (words index)) (box_of slabs)
    ++ zeros_after (box_len slabs * element_len Text))
unfolding xdr_of texts_bytes element_len
texts-by slabs words many =
    let texts = map words (box_of slabs) in
    let items = flat_map (λ (index : List ℕ). text_bytes (words index)) (box_of slabs) in
    let count : length texts ≡ box_len slabs = length-map (box_of slabs) words ∙ length-box_of slabs in
    let none : box_len slabs * 0 ≡ 0 = omega arith in
    ap (xdr_of Text) (many-texts slabs words many)
    ∙ ap₂ (λ (m : ℕ) (l : List ℕ). to_be_bytes w32 m ++ l) count
    (picked text_bytes words (box_of slabs) ∙ sym (append-nil items)
    ∙ ap (λ (l : List ℕ). items ++ l) (sym (no-zeros (box_len slabs * 0) none)))

-- by the kind
many-by : (kind : DapKind) (slabs : List Slab) (bits : List ℕ → ℕ) (words : List ℕ → List ℕ) → slabs ≢ []
    → xdr_of kind (values_at kind slabs bits words) ≡ counts_before kind (box_len slabs)
    ++ (flat_map (λ (index : List ℕ). item_bytes kind (bits index) (words index)) (box_of slabs)
    ++ zeros_after (box_len slabs * element_len kind))
unfolding counts_before item_bytes
many-by Byte slabs bits words many = numbers-by Byte slabs bits many
many-by Int16 slabs bits words many = numbers-by Int16 slabs bits many
many-by Int32 slabs bits words many = numbers-by Int32 slabs bits many
many-by Float32 slabs bits words many = numbers-by Float32 slabs bits many
many-by Float64 slabs bits words many = numbers-by Float64 slabs bits many
many-by Text slabs bits words many = texts-by slabs words many

pub data-many : (c : Chosen) → c.sent.slabs ≢ []
    → data_in c ≡ counts_before c.array.kind (box_len c.sent.slabs) ++ body_of c
unfolding array_data body_of items_of
data-many c many = many-by c.array.kind c.sent.slabs (bits_in c) (text_in c) many

-- the body of an array of texts is its texts
pub body-texts : (c : Chosen) → c.array.kind ≡ Text → body_of c ≡ items_of c
unfolding body_of element_len
body-texts c text =
    let width : element_len c.array.kind ≡ 0 = ap element_len text in
    let none : box_len c.sent.slabs * element_len c.array.kind ≡ 0 =
    ap (λ (m : ℕ). box_len c.sent.slabs * m) width ∙ omega arith in
    ap (λ (l : List ℕ). items_of c ++ l) (no-zeros (box_len c.sent.slabs * element_len c.array.kind) none)
    ∙ append-nil (items_of c)

-- ---- one value among others

pub item-text : (c : Chosen) (index : List ℕ) → c.array.kind ≡ Text → item_of c index ≡ text_bytes (text_in c index)
unfolding item_bytes
item-text c index text = ap (λ (kind : DapKind). item_bytes kind (bits_in c index) (text_in c index)) text

number-bytes : (kind : DapKind) (bits : ℕ) (text : List ℕ) → kind ≢ Text
    → item_bytes kind bits text ≡ element_bytes kind bits
unfolding item_bytes
number-bytes Byte bits text number = refl
number-bytes Int16 bits text number = refl
number-bytes Int32 bits text number = refl
number-bytes Float32 bits text number = refl
number-bytes Float64 bits text number = refl
number-bytes Text bits text number = absurd (number refl)

pub item-number : (c : Chosen) (index : List ℕ) → c.array.kind ≢ Text
    → item_of c index ≡ element_bytes c.array.kind (bits_in c index)
item-number c index number = number-bytes c.array.kind (bits_in c index) (text_in c index) number

-- ---- lengths

-- how many bytes the counts take
counts-long : (kind : DapKind) (count : ℕ) → kind ≢ Text → length (counts_before kind count) ≡ 8
unfolding counts_before count_twice
counts-long Byte count number = refl
counts-long Int16 count number = refl
counts-long Int32 count number = refl
counts-long Float32 count number = refl
counts-long Float64 count number = refl
counts-long Text count number = absurd (number refl)

pub counts-numbers : (kind : DapKind) → kind ≢ Text → (count : ℕ) → 8 ≡ length (counts_before kind count)
counts-numbers kind number count = sym (counts-long kind count number)

pub counts-texts : (kind : DapKind) → kind ≡ Text → (count : ℕ) → 4 ≡ length (counts_before kind count)
unfolding counts_before
counts-texts kind text count = sym (ap (λ (k : DapKind). length (counts_before k count)) text)

-- how many bytes a number takes
pub item-long : (kind : DapKind) (bits : ℕ) (text : List ℕ) → kind ≢ Text
    → length (item_bytes kind bits text) ≡ element_len kind
item-long kind bits text number = ap length (number-bytes kind bits text number) ∙ length-element_bytes kind bits

-- how many bytes the numbers before an element take, and all numbers
pub before-long : (c : Chosen) (element : ℕ) → c.array.kind ≢ Text → element ≤ box_len c.sent.slabs
    → length (items_before c element) ≡ element * element_len c.array.kind
unfolding items_before
before-long c element number within =
    let box = box_of c.sent.slabs in
    let few : element ≤ length box = subst (λ (m : ℕ). element ≤ m) (sym (length-box_of c.sent.slabs)) within in
    flat-length (item_of c) (element_len c.array.kind)
    (λ index. item-long c.array.kind (bits_in c index) (text_in c index) number) (take element box)
    ∙ ap (λ (m : ℕ). m * element_len c.array.kind) (length-take-le element box few)

pub items-long : (c : Chosen) → c.array.kind ≢ Text
    → length (items_of c) ≡ box_len c.sent.slabs * element_len c.array.kind
unfolding items_of
items-long c number =
    flat-length (item_of c) (element_len c.array.kind)
    (λ index. item-long c.array.kind (bits_in c index) (text_in c index) number) (box_of c.sent.slabs)
    ∙ ap (λ (m : ℕ). m * element_len c.array.kind) (length-box_of c.sent.slabs)

-- an array of numbers
pub length-numbers : (c : Chosen) → c.array.kind ≢ Text → c.sent.slabs ≢ []
    → length (data_in c) ≡ 8 + elements_len c.array.kind (box_len c.sent.slabs)
unfolding array_data xdr_of
length-numbers c number many =
    let numbers = map (bits_in c) (box_of c.sent.slabs) in
    let count : length numbers ≡ box_len c.sent.slabs =
    length-map (box_of c.sent.slabs) (bits_in c) ∙ length-box_of c.sent.slabs in
    ap (λ (v : Values). length (xdr_of c.array.kind v))
    (values-numbers c.array.kind c.sent.slabs (bits_in c) (text_in c) number
    ∙ many-numbers c.sent.slabs (bits_in c) many)
    ∙ length-array_bytes c.array.kind numbers
    ∙ ap (λ (m : ℕ). 8 + elements_len c.array.kind m) count

-- an array of texts
pub length-texts : (c : Chosen) → c.array.kind ≡ Text → c.sent.slabs ≢ [] → length (data_in c) ≡ 4 + length (items_of c)
length-texts c text many =
    ap length (data-many c many)
    ∙ length-append (counts_before c.array.kind (box_len c.sent.slabs)) (body_of c)
    ∙ ap₂ (λ (m n : ℕ). m + n) (sym (counts-texts c.array.kind text (box_len c.sent.slabs)))
    (ap length (body-texts c text))

-- the numbers of an array take as many bytes as its elements
numbers-wide : (kind : DapKind) (slabs : List Slab) (bits : List ℕ → ℕ)
    → length (flat_map (λ (index : List ℕ). element_bytes kind (bits index)) (box_of slabs))
    ≡ box_len slabs * element_len kind
numbers-wide kind slabs bits =
    flat-length (λ (index : List ℕ). element_bytes kind (bits index)) (element_len kind)
    (λ index. length-element_bytes kind (bits index)) (box_of slabs)
    ∙ ap (λ (m : ℕ). m * element_len kind) (length-box_of slabs)

-- and texts have no width
width-fits : (kind : DapKind) (slabs : List Slab) (bits : List ℕ → ℕ) (words : List ℕ → List ℕ)
    → box_len slabs * element_len kind
    ≤ length (flat_map (λ (index : List ℕ). item_bytes kind (bits index) (words index)) (box_of slabs))
unfolding item_bytes element_len
width-fits Byte slabs bits words = omega (arith, numbers-wide Byte slabs bits)
width-fits Int16 slabs bits words = omega (arith, numbers-wide Int16 slabs bits)
width-fits Int32 slabs bits words = omega (arith, numbers-wide Int32 slabs bits)
width-fits Float32 slabs bits words = omega (arith, numbers-wide Float32 slabs bits)
width-fits Float64 slabs bits words = omega (arith, numbers-wide Float64 slabs bits)
width-fits Text slabs bits words = omega arith

-- so they take no more bytes than all data
pub numbers-small : (c : Chosen) (most : ℕ) → c.sent.slabs ≢ [] → length (data_in c) < most
    → box_len c.sent.slabs * element_len c.array.kind < most
unfolding body_of items_of
numbers-small c most many small =
    let zeros = zeros_after (box_len c.sent.slabs * element_len c.array.kind) in
    let counts = counts_before c.array.kind (box_len c.sent.slabs) in
    omega (
      arith,
      small,
      ap length (data-many c many),
      length-append counts (body_of c),
      length-append (items_of c) zeros,
      width-fits c.array.kind c.sent.slabs (bits_in c) (text_in c),
    )
