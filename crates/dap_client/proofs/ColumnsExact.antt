-- The columns of arrays, and a whole message, are read exactly.
use Rattle.std.proofs.Common.{◌≡◌, ◌≢◌, ℕ, ◌*◌, ◌%◌, true, false, List, [], ◌∷◌, ◌++◌, length, refl, sym, ap, ap₂, subst, ◌∙◌, append_assoc, append-nil, arith}
use Rattle.std.specs.Int.{w32, to_be_bytes}
use Rattle.std.specs.List.{AllByRecursion, flat_map}
use Rattle.fm_base.proofs.Exact.{Then, Is}
use Rattle.nc_model.specs.Spelling.{Spelled}
use Rattle.dap_model.specs.declared.declaration.DapKind.{DapKind}
use Rattle.dap_model.specs.declared.declaration.DapKind.TheVariants.{Byte, Int16, Int32, Float32, Float64, Text}
use Rattle.dap_model.specs.Xdr.{AreBitsOf, array_bytes, count_twice, element_bytes, element_len, elements_bytes, text_bytes, texts_bytes, xdr_of, zeros_after}
use Rattle.dap_model.proofs.XdrLemmas.{elements_laid}
use Rattle.dap_client.specs.declared.message.Column.{Column}
use Rattle.dap_client.specs.declared.message.Column.TheVariants.{Numbers, Texts}
use Rattle.dap_client.specs.DataReading.{element_at, elements_at, filler, is_text, numbers_at, text_at, texts_at}
use Rattle.dap_client.specs.Message.{IsText, values_along}
use Rattle.dap_client.specs.Reading.{fixed_at, repeat_at}
use Rattle.dap_client.proofs.Columns.{ExactTo-text, IsWordOf}
use Rattle.dap_client.proofs.Exactly.{ExactTo, ExactTo-as, ExactTo-pure}
use Rattle.dap_client.proofs.Joined.{then_so}
use Rattle.dap_client.proofs.Fixed.{IsFixed, ExactTo-fixed}
use Rattle.dap_client.proofs.Numbers.{ExactTo-element, IsElement}
use Rattle.dap_client.proofs.Repeated.{ExactTo-repeat, Repeated}
use Rattle.dap_client.proofs.ZeroLemmas.{no_zeros}

-- what the test of texts says
pub text_kind : (kind : DapKind) → is_text kind ≡ true → kind ≡ Text
unfolding is_text
text_kind Byte e = absurd cc
text_kind Int16 e = absurd cc
text_kind Int32 e = absurd cc
text_kind Float32 e = absurd cc
text_kind Float64 e = absurd cc
text_kind Text e = refl

pub no_text : (kind : DapKind) → is_text kind ≡ false → kind ≢ Text
unfolding is_text
no_text kind isnt is = let indeed : is_text kind ≡ true = ap is_text is in absurd cc

pub not_text : (kind : DapKind) → kind ≢ Text → is_text kind ≡ false
unfolding is_text
not_text Byte isnt = refl
not_text Int16 isnt = refl
not_text Int32 isnt = refl
not_text Float32 isnt = refl
not_text Float64 isnt = refl
not_text Text isnt = absurd (isnt refl)

-- texts one after the other
words_of : (text : List ℕ) (words : List (List ℕ)) → Spelled IsWordOf text words
    → AllByRecursion IsText words × (text ≡ flat_map text_bytes words)
words_of text [] s = (tt, s)
words_of text (word ∷ words) s =
    let rest = words_of s.1 words s.3 in
    ((s.2.is, rest.0), s.4 ∙ ap₂ (λ (x y : List ℕ). x ++ y) s.2.text_is rest.1)

of_words : (text : List ℕ) (words : List (List ℕ)) → AllByRecursion IsText words → text ≡ flat_map text_bytes words
    → Spelled IsWordOf text words
of_words text [] all is = is
of_words text (word ∷ words) all is = (
  text_bytes word,
  flat_map text_bytes words,
  record { is = all.0; text_is = refl },
  of_words (flat_map text_bytes words) words all.1 refl,
  is,
)

-- numbers one after the other
bits_of : (kind : DapKind) (text bits : List ℕ) → Spelled (IsElement kind) text bits
    → AllByRecursion (AreBitsOf kind) bits × (text ≡ flat_map (element_bytes kind) bits)
bits_of kind text [] s = (tt, s)
bits_of kind text (x ∷ bits) s =
    let rest = bits_of kind s.1 bits s.3 in
    ((s.2.small, rest.0), s.4 ∙ ap₂ (λ (x y : List ℕ). x ++ y) s.2.text_is rest.1)

of_bits : (kind : DapKind) (text bits : List ℕ) → AllByRecursion (AreBitsOf kind) bits
    → text ≡ flat_map (element_bytes kind) bits → Spelled (IsElement kind) text bits
of_bits kind text [] all is = is
of_bits kind text (x ∷ bits) all is = (
  element_bytes kind x,
  flat_map (element_bytes kind) bits,
  record { small = all.0; text_is = refl },
  of_bits kind (flat_map (element_bytes kind) bits) bits all.1 refl,
  is,
)

none : (n : ℕ) → n % 4 ≡ 0 → [] ≡ zeros_after n
none = no_zeros

-- a column of n values of a kind
abbrev pub FitsAlong : DapKind → ℕ → Column → Type 0
FitsAlong kind n (Numbers bits) = (kind ≢ Text) × (length bits ≡ n) × AllByRecursion (AreBitsOf kind) bits
FitsAlong kind n (Texts words) = (kind ≡ Text) × (length words ≡ n) × AllByRecursion IsText words

-- an array of numbers, by how many they are
array_text : (kind : DapKind) (n : ℕ) (bits : List ℕ) → length bits ≡ n
    → to_be_bytes w32 n ++ (to_be_bytes w32 n ++ (elements_bytes kind bits ++ []))
    ≡ xdr_of kind (values_along (Numbers bits))
unfolding xdr_of array_bytes count_twice
array_text kind n bits count =
    ap (λ (k : ℕ). to_be_bytes w32 k ++ (to_be_bytes w32 k ++ (elements_bytes kind bits ++ []))) (sym count)
    ∙ simp (append_assoc, append-nil)

-- the zero bytes behind numbers
filler_is : (kind : DapKind) (n : ℕ) → filler kind n ≡ zeros_after (n * element_len kind)
unfolding filler element_len
filler_is Byte n = ap zeros_after (let one : n ≡ n * 1 = omega arith in one)
filler_is Int16 n = none (n * 4) (omega arith)
filler_is Int32 n = none (n * 4) (omega arith)
filler_is Float32 n = none (n * 4) (omega arith)
filler_is Float64 n = none (n * 8) (omega arith)
filler_is Text n = none (n * 0) (omega arith)

-- n elements and what stands behind them
abbrev ElementParts : DapKind → ℕ → List ℕ → List ℕ → Type 0
ElementParts kind n = Then (Repeated (IsElement kind) n []) (λ bits. Then (IsFixed (filler kind n)) (λ zeros. Is bits))

record AreElements (kind : DapKind) (n : ℕ) (text bits : List ℕ) : Type 0 where
  all : AllByRecursion (AreBitsOf kind) bits
  count : length bits ≡ n
  text_is : text ≡ elements_bytes kind bits

elements_text : (kind : DapKind) (n : ℕ) (bits : List ℕ) → length bits ≡ n
    → flat_map (element_bytes kind) bits ++ (filler kind n ++ []) ≡ elements_bytes kind bits
elements_text kind n bits count =
    ap (λ (l : List ℕ). flat_map (element_bytes kind) bits ++ l)
    (append-nil (filler kind n) ∙ filler_is kind n ∙ ap (λ (k : ℕ). zeros_after (k * element_len kind)) (sym count))
    ∙ sym (elements_laid kind bits)

ExactTo-elements : (m : ℕ) (kind : DapKind) → is_text kind ≡ false → (n : ℕ)
    → ExactTo m (AreElements kind n) (elements_at kind n)
unfolding elements_at
ExactTo-elements m kind isnt n =
    ExactTo-as m (ElementParts kind n) (AreElements kind n) (elements_at kind n)
    (λ text bits s.
    let means = bits_of kind s.front s.first.more s.first.spelled in
    let is : s.first.more ≡ bits = sym s.first.all_is ∙ s.second.second.value in
    let whole : text ≡ flat_map (element_bytes kind) s.first.more ++ (filler kind n ++ []) =
    s.text_is
    ∙ ap₂ (λ (x y : List ℕ). x ++ y) means.1 (s.second.text_is
    ∙ ap₂ (λ (x y : List ℕ). x ++ y) s.second.first.text_is s.second.second.text_is) in
    subst (AreElements kind n text) is (record {
      all = means.0;
      count = s.first.count;
      text_is = whole ∙ elements_text kind n s.first.more s.first.count;
    }))
    (λ text bits t. record {
      a = bits;
      front = flat_map (element_bytes kind) bits;
      back = filler kind n ++ [];
      first = record {
        more = bits;
        all_is = refl;
        count = t.count;
        spelled = of_bits kind (flat_map (element_bytes kind) bits) bits t.all refl;
      };
      second = record {
        a = tt;
        front = filler kind n;
        back = [];
        first = record { text_is = refl };
        second = record { value = refl; text_is = refl };
        text_is = refl;
      };
      text_is = t.text_is ∙ sym (elements_text kind n bits t.count);
    })
    (then_so m (Repeated (IsElement kind) n []) _ (repeat_at (element_at kind) n []) _
    (ExactTo-repeat m (IsElement kind) (element_at kind) (ExactTo-element m kind isnt) n [])
    (λ bits front s. then_so m (IsFixed (filler kind n)) (λ zeros. Is bits) (fixed_at (filler kind n)) _
    (ExactTo-fixed m (filler kind n)) (λ zeros front s. ExactTo-pure m bits)))

-- a column of n values
pub record IsAlong (kind : DapKind) (n : ℕ) (text : List ℕ) (column : Column) : Type 0 where
  pub fits : FitsAlong kind n column
  pub text_is : text ≡ xdr_of kind (values_along column)

abbrev TextsParts : ℕ → List ℕ → Column → Type 0
TextsParts n = Then (IsFixed (to_be_bytes w32 n)) (λ count. Then (Repeated IsWordOf n []) (λ words. Is (Texts words)))

pub ExactTo-texts : (m n : ℕ) → ExactTo m (IsAlong Text n) (texts_at n)
unfolding texts_at xdr_of texts_bytes
ExactTo-texts m n =
    ExactTo-as m (TextsParts n) (IsAlong Text n) (texts_at n)
    (λ text column s.
    let means = words_of s.second.front s.second.first.more s.second.first.spelled in
    let is : Texts s.second.first.more ≡ column =
    ap Texts (sym s.second.first.all_is) ∙ s.second.second.value in
    let whole : text ≡ to_be_bytes w32 n ++ (flat_map text_bytes s.second.first.more ++ []) =
    s.text_is
    ∙ ap₂ (λ (x y : List ℕ). x ++ y) s.first.text_is (s.second.text_is
    ∙ ap₂ (λ (x y : List ℕ). x ++ y) means.1 s.second.second.text_is) in
    subst (IsAlong Text n text) is (record {
      fits = (refl, s.second.first.count, means.0);
      text_is = whole
          ∙ ap₂ (λ (k : ℕ) (l : List ℕ). to_be_bytes w32 k ++ l) (sym s.second.first.count)
          (append-nil (flat_map text_bytes s.second.first.more));
    }))
    (λ text column t. of_column text column t.fits t.text_is)
    (then_so m (IsFixed (to_be_bytes w32 n)) _ (fixed_at (to_be_bytes w32 n)) _ (ExactTo-fixed m (to_be_bytes w32 n))
    (λ count front s. then_so m (Repeated IsWordOf n []) (λ words. Is (Texts words)) (repeat_at text_at n []) _
    (ExactTo-repeat m IsWordOf text_at (ExactTo-text m) n [])
    (λ words front s. ExactTo-pure m (Texts words))))
  where
    of_column : (text : List ℕ) (column : Column) → FitsAlong Text n column
        → text ≡ xdr_of Text (values_along column) → TextsParts n text column
    of_column text (Numbers bits) fits is = absurd (fits.0 refl)
    of_column text (Texts words) fits is = record {
      a = tt;
      front = to_be_bytes w32 n;
      back = flat_map text_bytes words ++ [];
      first = record { text_is = refl };
      second = record {
        a = words;
        front = flat_map text_bytes words;
        back = [];
        first = record {
          more = words;
          all_is = refl;
          count = fits.1;
          spelled = of_words (flat_map text_bytes words) words fits.2 refl;
        };
        second = record { value = refl; text_is = refl };
        text_is = refl;
      };
      text_is = is ∙ ap₂ (λ (k : ℕ) (l : List ℕ). to_be_bytes w32 k ++ l) fits.1
          (sym (append-nil (flat_map text_bytes words)));
    }

abbrev NumbersParts : DapKind → ℕ → List ℕ → Column → Type 0
NumbersParts kind n = Then (IsFixed (to_be_bytes w32 n)) (λ count. Then (IsFixed (to_be_bytes w32 n))
    (λ again. Then (AreElements kind n) (λ bits. Is (Numbers bits))))

pub ExactTo-numbers : (m : ℕ) (kind : DapKind) → is_text kind ≡ false → (n : ℕ)
    → ExactTo m (IsAlong kind n) (numbers_at kind n)
unfolding numbers_at
ExactTo-numbers m kind isnt n =
    ExactTo-as m (NumbersParts kind n) (IsAlong kind n) (numbers_at kind n)
    (λ text column s.
    let again = s.second in
    let bits = again.second in
    let whole : text ≡ to_be_bytes w32 n ++ (to_be_bytes w32 n ++ (elements_bytes kind bits.a ++ [])) =
    s.text_is
    ∙ ap₂ (λ (x y : List ℕ). x ++ y) s.first.text_is (again.text_is
    ∙ ap₂ (λ (x y : List ℕ). x ++ y) again.first.text_is (bits.text_is
    ∙ ap₂ (λ (x y : List ℕ). x ++ y) bits.first.text_is bits.second.text_is)) in
    subst (IsAlong kind n text) bits.second.value (record {
      fits = (no_text kind isnt, bits.first.count, bits.first.all);
      text_is = whole ∙ array_joined bits.a bits.first.count;
    }))
    (λ text column t. of_column text column t.fits t.text_is)
    (then_so m (IsFixed (to_be_bytes w32 n)) _ (fixed_at (to_be_bytes w32 n)) _ (ExactTo-fixed m (to_be_bytes w32 n))
    (λ count front s. then_so m (IsFixed (to_be_bytes w32 n)) _ (fixed_at (to_be_bytes w32 n)) _
    (ExactTo-fixed m (to_be_bytes w32 n))
    (λ again front s. then_so m (AreElements kind n) (λ bits. Is (Numbers bits)) (elements_at kind n) _
    (ExactTo-elements m kind isnt n) (λ bits front s. ExactTo-pure m (Numbers bits)))))
  where
    array_joined : (bits : List ℕ) → length bits ≡ n
        → to_be_bytes w32 n ++ (to_be_bytes w32 n ++ (elements_bytes kind bits ++ []))
        ≡ xdr_of kind (values_along (Numbers bits))
    array_joined bits count = array_text kind n bits count

    of_column : (text : List ℕ) (column : Column) → FitsAlong kind n column
        → text ≡ xdr_of kind (values_along column) → NumbersParts kind n text column
    of_column text (Texts words) fits is = let indeed = fits.0 in absurd (no_text kind isnt indeed)
    of_column text (Numbers bits) fits is = record {
      a = tt;
      front = to_be_bytes w32 n;
      back = to_be_bytes w32 n ++ (elements_bytes kind bits ++ []);
      first = record { text_is = refl };
      second = record {
        a = tt;
        front = to_be_bytes w32 n;
        back = elements_bytes kind bits ++ [];
        first = record { text_is = refl };
        second = record {
          a = bits;
          front = elements_bytes kind bits;
          back = [];
          first = record { all = fits.2; count = fits.1; text_is = refl };
          second = record { value = refl; text_is = refl };
          text_is = refl;
        };
        text_is = refl;
      };
      text_is = is ∙ sym (array_joined bits fits.1);
    }
