-- The columns of arrays are read exactly.
use Rattle.std.proofs.Common.{◌≡◌, ℕ, ◌*◌, ◌^◌, ◌<◌, ◌≤◌, true, cond, nat_le, List, [], ◌∷◌, ◌++◌, length, Some, None, refl, sym, ap, ap₂, subst, ◌∙◌, append_assoc, append-nil, arith}
use Rattle.std.proofs.Math.Nat.{le-mul_of_pos_right, mul_assoc}
use Rattle.std.proofs.lemmas.Bool.{le-leb}
use Rattle.std.specs.Int.{w32, to_be_bytes}
use Rattle.std.specs.List.{AllByRecursion}
use Rattle.fm_base.proofs.Exact.{Then, Is}
use Rattle.nc_model.specs.declared.header.Dim.{Dim}
use Rattle.nc_model.specs.Layout.{product}
use Rattle.nc_model.specs.Spelling.{SpellsWord}
use Rattle.dap_model.specs.declared.declaration.Array.{Array}
use Rattle.dap_model.specs.Xdr.{text_bytes, zeros_after}
use Rattle.dap_client.specs.declared.message.Column.{Column}
use Rattle.dap_client.specs.DataReading.{counted, counted_from, text_at, word_of_4_at}
use Rattle.dap_client.specs.Message.{FitsColumn, IsDim, IsText, column_text, count_of}
use Rattle.dap_client.specs.Reading.{bytes_at, fixed_at}
use Rattle.dap_client.specs.TextReading.{MOST_VALUES}
use Rattle.dap_client.proofs.Exactly.{ExactTo, ExactTo-as, ExactTo-pure}
use Rattle.dap_client.proofs.Joined.{then_so}
use Rattle.dap_client.proofs.Fixed.{AreBytes, IsFixed, ExactTo-bytes, ExactTo-fixed}
use Rattle.dap_client.proofs.Numbers.{ExactTo-word_of_4}
use Rattle.dap_client.proofs.Rooms.{some_of_dims}

-- a text and how it is spelled
pub record IsWordOf (text word : List ℕ) : Type 0 where
  pub is : IsText word
  pub text_is : text ≡ text_bytes word

abbrev TextParts : List ℕ → List ℕ → Type 0
TextParts = Then SpellsWord (λ len. Then (AreBytes len) (λ word. Then (IsFixed (zeros_after len)) (λ zeros. Is word)))

pub ExactTo-text : (n : ℕ) → ExactTo n IsWordOf text_at
unfolding text_at text_bytes
ExactTo-text n =
    ExactTo-as n TextParts IsWordOf text_at
    (λ text word s.
    let bytes = s.second in
    let zeros = bytes.second in
    let size = bytes.first.size in
    let small = s.first.small in
    let whole : text ≡ to_be_bytes w32 s.a ++ (bytes.a ++ (zeros_after s.a ++ [])) =
    s.text_is
    ∙ ap₂ (λ (x y : List ℕ). x ++ y) s.first.text_is (bytes.text_is
    ∙ ap₂ (λ (x y : List ℕ). x ++ y) bytes.first.text_is (zeros.text_is
    ∙ ap₂ (λ (x y : List ℕ). x ++ y) zeros.first.text_is zeros.second.text_is)) in
    subst (IsWordOf text) zeros.second.value (record {
      is = record { bytes = bytes.first.bytes_are; few = omega (arith, size, small) };
      text_is = whole
          ∙ ap (λ (k : ℕ). to_be_bytes w32 k ++ (bytes.a ++ (zeros_after k ++ []))) (sym size)
          ∙ text_joined bytes.a;
    }))
    (λ text word t. record {
      a = length word;
      front = to_be_bytes w32 (length word);
      back = word ++ (zeros_after (length word) ++ []);
      first = record { small = t.is.few; text_is = refl };
      second = record {
        a = word;
        front = word;
        back = zeros_after (length word) ++ [];
        first = record { size = refl; bytes_are = t.is.bytes; text_is = refl };
        second = record {
          a = tt;
          front = zeros_after (length word);
          back = [];
          first = record { text_is = refl };
          second = record { value = refl; text_is = refl };
          text_is = refl;
        };
        text_is = refl;
      };
      text_is = t.text_is ∙ sym (text_joined word);
    })
    (then_so n SpellsWord _ word_of_4_at _ (ExactTo-word_of_4 n)
    (λ len front s. then_so n (AreBytes len) _ (bytes_at len) _ (ExactTo-bytes n len)
    (λ word front s. then_so n (IsFixed (zeros_after len)) (λ zeros. Is word) (fixed_at (zeros_after len)) _
    (ExactTo-fixed n (zeros_after len)) (λ zeros front s. ExactTo-pure n word))))
  where
    joined : (a b c : List ℕ) → a ++ (b ++ (c ++ [])) ≡ a ++ b ++ c
    joined a b c = simp (append_assoc, append-nil)

    text_joined : (word : List ℕ)
        → to_be_bytes w32 (length word) ++ (word ++ (zeros_after (length word) ++ [])) ≡ text_bytes word
    text_joined word = joined (to_be_bytes w32 (length word)) word (zeros_after (length word))

-- a column of an array and how it is spelled
pub record IsColumn (array : Array) (text : List ℕ) (column : Column) : Type 0 where
  pub fits : FitsColumn array column
  pub text_is : text ≡ column_text array column

-- the dimensions of an array can be counted
counted-within : (count : ℕ) (dims : List Dim) → AllByRecursion IsDim dims → count * count_of dims ≤ MOST_VALUES
    → counted_from count dims ≡ Some (count * count_of dims)
unfolding counted_from product
counted-within count [] all few = ap Some (let is : count ≡ count * 1 = omega arith in is)
counted-within count (dim ∷ dims) all few =
    let whole : count * dim.size * count_of dims ≡ count * (dim.size * count_of dims) =
    mul_assoc count dim.size (count_of dims) in
    let some = some_of_dims dims all.1 in
    let least : count * dim.size ≤ count * dim.size * count_of dims =
    le-mul_of_pos_right (count * dim.size) (omega (arith, some)) in
    let within : nat_le (count * dim.size) MOST_VALUES ≡ true =
    le-leb (count * dim.size) MOST_VALUES (omega (arith, least, whole, few)) in
    ap (λ b. cond b (counted_from (count * dim.size) dims) None) within
    ∙ counted-within (count * dim.size) dims all.1 (omega (arith, whole, few))
    ∙ ap Some whole

pub counted-of : (dims : List Dim) → AllByRecursion IsDim dims → count_of dims < 2 ^ 32
    → counted dims ≡ Some (count_of dims)
unfolding counted
counted-of dims all few =
    let one : 1 * count_of dims ≡ count_of dims = omega arith in
    counted-within 1 dims all (omega (arith, one, few)) ∙ ap Some one
