-- A size and the bracket behind it are read exactly.
use Rattle.std.proofs.Common.{◌≡◌, ℕ, zero, suc, ◌+◌, ◌/◌, ◌%◌, ◌^◌, ◌<◌, ◌≤◌, Bool, true, false, cond, ◌&&◌, nat_lt, nat_le, leb, ◌==◌, List, [], ◌∷◌, ◌++◌, length, decimal, Ok, Err, refl, sym, ap, ap₂, subst, ◌∙◌, append_assoc, append-nil, length-append, arith}
use Rattle.std.proofs.lemmas.Bool.{eqb-true, and_parts, and_from, ltb-true, lt-ltb, leb-true, le-leb}
use Rattle.std.proofs.lemmas.Fmt.{decimal_digit, decimal_step, decimal_by_steps}
use Rattle.std.specs.Char.{is_ascii_digit}
use Rattle.fm_base.specs.Input.{Input}
use Rattle.fm_base.proofs.Exact.{input, done, ok_pair}
use Rattle.fm_base.proofs.Local.{fault_is}
use Rattle.dap_client.specs.Reading.{bracket_at, is_next_digit, size_from, with_digit}

-- a number from 1 to the limit in decimal, and a closing bracket
pub record IsSize (limit : ℕ) (text : List ℕ) (size : ℕ) : Type 0 where
  pub some : 1 ≤ size
  pub within : size ≤ limit
  pub text_is : text ≡ decimal size ++ 93 ∷ []

-- the digits of a number so far: none of 0
unfoldable pub digits : ℕ → List ℕ
digits zero = []
digits (suc n) = decimal (suc n)

pub digits_some : (n : ℕ) → 1 ≤ n → digits n ≡ decimal n
unfolding digits
digits_some zero some = absurd (omega arith)
digits_some (suc n) some = refl

-- a byte that goes on as a digit
record IsDigit (limit value byte : ℕ) : Type 0 where
  low : 48 ≤ byte
  high : byte ≤ 57
  some : 1 ≤ with_digit value byte
  within : with_digit value byte ≤ limit

IsDigit-from_test : (limit value byte : ℕ) → is_next_digit limit value byte ≡ true → IsDigit limit value byte
IsDigit-from_test limit value byte e =
    let parts = and_parts (is_ascii_digit byte)
    (nat_lt 0 (with_digit value byte) && nat_le (with_digit value byte) limit) e in
    let range = and_parts (leb 48 byte) (leb byte 57) parts.0 in
    let size = and_parts (nat_lt 0 (with_digit value byte)) (nat_le (with_digit value byte) limit) parts.1 in
    let some = ltb-true 0 (with_digit value byte) size.0 in
    record {
      low = leb-true 48 byte range.0;
      high = leb-true byte 57 range.1;
      some = omega (arith, some);
      within = leb-true (with_digit value byte) limit size.1;
    }

test-from_IsDigit : (limit value byte : ℕ) → IsDigit limit value byte → is_next_digit limit value byte ≡ true
test-from_IsDigit limit value byte d =
    and_from (is_ascii_digit byte) (nat_lt 0 (with_digit value byte) && nat_le (with_digit value byte) limit)
    (and_from (leb 48 byte) (leb byte 57) (le-leb 48 byte d.low) (le-leb byte 57 d.high))
    (and_from (nat_lt 0 (with_digit value byte)) (nat_le (with_digit value byte) limit)
    (lt-ltb 0 (with_digit value byte) (let some = d.some in omega arith))
    (le-leb (with_digit value byte) limit d.within))

-- the digits with one more
digits_more : (limit value byte : ℕ) → limit < 2 ^ 32 → value ≤ limit → IsDigit limit value byte
    → digits (with_digit value byte) ≡ digits value ++ byte ∷ []
unfolding digits
digits_more limit zero byte small within d =
    let next = with_digit 0 byte in
    let low = d.low in
    let high = d.high in
    let is : 48 + next ≡ byte = omega (arith, low, high) in
    digits_some next d.some ∙ decimal_digit next (omega (arith, low, high)) ∙ ap (λ (b : ℕ). b ∷ []) is
digits_more limit (suc n) byte small within d =
    let value = suc n in
    let next = with_digit value byte in
    let low = d.low in
    let high = d.high in
    let most = d.within in
    let ten : 10 ≤ next = omega (arith, low, high) in
    let front : next / 10 ≡ value = omega (arith, low, high) in
    let last : 48 + next % 10 ≡ byte = omega (arith, low, high) in
    digits_some next d.some ∙ decimal_step next ten (omega (arith, most, small))
    ∙ ap₂ (λ (v b : ℕ). decimal v ++ b ∷ []) front last

-- the rest of a size behind the digits of a value
pub record IsRest (limit value : ℕ) (text : List ℕ) (size : ℕ) : Type 0 where
  pub some : 1 ≤ size
  pub within : size ≤ limit
  pub text_is : digits value ++ text ≡ decimal size ++ 93 ∷ []

-- the step of a byte, by whether it goes on as a digit
pub by_digit : (limit value at byte : ℕ) (rest : List ℕ) (b : Bool) → is_next_digit limit value byte ≡ b
    → size_from limit value at (byte ∷ rest)
    ≡ cond b (size_from limit (with_digit value byte) (at + 1) rest) (bracket_at value (input at (byte ∷ rest)))
unfolding size_from
by_digit limit value at byte rest b e =
    ap (λ c. cond c (size_from limit (with_digit value byte) (at + 1) rest) (bracket_at value (input at (byte ∷ rest))))
    e

-- the bracket, by whether it stands there behind a digit
pub by_bracket : (value at byte : ℕ) (rest : List ℕ) (b : Bool) → ((byte == 93) && nat_lt 0 value) ≡ b
    → bracket_at value (input at (byte ∷ rest)) ≡ cond b (Ok (value, input (at + 1) rest)) (Err at)
unfolding bracket_at
by_bracket value at byte rest b e =
    ap (λ c. cond c (done {A = ℕ × Input} {E = ℕ} (value, input (at + 1) rest)) (Err at)) e

-- the digits of a size are read
digits_read : (limit : ℕ) → limit < 2 ^ 32 → (size : ℕ) → 1 ≤ size → size ≤ limit → (at : ℕ) (rest : List ℕ)
    → size_from limit 0 at (decimal size ++ rest) ≡ size_from limit size (at + length (decimal size)) rest
digits_read limit small size some most at rest = decimal_by_steps
    (λ (n : ℕ) (ds : List ℕ). 1 ≤ n → n ≤ limit → (at : ℕ) (rest : List ℕ)
    → size_from limit 0 at (ds ++ rest) ≡ size_from limit n (at + length ds) rest)
    (λ n few one within from back.
    let is : with_digit 0 (48 + n) ≡ n = omega arith in
    let digit : IsDigit limit 0 (48 + n) =
    record { low = omega arith; high = omega arith; some = omega arith; within = omega arith } in
    by_digit limit 0 from (48 + n) back true (test-from_IsDigit limit 0 (48 + n) digit)
    ∙ ap (λ (v : ℕ). size_from limit v (from + 1) back) is)
    (λ n ds ten before one within from back.
    let last = 48 + n % 10 in
    let is : with_digit (n / 10) last ≡ n = omega arith in
    let digit : IsDigit limit (n / 10) last =
    record { low = omega arith; high = omega arith; some = omega arith; within = omega arith } in
    let end : from + length ds + 1 ≡ from + length (ds ++ last ∷ []) = omega (arith, length-append ds (last ∷ [])) in
    ap (λ (l : List ℕ). size_from limit 0 from l) (append_assoc ds (last ∷ []) back)
    ∙ before (omega arith) (omega arith) from (last ∷ back)
    ∙ by_digit limit (n / 10) (from + length ds) last back true (test-from_IsDigit limit (n / 10) last digit)
    ∙ ap₂ (λ (v k : ℕ). size_from limit v k back) is end)
    size (omega (arith, most, small)) some most at rest

-- a size is read again
pub size_again : (limit : ℕ) → limit < 2 ^ 32 → (at : ℕ) (text rest : List ℕ) (size : ℕ) → IsSize limit text size
    → size_from limit 0 at (text ++ rest) ≡ Ok (size, input (at + length text) rest)
size_again limit small at text rest size s =
    let ds = decimal size in
    let whole : text ++ rest ≡ ds ++ 93 ∷ rest = ap (λ (l : List ℕ). l ++ rest) s.text_is
    ∙ append_assoc ds (93 ∷ []) rest in
    let end : at + length ds + 1 ≡ at + length text = omega (arith, ap length s.text_is, length-append ds (93 ∷ [])) in
    let some : nat_lt 0 size ≡ true = lt-ltb 0 size (let one = s.some in omega arith) in
    ap (λ (l : List ℕ). size_from limit 0 at l) whole
    ∙ digits_read limit small size s.some s.within at (93 ∷ rest)
    ∙ by_digit limit size (at + length ds) 93 rest false refl
    ∙ by_bracket size (at + length ds) 93 rest true some
    ∙ ap (λ (k : ℕ). Ok (size, input k rest)) end

-- what is read of a size, behind the digits of a value
pub record SizeTook (limit value at : ℕ) (rest : List ℕ) (size : ℕ) (j : Input) : Type 0 where
  pub text : List ℕ
  pub spelled : IsRest limit value text size
  pub split : rest ≡ text ++ j.rest
  pub offset : j.at ≡ at + length text

pub size_took : (limit : ℕ) → limit < 2 ^ 32 → (value at : ℕ) (rest : List ℕ) (size : ℕ) (j : Input) → value ≤ limit
    → size_from limit value at rest ≡ Ok (size, j) → SizeTook limit value at rest size j
unfolding size_from bracket_at
size_took limit small value at [] size j within e = absurd cc
size_took limit small value at (byte ∷ rest) size j within e =
    by_test (is_next_digit limit value byte) refl (size_took limit small (with_digit value byte) (at + 1) rest size j)
  where
    bracket : (b : Bool) → ((byte == 93) && nat_lt 0 value) ≡ b
        → cond b (done {A = ℕ × Input} {E = ℕ} (value, input (at + 1) rest)) (Err at) ≡ Ok (size, j)
        → SizeTook limit value at (byte ∷ rest) size j
    bracket false is f = absurd cc
    bracket true is f =
        let tests = and_parts (byte == 93) (nat_lt 0 value) is in
        let k = ok_pair {E = ℕ} value size (input (at + 1) rest) j f in
        let some = ltb-true 0 value tests.1 in
        let same : byte ≡ 93 = eqb-true byte 93 tests.0 in
        let one : 1 ≤ value = omega (arith, some) in
        record {
          text = byte ∷ [];
          spelled = subst (λ (n : ℕ). IsRest limit value (byte ∷ []) n) k.0 (record {
            some = one;
            within = within;
            text_is = ap₂ (λ (l : List ℕ) (b : ℕ). l ++ b ∷ []) (digits_some value one) same;
          });
          split = ap (λ (i : Input). byte ∷ i.rest) k.1;
          offset = sym (ap (λ (i : Input). i.at) k.1);
        }

    by_test : (b : Bool) → is_next_digit limit value byte ≡ b
        → (with_digit value byte ≤ limit → size_from limit (with_digit value byte) (at + 1) rest ≡ Ok (size, j)
        → SizeTook limit (with_digit value byte) (at + 1) rest size j)
        → SizeTook limit value at (byte ∷ rest) size j
    by_test true is later =
        let digit = IsDigit-from_test limit value byte is in
        let next = with_digit value byte in
        let read = sym (by_digit limit value at byte rest true is) ∙ e in
        let more = later digit.within read in
        record {
          text = byte ∷ more.text;
          spelled = record {
            some = more.spelled.some;
            within = more.spelled.within;
            text_is = sym (append_assoc (digits value) (byte ∷ []) more.text)
                ∙ ap (λ (l : List ℕ). l ++ more.text) (sym (digits_more limit value byte small within digit))
                ∙ more.spelled.text_is;
          };
          split = ap (λ (l : List ℕ). byte ∷ l) more.split;
          offset = omega (arith, more.offset);
        }
    by_test false is later =
        bracket ((byte == 93) && nat_lt 0 value) refl (sym (by_digit limit value at byte rest false is) ∙ e)

-- digits that stop before the end of a size
pub record SizeDied (limit value at : ℕ) (rest : List ℕ) (fault : ℕ) : Type 0 where
  pub front : List ℕ
  pub others : List ℕ
  pub reached : ℕ
  pub within : reached ≤ limit
  pub split : rest ≡ front ++ others
  pub offset : fault ≡ at + length front
  pub digits_are : digits value ++ front ≡ digits reached

pub size_died : (limit : ℕ) → limit < 2 ^ 32 → (value at : ℕ) (rest : List ℕ) (fault : ℕ) → value ≤ limit
    → size_from limit value at rest ≡ Err fault → SizeDied limit value at rest fault
unfolding size_from bracket_at
size_died limit small value at [] fault within e = record {
  front = [];
  others = [];
  reached = value;
  within = within;
  split = refl;
  offset = let same = fault_is {A = ℕ} fault at (sym e) in omega (arith, same);
  digits_are = append-nil (digits value);
}
size_died limit small value at (byte ∷ rest) fault within e =
    by_test (is_next_digit limit value byte) refl (size_died limit small (with_digit value byte) (at + 1) rest fault)
  where
    bracket : (b : Bool) → cond b (done {A = ℕ × Input} {E = ℕ} (value, input (at + 1) rest)) (Err at) ≡ Err fault
        → SizeDied limit value at (byte ∷ rest) fault
    bracket true f = absurd cc
    bracket false f = record {
      front = [];
      others = byte ∷ rest;
      reached = value;
      within = within;
      split = refl;
      offset = let same = fault_is {A = ℕ} fault at (sym f) in omega (arith, same);
      digits_are = append-nil (digits value);
    }

    by_test : (b : Bool) → is_next_digit limit value byte ≡ b
        → (with_digit value byte ≤ limit → size_from limit (with_digit value byte) (at + 1) rest ≡ Err fault
        → SizeDied limit (with_digit value byte) (at + 1) rest fault)
        → SizeDied limit value at (byte ∷ rest) fault
    by_test true is later =
        let digit = IsDigit-from_test limit value byte is in
        let next = with_digit value byte in
        let read = sym (by_digit limit value at byte rest true is) ∙ e in
        let more = later digit.within read in
        record {
          front = byte ∷ more.front;
          others = more.others;
          reached = more.reached;
          within = more.within;
          split = ap (λ (l : List ℕ). byte ∷ l) more.split;
          offset = omega (arith, more.offset);
          digits_are = sym (append_assoc (digits value) (byte ∷ []) more.front)
              ∙ ap (λ (l : List ℕ). l ++ more.front) (sym (digits_more limit value byte small within digit))
              ∙ more.digits_are;
        }
    by_test false is later =
        bracket ((byte == 93) && nat_lt 0 value) (sym (by_digit limit value at byte rest false is) ∙ e)
